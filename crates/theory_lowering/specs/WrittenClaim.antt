-- The claim that is written for a formula: each atom compares a sum of terms with 0. Source: this project's own.
use Rattle.std.specs.Prelude.{ℕ, zero, suc, ◌-◌, ◌==◌, nat_lt, int_lt, List, [], ◌∷◌, ◌++◌, pos, unsigned_abs, if◌then◌else◌}
use Rattle.theory_meaning.specs.declared.words.Rel.{Rel}
use Rattle.theory_meaning.specs.declared.words.Rel.TheVariants.{Eq, Ne, Lt, Le, Gt, Ge}
use Rattle.theory_meaning.specs.Fraction.{whole}
use Rattle.theory_meaning.specs.Point.{Name}
use Rattle.theory_meaning.specs.Tree.{Expr, number, symbol, sum, difference, opposite, product, power, Claim, Claims}
use Rattle.theory_meaning.specs.Tree as claim
use Rattle.theory_formula.specs.declared.signs.Signs.{Signs}
use Rattle.theory_formula.specs.declared.signs.Signs.TheVariants as set
use Rattle.theory_polynomial.specs.Polynomial.{Monomial}
use Rattle.theory_formula.specs.Formula.{Formula, Formulas, always, never, atom, conjunction, disjunction, none, more}

-- the relation to 0 that a number with a sign of the set has
abbrev pub rel_of : Signs → Rel
rel_of set.Neg = Lt
rel_of set.Zero = Eq
rel_of set.Pos = Gt
rel_of set.NotPos = Le
rel_of set.NonZero = Ne
rel_of set.NotNeg = Ge

-- a power of a name, which is nothing for 0 and the name alone for 1
abbrev pub small_power : Name → ℕ → List Expr
small_power x zero = []
small_power x (suc zero) = symbol x ∷ []
small_power x (suc (suc n)) = power (symbol x) (suc (suc n)) ∷ []

-- an exponent above 8 is written as the eighth power and the rest
abbrev pub power_factors : Name → ℕ → List Expr
power_factors x n = if nat_lt 8 n then power (symbol x) 8 ∷ small_power x (n - 8) else small_power x n

-- the powers of the names, in their order
abbrev pub factors_of : List Name → List ℕ → List Expr
factors_of [] e = []
factors_of (x ∷ ns) [] = []
factors_of (x ∷ ns) (n ∷ e) = power_factors x n ++ factors_of ns e

-- a product grouped to the left
abbrev pub product_from : Expr → List Expr → Expr
product_from u [] = u
product_from u (v ∷ vs) = product_from (product u v) vs

-- a number times factors, where 1 is left out unless it stands alone
abbrev pub multiple_of : ℕ → List Expr → Expr
multiple_of n [] = number (whole (pos n))
multiple_of n (u ∷ us) = if n == 1 then product_from u us else product_from (number (whole (pos n))) (u ∷ us)

-- a term without its sign
abbrev pub term_of : List Name → Monomial → Expr
term_of ns t = multiple_of (unsigned_abs t.coefficient) (factors_of ns t.powers)

-- terms behind an expression, with differences for negative coefficients
abbrev pub sum_from : List Name → Expr → List Monomial → Expr
sum_from ns u [] = u
sum_from ns u (t ∷ ts) = sum_from ns (if int_lt t.coefficient (pos 0) then difference u (term_of ns t) else sum u (term_of ns t)) ts

-- the expression of a sum of terms, with a minus sign before a negative first term
abbrev pub polynomial_of : List Name → List Monomial → Expr
polynomial_of ns [] = number (whole (pos 0))
polynomial_of ns (t ∷ ts) = sum_from ns (if int_lt t.coefficient (pos 0) then opposite (term_of ns t) else term_of ns t) ts

-- no member is true, one stands for itself, more are a list
abbrev pub both_of : Claims → Claim
both_of claim.none = claim.always
both_of (claim.more c claim.none) = c
both_of (claim.more c (claim.more d cs)) = claim.conjunction (claim.more c (claim.more d cs))

-- no member is false, one stands for itself, more are a list
abbrev pub either_of : Claims → Claim
either_of claim.none = claim.never
either_of (claim.more c claim.none) = c
either_of (claim.more c (claim.more d cs)) = claim.disjunction (claim.more c (claim.more d cs))

-- the claim of a formula over the listed names
abbrev mutual
  pub written_claim : List Name → Formula → Claim
  written_claim ns always = claim.always
  written_claim ns never = claim.never
  written_claim ns (atom P S) = claim.atom (polynomial_of ns P) (rel_of S) (number (whole (pos 0)))
  written_claim ns (conjunction Fs) = both_of (written_claims ns Fs)
  written_claim ns (disjunction Fs) = either_of (written_claims ns Fs)

  pub written_claims : List Name → Formulas → Claims
  written_claims ns none = claim.none
  written_claims ns (more F Fs) = claim.more (written_claim ns F) (written_claims ns Fs)
