-- The value of an expression and the truth of a claim at a point, and points that meet a list of claims.
-- Source: textbook; that divisors are never 0 is this project's own.
use Rattle.std.specs.Prelude.{pos, Bool, true, false, not, ◌&&◌, ◌||◌, List, [], ◌∷◌, IsTrue}
use Rattle.std.specs.Bool.{beq}
use Rattle.theory_meaning.specs.declared.words.Rel.{Rel}
use Rattle.theory_meaning.specs.declared.words.Rel.TheVariants.{Eq, Ne, Lt, Le, Gt, Ge}
use Rattle.theory_meaning.specs.Divisors.{divisors_of_claim}
use Rattle.theory_meaning.specs.Fraction.{Fraction, whole, same, below, sum_of, difference_of, opposite_of, product_of, power_of, quotient_of}
use Rattle.theory_meaning.specs.Point.{Point, value_at}
use Rattle.theory_meaning.specs.Tree.{Expr, number, symbol, sum, difference, opposite, product, power, quotient, Claim, Claims, always, never, atom, negation, conjunction, disjunction, implication, equivalence, none, more}

-- the relation holds between two values
abbrev pub holds : Rel → Fraction → Fraction → Bool
holds Eq a b = same a b
holds Ne a b = not (same a b)
holds Lt a b = below a b
holds Le a b = not (below b a)
holds Gt a b = below b a
holds Ge a b = not (below a b)

-- the value of an expression
abbrev pub value_of : Expr → Point → Fraction
value_of (number q) p = q
value_of (symbol name) p = value_at p name
value_of (sum u v) p = sum_of (value_of u p) (value_of v p)
value_of (difference u v) p = difference_of (value_of u p) (value_of v p)
value_of (opposite u) p = opposite_of (value_of u p)
value_of (product u v) p = product_of (value_of u p) (value_of v p)
value_of (power u k) p = power_of (value_of u p) k
value_of (quotient u v) p = quotient_of (value_of u p) (value_of v p)

-- the truth of a claim; of a list of claims that all are true, or that some is
abbrev mutual
  pub truth_of : Claim → Point → Bool
  truth_of always p = true
  truth_of never p = false
  truth_of (atom u rel v) p = holds rel (value_of u p) (value_of v p)
  truth_of (negation c) p = not (truth_of c p)
  truth_of (conjunction cs) p = all_of cs p
  truth_of (disjunction cs) p = some_of cs p
  truth_of (implication a b) p = not (truth_of a p) || truth_of b p
  truth_of (equivalence a b) p = beq (truth_of a p) (truth_of b p)

  pub all_of : Claims → Point → Bool
  all_of none p = true
  all_of (more c cs) p = truth_of c p && all_of cs p

  pub some_of : Claims → Point → Bool
  some_of none p = false
  some_of (more c cs) p = truth_of c p || some_of cs p

-- none of the expressions has the value 0
abbrev pub are_nonzero : List Expr → Point → Bool
are_nonzero [] p = true
are_nonzero (v ∷ vs) p = not (same (value_of v p) (whole (pos 0))) && are_nonzero vs p

-- the claim is true, and no divisor in it is 0
abbrev pub stands : Claim → Point → Bool
stands c p = truth_of c p && are_nonzero (divisors_of_claim c) p

-- the point meets the list: every claim of it is true, and no divisor in one is 0
abbrev pub meets : List Claim → Point → Bool
meets [] p = true
meets (c ∷ cs) p = stands c p && meets cs p

-- the same as a fact
abbrev pub Meets : List Claim → Point → Type 0
Meets cs p = IsTrue (meets cs p)
