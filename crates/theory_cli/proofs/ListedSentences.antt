-- Claims that hold listed names alone may be lowered: each of their names has a place among the listed ones.
use Rattle.std.proofs.Common.{◌≡◌, ℕ, zero, suc, ◌<◌, List, [], ◌∷◌, ◌++◌, length, get_or, refl, arith}
use Rattle.std.proofs.lemmas.Bool.{both_ways, cond_both}
use Rattle.std.proofs.lemmas.List.Elements.{Contains-append_left, Contains-append_right}
use Rattle.std.proofs.lemmas.Slice.Eq.{bytes_eq-Decides}
use Rattle.std.specs.Str.{bytes_eq}
use Rattle.theory_meaning.specs.Declarations.{symbols_of_expr, symbols_of_claim, symbols_of_claims}
use Rattle.theory_meaning.specs.Point.{Name}
use Rattle.theory_meaning.specs.Region.{AreAmong}
use Rattle.theory_meaning.specs.Tree.{Expr, number, symbol, sum, difference, opposite, product, power, quotient, Claim, Claims, always, never, atom, negation, conjunction, disjunction, implication, equivalence, none, more, claims_from}
use Rattle.theory_derivative.specs.Meaning.{HoldOnly}
use Rattle.theory_lowering.specs.Lowered.{place_of}
use Rattle.theory_lowering.specs.LoweringLimits.{IsListedExpr, IsListedClaim, AreListedClaims, AreListed}

-- a name that stands at a place is found at one
placed : (x : Name) (ns : List Name) (k : ℕ) → k < length ns → get_or ns k x ≡ x → place_of x ns < length ns
placed x [] k within is = absurd (omega (arith, within))
placed x (y ∷ ns) zero within is =
    cond_both (bytes_eq y x) zero (suc (place_of x ns)) (λ (j : ℕ). j < suc (length ns)) (λ found. omega arith)
    (λ other. absurd (both_ways (bytes_eq y x) other ((bytes_eq-Decides y x).1 is)))
placed x (y ∷ ns) (suc k) within is =
    cond_both (bytes_eq y x) zero (suc (place_of x ns)) (λ (j : ℕ). j < suc (length ns)) (λ found. omega arith)
    (λ other. let later = placed x ns k (omega (arith, within)) is in omega arith)

module _ (ns : List Name) where
  -- what the first names give, and what those behind them do
  both : {P Q : Type 0} (xs ys : List Name) → (AreAmong xs ns → P) → (AreAmong ys ns → Q) → AreAmong (xs ++ ys) ns → P × Q
  both xs ys p q h = (
    p (λ (x : Name) k. h x (Contains-append_left xs ys x k)),
    q (λ (x : Name) k. h x (Contains-append_right xs ys x k)),
  )

  listed_expr : (u : Expr) → AreAmong (symbols_of_expr u) ns → IsListedExpr ns u
  listed_expr (number q) h = tt
  listed_expr (symbol x) h = let k = h x (0, omega arith, refl) in placed x ns k.0 k.1 k.2
  listed_expr (sum u v) h = both (symbols_of_expr u) (symbols_of_expr v) (listed_expr u) (listed_expr v) h
  listed_expr (difference u v) h = both (symbols_of_expr u) (symbols_of_expr v) (listed_expr u) (listed_expr v) h
  listed_expr (opposite u) h = listed_expr u h
  listed_expr (product u v) h = both (symbols_of_expr u) (symbols_of_expr v) (listed_expr u) (listed_expr v) h
  listed_expr (power u k) h = listed_expr u h
  listed_expr (quotient u v) h = both (symbols_of_expr u) (symbols_of_expr v) (listed_expr u) (listed_expr v) h

  mutual
    listed_claim : (c : Claim) → AreAmong (symbols_of_claim c) ns → IsListedClaim ns c
    listed_claim always h = tt
    listed_claim never h = tt
    listed_claim (atom u rel v) h = both (symbols_of_expr u) (symbols_of_expr v) (listed_expr u) (listed_expr v) h
    listed_claim (negation c) h = listed_claim c h
    listed_claim (conjunction cs) h = listed_claims cs h
    listed_claim (disjunction cs) h = listed_claims cs h
    listed_claim (implication a b) h = both (symbols_of_claim a) (symbols_of_claim b) (listed_claim a) (listed_claim b) h
    listed_claim (equivalence a b) h = both (symbols_of_claim a) (symbols_of_claim b) (listed_claim a) (listed_claim b) h

    listed_claims : (cs : Claims) → AreAmong (symbols_of_claims cs) ns → AreListedClaims ns cs
    listed_claims none h = tt
    listed_claims (more c cs) h = both (symbols_of_claim c) (symbols_of_claims cs) (listed_claim c) (listed_claims cs) h

-- so claims that hold these names alone are listed
pub are_listed : (ns : List Name) (cs : List Claim) → HoldOnly ns cs → AreListed ns cs
are_listed ns cs h = listed_claims ns (claims_from cs) h
