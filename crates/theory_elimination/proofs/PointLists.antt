-- Lists of test points: some of them, all of them, and each but once.
use Rattle.std.proofs.Common.{◌≡◌, ℕ, Bool, true, false, List, [], ◌∷◌, ◌++◌, refl, ap, ap₂, ◌∙◌, subst, ◌⊎◌, inl, inr}
use Rattle.std.specs.Prelude.{◌&&◌, ◌||◌, if◌then◌else◌}
use Rattle.std.specs.List.{list_any}
use Rattle.theory_meaning.specs.declared.words.Sign.{Sign}
use Rattle.theory_meaning.specs.declared.words.Sign.TheVariants.{Minus, Zero, Plus}
use Rattle.theory_formula.specs.declared.signs.Signs.{Signs}
use Rattle.theory_formula.specs.declared.signs.Signs.TheVariants as set
use Rattle.theory_polynomial.specs.Polynomial.{Monomial, IsPolynomial}
use Rattle.theory_elimination.specs.SameFormula.{is_same_poly}
use Rattle.theory_elimination.specs.TestPoint.{TestPoint, infinity, root, before, holds_symbol, end_of, listed, is_constant, constant_sign, ends_by_slope, ends_of_atom, ends_of_atoms, is_same_sign, is_same_point, first_points}
use Rattle.theory_polynomial.specs.PolynomialValue.{slope_in, base_in}
use Rattle.theory_elimination.specs.Elimination.{IsLinearAtom}
use Rattle.theory_elimination.proofs.SameLaws.{same_poly, first_true, second_true}
use Rattle.theory_elimination.proofs.PartLaws.{part_is_polynomial}
use Rattle.theory_elimination.proofs.AtomLists.{Row, EachRow}

-- some test point with this fact
abbrev pub SomePoint : (TestPoint → Type 0) → List TestPoint → Type 0
SomePoint Q [] = ⊥
SomePoint Q (point ∷ points) = Q point ⊎ SomePoint Q points

-- each with this fact
abbrev pub EachPoint : (TestPoint → Type 0) → List TestPoint → Type 0
EachPoint Q [] = Unit {0}
EachPoint Q (point ∷ points) = Q point × EachPoint Q points

module _ (Q : TestPoint → Type 0) where
  pub some_first : (points others : List TestPoint) → SomePoint Q points → SomePoint Q (points ++ others)
  some_first [] others h = absurd h
  some_first (point ∷ points) others (inl h) = inl h
  some_first (point ∷ points) others (inr h) = inr (some_first points others h)

  pub some_rest : (points others : List TestPoint) → SomePoint Q others → SomePoint Q (points ++ others)
  some_rest [] others h = h
  some_rest (point ∷ points) others h = inr (some_rest points others h)

  pub each_append : (points others : List TestPoint) → EachPoint Q points → EachPoint Q others → EachPoint Q (points ++ others)
  each_append [] others h k = k
  each_append (point ∷ points) others h k = (h.0, each_append points others h.1 k)

same_sign : (s t : Sign) → is_same_sign s t ≡ true → s ≡ t
same_sign Minus Minus e = refl
same_sign Zero Zero e = refl
same_sign Plus Plus e = refl
same_sign Minus Zero e = absurd cc
same_sign Minus Plus e = absurd cc
same_sign Zero Minus e = absurd cc
same_sign Zero Plus e = absurd cc
same_sign Plus Minus e = absurd cc
same_sign Plus Zero e = absurd cc

same_parts : (a b c d : List Monomial) (s t : Sign) (make : List Monomial → List Monomial → Sign → TestPoint)
    → is_same_poly a c && is_same_poly b d && is_same_sign s t ≡ true → make a b s ≡ make c d t
same_parts a b c d s t make e =
    let polys = first_true (is_same_poly a c && is_same_poly b d) (is_same_sign s t) e in
    ap₂ (λ (q : List Monomial) (r : List Monomial). make q r s) (same_poly a c (first_true (is_same_poly a c) (is_same_poly b d) polys))
    (same_poly b d (second_true (is_same_poly a c) (is_same_poly b d) polys))
    ∙ ap (make c d) (same_sign s t (second_true (is_same_poly a c && is_same_poly b d) (is_same_sign s t) e))

same_point : (point other : TestPoint) → is_same_point point other ≡ true → point ≡ other
same_point infinity infinity e = refl
same_point (root a b s) (root c d t) e = same_parts a b c d s t root e
same_point (before a b s) (before c d t) e = same_parts a b c d s t before e
same_point infinity (root c d t) e = absurd cc
same_point infinity (before c d t) e = absurd cc
same_point (root a b s) infinity e = absurd cc
same_point (root a b s) (before c d t) e = absurd cc
same_point (before a b s) infinity e = absurd cc
same_point (before a b s) (root c d t) e = absurd cc

module _ (Q : TestPoint → Type 0) where
  among_seen : (point : TestPoint) (seen : List TestPoint) → Q point → list_any (is_same_point point) seen ≡ true → SomePoint Q seen
  among_seen point [] h e = absurd cc
  among_seen point (other ∷ seen) h e =
      elim (is_same_point point other) as (λ b. is_same_point point other ≡ b → b || list_any (is_same_point point) seen ≡ true → SomePoint Q (other ∷ seen)) [
        | true ↦ λ same e'. inl (subst Q (same_point point other same) h)
        | false ↦ λ differ e'. inr (among_seen point seen h e')
      ] refl e

  -- one that is left out is the same as an earlier one
  pub some_of_first : (seen points : List TestPoint) → SomePoint Q points → SomePoint Q seen ⊎ SomePoint Q (first_points seen points)
  some_of_first seen [] h = absurd h
  some_of_first seen (point ∷ points) h =
      elim (list_any (is_same_point point) seen) as (λ b. list_any (is_same_point point) seen ≡ b
      → SomePoint Q seen ⊎ SomePoint Q (if b then first_points seen points else point ∷ first_points (point ∷ seen) points)) [
        | true ↦ λ e. elim h [
          | inl own ↦ inl (among_seen point seen own e)
          | inr rest ↦ some_of_first seen points rest
        ]
        | false ↦ λ e. elim h [
          | inl own ↦ inr (inl own)
          | inr rest ↦ elim (some_of_first (point ∷ seen) points rest) [
            | inl found ↦ elim found [
              | inl own ↦ inr (inl own)
              | inr earlier ↦ inl earlier
            ]
            | inr later ↦ inr (inr later)
          ]
        ]
      ] refl

  pub each_of_first : (seen points : List TestPoint) → EachPoint Q points → EachPoint Q (first_points seen points)
  each_of_first seen [] h = tt
  each_of_first seen (point ∷ points) h =
      elim (list_any (is_same_point point) seen) as (λ b. EachPoint Q (if b then first_points seen points else point ∷ first_points (point ∷ seen) points)) [
        | true ↦ each_of_first seen points h.1
        | false ↦ (h.0, each_of_first (point ∷ seen) points h.1)
      ]

-- slope and base of a test point are polynomials, and the sign isn't zero
abbrev pub IsFit : TestPoint → Type 0
IsFit infinity = Unit {0}
IsFit (root a b s) = IsPolynomial a × IsPolynomial b × (s ≡ Zero → ⊥)
IsFit (before a b s) = IsPolynomial a × IsPolynomial b × (s ≡ Zero → ⊥)

minus_sloped : ◌≡◌ {A = Sign} Minus Zero → ⊥
minus_sloped e = cc

plus_sloped : ◌≡◌ {A = Sign} Plus Zero → ⊥
plus_sloped e = cc

fit_end : (S : Signs) (s : Sign) (a b : List Monomial) → IsPolynomial a → IsPolynomial b → EachPoint IsFit (listed (end_of S s a b))
fit_end set.Neg Plus a b h k = ((h, k, plus_sloped), tt)
fit_end set.Zero Plus a b h k = ((h, k, plus_sloped), tt)
fit_end set.Zero Minus a b h k = ((h, k, minus_sloped), tt)
fit_end set.Pos Minus a b h k = ((h, k, minus_sloped), tt)
fit_end set.NotPos Plus a b h k = ((h, k, plus_sloped), tt)
fit_end set.NonZero Plus a b h k = ((h, k, plus_sloped), tt)
fit_end set.NonZero Minus a b h k = ((h, k, minus_sloped), tt)
fit_end set.NotNeg Minus a b h k = ((h, k, minus_sloped), tt)
fit_end set.Neg Minus a b h k = tt
fit_end set.Neg Zero a b h k = tt
fit_end set.Zero Zero a b h k = tt
fit_end set.Pos Plus a b h k = tt
fit_end set.Pos Zero a b h k = tt
fit_end set.NotPos Minus a b h k = tt
fit_end set.NotPos Zero a b h k = tt
fit_end set.NonZero Zero a b h k = tt
fit_end set.NotNeg Plus a b h k = tt
fit_end set.NotNeg Zero a b h k = tt

fit_by_slope : (c : Bool) (S : Signs) (a b : List Monomial) → IsPolynomial a → IsPolynomial b → EachPoint IsFit (ends_by_slope c S a b)
fit_by_slope true S a b h k = fit_end S (constant_sign a) a b h k
fit_by_slope false S a b h k = each_append IsFit (listed (end_of S Plus a b)) (listed (end_of S Minus a b)) (fit_end S Plus a b h k) (fit_end S Minus a b h k)

fit_of_atom : (x : ℕ) (P : List Monomial) (S : Signs) → IsPolynomial P → EachPoint IsFit (ends_of_atom x P S)
fit_of_atom x P S h =
    elim (holds_symbol x P) as (λ b. EachPoint IsFit (if b then ends_by_slope (is_constant (slope_in x P)) S (slope_in x P) (base_in x P) else [])) [
      | true ↦ fit_by_slope (is_constant (slope_in x P)) S (slope_in x P) (base_in x P) (part_is_polynomial x 1 P h) (part_is_polynomial x 0 P h)
      | false ↦ tt
    ]

pub fit_of_atoms : (x : ℕ) (rows : List Row) → EachRow (IsLinearAtom x) rows → EachPoint IsFit (ends_of_atoms x rows)
fit_of_atoms x [] h = tt
fit_of_atoms x (a ∷ rows) h =
    each_append IsFit (ends_of_atom x a.0 a.1) (ends_of_atoms x rows) (fit_of_atom x a.0 a.1 h.0.poly.canonical.ordered) (fit_of_atoms x rows h.1)
