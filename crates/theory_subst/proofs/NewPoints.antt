-- Points that are added behind others are those that none before is the same as.
use Rattle.std.proofs.Common.{◌≡◌, ℕ, Bool, true, false, List, [], ◌∷◌, ◌++◌, refl, sym, ap, ◌∙◌, inl, inr}
use Rattle.std.specs.Prelude.{◌||◌, if◌then◌else◌}
use Rattle.std.specs.List.{list_any}
use Rattle.std.proofs.lemmas.Bool.{cases_Bool}
use Rattle.std.proofs.lemmas.List.{append_assoc, append-nil}
use Rattle.std.proofs.lemmas.List.Folds.{list_any-append}
use Rattle.theory_meaning.specs.declared.words.Sign.{Sign}
use Rattle.theory_meaning.specs.declared.words.Sign.TheVariants.{Minus, Zero, Plus}
use Rattle.theory_formula.specs.declared.signs.Signs.{Signs}
use Rattle.theory_formula.specs.declared.signs.Signs.TheVariants as set
use Rattle.theory_polynomial.specs.Polynomial.{Monomial}
use Rattle.theory_formula.specs.FormulaAtoms.{atoms_of}
use Rattle.theory_formula.specs.Formula.{Formula}
use Rattle.theory_elimination.specs.TestPoint.{TestPoint, infinity, end_of, listed, is_constant, constant_sign, holds_symbol, is_same_point, ends_by_slope, ends_of_atom, ends_of_atoms, first_points, test_points}
use Rattle.theory_polynomial.specs.PolynomialValue.{slope_in, base_in}
use Rattle.theory_subst.specs.Points.{with_new}

-- none of the points is infinity
abbrev AreEnds : List TestPoint → Type 0
AreEnds [] = Unit {0}
AreEnds (p ∷ ps) = (is_same_point p infinity ≡ false) × AreEnds ps

AreEnds-append : (ps qs : List TestPoint) → AreEnds ps → AreEnds qs → AreEnds (ps ++ qs)
AreEnds-append [] qs h k = k
AreEnds-append (p ∷ ps) qs h k = (h.0, AreEnds-append ps qs h.1 k)

end_is_end : (S : Signs) (s : Sign) (a b : List Monomial) → AreEnds (listed (end_of S s a b))
end_is_end set.Neg Minus a b = tt
end_is_end set.Neg Zero a b = tt
end_is_end set.Neg Plus a b = (refl, tt)
end_is_end set.Zero Minus a b = (refl, tt)
end_is_end set.Zero Zero a b = tt
end_is_end set.Zero Plus a b = (refl, tt)
end_is_end set.Pos Minus a b = (refl, tt)
end_is_end set.Pos Zero a b = tt
end_is_end set.Pos Plus a b = tt
end_is_end set.NotPos Minus a b = tt
end_is_end set.NotPos Zero a b = tt
end_is_end set.NotPos Plus a b = (refl, tt)
end_is_end set.NonZero Minus a b = (refl, tt)
end_is_end set.NonZero Zero a b = tt
end_is_end set.NonZero Plus a b = (refl, tt)
end_is_end set.NotNeg Minus a b = (refl, tt)
end_is_end set.NotNeg Zero a b = tt
end_is_end set.NotNeg Plus a b = tt

by_slope_are_ends : (k : Bool) (S : Signs) (a b : List Monomial) → AreEnds (ends_by_slope k S a b)
by_slope_are_ends true S a b = end_is_end S (constant_sign a) a b
by_slope_are_ends false S a b =
    AreEnds-append (listed (end_of S Plus a b)) (listed (end_of S Minus a b)) (end_is_end S Plus a b) (end_is_end S Minus a b)

if_ends : (b : Bool) (ps : List TestPoint) → AreEnds ps → AreEnds (if b then ps else [])
if_ends true ps h = h
if_ends false ps h = tt

atoms_have_ends : (x : ℕ) (cs : List (List Monomial × Signs)) → AreEnds (ends_of_atoms x cs)
atoms_have_ends x [] = tt
atoms_have_ends x (c ∷ cs) =
    let k : Bool = is_constant (slope_in x c.0) in
    let own : List TestPoint = ends_by_slope k c.1 (slope_in x c.0) (base_in x c.0) in
    AreEnds-append (ends_of_atom x c.0 c.1) (ends_of_atoms x cs)
    (if_ends (holds_symbol x c.0) own (by_slope_are_ends k c.1 (slope_in x c.0) (base_in x c.0))) (atoms_have_ends x cs)

-- an end is the same as one of the kept points exactly where it is the same as one of those seen
record AreAlike (kept seen : List TestPoint) : Type 0 where
  at : (p : TestPoint) → is_same_point p infinity ≡ false → list_any (is_same_point p) kept ≡ list_any (is_same_point p) seen

turned_or : (b c : Bool) → (b || (c || false)) ≡ (c || b)
turned_or true true = refl
turned_or true false = refl
turned_or false true = refl
turned_or false false = refl

alike_more : (kept seen : List TestPoint) (q : TestPoint) → AreAlike kept seen → AreAlike (kept ++ q ∷ []) (q ∷ seen)
alike_more kept seen q h = record {
  at = λ p e.
      list_any-append (is_same_point p) kept (q ∷ []) ∙ turned_or (list_any (is_same_point p) kept) (is_same_point p q)
      ∙ ap (λ b. is_same_point p q || b) (h.at p e);
}

with_new_is : (kept seen ps : List TestPoint) → AreEnds ps → AreAlike kept seen → with_new kept ps ≡ kept ++ first_points seen ps
with_new_is kept seen [] h same = sym (append-nil kept)
with_new_is kept seen (p ∷ ps) h same =
    let own = list_any (is_same_point p) kept in
    let theirs : own ≡ list_any (is_same_point p) seen = same.at p h.0 in
    elim (cases_Bool own) [
      | inl there ↦
          ap (λ b. with_new (if b then kept else kept ++ p ∷ []) ps) there ∙ with_new_is kept seen ps h.1 same
          ∙ ap (λ b. kept ++ (if b then first_points seen ps else p ∷ first_points (p ∷ seen) ps)) (sym there ∙ theirs)
      | inr new ↦
          ap (λ b. with_new (if b then kept else kept ++ p ∷ []) ps) new
          ∙ with_new_is (kept ++ p ∷ []) (p ∷ seen) ps h.1 (alike_more kept seen p same)
          ∙ append_assoc kept (p ∷ []) (first_points (p ∷ seen) ps)
          ∙ ap (λ b. kept ++ (if b then first_points seen ps else p ∷ first_points (p ∷ seen) ps)) (sym new ∙ theirs)
    ]

-- the test points of a formula
infinity_alone : AreAlike (infinity ∷ []) []
infinity_alone = record { at = λ p e. ap (λ b. b || false) e }

pub test_points_are : (x : ℕ) (F : Formula) → with_new (infinity ∷ []) (ends_of_atoms x (atoms_of F)) ≡ test_points x F
test_points_are x F = with_new_is (infinity ∷ []) [] (ends_of_atoms x (atoms_of F)) (atoms_have_ends x (atoms_of F)) infinity_alone
