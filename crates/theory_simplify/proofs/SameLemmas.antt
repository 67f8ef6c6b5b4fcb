-- Lists of different lengths are not the same.
use Rattle.std.proofs.Common.{◌≡◌, Bool, true, false, List, [], ◌∷◌, length, map, refl, ap, suc, ◌&&◌}
use Rattle.std.specs.Ordering.{int_eq}
use Rattle.std.specs.Str.{bytes_eq}
use Rattle.theory_polynomial.specs.Terms.{Monomial}
use Rattle.theory_formula.specs.Formula.{formulas_from}
use Rattle.theory_poly.specs.Hashes.{is_same}
use Rattle.theory_elimination.specs.SameFormula as formula
use Rattle.theory_elimination.specs.SameFormula.{is_same_poly, are_same}
use Rattle.theory_simplify.specs.declared.drafts.Draft as lent
use Rattle.theory_simplify.specs.Drafts.{draft_of}

second_false : (a b : Bool) → false ≡ b → false ≡ a && b
second_false true b h = h
second_false false b h = refl

-- polynomials are the same by their terms
pub same_by_terms : (P Q : List Monomial) → is_same P Q ≡ is_same_poly P Q
same_by_terms [] [] = refl
same_by_terms [] (u ∷ us) = refl
same_by_terms (t ∷ ts) [] = refl
same_by_terms (t ∷ ts) (u ∷ us) = ap (λ b. (int_eq t.coefficient u.coefficient && bytes_eq t.powers u.powers) && b) (same_by_terms ts us)

pub other_members : (Fs Gs : List lent.Draft) → (length Fs ≡ length Gs → ⊥)
    → false ≡ are_same (formulas_from (map draft_of Fs)) (formulas_from (map draft_of Gs))
other_members [] [] h = absurd (h refl)
other_members [] (G ∷ Gs) h = refl
other_members (F ∷ Fs) [] h = refl
other_members (F ∷ Fs) (G ∷ Gs) h =
    second_false (formula.is_same (draft_of F) (draft_of G)) (are_same (formulas_from (map draft_of Fs)) (formulas_from (map draft_of Gs)))
    (other_members Fs Gs (λ e. h (ap suc e)))
