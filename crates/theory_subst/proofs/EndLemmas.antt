-- The test points of atoms, one after the other.
use Rattle.std.proofs.Common.{◌≡◌, ℕ, suc, ◌+◌, ◌<◌, ◌≤◌, Bool, true, List, [], ◌∷◌, ◌++◌, length, map, get_or, drop, refl, sym, ap, ap₂, ◌∙◌, subst, arith}
use Rattle.std.specs.Prelude.{nat_lt, if◌then◌else◌}
use Rattle.std.specs.List.{list_any}
use Rattle.std.proofs.lemmas.List.{append_assoc, drop_all}
use Rattle.std.proofs.Math.Seq.{drop-cons}
use Rattle.theory_formula.specs.declared.signs.Signs.{Signs}
use Rattle.theory_polynomial.specs.Polynomial.{Monomial, degree_in}
use Rattle.theory_formula.specs.Formula.{formulas_from, EachAtomOfAll}
use Rattle.theory_formula.specs.FormulaAtoms.{atoms_of, atoms_of_all}
use Rattle.theory_elimination.specs.TestPoint.{TestPoint, is_constant, is_same_point, ends_by_slope, ends_of_atom, ends_of_atoms}
use Rattle.theory_polynomial.specs.PolynomialValue.{slope_in, base_in}
use Rattle.theory_elimination.specs.Elimination.{IsLinearAtom}
use Rattle.theory_signs.specs.declared.formula.Formula as made
use Rattle.theory_signs.specs.Plain.{formula_of}
use Rattle.theory_subst.specs.Points.{with_new}
use Rattle.theory_subst.specs.Equations.{IsLine}

-- points of two lists are added one list after the other
pub with_new-append : (seen ps qs : List TestPoint) → with_new seen (ps ++ qs) ≡ with_new (with_new seen ps) qs
with_new-append seen [] qs = refl
with_new-append seen (p ∷ ps) qs = with_new-append (if list_any (is_same_point p) seen then seen else seen ++ p ∷ []) ps qs

ends_of_atoms-append : (x : ℕ) (cs ds : List (List Monomial × Signs)) → ends_of_atoms x (cs ++ ds) ≡ ends_of_atoms x cs ++ ends_of_atoms x ds
ends_of_atoms-append x [] ds = refl
ends_of_atoms-append x (c ∷ cs) ds =
    ap (λ es. ends_of_atom x c.0 c.1 ++ es) (ends_of_atoms-append x cs ds)
    ∙ sym (append_assoc (ends_of_atom x c.0 c.1) (ends_of_atoms x cs) (ends_of_atoms x ds))

-- the ends of an atom in which the symbol occurs
some_degree : (n : ℕ) → (n ≡ 0 → ⊥) → nat_lt 0 n ≡ true
some_degree n h = grind (arith, h)

abbrev ends_if : Bool → Signs → List Monomial → List Monomial → List TestPoint
ends_if k S a b = if k then ends_by_slope (is_constant a) S a b else []

pub held_ends : (x : ℕ) (P : List Monomial) (S : Signs) (a b : List Monomial) → (degree_in x P ≡ 0 → ⊥) → IsLine x P a b
    → ends_by_slope (is_constant a) S a b ≡ ends_of_atom x P S
held_ends x P S a b h line =
    ap₂ (λ c d. ends_if true S c d) line.slope_is line.base_is
    ∙ ap (λ k. ends_if k S (slope_in x P) (base_in x P)) (sym (some_degree (degree_in x P) h))

-- the ends of members in their order, and that each atom of them is linear
abbrev ends_of_all : ℕ → List made.Formula → List TestPoint
ends_of_all x ms = ends_of_atoms x (atoms_of_all (formulas_from (map formula_of ms)))

abbrev pub AreLinear : ℕ → List made.Formula → Type 0
AreLinear x ms = EachAtomOfAll (IsLinearAtom x) (formulas_from (map formula_of ms))

-- what is left of the members makes the same points
pub record AddsRest (x : ℕ) (all rest : List made.Formula) (first seen : List TestPoint) : Type 0 where
  pub linear : AreLinear x rest
  pub ends : with_new seen (ends_of_all x rest) ≡ with_new first (ends_of_all x all)

pub rest_from : (i : ℕ) (ms : List made.Formula) (m : made.Formula) → i < length ms → m ≡ get_or ms i m → drop i ms ≡ m ∷ drop (i + 1) ms
rest_from i ms m h is =
    let next : suc i ≡ i + 1 = omega arith in
    drop-cons ms i m h ∙ ap₂ (λ (n : made.Formula) (ns : List made.Formula). n ∷ ns) (sym is) (ap (λ n. drop n ms) next)

pub adds_next : (x i : ℕ) (ms : List made.Formula) (m : made.Formula) (first seen later : List TestPoint) → i < length ms → m ≡ get_or ms i m
    → AddsRest x ms (drop i ms) first seen → later ≡ with_new seen (ends_of_atoms x (atoms_of (formula_of m)))
    → AddsRest x ms (drop (i + 1) ms) first later
adds_next x i ms m first seen later h is before now =
    let rest : List made.Formula = drop (i + 1) ms in
    let from : drop i ms ≡ m ∷ rest = rest_from i ms m h is in
    let own : List (List Monomial × Signs) = atoms_of (formula_of m) in
    let others : List (List Monomial × Signs) = atoms_of_all (formulas_from (map formula_of rest)) in
    record {
      linear = (subst (AreLinear x) from before.linear).1;
      ends =
          ap (λ ps. with_new ps (ends_of_all x rest)) now ∙ sym (with_new-append seen (ends_of_atoms x own) (ends_of_all x rest))
          ∙ ap (with_new seen) (sym (ends_of_atoms-append x own others)) ∙ ap (λ ns. with_new seen (ends_of_all x ns)) (sym from) ∙ before.ends;
    }

pub adds_none : (x i : ℕ) (ms : List made.Formula) (first seen : List TestPoint) → length ms ≤ i → AddsRest x ms (drop i ms) first seen
    → seen ≡ with_new first (ends_of_all x ms)
adds_none x i ms first seen h before = ap (λ ns. with_new seen (ends_of_all x ns)) (sym (drop_all i ms h)) ∙ before.ends
