-- Members of a formula, and the trees that they stand for.
use Rattle.std.proofs.Common.{◌≡◌, ℕ, zero, suc, ◌+◌, ◌<◌, ◌≤◌, Bool, List, [], ◌∷◌, ◌++◌, length, map, get_or, take, drop, refl, sym, ap, ap₂, ◌∙◌, subst, arith, None, Some}
use Rattle.std.proofs.lemmas.List.{map-append, length-map, length-take-le, take_all}
use Rattle.std.proofs.Math.Seq.{take-suc}
use Rattle.theory_polynomial.specs.Polynomial.{IsLinearIn}
use Rattle.theory_formula.specs.Formula as plain
use Rattle.theory_elimination.specs.Branches.{equation_of, equation_if, taken_behind}
use Rattle.theory_elimination.specs.Elimination.{IsLinear}
use Rattle.theory_signs.specs.declared.atom.Atom.{Atom}
use Rattle.theory_signs.specs.declared.formula.Formula.{Formula, Formula-F, fold-roll-Formula}
use Rattle.theory_signs.specs.declared.formula.Formula.TheVariants as made
use Rattle.theory_signs.specs.Plain.{formula_of, formula_step}
use Rattle.theory_subst.specs.Equations.{without, equation_with, ArePartsOf, IsFirst}
use Rattle.theory_subst.specs.declared.top_equation.TopEquation.{TopEquation}
use Rattle.theory_subst.proofs.EndLemmas.{AreLinear, rest_from}
use Rattle.theory_subst.proofs.EquationLemmas.{IsSought, without-kept, without-left, sought_on, found_at}

-- an atom
pub formula_of-Atom : (F : Formula) (a : Atom) → F ≡ made.Atom a → formula_of F ≡ plain.atom a.poly a.signs
formula_of-Atom F a is = ap formula_of is ∙ ap formula_of (sym (made.rolls-Atom a)) ∙ fold-roll-Formula plain.Formula formula_step (Formula-F.Atom a)

pub linear_atom : (x : ℕ) (F : Formula) (a : Atom) → F ≡ made.Atom a → IsLinear x (formula_of F) → IsLinearIn x a.poly
linear_atom x F a is h = (subst (IsLinear x) (formula_of-Atom F a is) h).linear

pub equation_atom : (x : ℕ) (F : Formula) (a : Atom) (b : Bool) → F ≡ made.Atom a → equation_of x (plain.atom a.poly a.signs) ≡ equation_if b a.poly
    → equation_of x (formula_of F) ≡ equation_if b a.poly
equation_atom x F a b is h = ap (equation_of x) (formula_of-Atom F a is) ∙ h

-- the tree of the member at a place
pub tree_at : (i : ℕ) (ms : List Formula) (m : Formula) → m ≡ get_or ms i m → formula_of m ≡ get_or (map formula_of ms) i (formula_of m)
tree_at i [] m h = refl
tree_at zero (n ∷ ms) m h = ap formula_of h
tree_at (suc i) (n ∷ ms) m h = tree_at i ms m h

-- copies of all but one
pub taken_more : (i : ℕ) (ms : List Formula) (m : Formula) → i < length ms → m ≡ get_or ms i m
    → map formula_of (take (i + 1) ms) ≡ map formula_of (take i ms) ++ formula_of m ∷ []
taken_more i ms m h is =
    let next : i + 1 ≡ suc i = omega arith in
    ap (λ n. map formula_of (take n ms)) next ∙ ap (map formula_of) (take-suc ms i m h ∙ ap (λ n. take i ms ++ n ∷ []) (sym is))
    ∙ map-append formula_of (take i ms) (m ∷ [])

pub taken_length : (i : ℕ) (ms : List Formula) → i < length ms → length (map formula_of (take i ms)) ≡ i
taken_length i ms h = length-map (take i ms) formula_of ∙ length-take-le i ms (omega (arith, h))

pub others_grow : (k i : ℕ) (ms copies : List Formula) (m copy : Formula) → i < length ms → m ≡ get_or ms i m → (i ≡ k → ⊥)
    → formula_of copy ≡ formula_of m → map formula_of copies ≡ without k (map formula_of (take i ms))
    → map formula_of (copies ++ copy ∷ []) ≡ without k (map formula_of (take (i + 1) ms))
others_grow k i ms copies m copy h is apart same before =
    map-append formula_of copies (copy ∷ []) ∙ ap₂ (λ Fs F. Fs ++ F ∷ []) before same
    ∙ sym (without-kept k (map formula_of (take i ms)) (formula_of m) (λ e. apart (sym (taken_length i ms h) ∙ e)))
    ∙ ap (without k) (sym (taken_more i ms m h is))

pub others_stay : (k i : ℕ) (ms copies : List Formula) (m : Formula) → i < length ms → m ≡ get_or ms i m → i ≡ k
    → map formula_of copies ≡ without k (map formula_of (take i ms)) → map formula_of copies ≡ without k (map formula_of (take (i + 1) ms))
others_stay k i ms copies m h is own before =
    before ∙ sym (without-left k (map formula_of (take i ms)) (formula_of m) (taken_length i ms h ∙ own))
    ∙ ap (without k) (sym (taken_more i ms m h is))

pub others_all : (k i : ℕ) (ms copies : List Formula) → length ms ≤ i → map formula_of copies ≡ without k (map formula_of (take i ms))
    → map formula_of copies ≡ without k (map formula_of ms)
others_all k i ms copies h before = before ∙ ap (λ ns. without k (map formula_of ns)) (take_all i ms h)

-- the members from a place on, before which there is no equation that is wanted
pub record IsLeft (x : ℕ) (plain : Bool) (ms : List Formula) (i : ℕ) : Type 0 where
  pub linear : AreLinear x (drop i ms)
  pub sought : IsSought (equation_with plain x) (map formula_of ms) i

pub left_on : (x : ℕ) (plain : Bool) (ms : List Formula) (i : ℕ) (m : Formula) → i < length ms → m ≡ get_or ms i m → IsLeft x plain ms i
    → ArePartsOf x (equation_with plain x (formula_of m)) None → IsLeft x plain ms (i + 1)
left_on x plain ms i m h is before none = record {
  linear = (subst (AreLinear x) (rest_from i ms m h is) before.linear).1;
  sought =
      let within : i < length (map formula_of ms) = subst (λ n. i < n) (sym (length-map ms formula_of)) h in
      sought_on plain x (map formula_of ms) i (formula_of m) within (tree_at i ms m is) before.sought none;
}

pub found_member : (x : ℕ) (plain : Bool) (ms : List Formula) (f : TopEquation) (m : Formula) → f.place < length ms → m ≡ get_or ms f.place m
    → IsLeft x plain ms f.place → ArePartsOf x (equation_with plain x (formula_of m)) (Some (f.slope, f.base))
    → IsFirst x (map formula_of ms) (taken_behind (equation_with plain x) [] (map formula_of ms)) (Some f)
found_member x plain ms f m h is before parts =
    let within : f.place < length (map formula_of ms) = subst (λ n. f.place < n) (sym (length-map ms formula_of)) h in
    found_at plain x (map formula_of ms) f (formula_of m) within (tree_at f.place ms m is) before.sought parts
