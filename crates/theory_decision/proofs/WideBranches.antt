-- Each branch of a formula is a node: it is written, and passes a limit or not.
use Rattle.std.proofs.Common.{◌≡◌, ℕ, ◌<◌, ◌⊎◌, length, Bool, true, false, List, Some, refl, sym, ◌∙◌, subst, arith, inl, inr}
use Rattle.std.specs.Prelude.{nat_lt, IsTrue}
use Rattle.std.proofs.lemmas.Bool.{cases_Bool}
use Rattle.theory_meaning.specs.Limits.{bound}
use Rattle.theory_formula.specs.declared.signs.Signs.{Signs}
use Rattle.theory_polynomial.specs.Polynomial.{Monomial, IsPolynomial, PassesLimit, IsBeyondDivided, IsPrimitiveOf, cross_of, greatest_exponent_of, height_of}
use Rattle.theory_formula.specs.Formula.{Formula, Formulas, always, never, atom, conjunction, disjunction, none, more, EachAtom, EachAtomOfAll}
use Rattle.theory_formula.specs.SignCondition.{IsAtomPolynomial}
use Rattle.theory_polynomial.proofs.PrimitiveLaws.{primitive_unique}
use Rattle.theory_polynomial.specs.PolynomialValue.{part_of, slope_in, base_in}
use Rattle.theory_elimination.specs.TestPoint.{TestPoint, infinity, root, before, holds_symbol}
use Rattle.theory_elimination.specs.Branches.{Plan, plain, guarded, level, branch_plans}
use Rattle.theory_elimination.specs.Elimination.{IsLinear}
use Rattle.theory_formula.specs.Symbols.{SomeAtom, SomeAtomAmong, IsProper}
use Rattle.theory_elimination.specs.Widths.{IsWideCross, IsWideAt, IsWidePlan}
use Rattle.theory_elimination.proofs.SummedTerms.{HasPolynomial, cross_has_polynomial}
use Rattle.theory_elimination.proofs.DividedTerms.{has_primitive}
use Rattle.theory_elimination.proofs.PlanLists.{each_at}
use Rattle.theory_elimination.proofs.WrittenBranches.{branch_is_written}
use Rattle.theory_decision.specs.Finding.{Node, reached, too_wide, IsNode}
use Rattle.theory_elimination.proofs.AtomLists.{each_follows}
use Rattle.theory_elimination.proofs.PartLaws.{part_is_polynomial}
use Rattle.theory_formula.proofs.ProperFormulas.{condition_proper}
use Rattle.theory_elimination.proofs.BranchAtoms.{PointHas, PlanHas, plans_have}

abbrev pub Told : Type 0 → Type 0
Told A = A ⊎ (A → ⊥)

told_either : {A B : Type 0} → Told A → Told B → Told (A ⊎ B)
told_either (inl a) b = inl (inl a)
told_either (inr n) (inl b) = inl (inr b)
told_either {A} {B} (inr n) (inr m) = inr (λ (h : A ⊎ B). elim h [ inl a ↦ n a | inr b ↦ m b ])

told_both : {A B : Type 0} → Told A → Told B → Told (A × B)
told_both (inl a) (inl b) = inl (a, b)
told_both (inl a) (inr m) = inr (λ h. m h.1)
told_both (inr n) b = inr (λ h. n h.0)

told_below : (m n : ℕ) → Told (m < n)
told_below m n = elim (cases_Bool (nat_lt m n)) [ inl l ↦ inl (grind (arith, l)) | inr l ↦ inr (λ h. grind (arith, l, h)) ]

told_true : (b : Bool) → Told (IsTrue b)
told_true true = inl refl
told_true false = inr (λ e. cc)

told_passes : (r : List Monomial) → Told (PassesLimit r)
told_passes r = told_either (told_below 128 (length r)) (told_either (told_below 15 (greatest_exponent_of r)) (told_below bound (height_of r)))

told_beyond : (ts : List Monomial) → HasPolynomial ts → Told (IsBeyondDivided ts)
told_beyond ts h =
    let p = has_primitive ts h in
    elim (told_passes p.poly) [
      | inl passes ↦ inl (p.poly, p.is, passes)
      | inr within ↦ inr (λ w. within (subst PassesLimit (primitive_unique ts h.poly w.0 p.poly h.is w.1 p.is) w.2))
    ]

module _ (Q : List Monomial → Signs → Type 0) where
  mutual
    told_some : (F : Formula) → EachAtom (λ P S. Told (Q P S)) F → Told (SomeAtom Q F)
    told_some always h = inr (λ e. e)
    told_some never h = inr (λ e. e)
    told_some (atom P S) h = h
    told_some (conjunction Fs) h = told_among Fs h
    told_some (disjunction Fs) h = told_among Fs h

    told_among : (Fs : Formulas) → EachAtomOfAll (λ P S. Told (Q P S)) Fs → Told (SomeAtomAmong Q Fs)
    told_among none h = inr (λ e. e)
    told_among (more F Fs) h = told_either (told_some F h.0) (told_among Fs h.1)

proper_parts : (x : ℕ) (P : List Monomial) (k : ℕ) → IsAtomPolynomial P → IsPolynomial (part_of x k P)
proper_parts x P k q = part_is_polynomial x k P q.canonical.ordered

crossed_proper : (a b c d q : List Monomial) → IsPolynomial a → IsPolynomial b → IsPolynomial c → IsPolynomial d → IsPrimitiveOf (cross_of a b c d) q
    → IsPolynomial q
crossed_proper a b c d q h k l m w = w.2

module _ (x : ℕ) where
  abbrev Point : TestPoint → Type 0
  Point = PointHas IsAtomPolynomial IsPolynomial x (proper_parts x) crossed_proper condition_proper

  abbrev Planned : Plan → Type 0
  Planned = PlanHas IsAtomPolynomial IsPolynomial x (proper_parts x) crossed_proper condition_proper

  told_cross : (a b : List Monomial) → IsPolynomial a → IsPolynomial b → (P : List Monomial) (S : Signs) → IsAtomPolynomial P
      → Told (IsWideCross x a b P S)
  told_cross a b h k P S q =
      told_both (told_true (holds_symbol x P))
      (told_beyond _ (cross_has_polynomial a (base_in x P) (slope_in x P) b h (proper_parts x P 0 q) (proper_parts x P 1 q) k))

  told_crosses : (a b : List Monomial) (F : Formula) → IsPolynomial a → IsPolynomial b → IsProper F → Told (SomeAtom (IsWideCross x a b) F)
  told_crosses a b F h k q =
      told_some (IsWideCross x a b) F
      (each_follows (λ P S. IsAtomPolynomial P) (λ P S. Told (IsWideCross x a b P S)) F (told_cross a b h k) q)

  told_at : (point : TestPoint) (F : Formula) → Point point → IsProper F → Told (IsWideAt x point F)
  told_at infinity F h q = inr (λ e. e)
  told_at (root a b s) F h q = told_crosses a b F h.0 h.1 q
  told_at (before a b s) F h q = told_crosses a b F h.0 h.1 q

  told_plan : (plan : Plan) → Planned plan → Told (IsWidePlan x plan)
  told_plan (plain point F) h = told_at point F h.0 h.1
  told_plan (guarded point a s F) h = told_at point F h.1 h.2
  told_plan (level a b F) h = inr (λ e. e)

  same_some : {A : Type 0} {a b : A} → Some a ≡ Some b → a ≡ b
  same_some e = cc

  -- each branch as a node
  pub node_at : (S : Formula) (k : ℕ) → IsProper S → IsLinear x S → k < length (branch_plans x S) → (N : Node) × IsNode x S k N
  node_at S k q l h =
      let b = branch_is_written x S k l h in
      let plan = b.1.0 in
      let planned : Planned plan =
      each_at Planned (branch_plans x S) k plan
      (plans_have IsAtomPolynomial IsPolynomial x (proper_parts x) crossed_proper condition_proper S q) b.1.1 in
      elim (told_plan plan planned) [
        | inl w ↦ (too_wide, (plan, b.1.1, w))
        | inr n ↦ (reached b.0, (b.1, λ w. n (subst (IsWidePlan x) (same_some (sym w.1 ∙ b.1.1)) w.2)))
      ]
