-- A witness makes the formula true; a hit of a search is the path of one.
use Rattle.std.proofs.Common.{◌≡◌, ℕ, zero, suc, Bool, true, false, List, [], ◌∷◌, refl, sym, ap, ap₂, ◌∙◌, subst, arith, inl, inr}
use Rattle.std.specs.Prelude.{◌||◌, ◌==◌, nat_lt}
use Rattle.std.proofs.lemmas.Bool.{cases_Bool}
use Rattle.std.specs.List.{list_any}
use Rattle.theory_meaning.specs.Fraction.{Fraction, IsSame}
use Rattle.theory_meaning.proofs.OrderLaws.{same_itself}
use Rattle.theory_polynomial.specs.Polynomial.{IsFreeOf}
use Rattle.theory_polynomial.specs.PolynomialValue.{Values, symbol_at}
use Rattle.theory_formula.specs.Formula.{Formula, truth_at, IsTrueAt}
use Rattle.theory_formula.specs.FormulaAtoms.{atoms_of}
use Rattle.theory_elimination.specs.TestPoint.{holds_symbol}
use Rattle.theory_signed.specs.ByKind.{simplified_for}
use Rattle.theory_elimination.specs.Branches.{IsBranch}
use Rattle.theory_elimination.specs.Elimination.{with_value}
use Rattle.theory_elimination.proofs.AtomLists.{Row, EachRow, rows_of_atoms}
use Rattle.theory_decision.specs.Choice.{Symbols, is_one_of, occurs, IsCandidate}
use Rattle.theory_decision.specs.Search.{Step}
use Rattle.theory_formula.specs.Symbols.{IsFree, IsProper}
use Rattle.theory_decision.specs.Witness.{IsOver, IsHit, IsValue, AddsValue, IsWitness}
use Rattle.theory_meaning.specs.declared.words.Kind.{Kind}
use Rattle.theory_signed.proofs.KindAtoms.{kind_proper, kind_free}
use Rattle.theory_elimination.proofs.BranchAtoms.{branch_proper, branch_stays_free}
use Rattle.theory_decision.proofs.Findings.{candidate_is_linear}
use Rattle.theory_formula.proofs.ReadSymbols.{truth_reads}
use Rattle.theory_decision.proofs.Nodes.{in_simplified}
use Rattle.theory_decision.proofs.PickLaws.{picked_is_right}
use Rattle.theory_elimination.proofs.LevelBranch.{stays_true}
use Rattle.theory_decision.proofs.AtValues.{restricted_truth}

-- the same value, written otherwise
same_value : (x y : ℕ) (v w : Fraction) (q : Values) → IsSame v w → IsSame (symbol_at y (with_value x v q)) (symbol_at y (with_value x w q))
same_value zero zero v w q h = h
same_value zero (suc y) v w q h = same_itself (symbol_at (suc y) (with_value zero v q))
same_value (suc x) zero v w q h = same_itself (symbol_at zero (with_value (suc x) v q))
same_value (suc x) (suc y) v w q h = same_value x y v w _ h

pub same_truth : (x : ℕ) (v w : Fraction) (q : Values) (F : Formula) → IsSame v w → truth_at F (with_value x v q) ≡ truth_at F (with_value x w q)
same_truth x v w q F s = truth_reads (with_value x v q) (with_value x w q) F (λ y o. same_value x y v w q s)

-- a value that a step adds makes its formula true
value_is_right : (n : ℕ) (s : Step) (q : Values) (v : Fraction) → IsProper s.formula → IsOver n s.formula → IsValue n s q v
    → IsTrueAt s.formula (with_value s.symbol v q)
value_is_right n s q v h o w =
    let pick = w.pick.2 in
    same_truth s.symbol v w.picked q s.formula w.equal ∙ sym (restricted_truth n s.symbol w.picked q s.formula w.pick.0 h o w.pick.1)
    ∙ picked_is_right s.symbol w.pick.0 w.picked pick

-- a symbol that occurs isn't one that the formula is free of
no_row : (y : ℕ) (rows : List Row) → EachRow (λ P S. IsFreeOf y P) rows → list_any (λ (a : Row). holds_symbol y a.0) rows ≡ false
no_row y [] h = refl
no_row y (a ∷ rows) h = ap₂ ◌||◌ (ap (λ (n : ℕ). nat_lt 0 n) h.0) (no_row y rows h.1)

not_both : (a : Bool) → a ≡ true → a ≡ false → ⊥
not_both true e f = cc
not_both false e f = cc

not_same : (x y : ℕ) → (x ≡ y → ⊥) → x == y ≡ false
not_same x y n = elim (cases_Bool (x == y)) [ inl e ↦ absurd (n (grind (arith, e))) | inr e ↦ e ]

pub not_free : (y : ℕ) (F : Formula) → occurs F y ≡ true → IsFree y F → ⊥
not_free y F e h = not_both (occurs F y) e (no_row y (atoms_of F) (rows_of_atoms (λ P S. IsFreeOf y P) F h))

-- the symbols that have a value occur in the formula
abbrev pub OccurIn : Symbols → Formula → Type 0
OccurIn given F = (y : ℕ) → IsFree y F → is_one_of given y ≡ false

pub record Right (F : Formula) (given : Symbols) (p : Values) : Type 0 where
  pub truth : IsTrueAt F p
  pub occur : OccurIn given F

step_is_right : (kind : Kind) (n : ℕ) (F G : Formula) (s : Step) (k : ℕ) (g given : Symbols) (q p : Values) → IsProper F → IsOver n F
    → s.formula ≡ simplified_for kind F → IsCandidate [] s.formula s.symbol → IsBranch s.symbol s.formula k G → Right G g q
    → AddsValue (is_one_of g s.symbol) n s g q given p → Right F given p
step_is_right kind n F G s k g given q p h m e c b r w =
    let S = s.formula in
    let x = s.symbol in
    let proper : IsProper S = subst IsProper (sym e) (kind_proper kind F h) in
    let same : (o : Values) → truth_at F o ≡ truth_at S o = λ o. in_simplified kind F o h ∙ ap (λ (T : Formula). truth_at T o) (sym e) in
    let still : (y : ℕ) → IsFree y F → IsFree y S = λ y f. subst (IsFree y) (sym e) (kind_free y kind F f) in
    let later : (y : ℕ) → IsFree y F → is_one_of g y ≡ false = λ y f. r.occur y (branch_stays_free x y S k G (still y f) b) in
    elim (is_one_of g x) as (λ a. is_one_of g x ≡ a → AddsValue a n s g q given p → Right F given p) [
      | true ↦ λ o u. record {
        truth =
            subst (λ (z : Values). IsTrueAt F z) (sym u.1)
            (same q ∙ stays_true x q S k G (candidate_is_linear [] S x proper c) b (λ free. not_both (is_one_of g x) o (r.occur x free)) r.truth);
        occur = λ y f. ap (λ (ys : Symbols). is_one_of ys y) u.0 ∙ later y f;
      }
      | false ↦ λ o u. record {
        truth =
            subst (λ (z : Values). IsTrueAt F z) (sym u.3)
            (same (with_value x u.0 q) ∙ value_is_right n s q u.0 proper (λ y l. still y (m y l)) u.1);
        occur = λ y f.
            ap (λ (ys : Symbols). is_one_of ys y) u.2
            ∙ ap₂ ◌||◌ (not_same x y (λ i. not_free y S (subst (λ (z : ℕ). occurs S z ≡ true) i c.occurring) (still y f))) (later y f);
      }
    ] refl w

-- a branch of the simplified form is proper too, and over the same symbols
pub branch_is_over : (kind : Kind) (n : ℕ) (F G S : Formula) (x k : ℕ) → S ≡ simplified_for kind F → IsOver n F → IsBranch x S k G → IsOver n G
branch_is_over kind n F G S x k e m b y l = branch_stays_free x y S k G (subst (IsFree y) (sym e) (kind_free y kind F (m y l))) b

pub witness_is_right : (kind : Kind) (n : ℕ) (F : Formula) (path : List Step) (given : Symbols) (p : Values) → IsProper F → IsOver n F
    → IsHit kind F path → IsWitness n path given p → Right F given p
witness_is_right kind n F [] given p h m e w = record {
  truth = in_simplified kind F p h ∙ ap (λ (G : Formula). truth_at G p) e;
  occur = λ y f. ap (λ (ys : Symbols). is_one_of ys y) w.0;
}
witness_is_right kind n F (s ∷ path) given p h m e w =
    let proper : IsProper s.formula = subst IsProper (sym e.0) (kind_proper kind F h) in
    let G = e.3 in
    let r = witness_is_right kind n G path w.0 w.1 (branch_proper s.symbol s.formula e.2 G proper e.4)
    (branch_is_over kind n F G s.formula s.symbol e.2 e.0 m e.4) e.5 w.2 in
    step_is_right kind n F G s e.2 w.0 given w.1 p h m e.0 e.1 e.4 r w.3
