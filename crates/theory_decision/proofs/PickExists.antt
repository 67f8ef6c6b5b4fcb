-- A step that adds a value picks one: along the path of a hit the restricted formula is true somewhere.
use Rattle.std.proofs.Common.{ℕ, List, ◌∷◌, [], None, sym, ◌∙◌, subst}
use Rattle.theory_polynomial.specs.PolynomialValue.{Values}
use Rattle.theory_formula.specs.Formula.{Formula}
use Rattle.theory_elimination.proofs.BranchLaws.{branch_has_value}
use Rattle.theory_decision.specs.Choice.{Symbols}
use Rattle.theory_decision.specs.Search.{Step}
use Rattle.theory_formula.specs.Symbols.{IsFree, IsProper}
use Rattle.theory_decision.specs.Witness.{IsOver, IsHit, IsPickAt, IsWitness, other_values}
use Rattle.theory_meaning.specs.declared.words.Kind.{Kind}
use Rattle.theory_signed.proofs.KindAtoms.{kind_proper, kind_free}
use Rattle.theory_elimination.proofs.BranchAtoms.{branch_proper}
use Rattle.theory_decision.proofs.Findings.{candidate_is_linear}
use Rattle.theory_decision.proofs.AtValues.{restricted_truth}
use Rattle.theory_decision.proofs.LinearStays.{at_values_stay_linear}
use Rattle.theory_decision.proofs.PickLaws.{none_picked}
use Rattle.theory_decision.proofs.WitnessTruth.{branch_is_over, witness_is_right}

pub some_pick : (kind : Kind) (n : ℕ) (F : Formula) (s : Step) (path : List Step) (given : Symbols) (q : Values) → IsProper F → IsOver n F
    → IsHit kind F (s ∷ path) → IsWitness n path given q → IsPickAt n s q None → ⊥
some_pick kind n F s path given q h m e w p =
    let proper : IsProper s.formula = subst IsProper (sym e.0) (kind_proper kind F h) in
    let over : IsOver n s.formula = λ y l. subst (IsFree y) (sym e.0) (kind_free y kind F (m y l)) in
    let linear = candidate_is_linear [] s.formula s.symbol proper e.1 in
    let below = witness_is_right kind n e.3 path given q (branch_proper s.symbol s.formula e.2 e.3 proper e.4)
    (branch_is_over kind n F e.3 s.formula s.symbol e.2 e.0 m e.4) e.5 w in
    let v = branch_has_value s.symbol q s.formula e.2 e.3 linear e.4 below.truth in
    none_picked s.symbol p.0 (at_values_stay_linear s.symbol (other_values n s.symbol q) s.formula p.0 linear p.1) p.2 v.0
    (restricted_truth n s.symbol v.0 q s.formula p.0 proper over p.1 ∙ v.1)
