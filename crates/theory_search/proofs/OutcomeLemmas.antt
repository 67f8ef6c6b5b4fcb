-- What an outcome, and what leaves say of the formula.
use Rattle.std.proofs.Common.{◌≡◌, ℕ, Bool, true, false, List, [], ◌∷◌}
use Rattle.std.specs.Prelude.{IsTrue}
use Rattle.theory_meaning.specs.declared.words.Kind.{Kind}
use Rattle.theory_formula.specs.Formula.{Formula}
use Rattle.theory_formula.specs.Symbols.{IsProper}
use Rattle.theory_decision.specs.Choice.{Symbols, is_one_of}
use Rattle.theory_decision.specs.Search.{Run, goes_on, hit, over, IsRun}
use Rattle.theory_decision.specs.Outcomes.{Outcome, hits_by, empty, failed_by, IsSearch, Leaves, all_of, true_everywhere, failed_before, AreLeaves}
use Rattle.theory_decision.proofs.AtomFacts.{free_unless}
use Rattle.theory_decision.proofs.KeptSymbols.{kept_alone}
use Rattle.theory_decision.proofs.LeafFacts.{EachLeaf, each_leaf}
use Rattle.theory_decision.proofs.NoLeaves.{run_has_no_leaf}
use Rattle.theory_decision.proofs.OutcomeTruth.{empty_has_none, hit_has_one, leaves_are_right, everywhere_is_right}
use Rattle.theory_search.specs.Right.{IsRight, AreRight, AreFree, HoldKeptAlone}
use Rattle.theory_search.specs.Runs.{HasNoLeaf}

pub outcome_is_right : (kind : Kind) (F : Formula) (o : Outcome) → IsProper F → IsSearch kind F o → IsRight F o
outcome_is_right kind F (hits_by path) h s = hit_has_one kind F path h s
outcome_is_right kind F empty h s = empty_has_none kind F h s
outcome_is_right kind F (failed_by f) h s = tt

-- where no symbol is kept there is no leaf
pub no_leaf : (kind : Kind) (F : Formula) (r : Run) → IsProper F → IsRun [] kind F r → HasNoLeaf r
no_leaf kind F (goes_on s) h v = run_has_no_leaf kind F s h v
no_leaf kind F (hit path) h v = tt
no_leaf kind F (over f) h v = tt

module _ (keep : Symbols) (kind : Kind) (F : Formula) where
  pub what_leaves_say : (l : Leaves) → IsProper F → AreLeaves keep kind F l → AreRight keep F l
  what_leaves_say (all_of leaves) h w = leaves_are_right keep kind F leaves h w
  what_leaves_say true_everywhere h w = everywhere_is_right keep kind F h w
  what_leaves_say (failed_before f) h w = tt

  not_both : (a : Bool) → a ≡ false → IsTrue a → ⊥
  not_both true e h = cc
  not_both false e h = cc

  are_free : (y : ℕ) (leaves : List Formula) → is_one_of keep y ≡ false → EachLeaf keep kind leaves → AreFree y leaves
  are_free y [] n h = tt
  are_free y (S ∷ leaves) n h =
      (free_unless y S (λ o. not_both (is_one_of keep y) n (kept_alone keep S y h.0.proper h.0.others_kept o)), are_free y leaves n h.1)

  pub what_leaves_hold : (l : Leaves) → IsProper F → AreLeaves keep kind F l → HoldKeptAlone keep l
  what_leaves_hold (all_of leaves) h w = λ y n. are_free y leaves n (each_leaf keep kind F leaves h w)
  what_leaves_hold true_everywhere h w = tt
  what_leaves_hold (failed_before f) h w = tt
