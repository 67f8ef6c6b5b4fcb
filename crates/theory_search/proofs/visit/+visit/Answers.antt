use Rattle.std.proofs.Common.{◌≡◌, ◌+◌, ◌<◌, length, IfOk, sym, ap, subst, arith}
use Rattle.std.specs.Prelude.{reverse}
use Rattle.theory_decision.specs.Finding.{IsNode}
use Rattle.theory_decision.specs.Search.{Visit, hit, below, first_failure}
use Rattle.theory_signs.specs.Plain.{formula_of}
use Rattle.theory_subst.specs.Plans.{plans_of, ArePlansOf}
use Rattle.theory_elimination.specs.Elimination.{IsLinear}
use Rattle.theory_search.specs.declared.progress.Progress.{Progress}
use Rattle.theory_search.specs.declared.visit.Entered.TheVariants.{Below}
use Rattle.theory_search.specs.declared.progress.Run.TheVariants.{GoesOn, Hit, Over}
use Rattle.theory_search.specs.Entered.{IsEntered}
use Rattle.theory_search.specs.Outcomes.{failure_of, path_of}
use Rattle.theory_search.specs.Runs.{node_of, progress_of, run_of}
use Rattle.theory_search.proofs.VisitLemmas.{hit_here, over_here, next_here, past_here, returned}
use Rattle.theory_search.proofs.visit.+visit.Goals as goal

pub branch_node-requires-clause-linear : goal.branch_node-requires-clause-linear
branch_node-requires-clause-linear g _ c =
    let k = c.args.policy.now.kind in
    let N = node_of c.args.node.now in
    let s = progress_of c.args.progress.now in
    let t = progress_of c.enter.new.progress in
    let entered : IsEntered c.args.keep.now k c.args.depth N s t (Below c.in-Below.x c.in-Below.simple) =
    subst (IsEntered c.args.keep.now k c.args.depth N s t) c.in-Below.is c.in_ok-enter.ensures
    in
    subst (λ F. IsLinear c.in-Below.x (formula_of F)) (sym c.loop-k.invariant.0) entered.0.linear

pub branch_node-requires-clause-planned : goal.branch_node-requires-clause-planned
branch_node-requires-clause-planned g _ c =
    subst (λ F. ArePlansOf c.in-Below.x (formula_of F) c.loop-k.plans-1) (sym c.loop-k.invariant.0)
    (subst (λ plans. ArePlansOf c.in-Below.x (formula_of c.in-Below.simple) plans) (sym c.loop-k.invariant.1) c.in_ok-plans-in-Below.ensures.written)

pub branch_node-requires-clause-within : goal.branch_node-requires-clause-within
branch_node-requires-clause-within g _ c =
    let many = c.len-k-end.ensures (formula_of c.in-Below.simple) in
    let here : c.loop-k.k < length (plans_of (formula_of c.in-Below.simple) c.in_ok-plans-in-Below.plans) = omega (arith, many, c.loop-k-test.true) in
    subst (λ F. c.loop-k.k < length (plans_of (formula_of F) c.loop-k.plans-1)) (sym c.loop-k.invariant.0)
    (subst (λ plans. c.loop-k.k < length (plans_of (formula_of c.in-Below.simple) plans)) (sym c.loop-k.invariant.1) here)

pub returns-in-Hit-2 : goal.returns-in-Hit-2
returns-in-Hit-2 g _ c =
    let k = c.args.policy.now.kind in
    let N = node_of c.args.node.now in
    let s = progress_of c.args.progress.now in
    let t = progress_of c.enter.new.progress in
    let S = formula_of c.in-Below.simple in
    let entered : IsEntered c.args.keep.now k c.args.depth N s t (Below c.in-Below.x c.in-Below.simple) =
    subst (IsEntered c.args.keep.now k c.args.depth N s t) c.in-Below.is c.in_ok-enter.ensures
    in
    let node : IsNode c.in-Below.x S c.loop-k.k (node_of c.in_ok-branch-in-Below.branch) =
    subst (λ F. IsNode c.in-Below.x (formula_of F) c.loop-k.k (node_of c.in_ok-branch-in-Below.branch)) c.loop-k.invariant.0
    c.in_ok-branch-in-Below.ensures
    in
    let went : Visit c.args.keep.now k (c.args.depth + 1) (node_of c.in_ok-branch-in-Below.branch) (progress_of c.loop-k.progress)
    (run_of (Hit c.in-Hit-2.path) c.visit.new.progress) =
    subst (λ r. Visit c.args.keep.now k (c.args.depth + 1) (node_of c.in_ok-branch-in-Below.branch) (progress_of c.loop-k.progress)
    (run_of r c.visit.new.progress))
    c.in-Hit-2.is c.in_ok-visit-in-Below.ensures
    in
    let path = path_of (reverse c.in-Hit-2.path.items) in
    returned c.args.keep.now k c.args.depth N s (below c.in-Below.x S (hit path)) c.hit_below.result _
    (subst (λ F. IfOk c.hit_below.result (λ r. (u : Progress) → run_of r u ≡ below c.in-Below.x (formula_of F) (hit path)))
    c.loop-k.invariant.0 c.hit_below.ensures)
    (hit_here c.args.keep.now k c.args.depth N s t c.in-Below.x S c.loop-k.k (progress_of c.loop-k.progress)
    (node_of c.in_ok-branch-in-Below.branch) path entered.1 c.loop-k.invariant.2 node went)

pub returns-in-Over-2 : goal.returns-in-Over-2
returns-in-Over-2 g _ c =
    let k = c.args.policy.now.kind in
    let N = node_of c.args.node.now in
    let s = progress_of c.args.progress.now in
    let t = progress_of c.enter.new.progress in
    let S = formula_of c.in-Below.simple in
    let entered : IsEntered c.args.keep.now k c.args.depth N s t (Below c.in-Below.x c.in-Below.simple) =
    subst (IsEntered c.args.keep.now k c.args.depth N s t) c.in-Below.is c.in_ok-enter.ensures
    in
    let node : IsNode c.in-Below.x S c.loop-k.k (node_of c.in_ok-branch-in-Below.branch) =
    subst (λ F. IsNode c.in-Below.x (formula_of F) c.loop-k.k (node_of c.in_ok-branch-in-Below.branch)) c.loop-k.invariant.0
    c.in_ok-branch-in-Below.ensures
    in
    let went : Visit c.args.keep.now k (c.args.depth + 1) (node_of c.in_ok-branch-in-Below.branch) (progress_of c.loop-k.progress)
    (run_of (Over c.in-Over-2.failure) c.visit.new.progress) =
    subst (λ r. Visit c.args.keep.now k (c.args.depth + 1) (node_of c.in_ok-branch-in-Below.branch) (progress_of c.loop-k.progress)
    (run_of r c.visit.new.progress))
    c.in-Over-2.is c.in_ok-visit-in-Below.ensures
    in
    over_here c.args.keep.now k c.args.depth N s t c.in-Below.x S c.loop-k.k (progress_of c.loop-k.progress) (node_of c.in_ok-branch-in-Below.branch)
    (first_failure (progress_of c.visit.new.progress) (failure_of c.in-Over-2.failure)) entered.1 c.loop-k.invariant.2 node went

pub loop-k-preserved : goal.loop-k-preserved
loop-k-preserved g _ c =
    let k = c.args.policy.now.kind in
    let N = node_of c.args.node.now in
    let s = progress_of c.args.progress.now in
    let t = progress_of c.enter.new.progress in
    let S = formula_of c.in-Below.simple in
    let entered : IsEntered c.args.keep.now k c.args.depth N s t (Below c.in-Below.x c.in-Below.simple) =
    subst (IsEntered c.args.keep.now k c.args.depth N s t) c.in-Below.is c.in_ok-enter.ensures
    in
    let node : IsNode c.in-Below.x S c.loop-k.k (node_of c.in_ok-branch-in-Below.branch) =
    subst (λ F. IsNode c.in-Below.x (formula_of F) c.loop-k.k (node_of c.in_ok-branch-in-Below.branch)) c.loop-k.invariant.0
    c.in_ok-branch-in-Below.ensures
    in
    let went : Visit c.args.keep.now k (c.args.depth + 1) (node_of c.in_ok-branch-in-Below.branch) (progress_of c.loop-k.progress)
    (run_of GoesOn c.visit.new.progress) =
    subst (λ r. Visit c.args.keep.now k (c.args.depth + 1) (node_of c.in_ok-branch-in-Below.branch) (progress_of c.loop-k.progress)
    (run_of r c.visit.new.progress))
    c.in-GoesOn-2.is c.in_ok-visit-in-Below.ensures
    in (
      c.loop-k.invariant.0,
      c.loop-k.invariant.1,
      next_here c.args.keep.now k c.args.depth N s t c.in-Below.x S c.loop-k.k (progress_of c.loop-k.progress) (progress_of c.visit.new.progress)
          (node_of c.in_ok-branch-in-Below.branch) c.loop-k.invariant.2 node went,
    )

pub returns-after-loop-k : goal.returns-after-loop-k
returns-after-loop-k g _ c =
    let k = c.args.policy.now.kind in
    let N = node_of c.args.node.now in
    let s = progress_of c.args.progress.now in
    let t = progress_of c.enter.new.progress in
    let S = formula_of c.in-Below.simple in
    let entered : IsEntered c.args.keep.now k c.args.depth N s t (Below c.in-Below.x c.in-Below.simple) =
    subst (IsEntered c.args.keep.now k c.args.depth N s t) c.in-Below.is c.in_ok-enter.ensures
    in
    let many = c.len-k-end.ensures S in
    let same = ap length c.in_ok-plans-in-Below.ensures.written in
    past_here c.args.keep.now k c.args.depth N s t c.in-Below.x S c.loop-k.k (progress_of c.loop-k.progress) entered.1 c.loop-k.invariant.2
    (omega (arith, many, same, c.loop-k-test.false))
