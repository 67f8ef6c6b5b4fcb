use Rattle.std.proofs.Common.{◌∙◌, sym, ap, subst}
use Rattle.theory_signs.specs.Plain.{formula_of}
use Rattle.theory_search.specs.Outcomes.{failure_of}
use Rattle.theory_search.specs.Runs.{node_of, finding_of, progress_of, IsReady}
use Rattle.theory_search.proofs.VisitLemmas.{spent_here, closed_here, found_here, failed_here, leaf_here, branched_here}
use Rattle.theory_search.proofs.visit.enter.Goals as goal

pub returns-then-progress-ge20000 : goal.returns-then-progress-ge20000
returns-then-progress-ge20000 g c =
    spent_here c.args.keep.now c.args.policy.now.kind c.args.depth (node_of c.args.node.now) (progress_of c.args.progress.now) c.if-progress-ge20000.true

pub returns-in-Nowhere : goal.returns-in-Nowhere
returns-in-Nowhere g c =
    closed_here c.args.keep.now c.args.policy.now.kind c.args.depth (node_of c.args.node.now) (progress_of c.args.progress.now) (progress_of c.count.new.self)
    c.if-progress-ge20000.false (sym c.in_ok-finding.ensures.written ∙ ap finding_of c.in-Nowhere.is) c.count.ensures

pub returns-in-Everywhere : goal.returns-in-Everywhere
returns-in-Everywhere g c =
    found_here c.args.keep.now c.args.policy.now.kind c.args.depth (node_of c.args.node.now) (progress_of c.args.progress.now)
    c.if-progress-ge20000.false (sym c.in_ok-finding.ensures.written ∙ ap finding_of c.in-Everywhere.is)

pub returns-in-Fails : goal.returns-in-Fails
returns-in-Fails g c =
    failed_here c.args.keep.now c.args.policy.now.kind c.args.depth (node_of c.args.node.now) (progress_of c.args.progress.now) (progress_of c.meet.new.self)
    (failure_of c.in-Fails.failure) c.if-progress-ge20000.false (sym c.in_ok-finding.ensures.written ∙ ap finding_of c.in-Fails.is) c.meet.ensures

pub returns-in-Eliminates : goal.returns-in-Eliminates
returns-in-Eliminates g c = (
  subst (IsReady c.args.depth) c.in-Eliminates.is c.in_ok-finding.ensures.ready,
  branched_here c.args.keep.now c.args.policy.now.kind c.args.depth (node_of c.args.node.now) (progress_of c.args.progress.now)
      (progress_of c.count-in-Eliminates.new.self) c.in-Eliminates.x (formula_of c.in-Eliminates.simple) c.if-progress-ge20000.false
      (sym c.in_ok-finding.ensures.written ∙ ap finding_of c.in-Eliminates.is) c.count-in-Eliminates.ensures,
)

pub returns-in-Leaf : goal.returns-in-Leaf
returns-in-Leaf g c =
    leaf_here c.args.keep.now c.args.policy.now.kind c.args.depth (node_of c.args.node.now) (progress_of c.args.progress.now)
    (progress_of c.keep_leaf.new.progress) (formula_of c.in-Leaf.leaf) c.keep_leaf.result c.if-progress-ge20000.false
    (sym c.in_ok-finding.ensures.written ∙ ap finding_of c.in-Leaf.is) c.keep_leaf.ensures
