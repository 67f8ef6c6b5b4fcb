use Rattle.std.proofs.Common.{◌∙◌, ◌++◌, sym, ap}
use Rattle.theory_search.specs.Atoms.{rows_of}
use Rattle.theory_search.specs.Outcomes.{stuck_other}
use Rattle.theory_search.proofs.FindingLemmas.{stuck_more}
use Rattle.theory_search.proofs.finding.stuck_atoms.Goals as goal

pub loop-x-preserved : goal.loop-x-preserved
loop-x-preserved c =
    let rows = rows_of c.args.atoms.now in
    c.in_ok-add_other.ensures ∙ ap (λ found. found ++ stuck_other c.args.keep.now rows c.loop-x.x) c.loop-x.invariant
    ∙ sym (stuck_more c.args.keep.now rows c.loop-x.x)
