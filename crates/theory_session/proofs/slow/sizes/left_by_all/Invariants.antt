use Rattle.std.proofs.Common.{◌≡◌, ◌+◌, drop}
use Rattle.theory_session.specs.Sizes.{size_in, most_bytes}
use Rattle.theory_session.specs.SlowDesk.{entries_of}
use Rattle.theory_session.proofs.slow.sizes.left_by_all.Given as goal

abbrev pub invariant-loop-version : goal.invariant-loop-version
invariant-loop-version g l =
    l.left + size_in (entries_of g.T.Text.lines l.versions) ≡ most_bytes + size_in (entries_of g.T.Text.lines (drop l.version-index l.versions))
