use Rattle.std.proofs.Common.{◌≡◌, ◌+◌, ◌≤◌, drop}
use Rattle.theory_session.specs.Lookup as lookup
use Rattle.theory_session.specs.SlowDesk.{entries_of}
use Rattle.theory_session.proofs.slow.lookups.last_version.Given as goal

abbrev pub invariant-loop-version : goal.invariant-loop-version
invariant-loop-version g l =
    (l.count ≤ l.version-index)
    × (l.count + lookup.last_version l.model (entries_of g.T.Text.lines (drop l.version-index l.versions))
    ≡ lookup.last_version l.model (entries_of g.T.Text.lines l.versions))
