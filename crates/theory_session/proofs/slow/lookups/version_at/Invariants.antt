use Rattle.std.proofs.Common.{◌≡◌, slice_get, drop}
use Rattle.theory_session.specs.Lookup as lookup
use Rattle.theory_session.specs.SlowDesk.{entries_of}
use Rattle.theory_session.proofs.slow.lookups.version_at.Given as goal

abbrev pub invariant-loop-version : goal.invariant-loop-version
invariant-loop-version g l =
    slice_get (lookup.versions_of l.model (entries_of g.T.Text.lines (drop l.version-index l.versions))) l.before
    ≡ lookup.version_at l.model l.number (entries_of g.T.Text.lines l.versions)
