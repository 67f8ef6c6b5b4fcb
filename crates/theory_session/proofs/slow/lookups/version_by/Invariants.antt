use Rattle.std.proofs.Common.{◌≡◌, drop}
use Rattle.theory_session.specs.Editing as editing
use Rattle.theory_session.specs.Lookup as lookup
use Rattle.theory_session.specs.SlowDesk.{entries_of}
use Rattle.theory_session.proofs.slow.lookups.version_by.Given as goal

abbrev pub invariant-loop-version : goal.invariant-loop-version
invariant-loop-version g l =
    editing.with_id l.id (lookup.versions_of l.model (entries_of g.T.Text.lines (drop l.version-index l.versions)))
    ≡ editing.with_id l.id (lookup.versions_of l.model (entries_of g.T.Text.lines l.versions))
