use Rattle.std.proofs.Common.{◌≡◌, ◌++◌, map, drop}
use Rattle.theory_session.specs.Lookup as lookup
use Rattle.theory_session.specs.SlowDesk.{entries_of, pair_of}
use Rattle.theory_session.proofs.slow.telling.models.Given as goal

abbrev pub invariant-loop-version : goal.invariant-loop-version
invariant-loop-version g l =
    map pair_of l.models.items
    ++ map (λ model. (model, lookup.last_version model (entries_of g.T.Text.lines l.versions))) (lookup.models_in (entries_of g.T.Text.lines (drop l.version-index l.versions)))
    ≡ lookup.listed_in (entries_of g.T.Text.lines l.versions)
