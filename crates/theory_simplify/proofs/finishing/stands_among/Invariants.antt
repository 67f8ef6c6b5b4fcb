use Rattle.std.proofs.Common.{◌≡◌, drop, map}
use Rattle.std.specs.List.{list_any}
use Rattle.theory_elimination.specs.SameFormula.{is_same}
use Rattle.theory_simplify.specs.Drafts.{draft_of}
use Rattle.theory_simplify.proofs.finishing.stands_among.Given as goal

abbrev pub invariant-loop-place : goal.invariant-loop-place
invariant-loop-place l =
    list_any (is_same (draft_of l.draft)) (map draft_of (drop l.place l.drafts))
    ≡ list_any (is_same (draft_of l.draft)) (map draft_of l.drafts)
