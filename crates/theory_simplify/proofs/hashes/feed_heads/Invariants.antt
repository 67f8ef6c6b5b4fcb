use Rattle.std.proofs.Common.{◌≡◌, drop, map}
use Rattle.theory_formula.specs.Formula.{formulas_from}
use Rattle.theory_simplify.specs.Drafts.{draft_of}
use Rattle.theory_simplify.specs.Hashes.{with_heads}
use Rattle.theory_simplify.proofs.hashes.feed_heads.Given as goal

abbrev pub invariant-loop-draft : goal.invariant-loop-draft
invariant-loop-draft l =
    with_heads l.hasher (formulas_from (map draft_of (drop l.draft-index l.drafts)))
    ≡ with_heads l.fn.hasher (formulas_from (map draft_of l.drafts))
