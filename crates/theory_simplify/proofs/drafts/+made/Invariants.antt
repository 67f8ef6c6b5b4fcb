use Rattle.std.proofs.Common.{◌≡◌, map, take}
use Rattle.theory_signs.specs.Plain.{formula_of}
use Rattle.theory_simplify.specs.Drafts.{draft_of}
use Rattle.theory_simplify.proofs.drafts.+made.Given as goal

abbrev pub invariant-to_formulas-loop-draft : goal.invariant-to_formulas-loop-draft
invariant-to_formulas-loop-draft l = map formula_of l.all.items ≡ map draft_of (take l.draft-index l.drafts)
