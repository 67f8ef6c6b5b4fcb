use Rattle.std.proofs.Common.{◌≡◌, map, take}
use Rattle.theory_lowering.specs.WrittenClaim.{written_claim}
use Rattle.theory_syntax.specs.Plain.{claim_of}
use Rattle.theory_signs.specs.Plain.{formula_of}
use Rattle.theory_lower.proofs.claims.+written.Given as goal

abbrev pub invariant-all_written-loop-formula : goal.invariant-all_written-loop-formula
invariant-all_written-loop-formula l = map claim_of l.all.items ≡ map (written_claim l.names) (map formula_of (take l.formula-index l.formulas))
