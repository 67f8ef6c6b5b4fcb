use Rattle.std.proofs.Common.{◌≡◌, ◌++◌}
use Rattle.theory_decision.specs.Witness.{other_values}
use Rattle.theory_witness.proofs.ValueLemmas.{others_from}
use Rattle.theory_witness.proofs.values.values_of_others.Given as goal

abbrev pub invariant-loop-y : goal.invariant-loop-y
invariant-loop-y l = l.others.items ++ others_from l.count l.x l.values l.y ≡ other_values l.count l.x l.values
