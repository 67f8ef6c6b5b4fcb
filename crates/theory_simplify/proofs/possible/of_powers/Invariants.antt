use Rattle.std.proofs.Common.{◌≡◌, ◌-◌, drop}
use Rattle.theory_signed.specs.PossibleSigns.{of_powers, of_symbols}
use Rattle.theory_simplify.specs.Parts.{facts_of}
use Rattle.theory_simplify.proofs.SignLemmas.{from_place}
use Rattle.theory_simplify.proofs.possible.of_powers.Given as goal

abbrev pub invariant-loop-done : goal.invariant-loop-done
invariant-loop-done l = l.known ≡ of_powers (from_place (32 - l.done) (of_symbols (facts_of l.facts))) (drop (32 - l.done) l.powers)
