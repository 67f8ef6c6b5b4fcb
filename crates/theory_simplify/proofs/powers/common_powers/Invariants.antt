use Rattle.std.proofs.Common.{◌≡◌, drop}
use Rattle.theory_signed.specs.CommonPowers.{common_powers}
use Rattle.theory_simplify.proofs.PowerLemmas.{least_with}
use Rattle.theory_simplify.proofs.powers.common_powers.Given as goal

abbrev pub invariant-loop-term : goal.invariant-loop-term
invariant-loop-term l = least_with l.common (drop l.term-index l.terms) ≡ common_powers l.terms
