use Rattle.std.proofs.Common.{◌≡◌, take}
use Rattle.theory_signed.specs.CommonPowers.{without_powers, with_powers}
use Rattle.theory_simplify.proofs.powers.with_kept_powers.Given as goal

abbrev pub invariant-loop-term : goal.invariant-loop-term
invariant-loop-term l = l.terms.items ≡ with_powers l.kept (without_powers l.common (take l.term-index l.poly))
