use Rattle.std.proofs.Common.{◌≡◌, ◌<◌, ℕ, length}
use Rattle.std.specs.Prelude.{get_or}
use Rattle.theory_signed.specs.CommonPowers.{odd_part}
use Rattle.theory_simplify.proofs.powers.odd_parts.Given as goal

abbrev pub invariant-loop-x : goal.invariant-loop-x
invariant-loop-x l = record {
  long : length l.odd ≡ 32;
  at : (j : ℕ) → j < l.x → get_or l.odd j 0 ≡ odd_part (get_or l.powers j 0);
}
