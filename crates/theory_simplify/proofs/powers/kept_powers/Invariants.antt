use Rattle.std.proofs.Common.{◌≡◌, ◌<◌, ◌+◌, ◌-◌, ℕ, length}
use Rattle.std.specs.Prelude.{get_or}
use Rattle.theory_simplify.proofs.powers.kept_powers.Given as goal

abbrev pub invariant-loop-x : goal.invariant-loop-x
invariant-loop-x l = record {
  long : length l.left ≡ 32;
  at : (j : ℕ) → j < l.x → get_or l.left j 0 ≡ get_or l.kept j 0 + (get_or l.powers j 0 - get_or l.common j 0);
}
