use Rattle.std.proofs.Common.{◌≡◌, ◌<◌, ℕ, length, min}
use Rattle.std.specs.Prelude.{get_or}
use Rattle.theory_simplify.proofs.powers.least_powers.Given as goal

abbrev pub invariant-loop-x : goal.invariant-loop-x
invariant-loop-x l = record {
  long : length l.least ≡ 32;
  at : (j : ℕ) → j < l.x → get_or l.least j 0 ≡ min (get_or l.first j 0) (get_or l.second j 0);
}
