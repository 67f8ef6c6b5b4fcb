use Rattle.std.proofs.Common.{◌≡◌, ◌≤◌, ◌*◌, take}
use Rattle.std.specs.List.{sum}
use Rattle.theory_simplify.proofs.symbols.total.Given as goal

abbrev pub invariant-loop-power : goal.invariant-loop-power
invariant-loop-power l = record {
  summed : l.sum ≡ sum (take l.power-index l.powers);
  small : l.sum ≤ 255 * l.power-index;
}
