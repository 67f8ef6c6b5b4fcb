use Rattle.std.proofs.Common.{◌≡◌, length}
use Rattle.theory_meaning.specs.Fraction.{Fraction}
use Rattle.theory_elimination.specs.Elimination.{with_value}
use Rattle.theory_witness.proofs.values.fill_up.Given as goal

abbrev pub invariant-loop : goal.invariant-loop
invariant-loop l = record {
  counted : l.counter ≡ length l.values.items;
  same : (v : Fraction) → with_value l.x v l.values.items ≡ with_value l.x v l.initial.values.items;
}
