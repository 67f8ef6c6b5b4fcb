use Rattle.std.proofs.Common.{drop}
use Rattle.std.specs.List.{AllByRecursion}
use Rattle.theory_grammar.specs.RoundTrip.{NothingDividesInEdit}
use Rattle.theory_syntax.specs.Plain.{ops_of}
use Rattle.theory_versions.proofs.beginning.nothing_divides_in.Given as goal

-- where nothing divides in the operations that are left, nothing does in all, and the other way round
abbrev pub invariant-loop-op : goal.invariant-loop-op
invariant-loop-op l = record {
  up : AllByRecursion NothingDividesInEdit (ops_of (drop l.op-index l.ops)) → AllByRecursion NothingDividesInEdit (ops_of l.ops);
  down : AllByRecursion NothingDividesInEdit (ops_of l.ops) → AllByRecursion NothingDividesInEdit (ops_of (drop l.op-index l.ops));
}
