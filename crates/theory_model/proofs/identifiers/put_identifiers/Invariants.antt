use Rattle.std.proofs.Common.{drop}
use Rattle.theory_syntax.specs.Plain.{ops_of}
use Rattle.theory_meaning.specs.Edit.{PutsIdentifiers}
use Rattle.theory_model.proofs.identifiers.put_identifiers.Given as goal

abbrev pub invariant-loop-op : goal.invariant-loop-op
invariant-loop-op l = record {
  up : PutsIdentifiers (ops_of (drop l.op-index l.ops)) → PutsIdentifiers (ops_of l.ops);
  down : PutsIdentifiers (ops_of l.ops) → PutsIdentifiers (ops_of (drop l.op-index l.ops));
}
