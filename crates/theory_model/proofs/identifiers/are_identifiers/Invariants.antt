use Rattle.std.proofs.Common.{drop}
use Rattle.std.specs.List.{AllByRecursion}
use Rattle.theory_meaning.specs.Identifier.{IsIdentifier}
use Rattle.theory_model.proofs.identifiers.are_identifiers.Given as goal

abbrev pub invariant-loop-name : goal.invariant-loop-name
invariant-loop-name l = record {
  up : AllByRecursion IsIdentifier (drop l.name-index l.names) → AllByRecursion IsIdentifier l.names;
  down : AllByRecursion IsIdentifier l.names → AllByRecursion IsIdentifier (drop l.name-index l.names);
}
