use Rattle.std.proofs.Common.{drop}
use Rattle.theory_meaning.specs.Edit.{HaveIdentifiers}
use Rattle.theory_syntax.specs.Plain.{lines_of}
use Rattle.theory_model.proofs.identifiers.have_identifiers.Given as goal

abbrev pub invariant-loop-numbered : goal.invariant-loop-numbered
invariant-loop-numbered l = record {
  up : HaveIdentifiers (lines_of (drop l.numbered-index l.lines)) → HaveIdentifiers (lines_of l.lines);
  down : HaveIdentifiers (lines_of l.lines) → HaveIdentifiers (lines_of (drop l.numbered-index l.lines));
}
