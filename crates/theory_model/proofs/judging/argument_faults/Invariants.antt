use Rattle.std.proofs.Common.{◌≡◌, ◌||◌, drop}
use Rattle.std.specs.List.{list_any}
use Rattle.theory_meaning.specs.ModelFault.{is_undeclared, has_bad_argument}
use Rattle.theory_syntax.specs.Plain.{lines_of}
use Rattle.theory_model.proofs.judging.argument_faults.Given as goal

abbrev pub invariant-loop-k : goal.invariant-loop-k
invariant-loop-k l =
    let lines = lines_of l.keys.lines.now in
    record {
      unknown : (l.unknown_name || list_any (is_undeclared lines) (drop l.k l.arguments)) ≡ list_any (is_undeclared lines) l.arguments;
      bad : (l.bad_argument || has_bad_argument lines (drop l.k l.arguments)) ≡ has_bad_argument lines l.arguments;
    }
