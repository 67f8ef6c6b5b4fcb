use Rattle.std.proofs.Common.{◌≡◌, ◌++◌, drop, codes}
use Rattle.theory_grammar.specs.Printed.{further}
use Rattle.theory_print.proofs.line.add_arguments.Given as goal

abbrev pub invariant-loop-argument : goal.invariant-loop-argument
invariant-loop-argument l = l.text ++ further (codes " ") (drop l.argument-index l.arguments) ≡ l.initial.text ++ further (codes " ") l.arguments
