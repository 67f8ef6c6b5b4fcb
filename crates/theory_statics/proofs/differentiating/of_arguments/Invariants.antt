use Rattle.std.proofs.Common.{◌≡◌, drop}
use Rattle.theory_derivative.specs.Derivative as written
use Rattle.theory_syntax.specs.Plain.{expr_of, lines_of}
use Rattle.theory_statics.proofs.differentiating.of_arguments.Given as goal

abbrev pub invariant-loop-argument : goal.invariant-loop-argument
invariant-loop-argument l =
    written.of_arguments (lines_of l.lines) l.shift l.function (expr_of l.all) (drop l.argument-index l.arguments)
    ≡ written.of_arguments (lines_of l.lines) l.shift l.function (written.counted 0) l.arguments
