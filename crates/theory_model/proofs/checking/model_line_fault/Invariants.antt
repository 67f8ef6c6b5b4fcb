use Rattle.std.proofs.Common.{◌≡◌, take, drop}
use Rattle.theory_meaning.specs.ModelFault.{first_that, has_fault, line_with}
use Rattle.theory_meaning.specs.declared.words.ModelKind.TheVariants.{ModelLine}
use Rattle.theory_syntax.specs.Plain.{lines_of}
use Rattle.theory_model.proofs.checking.model_line_fault.Given as goal

abbrev pub invariant-loop-k : goal.invariant-loop-k
invariant-loop-k l =
    line_with ModelLine (lines_of l.lines) ≡ first_that (has_fault ModelLine (lines_of l.lines)) (lines_of (take l.k l.lines)) (lines_of (drop l.k l.lines))
