use Rattle.std.proofs.Common.{ap, ◌∙◌}
use Rattle.theory_syntax.specs.Plain.{expr_of, lines_of}
use Rattle.theory_statics.proofs.SlopeLemmas.{has_the_slope}
use Rattle.theory_statics.proofs.differentiating.total_derivative.Goals as goal

pub returns-clause-slope : goal.returns-clause-slope
returns-clause-slope c =
    has_the_slope (lines_of c.as_slice.result.now) (lines_of c.args.model.now) c.args.shift.now (expr_of c.args.expr.now) c.derivative.result
    (ap lines_of (c.as_slice.ensures.value ∙ c.text_of.ensures.lines)) c.derivative.ensures
