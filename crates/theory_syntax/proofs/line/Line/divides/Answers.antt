use Rattle.std.proofs.Common.{sym, ap}
use Rattle.theory_meaning.specs.Divisors.{divisors_of_expr, divisors_of_line}
use Rattle.theory_syntax.specs.declared.line.Line.{Line}
use Rattle.theory_syntax.specs.Plain.{expr_of, line_of}
use Rattle.theory_syntax.proofs.DivisorLemmas.{divides_on_the_left}
use Rattle.theory_syntax.proofs.line.Line.divides.Goals as goal

pub returns-then-expr_divides : goal.returns-then-expr_divides
returns-then-expr_divides c =
    let u = c.in-Eq.u in
    let v = c.in-Eq.v in
    divides_on_the_left (divisors_of_expr (expr_of u)) (divisors_of_expr (expr_of v)) (divisors_of_line (line_of c.args.self.now)) c.expr_divides.result
    (sym (ap (λ (l : Line). divisors_of_line (line_of l)) c.in-Eq.is)) c.if-expr_divides.true c.expr_divides.ensures
