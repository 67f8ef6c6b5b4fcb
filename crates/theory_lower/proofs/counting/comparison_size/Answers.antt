use Rattle.theory_meaning.specs.Divisors.{divisors_of_expr}
use Rattle.theory_syntax.specs.Plain.{expr_of}
use Rattle.std.proofs.Common.{arith}
use Rattle.theory_lower.proofs.CountLemmas.{count_of_order}
use Rattle.theory_lower.proofs.counting.comparison_size.Goals as goal

pub returns-in-Lt : goal.returns-in-Lt
returns-in-Lt c =
    count_of_order c.args.rel (divisors_of_expr (expr_of c.args.u.now)) (divisors_of_expr (expr_of c.args.v.now)) c.divisors.result c.divisors-2.result
    c.total.result c.divisors.ensures c.divisors-2.ensures c.total.ensures (λ e. let no = c.if-total-eq0.false in absurd (omega (arith, e, no))) c.in-Lt.is
