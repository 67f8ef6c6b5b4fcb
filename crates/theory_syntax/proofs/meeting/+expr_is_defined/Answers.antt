use Rattle.std.proofs.Common.{sym, ap, ◌∙◌}
use Rattle.theory_meaning.specs.Divisors.{divisors_of_expr}
use Rattle.theory_syntax.specs.Plain.{expr_of}
use Rattle.theory_syntax.proofs.DivisorLemmas.{nonzero_of_parts, nonzero_of_quotient}
use Rattle.theory_syntax.proofs.TreeLemmas.{tree-Sum, tree-Diff, tree-Prod, tree-Quot}
use Rattle.theory_syntax.proofs.TruthLemmas.{told_of}
use Rattle.theory_syntax.proofs.meeting.+expr_is_defined.Goals as goal

pub returns-in_ok-expr_is_defined-in-Sum-2 : goal.returns-in_ok-expr_is_defined-in-Sum-2
returns-in_ok-expr_is_defined-in-Sum-2 t c =
    let u = c.deref.result.now in
    let v = c.deref-in-Sum.result.now in
    let e = c.args.expr.now in
    nonzero_of_parts (divisors_of_expr (expr_of u)) (divisors_of_expr (expr_of v)) (divisors_of_expr (expr_of e)) c.args.point.now
    c.in_ok-expr_is_defined-in-Sum.field-0 c.in_ok-expr_is_defined-in-Sum-2.field-0
    (ap divisors_of_expr (tree-Sum e c.in-Sum.u c.in-Sum.v u v c.in-Sum.is c.deref.ensures c.deref-in-Sum.ensures))
    c.in_ok-expr_is_defined-in-Sum.ensures c.in_ok-expr_is_defined-in-Sum-2.ensures

pub returns-in_ok-expr_is_defined-in-Diff-2 : goal.returns-in_ok-expr_is_defined-in-Diff-2
returns-in_ok-expr_is_defined-in-Diff-2 t c =
    let u = c.deref-in-Diff.result.now in
    let v = c.deref-in-Diff-2.result.now in
    let e = c.args.expr.now in
    nonzero_of_parts (divisors_of_expr (expr_of u)) (divisors_of_expr (expr_of v)) (divisors_of_expr (expr_of e)) c.args.point.now
    c.in_ok-expr_is_defined-in-Diff.field-0 c.in_ok-expr_is_defined-in-Diff-2.field-0
    (ap divisors_of_expr (tree-Diff e c.in-Diff.u c.in-Diff.v u v c.in-Diff.is c.deref-in-Diff.ensures c.deref-in-Diff-2.ensures))
    c.in_ok-expr_is_defined-in-Diff.ensures c.in_ok-expr_is_defined-in-Diff-2.ensures

pub returns-in_ok-expr_is_defined-in-Prod-2 : goal.returns-in_ok-expr_is_defined-in-Prod-2
returns-in_ok-expr_is_defined-in-Prod-2 t c =
    let u = c.deref-in-Prod.result.now in
    let v = c.deref-in-Prod-2.result.now in
    let e = c.args.expr.now in
    nonzero_of_parts (divisors_of_expr (expr_of u)) (divisors_of_expr (expr_of v)) (divisors_of_expr (expr_of e)) c.args.point.now
    c.in_ok-expr_is_defined-in-Prod.field-0 c.in_ok-expr_is_defined-in-Prod-2.field-0
    (ap divisors_of_expr (tree-Prod e c.in-Prod.u c.in-Prod.v u v c.in-Prod.is c.deref-in-Prod.ensures c.deref-in-Prod-2.ensures))
    c.in_ok-expr_is_defined-in-Prod.ensures c.in_ok-expr_is_defined-in-Prod-2.ensures

pub returns-in_ok-expr_is_defined-in-Quot-2 : goal.returns-in_ok-expr_is_defined-in-Quot-2
returns-in_ok-expr_is_defined-in-Quot-2 t c =
    let u = c.deref-in-Quot-2.result.now in
    let v = c.deref-in-Quot-3.result.now in
    let e = c.args.expr.now in
    let f = c.in_ok-value-in-Quot.field-0 in
    let p = c.args.point.now in
    let found = told_of p f _ _ (c.deref-in-Quot.ensures ∙ sym c.deref-in-Quot-3.ensures) c.in_ok-value-in-Quot.ensures in
    nonzero_of_quotient (divisors_of_expr (expr_of u)) (divisors_of_expr (expr_of v)) (divisors_of_expr (expr_of e)) (expr_of v) p
    c.in_ok-expr_is_defined-in-Quot.field-0 c.is_nonzero-tested.result c.in_ok-expr_is_defined-in-Quot-2.field-0 f
    (ap divisors_of_expr (tree-Quot e c.in-Quot.u c.in-Quot.v u v c.in-Quot.is c.deref-in-Quot-2.ensures c.deref-in-Quot-3.ensures))
    c.in_ok-expr_is_defined-in-Quot.ensures c.is_nonzero-tested.ensures found.same c.in_ok-expr_is_defined-in-Quot-2.ensures
