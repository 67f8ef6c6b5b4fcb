use Rattle.std.proofs.Common.{refl, ap}
use Rattle.theory_meaning.specs.Divisors.{divisors_of_expr}
use Rattle.theory_syntax.specs.Plain.{expr_of}
use Rattle.theory_syntax.proofs.DivisorLemmas.{divides_on_the_left, divides_itself}
use Rattle.theory_syntax.proofs.TreeLemmas.{tree-Sum, tree-Diff, tree-Prod, tree-Quot}
use Rattle.theory_syntax.proofs.dividing.+expr_divides.Goals as goal

pub returns-then-expr_divides : goal.returns-then-expr_divides
returns-then-expr_divides t c =
    let u = c.deref.result.now in
    let v = c.in-Sum.v.value in
    let e = c.args.expr.now in
    divides_on_the_left (divisors_of_expr (expr_of u)) (divisors_of_expr (expr_of v)) (divisors_of_expr (expr_of e)) c.expr_divides.result
    (ap divisors_of_expr (tree-Sum e c.in-Sum.u c.in-Sum.v u v c.in-Sum.is c.deref.ensures refl)) c.if-expr_divides.true
    c.expr_divides.ensures

pub returns-then-expr_divides-2 : goal.returns-then-expr_divides-2
returns-then-expr_divides-2 t c =
    let u = c.deref-in-Diff.result.now in
    let v = c.in-Diff.v.value in
    let e = c.args.expr.now in
    divides_on_the_left (divisors_of_expr (expr_of u)) (divisors_of_expr (expr_of v)) (divisors_of_expr (expr_of e)) c.expr_divides-in-Diff.result
    (ap divisors_of_expr (tree-Diff e c.in-Diff.u c.in-Diff.v u v c.in-Diff.is c.deref-in-Diff.ensures refl)) c.if-expr_divides-2.true
    c.expr_divides-in-Diff.ensures

pub returns-then-expr_divides-3 : goal.returns-then-expr_divides-3
returns-then-expr_divides-3 t c =
    let u = c.deref-in-Prod.result.now in
    let v = c.in-Prod.v.value in
    let e = c.args.expr.now in
    divides_on_the_left (divisors_of_expr (expr_of u)) (divisors_of_expr (expr_of v)) (divisors_of_expr (expr_of e)) c.expr_divides-in-Prod.result
    (ap divisors_of_expr (tree-Prod e c.in-Prod.u c.in-Prod.v u v c.in-Prod.is c.deref-in-Prod.ensures refl)) c.if-expr_divides-3.true
    c.expr_divides-in-Prod.ensures

pub returns-in-Quot : goal.returns-in-Quot
returns-in-Quot t c =
    let u = c.in-Quot.field-0.value in
    let v = c.in-Quot.field-1.value in
    let e = c.args.expr.now in
    divides_itself (divisors_of_expr (expr_of u)) (divisors_of_expr (expr_of v)) (divisors_of_expr (expr_of e)) (expr_of v)
    (ap divisors_of_expr (tree-Quot e c.in-Quot.field-0 c.in-Quot.field-1 u v c.in-Quot.is refl refl))
