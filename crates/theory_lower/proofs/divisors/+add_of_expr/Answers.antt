use Rattle.std.proofs.Common.{[], ◌∷◌, ◌++◌, map}
use Rattle.theory_meaning.specs.Divisors.{divisors_of_expr}
use Rattle.theory_syntax.specs.Plain.{expr_of}
use Rattle.theory_signs.specs.Plain.{formula_of}
use Rattle.theory_lower.proofs.DivisorLemmas.{adds_both, adds_on, parts_of_expr, parts_of_quotient}
use Rattle.theory_lower.proofs.divisors.+add_of_expr.Goals as goal

pub returns-in-Ok-add_divisor-clause-written : goal.returns-in-Ok-add_divisor-clause-written
returns-in-Ok-add_divisor-clause-written t c =
    let ns = c.args.names.now in
    let u = expr_of c.deref.result.now in
    let v = expr_of c.deref-in-Ok.result.now in
    let old = map formula_of c.args.members.now.items in
    let first = map formula_of c.add_of_expr.new.members.items in
    let second = map formula_of c.add_divisor.new.members.items in
    let w = expr_of c.deref-in-Ok-add_divisor.result.now in
    let new = map formula_of c.add_of_expr-in-Ok-add_divisor.new.members.items in
    let before = adds_both ns (divisors_of_expr u) (v ∷ []) old first second c.in-Ok.ensures.written c.in-Ok-add_divisor.ensures.written in
    adds_on ns (divisors_of_expr u ++ v ∷ []) (divisors_of_expr w) (divisors_of_expr (expr_of c.args.expr.now)) old second new
    c.add_of_expr-in-Ok-add_divisor.result
    (parts_of_quotient c.args.expr.now c.in-Quot.u c.in-Quot.v c.deref.result.now c.deref-in-Ok.result.now c.deref-in-Ok-add_divisor.result.now c.in-Quot.is
    c.deref.ensures c.deref-in-Ok.ensures c.deref-in-Ok-add_divisor.ensures) before c.add_of_expr-in-Ok-add_divisor.ensures.written

pub returns-in-Ok-add_of_expr-clause-written : goal.returns-in-Ok-add_of_expr-clause-written
returns-in-Ok-add_of_expr-clause-written t c =
    let x = c.deref-in-Sum.result.now in
    let y = c.deref-in-Ok-add_of_expr.result.now in
    adds_on c.args.names.now (divisors_of_expr (expr_of x)) (divisors_of_expr (expr_of y)) (divisors_of_expr (expr_of c.args.expr.now))
    (map formula_of c.args.members.now.items) (map formula_of c.add_of_expr-in-Sum.new.members.items)
    (map formula_of c.add_of_expr-in-Ok-add_of_expr.new.members.items) c.add_of_expr-in-Ok-add_of_expr.result
    (parts_of_expr c.args.expr.now c.in-Sum.u c.in-Sum.v x y c.in-Sum.is c.deref-in-Sum.ensures c.deref-in-Ok-add_of_expr.ensures)
    c.in-Ok-add_of_expr.ensures.written c.add_of_expr-in-Ok-add_of_expr.ensures.written
