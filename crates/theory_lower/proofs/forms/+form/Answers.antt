use Rattle.std.proofs.Common.{IfOk, subst}
use Rattle.theory_polynomial.specs.RationalPolynomial.{sum_of_quotients, difference_of_quotients}
use Rattle.theory_lowering.specs.RationalFunction.{IsJoinOf, IsProductOf, IsQuotientOf}
use Rattle.theory_lowering.specs.Lowered.{IsFormOf}
use Rattle.theory_lowering.specs.LoweringLimits.{IsWideJoin, IsWideProduct, IsWideOver, IsWideExpr}
use Rattle.theory_poly.specs.Answers.{WideWhere}
use Rattle.theory_syntax.specs.Plain.{expr_of}
use Rattle.theory_lowering.proofs.SingleLowered.{form}
use Rattle.theory_lower.proofs.FormLaws.{combined_value, combined_wide, opposed_value, opposed_wide, raised_value, raised_wide}
use Rattle.theory_lower.proofs.TreeLemmas.{tree-Sum, tree-Diff, tree-Prod, tree-Neg, tree-Pow, tree-Quot}
use Rattle.theory_lower.proofs.forms.+form.Goals as goal

pub returns-in-Sum-clause-value : goal.returns-in-Sum-clause-value
returns-in-Sum-clause-value t c =
    let ns = c.args.names.now in
    let u = c.deref.result.now in
    let v = c.deref-in-Sum.result.now in
    subst (λ e. IfOk c.combined.result (IsFormOf ns e)) (tree-Sum c.args.expr.now c.in-Sum.u c.in-Sum.v u v c.in-Sum.is c.deref.ensures
    c.deref-in-Sum.ensures)
    (combined_value (IsJoinOf sum_of_quotients) (IsWideJoin sum_of_quotients) (IsFormOf ns (expr_of u)) (IsFormOf ns (expr_of v)) c.form.result c.form-in-Sum.result c.combined.result
    c.form.ensures.value c.form-in-Sum.ensures.value c.combined.ensures)

pub returns-in-Sum-clause-wide : goal.returns-in-Sum-clause-wide
returns-in-Sum-clause-wide t c =
    let ns = c.args.names.now in
    let u = c.deref.result.now in
    let v = c.deref-in-Sum.result.now in
    subst (λ e. WideWhere (IsWideExpr ns e) c.combined.result) (tree-Sum c.args.expr.now c.in-Sum.u c.in-Sum.v u v c.in-Sum.is c.deref.ensures
    c.deref-in-Sum.ensures)
    (combined_wide (IsJoinOf sum_of_quotients) (IsWideJoin sum_of_quotients) (IsFormOf ns (expr_of u)) (IsFormOf ns (expr_of v)) (IsWideExpr ns (expr_of u)) (IsWideExpr ns (expr_of v))
    c.form.result c.form-in-Sum.result c.combined.result (form ns (expr_of u)) (form ns (expr_of v))
    c.form.ensures.value c.form-in-Sum.ensures.value c.form.ensures.wide c.form-in-Sum.ensures.wide c.combined.ensures)

pub returns-in-Diff-clause-value : goal.returns-in-Diff-clause-value
returns-in-Diff-clause-value t c =
    let ns = c.args.names.now in
    let u = c.deref-in-Diff.result.now in
    let v = c.deref-in-Diff-2.result.now in
    subst (λ e. IfOk c.combined-in-Diff.result (IsFormOf ns e)) (tree-Diff c.args.expr.now c.in-Diff.u c.in-Diff.v u v c.in-Diff.is
    c.deref-in-Diff.ensures c.deref-in-Diff-2.ensures)
    (combined_value (IsJoinOf difference_of_quotients) (IsWideJoin difference_of_quotients) (IsFormOf ns (expr_of u)) (IsFormOf ns (expr_of v)) c.form-in-Diff.result c.form-in-Diff-2.result
    c.combined-in-Diff.result
    c.form-in-Diff.ensures.value c.form-in-Diff-2.ensures.value c.combined-in-Diff.ensures)

pub returns-in-Diff-clause-wide : goal.returns-in-Diff-clause-wide
returns-in-Diff-clause-wide t c =
    let ns = c.args.names.now in
    let u = c.deref-in-Diff.result.now in
    let v = c.deref-in-Diff-2.result.now in
    subst (λ e. WideWhere (IsWideExpr ns e) c.combined-in-Diff.result) (tree-Diff c.args.expr.now c.in-Diff.u c.in-Diff.v u v c.in-Diff.is
    c.deref-in-Diff.ensures c.deref-in-Diff-2.ensures)
    (combined_wide (IsJoinOf difference_of_quotients) (IsWideJoin difference_of_quotients) (IsFormOf ns (expr_of u)) (IsFormOf ns (expr_of v)) (IsWideExpr ns (expr_of u)) (IsWideExpr ns (expr_of v))
    c.form-in-Diff.result c.form-in-Diff-2.result c.combined-in-Diff.result (form ns (expr_of u)) (form ns (expr_of v))
    c.form-in-Diff.ensures.value c.form-in-Diff-2.ensures.value c.form-in-Diff.ensures.wide c.form-in-Diff-2.ensures.wide
    c.combined-in-Diff.ensures)

pub returns-in-Prod-clause-value : goal.returns-in-Prod-clause-value
returns-in-Prod-clause-value t c =
    let ns = c.args.names.now in
    let u = c.deref-in-Prod.result.now in
    let v = c.deref-in-Prod-2.result.now in
    subst (λ e. IfOk c.combined-in-Prod.result (IsFormOf ns e)) (tree-Prod c.args.expr.now c.in-Prod.u c.in-Prod.v u v c.in-Prod.is
    c.deref-in-Prod.ensures c.deref-in-Prod-2.ensures)
    (combined_value IsProductOf IsWideProduct (IsFormOf ns (expr_of u)) (IsFormOf ns (expr_of v)) c.form-in-Prod.result c.form-in-Prod-2.result
    c.combined-in-Prod.result
    c.form-in-Prod.ensures.value c.form-in-Prod-2.ensures.value c.combined-in-Prod.ensures)

pub returns-in-Prod-clause-wide : goal.returns-in-Prod-clause-wide
returns-in-Prod-clause-wide t c =
    let ns = c.args.names.now in
    let u = c.deref-in-Prod.result.now in
    let v = c.deref-in-Prod-2.result.now in
    subst (λ e. WideWhere (IsWideExpr ns e) c.combined-in-Prod.result) (tree-Prod c.args.expr.now c.in-Prod.u c.in-Prod.v u v c.in-Prod.is
    c.deref-in-Prod.ensures c.deref-in-Prod-2.ensures)
    (combined_wide IsProductOf IsWideProduct (IsFormOf ns (expr_of u)) (IsFormOf ns (expr_of v)) (IsWideExpr ns (expr_of u)) (IsWideExpr ns (expr_of v))
    c.form-in-Prod.result c.form-in-Prod-2.result c.combined-in-Prod.result (form ns (expr_of u)) (form ns (expr_of v))
    c.form-in-Prod.ensures.value c.form-in-Prod-2.ensures.value c.form-in-Prod.ensures.wide c.form-in-Prod-2.ensures.wide
    c.combined-in-Prod.ensures)

pub returns-in-Quot-clause-value : goal.returns-in-Quot-clause-value
returns-in-Quot-clause-value t c =
    let ns = c.args.names.now in
    let u = c.deref-in-Quot.result.now in
    let v = c.deref-in-Quot-2.result.now in
    subst (λ e. IfOk c.combined-in-Quot.result (IsFormOf ns e)) (tree-Quot c.args.expr.now c.in-Quot.u c.in-Quot.v u v c.in-Quot.is
    c.deref-in-Quot.ensures c.deref-in-Quot-2.ensures)
    (combined_value IsQuotientOf IsWideOver (IsFormOf ns (expr_of u)) (IsFormOf ns (expr_of v)) c.form-in-Quot.result c.form-in-Quot-2.result
    c.combined-in-Quot.result
    c.form-in-Quot.ensures.value c.form-in-Quot-2.ensures.value c.combined-in-Quot.ensures)

pub returns-in-Quot-clause-wide : goal.returns-in-Quot-clause-wide
returns-in-Quot-clause-wide t c =
    let ns = c.args.names.now in
    let u = c.deref-in-Quot.result.now in
    let v = c.deref-in-Quot-2.result.now in
    subst (λ e. WideWhere (IsWideExpr ns e) c.combined-in-Quot.result) (tree-Quot c.args.expr.now c.in-Quot.u c.in-Quot.v u v c.in-Quot.is
    c.deref-in-Quot.ensures c.deref-in-Quot-2.ensures)
    (combined_wide IsQuotientOf IsWideOver (IsFormOf ns (expr_of u)) (IsFormOf ns (expr_of v)) (IsWideExpr ns (expr_of u)) (IsWideExpr ns (expr_of v))
    c.form-in-Quot.result c.form-in-Quot-2.result c.combined-in-Quot.result (form ns (expr_of u)) (form ns (expr_of v))
    c.form-in-Quot.ensures.value c.form-in-Quot-2.ensures.value c.form-in-Quot.ensures.wide c.form-in-Quot-2.ensures.wide
    c.combined-in-Quot.ensures)

pub returns-in-Neg-clause-value : goal.returns-in-Neg-clause-value
returns-in-Neg-clause-value t c =
    let ns = c.args.names.now in
    let u = c.deref-in-Neg.result.now in
    subst (λ e. IfOk c.opposed.result (IsFormOf ns e)) (tree-Neg c.args.expr.now c.in-Neg.u u c.in-Neg.is c.deref-in-Neg.ensures)
    (opposed_value (IsFormOf ns (expr_of u)) c.form-in-Neg.result c.opposed.result c.form-in-Neg.ensures.value c.opposed.ensures)

pub returns-in-Neg-clause-wide : goal.returns-in-Neg-clause-wide
returns-in-Neg-clause-wide t c =
    let ns = c.args.names.now in
    let u = c.deref-in-Neg.result.now in
    subst (λ e. WideWhere (IsWideExpr ns e) c.opposed.result) (tree-Neg c.args.expr.now c.in-Neg.u u c.in-Neg.is c.deref-in-Neg.ensures)
    (opposed_wide (IsFormOf ns (expr_of u)) (IsWideExpr ns (expr_of u)) c.form-in-Neg.result c.opposed.result (form ns (expr_of u))
    c.form-in-Neg.ensures.value c.form-in-Neg.ensures.wide c.opposed.ensures)

pub returns-in-Pow-clause-value : goal.returns-in-Pow-clause-value
returns-in-Pow-clause-value t c =
    let ns = c.args.names.now in
    let u = c.deref-in-Pow.result.now in
    subst (λ e. IfOk c.raised.result (IsFormOf ns e)) (tree-Pow c.args.expr.now c.in-Pow.u c.in-Pow.exponent u c.in-Pow.is c.deref-in-Pow.ensures)
    (raised_value (IsFormOf ns (expr_of u)) c.in-Pow.exponent c.form-in-Pow.result c.raised.result c.form-in-Pow.ensures.value c.raised.ensures)

pub returns-in-Pow-clause-wide : goal.returns-in-Pow-clause-wide
returns-in-Pow-clause-wide t c =
    let ns = c.args.names.now in
    let u = c.deref-in-Pow.result.now in
    subst (λ e. WideWhere (IsWideExpr ns e) c.raised.result) (tree-Pow c.args.expr.now c.in-Pow.u c.in-Pow.exponent u c.in-Pow.is c.deref-in-Pow.ensures)
    (raised_wide (IsFormOf ns (expr_of u)) (IsWideExpr ns (expr_of u)) c.in-Pow.exponent c.form-in-Pow.result c.raised.result (form ns (expr_of u))
    c.form-in-Pow.ensures.value c.form-in-Pow.ensures.wide c.raised.ensures)
