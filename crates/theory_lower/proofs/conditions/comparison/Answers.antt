use Rattle.std.proofs.Common.{subst}
use Rattle.theory_lowering.specs.Lowered.{IsConditionOn}
use Rattle.theory_syntax.specs.Plain.{expr_of}
use Rattle.theory_signs.specs.Plain.{formula_of}
use Rattle.theory_lower.proofs.FormLaws.{difference_is_form, difference_is_wide}
use Rattle.theory_lower.proofs.conditions.comparison.Goals as goal

pub returns-in_ok-condition-in-Ok-clause-written : goal.returns-in_ok-condition-in-Ok-clause-written
returns-in_ok-condition-in-Ok-clause-written c = (
  c.in-Ok.form,
  difference_is_form c.args.names.now (expr_of c.args.u.now) (expr_of c.args.v.now) c.form-left.result c.form-right.result c.combined.result
      c.in-Ok.form c.in-Ok.is c.form-left.ensures.value c.form-right.ensures.value c.combined.ensures,
  subst (λ S. IsConditionOn c.in-Ok.form S (formula_of c.in_ok-condition-in-Ok.field-0)) c.signs.ensures c.in_ok-condition-in-Ok.ensures,
)

pub returns-in_ok-condition-in-Ok-clause-wide : goal.returns-in_ok-condition-in-Ok-clause-wide
returns-in_ok-condition-in-Ok-clause-wide c =
    difference_is_wide c.args.names.now (expr_of c.args.u.now) (expr_of c.args.v.now) c.form-left.result c.form-right.result c.combined.result
    c.in-Ok.form c.in-Ok.is c.form-left.ensures.value c.form-right.ensures.value c.form-left.ensures.wide c.form-right.ensures.wide c.combined.ensures
