use Rattle.std.proofs.Common.{◌≡◌, false, sym, ap, subst, ◌∙◌}
use Rattle.theory_polynomial.specs.PolynomialValue.{Values}
use Rattle.theory_decision.specs.Choice.{Symbols, is_one_of}
use Rattle.theory_witness.specs.Path.{step_of, IsWideAt}
use Rattle.theory_witness.proofs.StepLemmas.{wide_err}
use Rattle.theory_witness.proofs.stepping.add_step.Goals as goal

pub returns-in_ok-put_first-in-Ok-clause-wide : goal.returns-in_ok-put_first-in-Ok-clause-wide
returns-in_ok-put_first-in-Ok-clause-wide c h =
    c.in-Ok.ensures.wide (subst (λ (p : Values). IsWideAt c.args.count (step_of c.args.step.now) p) (sym c.deref-2.ensures.value) h.1)

pub returns-in-Err-clause-wide : goal.returns-in-Err-clause-wide
returns-in-Err-clause-wide c =
    let n = c.args.count in
    let s = step_of c.args.step.now in
    wide_err (IsWideAt n s c.deref-2.result.now) ((is_one_of c.args.given.now.items s.symbol ≡ false) × IsWideAt n s c.args.values.now.items) (λ h. (
      ap (λ (g : Symbols). is_one_of g s.symbol) (sym c.deref.ensures.value) ∙ sym c.is_given.ensures ∙ c.if-is_given.false,
      subst (λ (p : Values). IsWideAt n s p) c.deref-2.ensures.value h,
    )) c.in-Err.limit c.in-Err.ensures.wide
