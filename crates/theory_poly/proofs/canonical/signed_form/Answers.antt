use Rattle.std.proofs.Common.{◌≡◌, sym, ap, ◌∙◌, subst, arith}
use Rattle.std.proofs.lemmas.Result.{IfOk-weaker}
use Rattle.theory_poly.specs.Kept.{IsSignedForm}
use Rattle.theory_polynomial.specs.Polynomial.{scaled}
use Rattle.theory_poly.proofs.CanonicalLaws.{kept_multiplied, kept_form, signed_form_of, unit_within}
use Rattle.theory_poly.proofs.canonical.signed_form.Goals as goal

pub primitive-requires-clause-ordered : goal.primitive-requires-clause-ordered
primitive-requires-clause-ordered c =
    (kept_multiplied c.args.turned c.args.terms.now c.in_ok-all.all.items c.deref.result.now
    (c.in_ok-all.ensures ∙ ap (λ z. scaled z c.args.terms.now) (unit_within c.args.turned c.unit.result c.unit.ensures))
    c.deref.ensures.value c.requires).ordered

pub primitive-requires-clause-small : goal.primitive-requires-clause-small
primitive-requires-clause-small c =
    let kept = kept_multiplied c.args.turned c.args.terms.now c.in_ok-all.all.items c.deref.result.now
    (c.in_ok-all.ensures ∙ ap (λ z. scaled z c.args.terms.now) (unit_within c.args.turned c.unit.result c.unit.ensures)) c.deref.ensures.value c.requires in
    omega (arith, kept.within.coefficients)

pub narrowed-requires : goal.narrowed-requires
narrowed-requires c =
    kept_form c.args.turned c.args.terms.now c.in_ok-all.all.items c.deref.result.now c.in_ok-least.least.items c.deref-2.result.now
    (c.in_ok-all.ensures ∙ ap (λ z. scaled z c.args.terms.now) (unit_within c.args.turned c.unit.result c.unit.ensures)) c.deref.ensures.value
    c.in_ok-least.ensures
    c.deref-2.ensures.value c.requires

pub returns : goal.returns
returns c =
    IfOk-weaker c.narrowed.result (λ r. r ≡ c.deref-2.result.now) (IsSignedForm c.args.turned c.args.terms.now)
    (λ r is. subst (IsSignedForm c.args.turned c.args.terms.now) (sym (is ∙ c.deref-2.ensures.value))
    (signed_form_of c.args.turned c.args.terms.now c.in_ok-all.all.items c.deref.result.now c.in_ok-least.least.items
    (c.in_ok-all.ensures ∙ ap (λ z. scaled z c.args.terms.now) (unit_within c.args.turned c.unit.result c.unit.ensures)) c.deref.ensures.value
    c.in_ok-least.ensures)) c.narrowed.ensures
