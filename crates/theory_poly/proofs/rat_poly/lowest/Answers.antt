use Rattle.std.proofs.Common.{◌/◌, inl, inr, refl, sym, ◌∙◌, subst, arith}
use Rattle.theory_polynomial.specs.Polynomial.{IsPolynomial, PassesLimit}
use Rattle.theory_polynomial.specs.RationalPolynomial.{IsLowestOf, IsQuotientBeyond}
use Rattle.theory_poly.specs.Kept.{quotient_of}
use Rattle.theory_poly.proofs.StepLaws.{limit_weaker}
use Rattle.theory_poly.proofs.QuotientLaws.{lowest_by_division, not_quotient_beyond, kept_quotient, kept_is_no_passing}
use Rattle.theory_poly.proofs.rat_poly.lowest.Goals as goal

pub returns-then-below-divisor-gt-W-clause-wide : goal.returns-then-below-divisor-gt-W-clause-wide
returns-then-below-divisor-gt-W-clause-wide c = (
  quotient_of c.in_ok-least.least.items (c.args.below / c.divisor_with-divisor.result),
  lowest_by_division c.args.terms.now c.in_ok-least.least.items c.args.below c.divisor_with-divisor.result (c.args.below / c.divisor_with-divisor.result)
      c.requires.ordered c.requires.positive c.divisor_with-divisor.ensures.value c.in_ok-least.ensures refl,
  inr c.if-below-divisor-gt-W.true,
)

pub judged-requires : goal.judged-requires
judged-requires c =
    let form = lowest_by_division c.args.terms.now c.in_ok-least.least.items c.args.below c.divisor_with-divisor.result
    (c.args.below / c.divisor_with-divisor.result)
    c.requires.ordered c.requires.positive c.divisor_with-divisor.ensures.value c.in_ok-least.ensures refl in
    subst IsPolynomial (sym c.deref.ensures.value) form.lowest.ordered

pub invariant_of-result : goal.invariant_of-result
invariant_of-result c =
    kept_quotient (quotient_of c.args.terms.now c.args.below) c.in_ok-least.least.items c.in-Ok.top (c.args.below / c.divisor_with-divisor.result)
    (lowest_by_division c.args.terms.now c.in_ok-least.least.items c.args.below c.divisor_with-divisor.result (c.args.below / c.divisor_with-divisor.result)
    c.requires.ordered c.requires.positive c.divisor_with-divisor.ensures.value c.in_ok-least.ensures refl)
    (c.in-Ok.ensures.value ∙ c.deref.ensures.value) (λ passes. c.in-Ok.ensures.wide (subst PassesLimit (sym c.deref.ensures.value) passes))
    (omega (arith, c.if-below-divisor-gt-W.false))

-- the lowest form
lowest_form : (c : goal.After-drop-least-in-Ok)
    → IsLowestOf (quotient_of c.args.terms.now c.args.below) (quotient_of c.in-Ok.top (c.args.below / c.divisor_with-divisor.result))
lowest_form c =
    subst (λ z. IsLowestOf (quotient_of c.args.terms.now c.args.below) (quotient_of z (c.args.below / c.divisor_with-divisor.result)))
    (sym (c.in-Ok.ensures.value ∙ c.deref.ensures.value))
    (lowest_by_division c.args.terms.now c.in_ok-least.least.items c.args.below c.divisor_with-divisor.result (c.args.below / c.divisor_with-divisor.result)
    c.requires.ordered c.requires.positive c.divisor_with-divisor.ensures.value c.in_ok-least.ensures refl)

pub returns-in-Ok-clause-value : goal.returns-in-Ok-clause-value
returns-in-Ok-clause-value c = lowest_form c

pub returns-in-Ok-clause-wide : goal.returns-in-Ok-clause-wide
returns-in-Ok-clause-wide c =
    not_quotient_beyond (quotient_of c.args.terms.now c.args.below) (quotient_of c.in-Ok.top (c.args.below / c.divisor_with-divisor.result))
    c.requires.positive (lowest_form c)
    (kept_is_no_passing (quotient_of c.in-Ok.top (c.args.below / c.divisor_with-divisor.result))
    (kept_quotient (quotient_of c.args.terms.now c.args.below) c.in-Ok.top c.in-Ok.top
    (c.args.below / c.divisor_with-divisor.result) (lowest_form c) refl
    (λ passes. c.in-Ok.ensures.wide (subst PassesLimit c.in-Ok.ensures.value passes)) (omega (arith, c.if-below-divisor-gt-W.false))))

pub returns-clause-wide : goal.returns-clause-wide
returns-clause-wide c =
    limit_weaker (PassesLimit c.deref.result.now) (IsQuotientBeyond (quotient_of c.args.terms.now c.args.below)) c.in-Err.limit
    (λ passes. (
      quotient_of c.in_ok-least.least.items (c.args.below / c.divisor_with-divisor.result),
      lowest_by_division c.args.terms.now c.in_ok-least.least.items c.args.below c.divisor_with-divisor.result (c.args.below / c.divisor_with-divisor.result)
          c.requires.ordered c.requires.positive c.divisor_with-divisor.ensures.value c.in_ok-least.ensures refl,
      inl (subst PassesLimit c.deref.ensures.value passes),
    )) c.in-Err.ensures.wide
