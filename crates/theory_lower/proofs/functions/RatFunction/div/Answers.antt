use Rattle.std.proofs.Common.{[], length, sym, ap, ◌∙◌, subst, inl}
use Rattle.theory_polynomial.specs.RationalPolynomial.{Quotient, IsLowestOf}
use Rattle.theory_lowering.specs.RationalFunction.{over}
use Rattle.theory_lower.proofs.FunctionLaws.{none_where, not_over_zero}
use Rattle.theory_lower.proofs.QuotientParts.{zero_is_lowest}
use Rattle.theory_lower.proofs.functions.RatFunction.div.Goals as goal

pub returns-in_ok-whole-clause-value : goal.returns-in_ok-whole-clause-value
returns-in_ok-whole-clause-value c =
    let is = c.terms.ensures.value ∙ c.top-2.ensures.value ∙ ap (λ (q : Quotient). q.top) c.top.ensures.value in
    let none = none_where c.args.other.now.top.top c.len.result (c.len.ensures ∙ c.terms.result.now.ok.0 ∙ ap length is) c.if-len-eq0.true in
    inl (record {
      none = none;
      whole = record {
        top_is = subst (IsLowestOf (over [] 1)) (sym c.in_ok-whole.ensures.top) (zero_is_lowest c.in_ok-constant.field-0 c.in_ok-constant.ensures.value);
        bottom_is = c.in_ok-whole.ensures.bottom;
      };
    })

pub returns-in_ok-whole-clause-wide : goal.returns-in_ok-whole-clause-wide
returns-in_ok-whole-clause-wide c =
    let is = c.terms.ensures.value ∙ c.top-2.ensures.value ∙ ap (λ (q : Quotient). q.top) c.top.ensures.value in
    let none = none_where c.args.other.now.top.top c.len.result (c.len.ensures ∙ c.terms.result.now.ok.0 ∙ ap length is) c.if-len-eq0.true in
    not_over_zero c.args.self.now c.args.other.now none
