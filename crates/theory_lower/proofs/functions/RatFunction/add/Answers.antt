use Rattle.std.proofs.Common.{◌≡◌, IfOk, sym, ◌∙◌, subst, subst₂}
use Rattle.std.proofs.lemmas.Bool.{both_ways}
use Rattle.theory_polynomial.specs.Polynomial.{IsPolynomialOf, IsBeyond}
use Rattle.theory_polynomial.specs.RationalPolynomial.{IsLowestOf, IsQuotientBeyond}
use Rattle.theory_poly.specs.Answers.{WideWhere}
use Rattle.theory_poly.specs.Hashes.{is_same, same_polynomials}
use Rattle.theory_lower.specs.Combined.{signed_sum}
use Rattle.theory_lower.proofs.FunctionLaws.{paired_value, paired_wide, common_value, common_wide}
use Rattle.theory_lower.proofs.functions.RatFunction.add.Goals as goal

pub over_both-requires : goal.over_both-requires
over_both-requires c =
    λ e.
    let first = c.bottom.result.now in
    let second = c.bottom-2.result.now in
    let same = (same_polynomials first second).1 (c.bottom.ensures.value ∙ e ∙ sym c.bottom-2.ensures.value) in
    absurd (both_ways (is_same first second) (sym c.eq.ensures ∙ c.if-eq.false) same)

-- the bottoms are found equal where they are
equal : (c : goal.After-paired) → c.args.self.now.bottom ≡ c.args.other.now.bottom
equal c =
    sym c.bottom.ensures.value ∙ (same_polynomials c.bottom.result.now c.bottom-2.result.now).0 (sym c.eq.ensures ∙ c.if-eq.true) ∙ c.bottom-2.ensures.value

pub returns-then-eq-clause-value : goal.returns-then-eq-clause-value
returns-then-eq-clause-value c =
    let a = c.args.self.now in
    let b = c.args.other.now in
    let op = signed_sum c.args.minus in
    common_value op a b c.paired.result (equal c)
    (paired_value (op a.top b.top) a.bottom c.added-top.result c.kept.result c.paired.result
    (subst₂ (λ q r. IfOk c.added-top.result (IsLowestOf (op q r))) c.top.ensures.value c.top-then-eq.ensures.value c.added-top.ensures.value)
    (subst (λ P. IfOk c.kept.result (IsPolynomialOf P)) c.bottom-then-eq.ensures.value c.kept.ensures.value) c.paired.ensures)

pub returns-then-eq-clause-wide : goal.returns-then-eq-clause-wide
returns-then-eq-clause-wide c =
    let a = c.args.self.now in
    let b = c.args.other.now in
    let op = signed_sum c.args.minus in
    common_wide op a b c.paired.result (equal c)
    (paired_wide (op a.top b.top) a.bottom c.added-top.result c.kept.result c.paired.result
    (subst₂ (λ q r. WideWhere (IsQuotientBeyond (op q r)) c.added-top.result) c.top.ensures.value c.top-then-eq.ensures.value c.added-top.ensures.wide)
    (subst (λ P. WideWhere (IsBeyond P) c.kept.result) c.bottom-then-eq.ensures.value c.kept.ensures.wide) c.paired.ensures)
