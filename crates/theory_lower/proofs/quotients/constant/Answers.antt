use Rattle.std.proofs.Common.{◌≡◌, arith, unsigned_abs, subst, w64}
use Rattle.std.proofs.lemmas.Int.{ints}
use mir.Val.{to_z, of_z}
use Rattle.theory_polynomial.specs.Polynomial.{constant_of, AreSame}
use Rattle.theory_polynomial.specs.RationalPolynomial.{IsLowestOf}
use Rattle.theory_lowering.specs.RationalFunction.{over}
use Rattle.theory_poly.proofs.QuotientLaws.{lowest_of_same, not_quotient_beyond}
use Rattle.theory_lower.proofs.quotients.constant.Goals as goal

-- what was made is the lowest form
lowest : (c : goal.After-lowest) → IsLowestOf (over (constant_of c.args.top) (unsigned_abs c.args.below)) c.lowest.result
lowest c =
    let top : to_z w64 (of_z w64 c.args.top) ≡ c.args.top = omega (arith, ints, c.requires.top) in
    let below : to_z w64 (of_z w64 c.args.below) ≡ c.args.below = omega (arith, ints, c.requires.low, c.requires.high) in
    let same = subst (λ n. AreSame c.in_ok-poly.poly (constant_of n)) top c.in_ok-poly.ensures.same in
    let value = subst (λ n. IsLowestOf (over c.in_ok-poly.poly (unsigned_abs n)) c.lowest.result) below c.lowest.ensures.value in
    lowest_of_same c.in_ok-poly.poly (constant_of c.args.top) (unsigned_abs c.args.below) c.lowest.result same value

pub returns-clause-value : goal.returns-clause-value
returns-clause-value c = lowest c

pub returns-clause-fits : goal.returns-clause-fits
returns-clause-fits c =
    not_quotient_beyond (over (constant_of c.args.top) (unsigned_abs c.args.below)) c.lowest.result (omega (arith, ints, c.requires.low))
    (lowest c) c.lowest.ensures.fits
