use Rattle.std.proofs.Common.{rules, arith}
use Rattle.theory_polynomial.specs.Polynomial.{symbol_of}
use Rattle.theory_polynomial.specs.RationalPolynomial.{IsLowestOf}
use Rattle.theory_lowering.specs.RationalFunction.{over}
use Rattle.theory_lowering.specs.Lowered.{place_of}
use Rattle.theory_poly.proofs.QuotientLaws.{not_quotient_beyond}
use Rattle.theory_lower.proofs.quotients.symbol.Goals as goal

pub returns-clause-fits : goal.returns-clause-fits
returns-clause-fits c =
    let value : IsLowestOf (over (symbol_of (place_of c.args.name.now c.args.names.now)) 1) c.lowest.result = search rules in
    not_quotient_beyond (over (symbol_of (place_of c.args.name.now c.args.names.now)) 1) c.lowest.result (omega arith) value c.lowest.ensures.fits
