use Rattle.theory_polynomial.specs.PolynomialValue.{IsWideRestriction}
use Rattle.theory_decision.specs.Witness.{IsWideAtValues}
use Rattle.theory_witness.proofs.RestrictionLemmas.{held_next, held_wide, wide_as}
use Rattle.theory_witness.proofs.restriction.at_values.Goals as goal

pub returns-in-Err-clause-wide : goal.returns-in-Err-clause-wide
returns-in-Err-clause-wide c =
    let a = c.loop-symbol-item.result in
    wide_as (IsWideRestriction a.0 a.1 c.loop-symbol.held) (IsWideAtValues c.args.values.now c.args.poly.now)
    (held_wide c.args.values.now c.loop-symbol.symbol-index a c.args.poly.now c.loop-symbol.held c.loop-symbol-test.true c.loop-symbol-item.is
    c.loop-symbol.invariant) c.in-Err.limit c.in-Err.ensures.wide

pub loop-symbol-preserved : goal.loop-symbol-preserved
loop-symbol-preserved c =
    held_next c.args.values.now c.loop-symbol.symbol-index c.loop-symbol-item.result c.args.poly.now c.loop-symbol.held c.loop-symbol-test.true
    c.loop-symbol-item.is c.loop-symbol.invariant c.in-Ok.next c.in-Ok.ensures.written c.in-Ok.ensures.wide
