use Rattle.std.proofs.Common.{arith}
use Rattle.theory_points.proofs.SimplestLemmas.{quotient_is_below, turn_goes_on, turn_is_least, turn_within_sum}
use Rattle.theory_points.proofs.between.+simplest.Goals as goal
use Rattle.theory_points.proofs.between.+simplest.Goals.{After-simplest-rest}

pub overflow_mul-taken : goal.overflow_mul-taken
overflow_mul-taken t c =
    let lo = c.args.lo in let hi = c.args.hi in
    omega (arith, quotient_is_below lo.top lo.bottom hi.top hi.bottom c.requires.apart)

pub overflow_add-taken : goal.overflow_add-taken
overflow_add-taken t c =
    let lo = c.args.lo in let hi = c.args.hi in
    omega (arith, quotient_is_below lo.top lo.bottom hi.top hi.bottom c.requires.apart)

pub overflow_sub-turned_hi : goal.overflow_sub-turned_hi
overflow_sub-turned_hi t c =
    let lo = c.args.lo in let hi = c.args.hi in
    omega (arith, quotient_is_below lo.top lo.bottom hi.top hi.bottom c.requires.apart)

pub simplest-rest-requires : goal.simplest-rest-requires
simplest-rest-requires t c =
    let lo = c.args.lo in let hi = c.args.hi in
    let turn = turn_goes_on lo.top lo.bottom hi.top hi.bottom c.requires.apart c.if-taken-hi.false in
    (omega (arith, c.decreases, turn), (turn.0, (omega arith, omega (arith, turn))))

pub overflow_mul-result : goal.overflow_mul-result
overflow_mul-result t c =
    let lo = c.args.lo in let hi = c.args.hi in let rest = c.simplest-rest in
    omega (arith, turn_within_sum lo.top lo.bottom hi.top hi.bottom rest.result.top rest.result.bottom c.requires.apart rest.ensures)

pub overflow_add-result-2 : goal.overflow_add-result-2
overflow_add-result-2 t c =
    let lo = c.args.lo in let hi = c.args.hi in let rest = c.simplest-rest in
    omega (arith, turn_within_sum lo.top lo.bottom hi.top hi.bottom rest.result.top rest.result.bottom c.requires.apart rest.ensures)

pub returns : goal.returns
returns t c =
    let lo = c.args.lo in let hi = c.args.hi in
    turn_is_least lo.top lo.bottom hi.top hi.bottom _ _ c.requires.apart c.simplest-rest.ensures
