use Rattle.std.proofs.Common.{arith, ◌+◌, ◌-◌, ◌∙◌}
use Rattle.theory_signed.specs.PossibleSigns.{of_symbols}
use Rattle.theory_simplify.specs.Parts.{facts_of}
use Rattle.theory_simplify.proofs.SignLemmas.{from_place, none_left, place_step}
use Rattle.theory_simplify.proofs.possible.of_powers.Goals as goal

pub loop-done-init : goal.loop-done-init
loop-done-init c = none_left (from_place 32 (of_symbols (facts_of c.args.facts.now))) c.args.powers.now 32 (omega (arith, c.told-powers))

pub loop-done-preserved : goal.loop-done-preserved
loop-done-preserved c =
    let done = c.loop-done.done in
    let below = c.loop-done-test.true in
    c.with_power-known.ensures
    ∙ place_step (of_symbols (facts_of c.args.facts.now)) c.args.powers.now (31 - done) (32 - done) (32 - (done + 1)) c.loop-done.known
    (omega (arith, c.told-powers)) (omega (arith, below)) (omega (arith, below)) c.loop-done.invariant
