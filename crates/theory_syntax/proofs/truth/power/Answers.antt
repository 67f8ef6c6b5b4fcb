use Rattle.std.proofs.Common.{◌≡◌, ℕ, suc, ◌+◌, subst, arith}
use Rattle.theory_meaning.proofs.OrderLaws.{same_trans, same_itself}
use Rattle.theory_meaning.proofs.ValueLaws.{product_respects}
use Rattle.theory_meaning.specs.Fraction.{product_of, power_of, IsSame}
use Rattle.theory_syntax.proofs.PowerLemmas.{wide_power}
use Rattle.theory_syntax.proofs.truth.power.Goals as goal

pub returns-in-None : goal.returns-in-None
returns-in-None c =
    wide_power c.args.q c.loop.all c.loop.counter c.args.k c.requires c.loop.invariant.0 (omega (arith, c.loop-test.true)) c.in-None.ensures.value

pub loop-preserved : goal.loop-preserved
loop-preserved c =
    let q = c.args.q in
    let next = c.in-Some.next in
    let k = c.loop.counter in
    let one_more : suc k ≡ k + 1 = omega arith in
    let raised = same_trans next (product_of c.loop.all q) (power_of q (suc k)) c.in-Some.ensures.value
    (product_respects c.loop.all (power_of q k) q q c.loop.invariant.0 (same_itself q)) in
    (subst (λ (n : ℕ). IsSame next (power_of q n)) one_more raised, c.in-Some.ensures.kept)
