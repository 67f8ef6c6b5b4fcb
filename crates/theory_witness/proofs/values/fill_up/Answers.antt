use Rattle.std.proofs.Common.{ap, [], ◌∷◌, ◌++◌, ◌∙◌, arith}
use Rattle.theory_meaning.specs.Fraction.{Fraction}
use Rattle.theory_witness.proofs.ValueLemmas.{one_filled, one_longer}
use Rattle.theory_witness.proofs.values.fill_up.Goals as goal

pub loop-preserved : goal.loop-preserved
loop-preserved c =
    let old = c.loop.values.items in
    let new = c.push.new.self.items in
    let here = c.loop.invariant.counted in
    let test = c.loop-test.true in
    let adds = c.in_ok-push.ensures.items ∙ ap (λ (q : Fraction). old ++ q ∷ []) c.zero.ensures in
    record {
      counted = one_longer c.loop.counter old new here adds;
      same = one_filled c.args.x c.args.values.now.items old new (omega (arith, here, test)) adds c.loop.invariant.same;
    }
