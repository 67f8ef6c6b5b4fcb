use Rattle.std.proofs.Common.{ap, [], ◌∷◌, ◌++◌, ◌∙◌}
use Rattle.theory_meaning.specs.Fraction.{Fraction}
use Rattle.theory_witness.proofs.ValueLemmas.{one_kept, one_skipped}
use Rattle.theory_witness.proofs.values.values_of_others.Goals as goal
use Rattle.theory_witness.proofs.values.values_of_others.Goals.{then-y-x+in_ok-push, else-y-x}

pub loop-y-preserved : goal.loop-y-preserved
loop-y-preserved c =
    let old = c.loop-y.others.items in
    elim c.if-y-x.branch [
      | then-y-x+in_ok-push w ↦
          rw w.others-is (one_kept c.args.count c.args.x c.loop-y.y c.args.values.now old c.loop-y-test.true c.loop-y.invariant w.push.new.self.items
          w.if-y-x.true (w.in_ok-push.ensures.items ∙ ap (λ (q : Fraction). old ++ (c.loop-y.y, q) ∷ []) w.value_of.ensures))
      | else-y-x w ↦
          rw w.others-is (one_skipped c.args.count c.args.x c.loop-y.y c.args.values.now old c.loop-y-test.true c.loop-y.invariant w.if-y-x.false)
    ]
