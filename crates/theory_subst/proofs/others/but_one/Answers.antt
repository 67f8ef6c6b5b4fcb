use Rattle.std.proofs.Common.{◌∙◌, ap, map, arith}
use Rattle.theory_signs.specs.Plain.{formula_of}
use Rattle.theory_subst.proofs.MemberLemmas.{others_grow, others_stay, others_all}
use Rattle.theory_subst.proofs.others.but_one.Goals.{then-place-at+in_ok-copy+in_ok-push, else-place-at}
use Rattle.theory_subst.proofs.others.but_one.Goals as goal

pub loop-place-preserved : goal.loop-place-preserved
loop-place-preserved c =
    elim c.if-place-at.branch [
      | then-place-at+in_ok-copy+in_ok-push w ↦
          ap (λ all. map formula_of all.items) w.others-is ∙ ap (map formula_of) w.in_ok-push.ensures.items
          ∙ others_grow c.args.at c.loop-place.place c.args.members.now c.loop-place.others.items c.index-members-place.result w.in_ok-copy.field-0
          c.loop-place-test.true c.index-members-place.is w.if-place-at.true w.in_ok-copy.ensures c.loop-place.invariant
      | else-place-at w ↦
          ap (λ all. map formula_of all.items) w.others-is
          ∙ others_stay c.args.at c.loop-place.place c.args.members.now c.loop-place.others.items c.index-members-place.result
          c.loop-place-test.true c.index-members-place.is w.if-place-at.false c.loop-place.invariant
    ]

pub returns : goal.returns
returns c = others_all c.args.at c.loop-place.place c.args.members.now c.loop-place.others.items (omega arith) c.loop-place.invariant
