use Rattle.std.proofs.Common.{◌∙◌, ◌+◌, ap, sym, subst, map, arith}
use Rattle.theory_signs.specs.Plain.{formula_of}
use Rattle.theory_subst.specs.Points.{point_of}
use Rattle.theory_subst.proofs.OthersLemmas.{IsMade, left_is_wide, made_more, made_past, all_made}
use Rattle.theory_subst.proofs.others.others_at.Goals.{then-k-place+in-Ok+in_ok-keep-in-Ok, else-k-place}
use Rattle.theory_subst.proofs.others.others_at.Goals as goal

pub returns-in-Err-clause-wide : goal.returns-in-Err-clause-wide
returns-in-Err-clause-wide c =
    left_is_wide c.args.x c.args.place c.loop-k.k (point_of c.args.at.now) c.args.members.now c.index-members-k.result c.in-Err.limit c.loop-k-test.true
    c.index-members-k.is c.if-k-place.true c.in-Err.ensures.wide

pub loop-k-preserved : goal.loop-k-preserved
loop-k-preserved c =
    elim c.if-k-place.branch [
      | then-k-place+in-Ok+in_ok-keep-in-Ok w ↦
          made_more c.args.x c.args.place c.loop-k.k (point_of c.args.at.now) c.args.members.now c.index-members-k.result w.in-Ok.there
          c.loop-k.others.items c.if-k-place.others.items c.loop-k-test.true c.index-members-k.is w.if-k-place.true
          (ap (λ all. all.items) w.others-is ∙ w.in_ok-keep-in-Ok.ensures) w.in-Ok.ensures.written w.in-Ok.ensures.wide c.loop-k.invariant
      | else-k-place w ↦
          subst (λ all. IsMade c.args.x c.args.place (point_of c.args.at.now) c.args.members.now (c.loop-k.k + 1) (map formula_of all.items))
          (sym w.others-is)
          (made_past c.args.x c.args.place c.loop-k.k (point_of c.args.at.now) c.args.members.now c.index-members-k.result
          (map formula_of c.loop-k.others.items) c.loop-k-test.true c.index-members-k.is w.if-k-place.false c.loop-k.invariant)
    ]

pub returns-clause-written : goal.returns-clause-written
returns-clause-written c =
    all_made c.args.x c.args.place c.loop-k.k (point_of c.args.at.now) c.args.members.now (map formula_of c.loop-k.others.items) (omega arith)
    c.loop-k.invariant
