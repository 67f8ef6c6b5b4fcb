use Rattle.std.proofs.Common.{map, drop, ◌+◌}
use Rattle.theory_signs.specs.Plain.{formula_of}
use Rattle.theory_witness.proofs.RestrictionLemmas.{drop_step, restricted_more, grown_by_one}
use Rattle.theory_witness.proofs.restriction.+restricted.Goals as goal

pub all_restricted-loop-formula-preserved : goal.all_restricted-loop-formula-preserved
all_restricted-loop-formula-preserved t c =
    let i = c.loop-formula.formula-index in
    let Fs = c.args.formulas.now in
    let old = c.loop-formula.all.items in
    let new = c.keep.new.members.items in
    restricted_more c.args.values.now (map formula_of Fs) (map formula_of (drop i Fs)) (map formula_of (drop (i + 1) Fs)) (map formula_of old)
    (map formula_of new) _ (formula_of c.in-Ok.there) (drop_step Fs i _ c.loop-formula-test.true c.formula-item.is)
    (λ Gs. grown_by_one old new c.in-Ok.there Gs c.in_ok-keep-in-Ok.ensures) c.loop-formula.invariant c.in-Ok.ensures.written c.in-Ok.ensures.wide
