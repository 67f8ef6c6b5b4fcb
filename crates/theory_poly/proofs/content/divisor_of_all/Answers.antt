use Rattle.std.proofs.Common.{◌<◌, unsigned_abs, get_or, rules, to_z-of_z, sym, ap, ◌∙◌, subst}
use Rattle.std.specs.Int.{w128, IsGcd}
use mir.Val.{SFits}
use Rattle.theory_poly.proofs.HeightLaws.{nothing}
use Rattle.theory_poly.proofs.ContentLaws.{nonzero_at, divisor_more}
use Rattle.theory_poly.proofs.content.divisor_of_all.Goals as goal

pub common_divisor-common-requires : goal.common_divisor-common-requires
common_divisor-common-requires c =
    let fits : SFits w128 (get_or c.args.terms.now c.loop-t.t-index nothing).coefficient = search rules in
    subst (λ n. 0 < n) (sym (c.unsigned_abs.ensures.value ∙ ap unsigned_abs (to_z-of_z fits)))
    (nonzero_at c.args.terms.now c.loop-t.t-index nothing c.loop-t-test.true c.requires)

pub loop-t-preserved : goal.loop-t-preserved
loop-t-preserved c =
    let fits : SFits w128 (get_or c.args.terms.now c.loop-t.t-index nothing).coefficient = search rules in
    divisor_more c.args.terms.now c.loop-t.t-index nothing c.loop-t.common c.common_divisor-common.result c.loop-t-test.true c.loop-t.invariant
    (subst (λ n. IsGcd c.loop-t.common n c.common_divisor-common.result) (c.unsigned_abs.ensures.value ∙ ap unsigned_abs (to_z-of_z fits))
    c.common_divisor-common.ensures)
