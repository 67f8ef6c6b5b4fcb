use Rattle.std.proofs.Common.{◌<◌, unsigned_abs, get_or, rules, to_z-of_z, sym, ap, ◌∙◌, subst}
use Rattle.std.proofs.Math.Nat.{pos_of_dvd_of_pos}
use Rattle.std.specs.Int.{w128, IsGcd}
use mir.Val.{SFits}
use Rattle.theory_poly.proofs.HeightLaws.{nothing}
use Rattle.theory_poly.proofs.ContentLaws.{nonzero_at}
use Rattle.theory_poly.proofs.QuotientLaws.{with_more}
use Rattle.theory_poly.proofs.content.divisor_with.Goals as goal

pub common_divisor-common-requires : goal.common_divisor-common-requires
common_divisor-common-requires c =
    let fits : SFits w128 (get_or c.args.terms.now c.loop-t.t-index nothing).coefficient = search rules in
    subst (λ n. 0 < n) (sym (c.unsigned_abs.ensures.value ∙ ap unsigned_abs (to_z-of_z fits)))
    (nonzero_at c.args.terms.now c.loop-t.t-index nothing c.loop-t-test.true c.requires.terms)

pub loop-t-preserved : goal.loop-t-preserved
loop-t-preserved c =
    let fits : SFits w128 (get_or c.args.terms.now c.loop-t.t-index nothing).coefficient = search rules in
    let size = c.unsigned_abs.ensures.value ∙ ap unsigned_abs (to_z-of_z fits) in
    let some = subst (λ n. 0 < n) (sym size) (nonzero_at c.args.terms.now c.loop-t.t-index nothing c.loop-t-test.true c.requires.terms) in
    record {
      divisor = with_more c.args.start c.args.terms.now c.loop-t.t-index nothing c.loop-t.common c.common_divisor-common.result c.loop-t-test.true
          c.loop-t.invariant.divisor
          (subst (λ n. IsGcd c.loop-t.common n c.common_divisor-common.result) size c.common_divisor-common.ensures);
      positive = pos_of_dvd_of_pos c.common_divisor-common.ensures.1 some;
    }
