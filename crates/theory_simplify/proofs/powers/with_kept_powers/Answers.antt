use Rattle.std.proofs.Common.{arith, sym, ◌∙◌, subst}
use Rattle.theory_poly.specs.Kept.{IsKept}
use Rattle.theory_polynomial.specs.Polynomial.{IsCanonical}
use Rattle.theory_simplify.proofs.PowerLemmas.{common_within, kept_step, all_kept, left_is_canonical, left_is_kept}
use Rattle.theory_simplify.proofs.powers.with_kept_powers.Goals as goal

pub with_kept-requires-clause-common : goal.with_kept-requires-clause-common
with_kept-requires-clause-common c =
    common_within c.args.poly.now c.deref-term-items.result.now c.args.common.now c.loop-term.term-index _
    (c.deref-term-items.ensures.value ∙ c.terms.ensures.value) c.requires.common (omega (arith, c.loop-term-test.true))

pub loop-term-preserved : goal.loop-term-preserved
loop-term-preserved c =
    kept_step c.args.kept.now c.args.common.now c.args.poly.now c.deref-term-items.result.now c.loop-term.term-index _ c.loop-term.terms.items
    c.push.new.self.items c.with_kept.result (c.deref-term-items.ensures.value ∙ c.terms.ensures.value) (omega (arith, c.loop-term-test.true))
    c.loop-term.invariant c.with_kept.ensures c.in_ok-push.ensures.items

pub from_kept-requires : goal.from_kept-requires
from_kept-requires c =
    let all = all_kept c.args.kept.now c.args.common.now c.args.poly.now c.deref-term-items.result.now c.loop-term.term-index c.loop-term.terms.items
    (c.deref-term-items.ensures.value ∙ c.terms.ensures.value) (omega (arith, c.loop-term-test.false)) c.loop-term.invariant in
    subst IsKept (sym all)
    (left_is_kept c.args.poly.now c.args.kept.now c.args.common.now c.requires.canonical c.terms.ensures.kept.within c.requires.common
    (omega (arith, c.told-kept, c.told-common)) c.requires.kept)

pub returns-clause-canonical : goal.returns-clause-canonical
returns-clause-canonical c =
    let all = all_kept c.args.kept.now c.args.common.now c.args.poly.now c.deref-term-items.result.now c.loop-term.term-index c.loop-term.terms.items
    (c.deref-term-items.ensures.value ∙ c.terms.ensures.value) (omega (arith, c.loop-term-test.false)) c.loop-term.invariant in
    subst IsCanonical (sym (c.from_kept.ensures ∙ all))
    (left_is_canonical c.args.poly.now c.args.kept.now c.args.common.now c.requires.canonical c.requires.common (omega (arith, c.told-kept, c.told-common))
    c.requires.kept)
