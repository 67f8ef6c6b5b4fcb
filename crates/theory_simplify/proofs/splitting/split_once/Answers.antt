use Rattle.std.proofs.Common.{ℕ, List, ◌≤◌, sym, ap, ◌∙◌, subst}
use Rattle.std.specs.Prelude.{slice_index}
use Rattle.theory_signed.specs.CommonPowers.{all_but}
use Rattle.theory_simplify.proofs.PowerLemmas.{odd_below, but_below}
use Rattle.theory_simplify.proofs.splitting.split_once.Goals as goal

pub with_kept_powers-requires-clause-kept : goal.with_kept_powers-requires-clause-kept
with_kept_powers-requires-clause-kept c =
    λ x. subst (λ (e : List ℕ). slice_index e x ≤ slice_index c.args.common.now x) (sym c.odd_parts-odd.ensures) (odd_below c.args.common.now x)

pub with_kept_powers-requires-in-Some-clause-kept : goal.with_kept_powers-requires-in-Some-clause-kept
with_kept_powers-requires-in-Some-clause-kept c =
    λ x. subst (λ (e : List ℕ). slice_index e x ≤ slice_index c.args.common.now x)
    (sym (c.all_but.ensures ∙ ap (all_but c.in-Some.x) c.odd_parts-odd.ensures)) (but_below c.in-Some.x c.args.common.now x)
