use Rattle.std.proofs.Common.{◌<◌, ◌≤◌, arith, unsigned_abs, get_or, rules, w64, to_z-of_z, sym, ap, ◌∙◌, subst}
use mir.Val.{SFits}
use Rattle.theory_meaning.specs.Limits.{bound}
use Rattle.theory_poly.specs.Kept.{IsGreatestWith}
use Rattle.theory_poly.proofs.HeightLaws.{nothing}
use Rattle.theory_poly.proofs.ContentLaws.{first_is_some, content_with_first, first_is_small}
use Rattle.theory_poly.proofs.content.content_of_narrow.Goals as goal

pub divisor_of_narrow-requires-clause-positive : goal.divisor_of_narrow-requires-clause-positive
divisor_of_narrow-requires-clause-positive c =
    let fits : SFits w64 (get_or c.args.terms.now 0 nothing).coefficient = search rules in
    subst (λ n. 0 < n) (sym (c.unsigned_abs-first.ensures.value ∙ ap unsigned_abs (to_z-of_z fits)))
    (first_is_some c.args.terms.now nothing c.requires.some c.requires.kept.ordered)

-- the divisor is that of the first coefficient and all
found : (c : goal.After-divisor_of_narrow) → IsGreatestWith (unsigned_abs (get_or c.args.terms.now 0 nothing).coefficient) c.args.terms.now c.divisor_of_narrow.result
found c =
    let fits : SFits w64 (get_or c.args.terms.now 0 nothing).coefficient = search rules in
    subst (λ n. IsGreatestWith n c.args.terms.now c.divisor_of_narrow.result)
    (c.unsigned_abs-first.ensures.value ∙ ap unsigned_abs (to_z-of_z fits)) c.divisor_of_narrow.ensures.value

small : (c : goal.After-divisor_of_narrow) → c.divisor_of_narrow.result ≤ bound
small c = first_is_small c.args.terms.now nothing c.divisor_of_narrow.result c.requires.some c.requires.kept (found c)

pub overflow_cast-result : goal.overflow_cast-result
overflow_cast-result c = let most = small c in omega (arith, most)

pub returns-clause-value : goal.returns-clause-value
returns-clause-value c =
    content_with_first c.args.terms.now nothing c.divisor_of_narrow.result c.requires.some c.requires.kept c.divisor_of_narrow.ensures.positive (found c)

pub returns-clause-small : goal.returns-clause-small
returns-clause-small c = small c
