use Rattle.std.proofs.Common.{◌≡◌, ◌∙◌, w64, to_z, of_z, arith}
use Rattle.std.proofs.lemmas.Int.{ints}
use Rattle.theory_points.proofs.KeptLemmas.{kept_of_signed}
use Rattle.theory_points.proofs.frac.signed_parts.Goals as goal

pub invariant_of-result : goal.invariant_of-result
invariant_of-result c =
    let whole : to_z w64 (of_z w64 c.signed_num.result) ≡ c.signed_num.result = omega (arith, ints) in
    let within = c.requires in
    (within.positive, kept_of_signed _ _ _ _ (whole ∙ c.signed_num.ensures) within.positive c.if-top.false c.if-bottom.false within.coprime)

pub returns-clause-kept : goal.returns-clause-kept
returns-clause-kept c =
    let whole : to_z w64 (of_z w64 c.signed_num.result) ≡ c.signed_num.result = omega (arith, ints) in
    let within = c.requires in
    kept_of_signed _ _ _ _ (whole ∙ c.signed_num.ensures) within.positive c.if-top.false c.if-bottom.false within.coprime
