use Rattle.theory_grammar.specs.Spelled.{lowest}
use Rattle.theory_line.proofs.LiteralLemmas.{lowest_kept, lowest_is_quotient, quotient_is_lowest, same_signed}
use Rattle.theory_line.proofs.literals.quotient.Goals as goal

pub unreachable-requires : goal.unreachable-requires
unreachable-requires c =
    let n = c.args.above in
    let d = c.args.below in
    let r = c.requires in
    c.in-None.ensures.value (lowest n d) (lowest_kept n d r.positive r.above r.below).within
    (lowest_is_quotient n d _ _ (same_signed n r.above) (same_signed d r.below) r.positive)

pub returns : goal.returns
returns c =
    let n = c.args.above in
    let d = c.args.below in
    let r = c.requires in
    quotient_is_lowest n d _ _ c.in-Some.fraction (same_signed n r.above) (same_signed d r.below) r.positive r.above r.below
    c.in-Some.ensures.kept c.in-Some.ensures.value
