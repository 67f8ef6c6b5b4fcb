use Rattle.std.proofs.Common.{ap, arith}
use Rattle.theory_simplify.specs.Drafts.{draft_of}
use Rattle.theory_simplify.specs.Parts.{parts_of}
use Rattle.theory_simplify.proofs.Weights.{inner_weight, parts_weight}
use Rattle.theory_simplify.proofs.flattening.+flatten.Goals as goal

pub flatten-requires : goal.flatten-requires
flatten-requires t c =
    let inside = inner_weight c.args.all (draft_of c.in-Some.member) c.in-Ok.inner.items c.in-Ok.ensures in
    let rest = ap (λ Fs. parts_weight (parts_of Fs)) c.in-Some.ensures.steps.0 in
    let most = c.loop-member.invariant.lighter in
    (omega (arith, c.decreases, inside, rest, most), tt)
