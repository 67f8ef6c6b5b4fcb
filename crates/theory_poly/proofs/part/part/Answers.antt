use Rattle.std.proofs.Common.{ap, ◌∙◌}
use Rattle.std.proofs.lemmas.List.{take_all}
use Rattle.theory_polynomial.specs.PolynomialValue.{part_of}
use Rattle.theory_poly.proofs.PartLaws.{kept_part}
use Rattle.theory_poly.proofs.part.part.Goals as goal

pub from_kept-requires : goal.from_kept-requires
from_kept-requires c =
    kept_part c.args.x c.args.exponent c.args.terms.now c.loop-t.all.items
    (c.loop-t.invariant ∙ ap (part_of c.args.x c.args.exponent) (take_all c.loop-t.t-index c.args.terms.now c.loop-t-test.false)) c.requires.terms
