use Rattle.std.proofs.Common.{ap, ◌∙◌}
use Rattle.theory_polynomial.specs.PolynomialValue.{part_of}
use Rattle.theory_poly.proofs.PartLaws.{is_split}
use Rattle.theory_poly.proofs.poly.Poly.split_linear.Goals as goal

pub returns-clause-parts : goal.returns-clause-parts
returns-clause-parts c = (
  c.in_ok-slope.ensures ∙ ap (part_of c.args.x 1) c.as_slice.ensures.value,
  c.in_ok-base.ensures ∙ ap (part_of c.args.x 0) c.as_slice-2.ensures.value,
)

pub returns-clause-split : goal.returns-clause-split
returns-clause-split c =
    is_split c.args.x c.args.self.now c.in_ok-slope.slope c.in_ok-base.base c.as_slice.ensures.kept c.requires.linear
    (c.in_ok-slope.ensures ∙ ap (part_of c.args.x 1) c.as_slice.ensures.value) (c.in_ok-base.ensures ∙ ap (part_of c.args.x 0) c.as_slice-2.ensures.value)
