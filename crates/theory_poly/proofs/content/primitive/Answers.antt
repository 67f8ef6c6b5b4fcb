use Rattle.theory_poly.proofs.ContentLaws.{each_from_all}
use Rattle.theory_poly.proofs.content.primitive.Goals as goal

pub divided-requires-clause-divides : goal.divided-requires-clause-divides
divided-requires-clause-divides c = each_from_all c.content_of-content.result c.args.terms.now c.requires.ordered c.content_of-content.ensures.divides
