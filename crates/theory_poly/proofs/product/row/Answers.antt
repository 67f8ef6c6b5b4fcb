use Rattle.theory_poly.proofs.HeightLaws.{nothing}
use Rattle.theory_poly.proofs.ProductLaws.{kept_term}
use Rattle.theory_poly.proofs.product.row.Goals as goal

pub product_of_terms-requires-clause-second : goal.product_of_terms-requires-clause-second
product_of_terms-requires-clause-second c = kept_term c.args.terms.now c.loop-u.u-index nothing c.loop-u-test.true c.requires.terms
