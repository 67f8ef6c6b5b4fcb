use Rattle.theory_poly.proofs.ContentLaws.{content_of_none, content_of_some}
use Rattle.theory_poly.proofs.content.content_of.Goals as goal

pub returns-then-common-eq0 : goal.returns-then-common-eq0
returns-then-common-eq0 c =
    content_of_none c.args.terms.now c.divisor_of_all-common.result c.requires c.divisor_of_all-common.ensures c.if-common-eq0.true

pub returns-else-common-eq0 : goal.returns-else-common-eq0
returns-else-common-eq0 c =
    content_of_some c.args.terms.now c.divisor_of_all-common.result c.requires c.divisor_of_all-common.ensures c.if-common-eq0.false
