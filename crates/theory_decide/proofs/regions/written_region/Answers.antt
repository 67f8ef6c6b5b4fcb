use Rattle.theory_syntax.specs.Plain.{claims_of}
use Rattle.theory_decide.proofs.RegionLemmas.{says, may_not_know}
use Rattle.theory_decide.proofs.regions.written_region.Goals as goal

pub returns-clause-right : goal.returns-clause-right
returns-clause-right g c =
    says c.args.policy.now.kind c.args.sentence.now.symbols (claims_of c.args.sentence.now.conjuncts.items) c.args.on.now c.requires.few c.requires.listed
    c.requires.distinct c.requires.chosen c.region_of_sentence.result c.region_of_sentence.ensures

pub returns-clause-licensed : goal.returns-clause-licensed
returns-clause-licensed g c =
    may_not_know c.args.policy.now.kind c.args.sentence.now.symbols (claims_of c.args.sentence.now.conjuncts.items) c.args.on.now c.requires.few
    c.requires.listed c.requires.distinct c.requires.chosen c.region_of_sentence.result c.region_of_sentence.ensures
