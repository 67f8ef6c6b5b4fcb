use Rattle.theory_syntax.specs.Plain.{claims_of}
use Rattle.theory_lower.proofs.LoweringLemmas.{answers_lowered, answers_named}
use Rattle.theory_lower.proofs.lowering.lower.Goals as goal

pub returns-clause-truth : goal.returns-clause-truth
returns-clause-truth c =
    answers_lowered c.args.sentence.now.symbols (claims_of c.args.sentence.now.conjuncts.items) c.conjuncts_lowered.result c.requires.few c.requires.listed
    c.conjuncts_lowered.ensures.written

pub returns-clause-named : goal.returns-clause-named
returns-clause-named c =
    answers_named c.args.sentence.now.symbols (claims_of c.args.sentence.now.conjuncts.items) c.conjuncts_lowered.result c.requires.listed
    c.conjuncts_lowered.ensures.written
