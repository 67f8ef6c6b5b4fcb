use Rattle.theory_syntax.specs.Plain.{claims_of}
use Rattle.theory_signs.specs.declared.formula.Formula.{Formula}
use Rattle.theory_signs.specs.Plain.{formula_of}
use Rattle.theory_decide.proofs.RegionLemmas.{region_of_ok, region_of_large_fault, region_of_wide_fault}
use Rattle.theory_decide.proofs.regions.region_of_sentence.Goals as goal

pub returns-in-Ok : goal.returns-in-Ok
returns-in-Ok g c =
    region_of_ok c.args.policy.now.kind c.args.sentence.now.symbols (claims_of c.args.sentence.now.conjuncts.items) c.args.on.now
    c.requires.few c.requires.listed c.requires.distinct c.requires.chosen (formula_of c.in-Ok.formula) c.region_of_formula.result
    c.in-Ok.ensures.fault.0 c.in-Ok.ensures.fault.1 c.in-Ok.ensures.written c.region_of_formula.ensures

pub returns-in-Err-Large : goal.returns-in-Err-Large
returns-in-Err-Large g c =
    region_of_large_fault c.args.policy.now.kind c.args.sentence.now.symbols (claims_of c.args.sentence.now.conjuncts.items)
    c.args.on.now c.requires.few c.requires.listed c.requires.distinct c.requires.chosen Formula c.in-Err-Large.field-0
    c.in-Err-Large.ensures.fault c.in-Err-Large.field-0-is

pub returns-in-Err-Wide : goal.returns-in-Err-Wide
returns-in-Err-Wide g c =
    region_of_wide_fault c.args.policy.now.kind c.args.sentence.now.symbols (claims_of c.args.sentence.now.conjuncts.items)
    c.args.on.now c.requires.few c.requires.listed c.requires.distinct c.requires.chosen Formula c.in-Err-Wide.field-0
    c.in-Err-Wide.ensures.fault c.in-Err-Wide.field-0-is
