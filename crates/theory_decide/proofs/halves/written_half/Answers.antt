use Rattle.theory_syntax.specs.Plain.{claims_of}
use Rattle.theory_signs.specs.declared.formula.Formula.{Formula}
use Rattle.theory_signs.specs.Plain.{formula_of}
use Rattle.theory_lowering.proofs.LoweredAtoms.{lowered_proper}
use Rattle.theory_decide.proofs.HalfLemmas.{half_of_ok, half_of_large_fault, half_of_wide_fault}
use Rattle.theory_decide.proofs.halves.written_half.Goals as goal

pub half_of_formula-requires-clause-proper : goal.half_of_formula-requires-clause-proper
half_of_formula-requires-clause-proper g c =
    lowered_proper c.args.sentence.now.symbols (claims_of c.args.sentence.now.conjuncts.items) (formula_of c.in-Ok.formula) c.in-Ok.ensures.written

pub returns-in-Ok : goal.returns-in-Ok
returns-in-Ok g c =
    half_of_ok c.args.policy.now.kind c.args.sentence.now.symbols (claims_of c.args.sentence.now.conjuncts.items) c.requires.few c.requires.listed
    c.requires.distinct (formula_of c.in-Ok.formula) c.half_of_formula.result c.in-Ok.ensures.fault.0 c.in-Ok.ensures.fault.1 c.in-Ok.ensures.written
    c.half_of_formula.ensures

pub returns-in-Err-Large : goal.returns-in-Err-Large
returns-in-Err-Large g c =
    half_of_large_fault c.args.policy.now.kind c.args.sentence.now.symbols (claims_of c.args.sentence.now.conjuncts.items) c.requires.few
    c.requires.listed c.requires.distinct Formula c.in-Err-Large.field-0 c.in-Err-Large.ensures.fault c.in-Err-Large.field-0-is

pub returns-in-Err-Wide : goal.returns-in-Err-Wide
returns-in-Err-Wide g c =
    half_of_wide_fault c.args.policy.now.kind c.args.sentence.now.symbols (claims_of c.args.sentence.now.conjuncts.items) c.requires.few
    c.requires.listed c.requires.distinct Formula c.in-Err-Wide.field-0 c.in-Err-Wide.ensures.fault c.in-Err-Wide.field-0-is
