use Rattle.theory_signs.specs.Plain.{formula_of}
use Rattle.theory_lower.proofs.WrittenLemmas.{answers_written}
use Rattle.theory_lower.proofs.claims.claim_of.Goals as goal

pub returns-clause-truth : goal.returns-clause-truth
returns-clause-truth c =
    answers_written c.args.symbols.now c.as_slice.result.now (formula_of c.args.formula.now) c.written.result c.as_slice.ensures c.requires c.written.ensures
