use Rattle.theory_grammar.proofs.FaultLaws.{unambiguous, spells_or_fails, never_both, one_fault}
use Rattle.theory_grammar.proofs.OpLaws.{op_laws}
use Rattle.theory_grammar.proofs.laws.tokens_spell_one_edit_or_fail_once.Goals as goal

pub returns-clause-edit : goal.returns-clause-edit
returns-clause-edit c = unambiguous op_laws

pub returns-clause-total : goal.returns-clause-total
returns-clause-total c = spells_or_fails op_laws

pub returns-clause-never_both : goal.returns-clause-never_both
returns-clause-never_both c = never_both op_laws

pub returns-clause-fault : goal.returns-clause-fault
returns-clause-fault c = one_fault op_laws
