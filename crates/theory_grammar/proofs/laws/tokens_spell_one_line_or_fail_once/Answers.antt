use Rattle.theory_grammar.proofs.FaultLaws.{unambiguous, spells_or_fails, never_both, one_fault}
use Rattle.theory_grammar.proofs.LineLaws.{line_laws}
use Rattle.theory_grammar.proofs.laws.tokens_spell_one_line_or_fail_once.Goals as goal

pub returns-clause-line : goal.returns-clause-line
returns-clause-line c = unambiguous line_laws

pub returns-clause-total : goal.returns-clause-total
returns-clause-total c = spells_or_fails line_laws

pub returns-clause-never_both : goal.returns-clause-never_both
returns-clause-never_both c = never_both line_laws

pub returns-clause-fault : goal.returns-clause-fault
returns-clause-fault c = one_fault line_laws
