use Rattle.theory_signed.proofs.KindAtoms.{kind_proper, kind_free, kind_named}
use Rattle.theory_signed.proofs.laws_kind.each_kind_makes_no_symbol.Goals as goal

pub returns-clause-proper : goal.returns-clause-proper
returns-clause-proper c = kind_proper

pub returns-clause-free : goal.returns-clause-free
returns-clause-free c = kind_free

pub returns-clause-named : goal.returns-clause-named
returns-clause-named c = kind_named
