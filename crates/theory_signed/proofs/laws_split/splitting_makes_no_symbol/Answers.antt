use Rattle.theory_signed.proofs.SplitCanonical.{split_canonical}
use Rattle.theory_signed.proofs.SplitFree.{split_free}
use Rattle.theory_signed.proofs.KindAtoms.{split_named}
use Rattle.theory_signed.proofs.laws_split.splitting_makes_no_symbol.Goals as goal

pub returns-clause-proper : goal.returns-clause-proper
returns-clause-proper c = split_canonical

pub returns-clause-free : goal.returns-clause-free
returns-clause-free c = split_free

pub returns-clause-named : goal.returns-clause-named
returns-clause-named c = split_named
