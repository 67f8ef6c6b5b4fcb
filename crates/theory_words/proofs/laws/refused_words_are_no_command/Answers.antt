use Rattle.std.proofs.Common.{refl, []}
use Rattle.theory_words.proofs.Refusals.{none, other_name, refused_check, refused_derivation}
use Rattle.theory_words.proofs.laws.refused_words_are_no_command.Goals as goal

pub returns-clause-none : goal.returns-clause-none
returns-clause-none c = none [] refl

pub returns-clause-name : goal.returns-clause-name
returns-clause-name c = other_name

pub returns-clause-check : goal.returns-clause-check
returns-clause-check c = refused_check

pub returns-clause-derive : goal.returns-clause-derive
returns-clause-derive c = refused_derivation
