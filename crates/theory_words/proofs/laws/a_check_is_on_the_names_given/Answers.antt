use Rattle.theory_words.proofs.PlainWords.{names_behind, names_before}
use Rattle.theory_words.proofs.laws.a_check_is_on_the_names_given.Goals as goal

pub returns-clause-behind : goal.returns-clause-behind
returns-clause-behind c = names_behind

pub returns-clause-before : goal.returns-clause-before
returns-clause-before c = names_before
