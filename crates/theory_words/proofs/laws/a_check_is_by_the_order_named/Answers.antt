use Rattle.theory_words.proofs.PlainWords.{order_behind, order_before}
use Rattle.theory_words.proofs.laws.a_check_is_by_the_order_named.Goals as goal

pub returns-clause-behind : goal.returns-clause-behind
returns-clause-behind c = order_behind

pub returns-clause-before : goal.returns-clause-before
returns-clause-before c = order_before
