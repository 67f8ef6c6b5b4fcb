use Rattle.theory_words.proofs.PlainWords.{plain_check}
use Rattle.theory_words.proofs.laws.a_check_is_by_unit.Goals as goal

pub returns : goal.returns
returns c = plain_check
