use Rattle.theory_words.proofs.PlainWords.{plain_derivation}
use Rattle.theory_words.proofs.laws.a_derivation_is_of_the_file.Goals as goal

pub returns : goal.returns
returns c = plain_derivation
