use Rattle.theory_words.proofs.BothOptions.{arranged}
use Rattle.theory_words.proofs.laws.a_check_may_have_both_options.Goals as goal

pub returns : goal.returns
returns c = λ file order names bare plain. arranged file names bare plain order
