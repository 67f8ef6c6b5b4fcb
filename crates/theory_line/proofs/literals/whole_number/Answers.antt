use Rattle.std.proofs.Common.{◌∙◌}
use Rattle.theory_line.proofs.LiteralLemmas.{lowest-one}
use Rattle.theory_line.proofs.literals.whole_number.Goals as goal

pub returns : goal.returns
returns c = c.quotient.ensures ∙ lowest-one c.args.number
