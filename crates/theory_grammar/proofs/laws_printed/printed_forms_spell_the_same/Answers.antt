use Rattle.theory_grammar.proofs.PrintedOutcomes.{line_without_division, op_without_division, text_without_division}
use Rattle.theory_grammar.proofs.laws_printed.printed_forms_spell_the_same.Goals as goal

pub returns : goal.returns
returns c = record { line = line_without_division; edit = op_without_division; text = text_without_division }
