use Rattle.theory_grammar.proofs.PrintedOutcomes.{line_of_few, op_of_few, text_of_few}
use Rattle.theory_grammar.proofs.laws_printed.printed_forms_of_few_open_signs_spell_the_same.Goals as goal

pub returns : goal.returns
returns c = record { line = line_of_few; edit = op_of_few; text = text_of_few }
