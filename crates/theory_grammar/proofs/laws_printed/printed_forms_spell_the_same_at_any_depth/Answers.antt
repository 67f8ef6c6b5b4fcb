use Rattle.theory_grammar.proofs.PrintedOutcomes.{line_at_any_depth, op_at_any_depth, text_at_any_depth}
use Rattle.theory_grammar.proofs.laws_printed.printed_forms_spell_the_same_at_any_depth.Goals as goal

pub returns : goal.returns
returns c = record { line = line_at_any_depth; edit = op_at_any_depth; text = text_at_any_depth }
