use Rattle.std.proofs.Common.{sym, ap₂, ◌∙◌}
use Rattle.theory_formula.specs.Signs.{has}
use Rattle.theory_witness.proofs.trial.is_atom_true_at.Goals as goal

pub returns : goal.returns
returns c = c.has.ensures ∙ ap₂ has c.signs.ensures (c.sign_at.ensures ∙ sym (c.line_of.ensures.sign c.args.at.now))
