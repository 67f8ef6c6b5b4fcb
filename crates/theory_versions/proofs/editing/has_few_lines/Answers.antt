use Rattle.theory_syntax.specs.Plain.{lines_of}
use Rattle.theory_model.proofs.CarriedLemmas.{faultless_lines_are_few}
use Rattle.theory_versions.proofs.editing.has_few_lines.Goals as goal

pub returns : goal.returns
returns c = faultless_lines_are_few (lines_of c.args.model.now) c.text_of.ensures.checked.faultless
