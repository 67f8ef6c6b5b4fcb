use Rattle.std.proofs.Common.{refl}
use Rattle.std.proofs.lemmas.List.Splits.{join_with_byte-slice_split}
use Rattle.theory_words.specs.Commands.{comma}
use Rattle.theory_words.proofs.Parts.{parts_apart}
use Rattle.theory_words.proofs.laws.names_stand_between_commas.Goals as goal

pub returns-clause-apart : goal.returns-clause-apart
returns-clause-apart c = parts_apart

pub returns-clause-joined : goal.returns-clause-joined
returns-clause-joined c = join_with_byte-slice_split comma

pub returns-clause-empty : goal.returns-clause-empty
returns-clause-empty c = refl
