use Rattle.std.proofs.Common.{ap}
use Rattle.theory_syntax.specs.Plain.{lines_of}
use Rattle.theory_cli.specs.Plain.{replies_of}
use Rattle.theory_cli.proofs.SessionLemmas.{derived_once}
use Rattle.theory_cli.proofs.session.reply_to_derive.Goals as goal

pub returns : goal.returns
returns g c = derived_once (lines_of c.args.model.now) _ _ _ _ _ (ap replies_of c.requires) c.tell_derivation.ensures
