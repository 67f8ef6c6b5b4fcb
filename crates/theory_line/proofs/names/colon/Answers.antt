use Rattle.theory_line.proofs.LineReading.{colon_missing}
use Rattle.theory_line.proofs.names.colon.Goals as goal

pub returns-in-None : goal.returns-in-None
returns-in-None c = colon_missing c.args.tokens.now c.unexpected.result c.unexpected.ensures c.in-None.ensures
