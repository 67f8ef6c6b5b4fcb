use Rattle.theory_model.specs.Checked.{fault_of}
use Rattle.theory_cli.proofs.TextRefusalLemmas.{refused_model}
use Rattle.theory_cli.proofs.parsing.model_stop.Goals as goal

pub returns-in_default : goal.returns-in_default
returns-in_default c = λ bytes lines spelled found. refused_model bytes lines (fault_of c.args.fault) spelled c.in_default.not-Memory found
