use Rattle.theory_text.specs.Answers.{fault_of}
use Rattle.theory_cli.proofs.TextRefusalLemmas.{refused_text}
use Rattle.theory_cli.proofs.parsing.text_stop.Goals as goal

pub returns-in_default : goal.returns-in_default
returns-in_default c = λ bytes found. refused_text bytes (fault_of c.args.error) c.in_default.not-Memory found
