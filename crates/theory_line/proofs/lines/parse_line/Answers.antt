use Rattle.theory_line.proofs.OutcomeLaws.{line_parsed}
use Rattle.theory_tokens.specs.Plain.{plain_tokens}
use Rattle.theory_line.proofs.lines.parse_line.Goals as goal

pub returns : goal.returns
returns c = line_parsed (plain_tokens c.args.tokens.now) c.read_line.result c.read_line.ensures
