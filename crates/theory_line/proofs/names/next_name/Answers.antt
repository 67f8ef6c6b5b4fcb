use Rattle.theory_grammar.specs.Token.{name}
use Rattle.theory_tokens.specs.Plain.{plain_tokens}
use Rattle.theory_line.proofs.LineReading.{name_found, name_missing}
use Rattle.theory_line.proofs.ParsesLaws.{fit_behind}
use Rattle.theory_line.proofs.names.next_name.Goals as goal

pub returns-in_ok-from_slice-in-Some-clause-parses : goal.returns-in_ok-from_slice-in-Some-clause-parses
returns-in_ok-from_slice-in-Some-clause-parses c =
    name_found c.args.tokens.now c.in-Some.rest c.in-Some.bytes.now c.in_ok-from_slice-in-Some.field-0 c.in-Some.ensures c.in_ok-from_slice-in-Some.ensures

pub returns-in_ok-from_slice-in-Some-clause-fit : goal.returns-in_ok-from_slice-in-Some-clause-fit
returns-in_ok-from_slice-in-Some-clause-fit c =
    fit_behind (plain_tokens c.args.tokens.now) (plain_tokens c.in-Some.rest.now) (name c.in-Some.bytes.now) c.in-Some.ensures c.requires.fit

pub returns-in-None-clause-parses : goal.returns-in-None-clause-parses
returns-in-None-clause-parses c = name_missing c.args.tokens.now c.unexpected.result c.unexpected.ensures c.in-None.ensures
