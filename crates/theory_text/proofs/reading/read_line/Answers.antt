use Rattle.std.specs.Option.{option_map}
use Rattle.theory_syntax.specs.Plain.{line_of}
use Rattle.theory_grammar.specs.Spelled.{IsLine}
use Rattle.theory_grammar.specs.Texts.{SpellsOneLine}
use Rattle.theory_text.proofs.IdentifierLemmas.{read_identifiers}
use Rattle.theory_text.proofs.OneLineLemmas.{no_text, line_fails, line_read, passed_error}
use Rattle.theory_text.proofs.reading.read_line.Goals as goal

pub returns-in_err-check_line-clause-exact : goal.returns-in_err-check_line-clause-exact
returns-in_err-check_line-clause-exact c =
    let fails = no_text IsLine _ _ c.in_err-check_line.ensures in
    passed_error IsLine SpellsOneLine (option_map line_of) _ _ _ fails c.from_residual.ensures.1

pub returns-in_err-line-clause-exact : goal.returns-in_err-line-clause-exact
returns-in_err-line-clause-exact c =
    let fails = line_fails IsLine _ _ c.in_ok-check_line.ensures c.in_err-line.ensures in
    passed_error IsLine SpellsOneLine (option_map line_of) _ _ _ fails c.from_residual-in_err-line.ensures.1

pub returns : goal.returns
returns c =
    let exact = line_read IsLine line_of _ _ _ c.in_ok-check_line.ensures c.in_ok-line.ensures c.without_feed.ensures in
    record { exact = exact; identifiers = read_identifiers _ _ exact }
