use Rattle.theory_syntax.specs.Plain.{lines_of}
use Rattle.theory_grammar.specs.Spelled.{IsLine}
use Rattle.theory_grammar.specs.Texts.{with_number, SpellsLines}
use Rattle.theory_text.proofs.IdentifierLemmas.{text_identifiers}
use Rattle.theory_text.proofs.TextLemmas.{one_more_read, all_read, line_fails, no_text, passed_error}
use Rattle.theory_text.proofs.reading.read_text.Goals as goal

pub returns-in_err-check_text-clause-exact : goal.returns-in_err-check_text-clause-exact
returns-in_err-check_text-clause-exact c =
    let fails = no_text IsLine _ _ c.in_err-check_text.ensures in
    passed_error IsLine SpellsLines (λ read. lines_of read.items) _ _ _ fails c.from_residual.ensures.1

pub returns-in_err-add_line-clause-exact : goal.returns-in_err-add_line-clause-exact
returns-in_err-add_line-clause-exact c =
    let text = c.in_ok-check_text.ensures in
    let fails = line_fails IsLine with_number _ _ _ _ _ _ _ text c.loop-rest.invariant c.split_line.ensures c.in_err-add_line.ensures in
    passed_error IsLine SpellsLines (λ read. lines_of read.items) _ _ _ fails c.from_residual-in_err-add_line.ensures.1

pub loop-rest-preserved : goal.loop-rest-preserved
loop-rest-preserved c = one_more_read IsLine with_number _ _ _ _ _ _ _ c.loop-rest.invariant c.split_line.ensures c.in_ok-add_line.ensures

pub returns-clause-exact : goal.returns-clause-exact
returns-clause-exact c = all_read IsLine with_number _ _ _ _ c.in_ok-check_text.ensures c.loop-rest-test.ensures c.loop-rest.invariant

pub returns-clause-identifiers : goal.returns-clause-identifiers
returns-clause-identifiers c =
    text_identifiers c.args.bytes.now _ (all_read IsLine with_number _ _ _ _ c.in_ok-check_text.ensures c.loop-rest-test.ensures c.loop-rest.invariant)
