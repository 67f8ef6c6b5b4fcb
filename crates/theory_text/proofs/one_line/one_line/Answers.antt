use Rattle.std.proofs.Common.{sym, ◌∙◌}
use Rattle.theory_syntax.specs.Plain.{line_of}
use Rattle.theory_grammar.specs.Spelled.{IsLine}
use Rattle.theory_grammar.proofs.Outcomes.{lines_have_one_outcome}
use Rattle.theory_text.proofs.LineLemmas.{long_read, tree_read, passed_error}
use Rattle.theory_text.proofs.one_line.one_line.Goals as goal

pub returns-in_err-scanned : goal.returns-in_err-scanned
returns-in_err-scanned c =
    passed_error IsLine line_of _ _ _ _ (long_read IsLine _ _ _ c.in_err-scanned.ensures) c.from_residual.ensures.1

pub returns-in_err-whole_line : goal.returns-in_err-whole_line
returns-in_err-whole_line c =
    let some = sym c.has_nothing.ensures ∙ c.if-has_nothing.false in
    let parsed = c.parse_line-parsed.ensures in
    let tokens = c.as_slice.ensures.value in
    let fails = tree_read IsLine lines_have_one_outcome line_of _ _ _ _ _ c.in_ok-scanned.ensures some (rw tokens at parsed) c.in_err-whole_line.ensures in
    passed_error IsLine line_of _ _ _ _ fails c.from_residual-in_err-whole_line.ensures.1

pub returns : goal.returns
returns c =
    let some = sym c.has_nothing.ensures ∙ c.if-has_nothing.false in
    let parsed = c.parse_line-parsed.ensures in
    let tokens = c.as_slice.ensures.value in
    tree_read IsLine lines_have_one_outcome line_of _ _ _ _ _ c.in_ok-scanned.ensures some (rw tokens at parsed) c.in_ok-whole_line.ensures
