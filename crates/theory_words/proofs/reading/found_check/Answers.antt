use Rattle.std.proofs.Common.{ap, sym, codes, ◌∙◌, Option, option_map, None, Some}
use Rattle.clap.specs.Words.{Text, rows_of, found_of}
use Rattle.theory_meaning.specs.declared.words.Kind.{Kind}
use Rattle.theory_words.specs.Commands.{check, names_given, names_of}
use Rattle.theory_words.specs.Reading.{command_of}
use Rattle.theory_words.proofs.Found.{text_found, check_found, no_file, no_order}
use Rattle.theory_words.proofs.reading.found_check.Goals as goal

pub returns-in_err-file : goal.returns-in_err-file
returns-in_err-file c =
    let found = found_of c.args.matches.now in
    ap (option_map command_of) c.from_residual.ensures
    ∙ sym (no_file (rows_of found) (text_found found (codes "file") None c.in_err-file.ensures))

pub returns-in_err-get_str : goal.returns-in_err-get_str
returns-in_err-get_str c =
    let found = found_of c.args.matches.now in
    ap (option_map command_of) c.from_residual-in_err-get_str.ensures
    ∙ sym (no_order (rows_of found) (text_found found (codes "order") None c.in_err-get_str.ensures))

pub returns-in_err-order : goal.returns-in_err-order
returns-in_err-order c =
    let found = found_of c.args.matches.now in
    let file = text_found found (codes "file") (Some c.in_ok-file.file) c.in_ok-file.ensures in
    let order = text_found found (codes "order") (Some c.in_ok-get_str.field-0) c.in_ok-get_str.ensures in
    ap (option_map command_of) c.from_residual-in_err-order.ensures
    ∙ ap (option_map (λ (order : Kind). check c.in_ok-file.file.now order (names_of (rows_of found)))) c.in_err-order.ensures
    ∙ sym (check_found (rows_of found) c.in_ok-file.file.now c.in_ok-get_str.field-0.now file order)

pub returns : goal.returns
returns c =
    let found = found_of c.args.matches.now in
    let file = text_found found (codes "file") (Some c.in_ok-file.file) c.in_ok-file.ensures in
    let order = text_found found (codes "order") (Some c.in_ok-get_str.field-0) c.in_ok-get_str.ensures in
    let on = text_found found (codes "on") c.get_str-on.result c.get_str-on.ensures in
    ap (λ (given : Option Text). Some (check c.in_ok-file.file.now c.in_ok-order.order (names_given given))) (sym on)
    ∙ ap (option_map (λ (order : Kind). check c.in_ok-file.file.now order (names_of (rows_of found)))) c.in_ok-order.ensures
    ∙ sym (check_found (rows_of found) c.in_ok-file.file.now c.in_ok-get_str.field-0.now file order)
