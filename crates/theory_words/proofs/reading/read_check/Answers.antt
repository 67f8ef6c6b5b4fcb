use Rattle.std.proofs.Common.{rules, ap, map, string_bytes, ◌≡◌, ◌∙◌, subst, List, Option, Err}
use Rattle.clap.specs.Words.{App, Row, app_of}
use Rattle.theory_words.specs.Arguments.{check_arguments}
use Rattle.theory_words.specs.Commands.{check_of, found_in}
use Rattle.theory_words.specs.Reading.{IsFoundAs}
use Rattle.theory_words.proofs.Found.{passed_on, read_of}
use Rattle.theory_words.proofs.SameNames.{found_by_names}
use Rattle.theory_words.proofs.reading.read_check.Goals as goal

pub returns-in_err-matches : goal.returns-in_err-matches
returns-in_err-matches c =
    let words = map string_bytes c.args.words.now in
    let made = c.in-Ok.ensures in
    let same : found_in (app_of c.in-Ok.arguments) words ≡ found_in check_arguments words = ap (λ (app : App). found_in app words) made.2 ∙ found_by_names made.0 made.1 words in
    let refused : IsFoundAs (found_in check_arguments words) (Err c.in_err-matches.field-0.0) =
    subst (λ (all : Option (List Row)). IsFoundAs all (Err c.in_err-matches.field-0.0)) same c.in_err-matches.ensures in
    search (rules, passed_on check_of check_arguments words c.in_err-matches.field-0.0 refused)

pub returns : goal.returns
returns c =
    let words = map string_bytes c.args.words.now in
    let made = c.in-Ok.ensures in
    let same : found_in (app_of c.in-Ok.arguments) words ≡ found_in check_arguments words = ap (λ (app : App). found_in app words) made.2 ∙ found_by_names made.0 made.1 words in
    search (rules, read_of, same)
