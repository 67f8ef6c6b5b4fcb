use Rattle.std.proofs.Common.{◌≡◌, refl, ap, ◌∙◌}
use Rattle.theory_meaning.specs.Tree as plain
use Rattle.theory_grammar.specs.declared.words.Keyword.TheVariants as word
use Rattle.theory_grammar.specs.Token.{keyword}
use Rattle.theory_grammar.specs.Machine.{name_of_function, word_of, first_argument}
use Rattle.theory_line.specs.Reading.{reading, whole}
use Rattle.theory_line.proofs.LineReading.{wants_name, passed_by_part, passed_by_line, no_of, stops_here}
use Rattle.theory_line.proofs.ParsesLaws.{fit_behind}
use Rattle.theory_syntax.specs.Plain.{line_of}
use Rattle.theory_tokens.specs.Plain.{plain_tokens}
use Rattle.theory_line.proofs.lines.function.Goals as goal

pub returns-in_err-name : goal.returns-in_err-name
returns-in_err-name c =
    let ts = plain_tokens c.args.tokens.now in
    passed_by_part (λ x. x) line_of (reading name_of_function ts) (reading name_of_function ts) (λ x rest. reading (word_of x) rest) c.args.tokens.now
    c.in_err-name.field-0.0 c.from_residual.result c.from_residual.ensures refl
    (c.in_err-name.ensures.parses name_of_function word_of (wants_name name_of_function word_of ts (λ t. refl) refl))

pub arguments-requires : goal.arguments-requires
arguments-requires c = record {
  fit = fit_behind (plain_tokens c.in_ok-name.rest.now) (plain_tokens c.in-Some.behind.now) (keyword word.Of) c.in-Some.ensures c.in_ok-name.ensures.fit;
}

pub returns-in_err-arguments-in-Some : goal.returns-in_err-arguments-in-Some
returns-in_err-arguments-in-Some c =
    let ts = plain_tokens c.args.tokens.now in
    let f = c.in_ok-name.name in
    let named = c.in_ok-name.ensures.parses name_of_function word_of (wants_name name_of_function word_of ts (λ t. refl) refl) in
    passed_by_line (plain.function f) line_of (reading (first_argument f) (plain_tokens c.in-Some.behind.now)) (reading name_of_function ts)
    c.in_err-arguments-in-Some.field-0.0 c.from_residual-in_err-arguments-in-Some.result c.from_residual-in_err-arguments-in-Some.ensures
    (named.0 ∙ ap (reading (word_of f)) c.in-Some.ensures) (c.in_err-arguments-in-Some.ensures f)

pub returns-in_ok-arguments-in-Some : goal.returns-in_ok-arguments-in-Some
returns-in_ok-arguments-in-Some c =
    let ts = plain_tokens c.args.tokens.now in
    let f = c.in_ok-name.name in
    let named = c.in_ok-name.ensures.parses name_of_function word_of (wants_name name_of_function word_of ts (λ t. refl) refl) in
    let all : reading name_of_function ts ≡ whole (plain.function f c.in_ok-arguments-in-Some.field-0) =
    named.0 ∙ ap (reading (word_of f)) c.in-Some.ensures ∙ c.in_ok-arguments-in-Some.ensures f in
    let same = c.name.view_is in cc

pub returns-in-None : goal.returns-in-None
returns-in-None c =
    let ts = plain_tokens c.args.tokens.now in
    let f = c.in_ok-name.name in
    let named = c.in_ok-name.ensures.parses name_of_function word_of (wants_name name_of_function word_of ts (λ t. refl) refl) in
    stops_here line_of (reading name_of_function ts) c.in_ok-name.rest.now c.unexpected.result c.unexpected.ensures
    (named.0 ∙ no_of f (plain_tokens c.in_ok-name.rest.now) c.in-None.ensures)
