use Rattle.std.proofs.Common.{◌≡◌, None, Some, refl, ap, ◌∙◌}
use Rattle.theory_meaning.specs.Tree as plain
use Rattle.theory_grammar.specs.declared.words.Keyword.TheVariants as word
use Rattle.theory_grammar.specs.Token.{keyword}
use Rattle.theory_grammar.specs.Machine.{label_of_claim, by_or_colon, name_of_shift, colon, assertion, claim_of_line, line_with}
use Rattle.theory_line.specs.Reading.{reading, whole}
use Rattle.theory_line.proofs.LineReading.{wants_name, wants_colon, no_by, passed_by_part, passed_by_line, assertion_named}
use Rattle.theory_line.proofs.ParsesLaws.{fit_behind}
use Rattle.theory_syntax.specs.Plain.{claim_of, line_of}
use Rattle.theory_tokens.specs.Plain.{plain_tokens}
use Rattle.theory_line.proofs.lines.assertion.Goals as goal

pub returns-in_err-label : goal.returns-in_err-label
returns-in_err-label c =
    let ts = plain_tokens c.args.tokens.now in
    passed_by_part (λ x. x) line_of (reading label_of_claim ts) (reading label_of_claim ts) (λ x rest. reading (by_or_colon x) rest) c.args.tokens.now
    c.in_err-label.field-0.0 c.from_residual.result c.from_residual.ensures refl
    (c.in_err-label.ensures.parses label_of_claim by_or_colon (wants_name label_of_claim by_or_colon ts (λ t. refl) refl))

pub next_name-requires-in-Some : goal.next_name-requires-in-Some
next_name-requires-in-Some c = record {
  fit = fit_behind (plain_tokens c.in_ok-label.rest.now) (plain_tokens c.in-Some.behind.now) (keyword word.By) c.in-Some.ensures c.in_ok-label.ensures.fit;
}

pub returns-in_err-shift-in-Some : goal.returns-in_err-shift-in-Some
returns-in_err-shift-in-Some c =
    let l = c.in_ok-label.label in
    let us = plain_tokens c.in-Some.behind.now in
    passed_by_part (λ x. x) line_of (reading (name_of_shift l) us) (reading label_of_claim (plain_tokens c.args.tokens.now))
    (λ x rest. reading (colon (assertion l (Some x))) rest) c.in-Some.behind.now c.in_err-shift-in-Some.field-0.0
    c.from_residual-in_err-shift-in-Some.result c.from_residual-in_err-shift-in-Some.ensures
    (assertion_named c.args.tokens.now c.in_ok-label.rest l c.in_ok-label.ensures.parses ∙ ap (reading (by_or_colon l)) c.in-Some.ensures)
    (c.in_err-shift-in-Some.ensures.parses (name_of_shift l) (λ x. colon (assertion l (Some x)))
    (wants_name (name_of_shift l) (λ x. colon (assertion l (Some x))) us (λ t. refl) refl))

pub returns-in_err-whole_claim-in-Some : goal.returns-in_err-whole_claim-in-Some
returns-in_err-whole_claim-in-Some c =
    let l = c.in_ok-label.label in
    let us = plain_tokens c.in-Some.behind.now in
    let vs = plain_tokens c.in_ok-shift-in-Some.rest.now in
    let h = assertion l (Some c.in_ok-shift-in-Some.shift) in
    passed_by_line (λ a. line_with h (claim_of a)) line_of (reading (colon h) vs) (reading label_of_claim (plain_tokens c.args.tokens.now))
    c.in_err-whole_claim-in-Some.field-0.0 c.from_residual-in_err-whole_claim-in-Some.result c.from_residual-in_err-whole_claim-in-Some.ensures
    (assertion_named c.args.tokens.now c.in_ok-label.rest l c.in_ok-label.ensures.parses ∙ ap (reading (by_or_colon l)) c.in-Some.ensures
    ∙ (c.in_ok-shift-in-Some.ensures.parses (name_of_shift l) (λ x. colon (assertion l (Some x)))
    (wants_name (name_of_shift l) (λ x. colon (assertion l (Some x))) us (λ t. refl) refl)).0)
    (c.in_err-whole_claim-in-Some.ensures (colon h) h (wants_colon (colon h) (claim_of_line h) vs (λ t. refl) refl))

pub returns-in_ok-whole_claim-in-Some : goal.returns-in_ok-whole_claim-in-Some
returns-in_ok-whole_claim-in-Some c =
    let l = c.in_ok-label.label in
    let us = plain_tokens c.in-Some.behind.now in
    let vs = plain_tokens c.in_ok-shift-in-Some.rest.now in
    let h = assertion l (Some c.in_ok-shift-in-Some.shift) in
    let all : reading label_of_claim (plain_tokens c.args.tokens.now)
    ≡ whole (plain.claim l (Some c.in_ok-shift-in-Some.shift) (claim_of c.in_ok-whole_claim-in-Some.field-0)) =
    assertion_named c.args.tokens.now c.in_ok-label.rest l c.in_ok-label.ensures.parses ∙ ap (reading (by_or_colon l)) c.in-Some.ensures
    ∙ (c.in_ok-shift-in-Some.ensures.parses (name_of_shift l) (λ x. colon (assertion l (Some x)))
    (wants_name (name_of_shift l) (λ x. colon (assertion l (Some x))) us (λ t. refl) refl)).0
    ∙ c.in_ok-whole_claim-in-Some.ensures (colon h) h (wants_colon (colon h) (claim_of_line h) vs (λ t. refl) refl) in
    let same = c.label.view_is in cc

pub returns-in_err-whole_claim-in-None : goal.returns-in_err-whole_claim-in-None
returns-in_err-whole_claim-in-None c =
    let l = c.in_ok-label.label in
    let us = plain_tokens c.in_ok-label.rest.now in
    let h = assertion l None in
    passed_by_line (λ a. line_with h (claim_of a)) line_of (reading (by_or_colon l) us) (reading label_of_claim (plain_tokens c.args.tokens.now))
    c.in_err-whole_claim-in-None.field-0.0 c.from_residual-in_err-whole_claim-in-None.result c.from_residual-in_err-whole_claim-in-None.ensures
    (assertion_named c.args.tokens.now c.in_ok-label.rest l c.in_ok-label.ensures.parses)
    (c.in_err-whole_claim-in-None.ensures (by_or_colon l) h (no_by l us c.in-None.ensures))

pub returns-in_ok-whole_claim-in-None : goal.returns-in_ok-whole_claim-in-None
returns-in_ok-whole_claim-in-None c =
    let l = c.in_ok-label.label in
    let us = plain_tokens c.in_ok-label.rest.now in
    let all : reading label_of_claim (plain_tokens c.args.tokens.now) ≡ whole (plain.claim l None (claim_of c.in_ok-whole_claim-in-None.field-0)) =
    assertion_named c.args.tokens.now c.in_ok-label.rest l c.in_ok-label.ensures.parses
    ∙ c.in_ok-whole_claim-in-None.ensures (by_or_colon l) (assertion l None) (no_by l us c.in-None.ensures) in
    let same = c.label.view_is in cc
