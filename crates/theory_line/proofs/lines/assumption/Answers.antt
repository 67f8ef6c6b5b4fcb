use Rattle.std.proofs.Common.{refl, ◌∙◌}
use Rattle.theory_grammar.specs.Machine.{label_of_assumption, colon, assumption, claim_of_line, line_with}
use Rattle.theory_line.specs.Reading.{reading}
use Rattle.theory_line.proofs.LineReading.{wants_name, wants_colon, passed_by_part, passed_by_line}
use Rattle.theory_syntax.specs.Plain.{claim_of, line_of}
use Rattle.theory_tokens.specs.Plain.{plain_tokens}
use Rattle.theory_line.proofs.lines.assumption.Goals as goal

pub returns-in_err-label : goal.returns-in_err-label
returns-in_err-label c =
    let ts = plain_tokens c.args.tokens.now in
    passed_by_part (λ x. x) line_of (reading label_of_assumption ts) (reading label_of_assumption ts) (λ x rest. reading (colon (assumption x)) rest)
    c.args.tokens.now c.in_err-label.field-0.0 c.from_residual.result c.from_residual.ensures refl
    (c.in_err-label.ensures.parses label_of_assumption (λ x. colon (assumption x))
    (wants_name label_of_assumption (λ x. colon (assumption x)) ts (λ t. refl) refl))

pub returns-in_err-whole_claim : goal.returns-in_err-whole_claim
returns-in_err-whole_claim c =
    let ts = plain_tokens c.args.tokens.now in
    let us = plain_tokens c.in_ok-label.rest.now in
    let h = assumption c.in_ok-label.label in
    passed_by_line (λ a. line_with h (claim_of a)) line_of (reading (colon h) us) (reading label_of_assumption ts)
    c.in_err-whole_claim.field-0.0 c.from_residual-in_err-whole_claim.result c.from_residual-in_err-whole_claim.ensures
    (c.in_ok-label.ensures.parses label_of_assumption (λ x. colon (assumption x))
    (wants_name label_of_assumption (λ x. colon (assumption x)) ts (λ t. refl) refl)).0
    (c.in_err-whole_claim.ensures (colon h) h (wants_colon (colon h) (claim_of_line h) us (λ t. refl) refl))

pub returns : goal.returns
returns c =
    let ts = plain_tokens c.args.tokens.now in
    let us = plain_tokens c.in_ok-label.rest.now in
    let h = assumption c.in_ok-label.label in
    (c.in_ok-label.ensures.parses label_of_assumption (λ x. colon (assumption x))
    (wants_name label_of_assumption (λ x. colon (assumption x)) ts (λ t. refl) refl)).0
    ∙ c.in_ok-whole_claim.ensures (colon h) h (wants_colon (colon h) (claim_of_line h) us (λ t. refl) refl)
