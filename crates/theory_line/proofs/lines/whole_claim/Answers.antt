use Rattle.std.proofs.Common.{[], refl, ◌∙◌}
use Rattle.theory_grammar.specs.declared.words.Mark.TheVariants as sign
use Rattle.theory_grammar.specs.Token.{mark}
use Rattle.theory_grammar.specs.Machine.{at_colon, claim_of_line, line_with}
use Rattle.theory_line.specs.Reading.{reading}
use Rattle.theory_line.specs.Behind.{behind_claim}
use Rattle.theory_line.proofs.LineReading.{moved, passed_by_part, passed_by_colon, passed_by_end, ends_claim_line, nothing_left}
use Rattle.theory_line.proofs.ParsesLaws.{fit_behind}
use Rattle.theory_syntax.specs.Plain.{claim_of}
use Rattle.theory_tokens.specs.Plain.{plain_tokens}
use Rattle.theory_line.proofs.lines.whole_claim.Goals as goal

pub returns-in_err-behind : goal.returns-in_err-behind
returns-in_err-behind c = λ st h moves.
    passed_by_colon (λ a. line_with h (claim_of a)) st (claim_of_line h) (reading st (plain_tokens c.args.tokens.now)) c.args.tokens.now
    c.in_err-behind.field-0.0 c.from_residual.result c.from_residual.ensures moves refl c.in_err-behind.ensures

pub claim-requires-clause-fit : goal.claim-requires-clause-fit
claim-requires-clause-fit c =
    fit_behind (plain_tokens c.args.tokens.now) (plain_tokens c.in_ok-behind.behind.now) (mark sign.Colon) c.in_ok-behind.ensures c.requires.fit

pub returns-in_err-all : goal.returns-in_err-all
returns-in_err-all c = λ st h moves.
    let ts = plain_tokens c.args.tokens.now in
    let us = plain_tokens c.in_ok-behind.behind.now in
    passed_by_part claim_of (λ a. line_with h (claim_of a)) (reading (claim_of_line h) us) (reading st ts) (λ a rest. behind_claim a h [] rest)
    c.in_ok-behind.behind.now c.in_err-all.field-0.0 c.from_residual-in_err-all.result c.from_residual-in_err-all.ensures
    (moved st (at_colon (claim_of_line h)) ts us (mark sign.Colon) moves c.in_ok-behind.ensures) (c.in_err-all.ensures.parses h [])

pub returns-in_err-nothing_behind : goal.returns-in_err-nothing_behind
returns-in_err-nothing_behind c = λ st h moves.
    let ts = plain_tokens c.args.tokens.now in
    let us = plain_tokens c.in_ok-behind.behind.now in
    let a = claim_of c.in_ok-all.all in
    passed_by_end (λ b. line_with h (claim_of b)) (reading st ts) (line_with h a) c.in_ok-all.rest.now c.in_err-nothing_behind.field-0.0
    c.from_residual-in_err-nothing_behind.result c.from_residual-in_err-nothing_behind.ensures
    (moved st (at_colon (claim_of_line h)) ts us (mark sign.Colon) moves c.in_ok-behind.ensures ∙ (c.in_ok-all.ensures.parses h []).0
    ∙ ends_claim_line a h (plain_tokens c.in_ok-all.rest.now)) c.in_err-nothing_behind.ensures

pub returns : goal.returns
returns c = λ st h moves.
    let ts = plain_tokens c.args.tokens.now in
    let us = plain_tokens c.in_ok-behind.behind.now in
    let a = claim_of c.in_ok-all.all in
    moved st (at_colon (claim_of_line h)) ts us (mark sign.Colon) moves c.in_ok-behind.ensures ∙ (c.in_ok-all.ensures.parses h []).0
    ∙ ends_claim_line a h (plain_tokens c.in_ok-all.rest.now)
    ∙ nothing_left (line_with h a) c.in_ok-all.rest.now c.in_ok-nothing_behind.ensures
