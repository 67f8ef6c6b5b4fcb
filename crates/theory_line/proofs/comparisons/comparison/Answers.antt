use Rattle.std.proofs.Common.{sym, ap, ◌∙◌, [], arith}
use Rattle.theory_meaning.specs.Tree.{Claim}
use Rattle.theory_grammar.specs.Token.{relation}
use Rattle.theory_grammar.specs.Machine.{want_claim, have_claim, operand, fresh, left_of_atom, right_of_atom}
use Rattle.theory_grammar.specs.declared.words.LineFaultKind.TheVariants.{Unexpected}
use Rattle.theory_line.specs.Reading.{reading, stopped}
use Rattle.theory_line.specs.Behind.{behind_expr}
use Rattle.theory_line.proofs.ClaimReading.{begins_expr, related, unrelated, ends_atom}
use Rattle.theory_line.proofs.NodeLemmas.{claim_of-Atom}
use Rattle.theory_line.proofs.ParsesLaws.{passed_by, fit_behind, shorter, as_many}
use Rattle.theory_syntax.specs.Plain.{expr_of, claim_of}
use Rattle.theory_tokens.specs.Plain.{plain_tokens}
use Rattle.theory_line.proofs.comparisons.comparison.Goals as goal

pub returns-in_err-left-clause-parses : goal.returns-in_err-left-clause-parses
returns-in_err-left-clause-parses c =
    let ts = plain_tokens c.args.tokens.now in
    λ h q qs e. passed_by expr_of claim_of (reading (operand (fresh c.args.depth) [] (left_of_atom h q qs)) ts) (reading (want_claim h q qs) ts)
    (λ x rest. behind_expr x [] (left_of_atom h q qs) rest) (λ x rest. reading (have_claim x h q qs) rest) c.args.tokens.now c.args.tokens.now
    c.in_err-left.field-0.0 c.from_residual.result c.from_residual.ensures
    (begins_expr h q qs c.args.depth ts e c.requires.begins) (c.in_err-left.ensures.parses [] (left_of_atom h q qs))

pub expr-requires-in-Some-clause-fit : goal.expr-requires-in-Some-clause-fit
expr-requires-in-Some-clause-fit c =
    fit_behind (plain_tokens c.in_ok-left.rest.now) (plain_tokens c.in-Some.behind.now) (relation c.in-Some.rel) c.in-Some.ensures c.in_ok-left.ensures.fit

pub returns-in_err-right-in-Some-clause-parses : goal.returns-in_err-right-in-Some-clause-parses
returns-in_err-right-in-Some-clause-parses c =
    let ts = plain_tokens c.args.tokens.now in
    let us = plain_tokens c.in-Some.behind.now in
    let x = expr_of c.in_ok-left.left in
    let d = c.args.depth in
    λ h q qs e. passed_by expr_of claim_of (reading (operand (fresh d) [] (right_of_atom x c.in-Some.rel h q qs)) us) (reading (want_claim h q qs) ts)
    (λ y rest. behind_expr y [] (right_of_atom x c.in-Some.rel h q qs) rest) (λ y rest. reading (have_claim y h q qs) rest) c.in-Some.behind.now
    c.args.tokens.now c.in_err-right-in-Some.field-0.0 c.from_residual-in_err-right-in-Some.result c.from_residual-in_err-right-in-Some.ensures
    (begins_expr h q qs d ts e c.requires.begins ∙ (c.in_ok-left.ensures.parses [] (left_of_atom h q qs)).0
    ∙ related x c.in-Some.rel h q qs d (plain_tokens c.in_ok-left.rest.now) us e c.in-Some.ensures)
    (c.in_err-right-in-Some.ensures.parses [] (right_of_atom x c.in-Some.rel h q qs))

pub returns-in_ok-right-in-Some-clause-parses : goal.returns-in_ok-right-in-Some-clause-parses
returns-in_ok-right-in-Some-clause-parses c =
    let ts = plain_tokens c.args.tokens.now in
    let us = plain_tokens c.in-Some.behind.now in
    let x = expr_of c.in_ok-left.left in
    let y = expr_of c.in_ok-right-in-Some.right in
    let vs = plain_tokens c.in_ok-right-in-Some.rest.now in
    let d = c.args.depth in
    let less = shorter c.in_ok-left.rest.now c.in-Some.behind.now (relation c.in-Some.rel) c.in-Some.ensures in
    λ h q qs e. let left = c.in_ok-left.ensures.parses [] (left_of_atom h q qs) in
    let right = c.in_ok-right-in-Some.ensures.parses [] (right_of_atom x c.in-Some.rel h q qs) in (
      begins_expr h q qs d ts e c.requires.begins ∙ left.0 ∙ related x c.in-Some.rel h q qs d (plain_tokens c.in_ok-left.rest.now) us e c.in-Some.ensures
          ∙ right.0 ∙ ends_atom x c.in-Some.rel y h q qs vs
          ∙ ap (λ (a : Claim). reading (have_claim a h q qs) vs) (sym (claim_of-Atom c.in_ok-left.left c.in-Some.rel c.in_ok-right-in-Some.right)),
      omega (arith, less, left.1, right.1),
    )

pub returns-in-None-clause-parses : goal.returns-in-None-clause-parses
returns-in-None-clause-parses c =
    let ts = plain_tokens c.args.tokens.now in
    let us = plain_tokens c.in_ok-left.rest.now in
    let x = expr_of c.in_ok-left.left in
    λ h q qs e. begins_expr h q qs c.args.depth ts e c.requires.begins ∙ (c.in_ok-left.ensures.parses [] (left_of_atom h q qs)).0
    ∙ unrelated x h q qs us c.in-None.ensures ∙ ap (stopped Unexpected) (as_many c.in_ok-left.rest.now)
