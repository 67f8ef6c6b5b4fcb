use Rattle.std.proofs.Common.{[], refl, ap, ◌∙◌}
use Rattle.theory_meaning.specs.Tree as plain
use Rattle.theory_meaning.specs.declared.words.Rel.TheVariants as rel
use Rattle.theory_grammar.specs.declared.words.Mark.TheVariants as sign
use Rattle.theory_grammar.specs.Token.{mark, relation}
use Rattle.theory_grammar.specs.Machine.{label_of_equation, colon_of_equation, operand, fresh, left_of_equation, right_of_equation}
use Rattle.theory_line.specs.Reading.{reading}
use Rattle.theory_line.specs.Behind.{behind_expr}
use Rattle.theory_line.proofs.LineReading.{wants_colon, equation_named, passed_by_part, passed_by_colon, passed_by_end, ends_equation, no_equals, nothing_left, stops_here, equation_stops}
use Rattle.theory_line.proofs.ParsesLaws.{fit_behind}
use Rattle.theory_syntax.specs.Plain.{expr_of, line_of}
use Rattle.theory_tokens.specs.Plain.{plain_tokens}
use Rattle.theory_line.proofs.lines.equation.Goals as goal

pub returns-in_err-label : goal.returns-in_err-label
returns-in_err-label c =
    equation_stops c.args.tokens.now c.in_err-label.field-0.0 c.from_residual.result c.from_residual.ensures c.in_err-label.ensures.parses

pub returns-in_err-behind : goal.returns-in_err-behind
returns-in_err-behind c =
    let l = c.in_ok-label.label in
    let us = plain_tokens c.in_ok-label.rest.now in
    let next = operand (fresh 0) [] (left_of_equation l) in
    passed_by_colon line_of (colon_of_equation l) next (reading label_of_equation (plain_tokens c.args.tokens.now)) c.in_ok-label.rest.now
    c.in_err-behind.field-0.0 c.from_residual-in_err-behind.result c.from_residual-in_err-behind.ensures
    (wants_colon (colon_of_equation l) next us (λ t. refl) refl)
    (equation_named c.args.tokens.now c.in_ok-label.rest l c.in_ok-label.ensures.parses) c.in_err-behind.ensures

pub expr-requires-clause-fit : goal.expr-requires-clause-fit
expr-requires-clause-fit c =
    fit_behind (plain_tokens c.in_ok-label.rest.now) (plain_tokens c.in_ok-behind.behind.now) (mark sign.Colon) c.in_ok-behind.ensures
    c.in_ok-label.ensures.fit

pub returns-in_err-left : goal.returns-in_err-left
returns-in_err-left c =
    let l = c.in_ok-label.label in
    passed_by_part expr_of line_of (reading (operand (fresh 0) [] (left_of_equation l)) (plain_tokens c.in_ok-behind.behind.now))
    (reading label_of_equation (plain_tokens c.args.tokens.now)) (λ x rest. behind_expr x [] (left_of_equation l) rest) c.in_ok-behind.behind.now
    c.in_err-left.field-0.0 c.from_residual-in_err-left.result c.from_residual-in_err-left.ensures
    (equation_named c.args.tokens.now c.in_ok-label.rest l c.in_ok-label.ensures.parses ∙ ap (reading (colon_of_equation l)) c.in_ok-behind.ensures)
    (c.in_err-left.ensures.parses [] (left_of_equation l))

pub expr-requires-in-Some-clause-fit : goal.expr-requires-in-Some-clause-fit
expr-requires-in-Some-clause-fit c =
    fit_behind (plain_tokens c.in_ok-left.rest.now) (plain_tokens c.in-Some.behind.now) (relation rel.Eq) c.in-Some.ensures c.in_ok-left.ensures.fit

pub returns-in_err-right-in-Some : goal.returns-in_err-right-in-Some
returns-in_err-right-in-Some c =
    let l = c.in_ok-label.label in
    let x = expr_of c.in_ok-left.left in
    passed_by_part expr_of line_of (reading (operand (fresh 0) [] (right_of_equation l x)) (plain_tokens c.in-Some.behind.now))
    (reading label_of_equation (plain_tokens c.args.tokens.now)) (λ y rest. behind_expr y [] (right_of_equation l x) rest) c.in-Some.behind.now
    c.in_err-right-in-Some.field-0.0 c.from_residual-in_err-right-in-Some.result c.from_residual-in_err-right-in-Some.ensures
    (equation_named c.args.tokens.now c.in_ok-label.rest l c.in_ok-label.ensures.parses ∙ ap (reading (colon_of_equation l)) c.in_ok-behind.ensures
    ∙ (c.in_ok-left.ensures.parses [] (left_of_equation l)).0 ∙ ap (behind_expr x [] (left_of_equation l)) c.in-Some.ensures)
    (c.in_err-right-in-Some.ensures.parses [] (right_of_equation l x))

pub returns-in_err-nothing_behind-in-Some : goal.returns-in_err-nothing_behind-in-Some
returns-in_err-nothing_behind-in-Some c =
    let l = c.in_ok-label.label in
    let x = expr_of c.in_ok-left.left in
    let y = expr_of c.in_ok-right-in-Some.right in
    passed_by_end line_of (reading label_of_equation (plain_tokens c.args.tokens.now)) (plain.equation l x y) c.in_ok-right-in-Some.rest.now
    c.in_err-nothing_behind-in-Some.field-0.0 c.from_residual-in_err-nothing_behind-in-Some.result c.from_residual-in_err-nothing_behind-in-Some.ensures
    (equation_named c.args.tokens.now c.in_ok-label.rest l c.in_ok-label.ensures.parses ∙ ap (reading (colon_of_equation l)) c.in_ok-behind.ensures
    ∙ (c.in_ok-left.ensures.parses [] (left_of_equation l)).0 ∙ ap (behind_expr x [] (left_of_equation l)) c.in-Some.ensures
    ∙ (c.in_ok-right-in-Some.ensures.parses [] (right_of_equation l x)).0 ∙ ends_equation l x y (plain_tokens c.in_ok-right-in-Some.rest.now))
    c.in_err-nothing_behind-in-Some.ensures

pub returns-in_ok-nothing_behind-in-Some : goal.returns-in_ok-nothing_behind-in-Some
returns-in_ok-nothing_behind-in-Some c =
    let l = c.in_ok-label.label in
    let x = expr_of c.in_ok-left.left in
    let y = expr_of c.in_ok-right-in-Some.right in
    equation_named c.args.tokens.now c.in_ok-label.rest l c.in_ok-label.ensures.parses ∙ ap (reading (colon_of_equation l)) c.in_ok-behind.ensures
    ∙ (c.in_ok-left.ensures.parses [] (left_of_equation l)).0 ∙ ap (behind_expr x [] (left_of_equation l)) c.in-Some.ensures
    ∙ (c.in_ok-right-in-Some.ensures.parses [] (right_of_equation l x)).0 ∙ ends_equation l x y (plain_tokens c.in_ok-right-in-Some.rest.now)
    ∙ nothing_left (plain.equation l x y) c.in_ok-right-in-Some.rest.now c.in_ok-nothing_behind-in-Some.ensures

pub returns-in-None : goal.returns-in-None
returns-in-None c =
    let l = c.in_ok-label.label in
    let x = expr_of c.in_ok-left.left in
    stops_here line_of (reading label_of_equation (plain_tokens c.args.tokens.now)) c.in_ok-left.rest.now c.unexpected.result c.unexpected.ensures
    (equation_named c.args.tokens.now c.in_ok-label.rest l c.in_ok-label.ensures.parses ∙ ap (reading (colon_of_equation l)) c.in_ok-behind.ensures
    ∙ (c.in_ok-left.ensures.parses [] (left_of_equation l)).0 ∙ no_equals l x (plain_tokens c.in_ok-left.rest.now) c.in-None.ensures)
