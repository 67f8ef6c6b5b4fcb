use Rattle.std.proofs.Common.{List, ◌∷◌, [], ◌++◌, ap, ◌∙◌}
use Rattle.theory_meaning.specs.Point.{Name}
use Rattle.theory_line.proofs.LineReading.{first_argument_stops, first_argument_read, next_argument_stops, next_argument_read, fewer_arguments, not_empty}
use Rattle.theory_line.proofs.names.arguments.Goals as goal

pub returns-in_err-first : goal.returns-in_err-first
returns-in_err-first c =
    first_argument_stops c.args.tokens.now c.in_err-first.field-0.0 c.from_residual.result c.from_residual.ensures c.in_err-first.ensures.parses

pub loop-rest-init : goal.loop-rest-init
loop-rest-init c =
    first_argument_read c.args.tokens.now c.in_ok-first.rest c.in_ok-first.first c.push.new.self c.in_ok-first.ensures.parses c.in_ok-first.ensures.fit
    (c.in_ok-push.ensures.ok ∙ ap (λ (xs : List Name). xs ++ c.in_ok-first.first ∷ []) c.new-all.ensures)

pub returns-in_err-argument : goal.returns-in_err-argument
returns-in_err-argument c =
    next_argument_stops c.args.tokens.now c.loop-rest.rest.now c.loop-rest.all c.in_err-argument.field-0.0 c.from_residual-in_err-argument.result
    c.loop-rest.invariant (not_empty c.loop-rest.rest.now c.loop-rest-test.ensures) c.from_residual-in_err-argument.ensures
    c.in_err-argument.ensures.parses

pub loop-rest-smaller : goal.loop-rest-smaller
loop-rest-smaller c =
    fewer_arguments c.loop-rest.rest.now c.in_ok-argument.behind c.in_ok-argument.argument (not_empty c.loop-rest.rest.now c.loop-rest-test.ensures)
    c.in_ok-argument.ensures.parses

pub loop-rest-preserved : goal.loop-rest-preserved
loop-rest-preserved c =
    next_argument_read c.args.tokens.now c.loop-rest.rest.now c.in_ok-argument.behind c.in_ok-argument.argument c.loop-rest.all c.push-in-loop-rest.new.self
    c.loop-rest.invariant (not_empty c.loop-rest.rest.now c.loop-rest-test.ensures) c.in_ok-argument.ensures.parses c.in_ok-argument.ensures.fit
    c.in_ok-push-2.ensures.ok
