use Rattle.theory_line.proofs.LineReading.{lone_stops, lone_left_over, lone_read}
use Rattle.theory_line.proofs.names.lone_name.Goals as goal

pub returns-in_err-only : goal.returns-in_err-only
returns-in_err-only c =
    lone_stops c.args.tokens.now c.in_err-only.field-0.0 c.from_residual.result c.from_residual.ensures c.in_err-only.ensures.parses

pub returns-in_err-nothing_behind : goal.returns-in_err-nothing_behind
returns-in_err-nothing_behind c =
    lone_left_over c.args.tokens.now c.in_ok-only.rest c.in_ok-only.only c.in_err-nothing_behind.field-0.0 c.from_residual-in_err-nothing_behind.result
    c.in_ok-only.ensures.parses c.from_residual-in_err-nothing_behind.ensures c.in_err-nothing_behind.ensures

pub returns : goal.returns
returns c = lone_read c.args.tokens.now c.in_ok-only.rest c.in_ok-only.only c.in_ok-only.ensures.parses c.in_ok-nothing_behind.ensures
