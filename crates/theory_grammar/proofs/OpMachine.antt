-- The machine that reads the tokens of an edit one by one.
use Rattle.std.specs.Prelude.{codes, Bool, true, false, Option, None, Some, Result, Ok, Err}
use Rattle.std.specs.Str.{bytes_eq}
use Rattle.theory_meaning.specs.Point.{Name}
use Rattle.theory_meaning.specs.Tree.{Line}
use Rattle.theory_meaning.specs.Text.{Op, put_line, drop_key}
use Rattle.theory_grammar.specs.declared.words.LineFaultKind.{LineFaultKind}
use Rattle.theory_grammar.specs.declared.words.LineFaultKind.TheVariants.{Unexpected}
use Rattle.theory_grammar.specs.Token.{Token, name}
use Rattle.theory_grammar.specs.Spelled.{Limits}
use Rattle.theory_grammar.specs.Machine.{State, and_then}
use Rattle.theory_grammar.specs.Machine as line

-- how far an edit was read
pub data OpState : Type 0 where
  op_start : OpState
  putting : State → OpState
  key_to_drop : OpState
  dropped : Name → OpState

abbrev pub OpMove : Type 0
OpMove = Result OpState LineFaultKind

abbrev pub op_unexpected : OpMove
op_unexpected = Err Unexpected

-- the first word of an edit: the tests for `put` and for `drop`
abbrev pub drop_word : Bool → OpMove
drop_word true = Ok key_to_drop
drop_word false = op_unexpected

abbrev pub op_word : Bool → Bool → OpMove
op_word true is_drop = Ok (putting line.start)
op_word false is_drop = drop_word is_drop

abbrev pub at_op_start : Token → OpMove
at_op_start (name x) = op_word (bytes_eq x (codes "put")) (bytes_eq x (codes "drop"))
at_op_start _ = op_unexpected

abbrev pub at_key : Token → OpMove
at_key (name x) = Ok (dropped x)
at_key _ = op_unexpected

-- a step within the line to put
abbrev pub within_put : line.Move → OpMove
within_put move = and_then move (λ st. Ok (putting st)) Err

abbrev pub op_step : Limits → OpState → Token → OpMove
op_step limits op_start t = at_op_start t
op_step limits (putting st) t = within_put (line.step limits st t)
op_step limits key_to_drop t = at_key t
op_step limits (dropped x) t = op_unexpected

abbrev pub put_ended : Option Line → Option Op
put_ended None = None
put_ended (Some l) = Some (put_line l)

abbrev pub op_ended : OpState → Option Op
op_ended (putting st) = put_ended (line.ended st)
op_ended (dropped x) = Some (drop_key x)
op_ended _ = None
