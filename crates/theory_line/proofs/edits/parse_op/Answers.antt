use Rattle.std.proofs.Common.{sym}
use Rattle.theory_grammar.specs.Token.{name}
use Rattle.theory_line.proofs.EditReading.{put_stops, put_read, drop_stops, drop_read, no_edit, other_word}
use Rattle.theory_line.proofs.ParsesLaws.{fit_behind}
use Rattle.theory_tokens.specs.Plain.{plain_tokens}
use Rattle.theory_line.proofs.edits.parse_op.Goals as goal
use Rattle.theory_line.proofs.edits.parse_op.Goals.{in_default-via-in-Some-2+else-is_drop, in_default-via-in_default}

pub returns-in_err-read_line-in-Some : goal.returns-in_err-read_line-in-Some
returns-in_err-read_line-in-Some c =
    put_stops (plain_tokens c.args.tokens.now) (plain_tokens c.in-Some.rest.now) c.in-Some.word.now c.in_err-read_line-in-Some.field-0.0
    c.from_residual.result c.in-Some.ensures (sym c.if-is_put.ensures) c.from_residual.ensures c.in_err-read_line-in-Some.ensures

pub lone_name-requires : goal.lone_name-requires
lone_name-requires c = record {
  fit = fit_behind (plain_tokens c.args.tokens.now) (plain_tokens c.in-Some.rest.now) (name c.in-Some.word.now) c.in-Some.ensures c.requires.fit;
}

pub returns-in_err-lone_name-in-Some-2 : goal.returns-in_err-lone_name-in-Some-2
returns-in_err-lone_name-in-Some-2 c =
    drop_stops (plain_tokens c.args.tokens.now) c.in-Some.rest.now c.in-Some.word.now c.in_err-lone_name-in-Some-2.field-0.0
    c.from_residual-in_err-lone_name-in-Some-2.result c.in-Some.ensures (sym c.if-is_put.ensures) (sym c.if-is_drop.ensures)
    c.from_residual-in_err-lone_name-in-Some-2.ensures c.in_err-lone_name-in-Some-2.ensures

pub returns-in_ok-read_line-in-Some : goal.returns-in_ok-read_line-in-Some
returns-in_ok-read_line-in-Some c =
    put_read (plain_tokens c.args.tokens.now) (plain_tokens c.in-Some.rest.now) c.in-Some.word.now c.in_ok-read_line-in-Some.field-0 c.in-Some.ensures
    (sym c.if-is_put.ensures) c.in_ok-read_line-in-Some.ensures

pub returns-in_ok-lone_name-in-Some-2 : goal.returns-in_ok-lone_name-in-Some-2
returns-in_ok-lone_name-in-Some-2 c =
    drop_read (plain_tokens c.args.tokens.now) c.in-Some.rest.now c.in-Some.word.now c.in_ok-lone_name-in-Some-2.field-0 c.in-Some.ensures
    (sym c.if-is_put.ensures) (sym c.if-is_drop.ensures) c.in_ok-lone_name-in-Some-2.ensures

pub returns-in_default : goal.returns-in_default
returns-in_default c = elim c.in_default.branch [
  | in_default-via-in-Some-2+else-is_drop w ↦
      other_word c.args.tokens.now w.in-Some.rest.now w.in-Some.word.now c.unexpected.result c.unexpected.ensures w.in-Some.ensures
      (sym w.if-is_put.ensures) (sym w.if-is_drop.ensures)
  | in_default-via-in_default w ↦ no_edit c.args.tokens.now c.unexpected.result c.unexpected.ensures w.in_default.ensures
]
