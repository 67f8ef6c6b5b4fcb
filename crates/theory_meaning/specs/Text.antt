-- Model texts and edits of them, as plain data.
use Rattle.std.specs.Prelude.{ℕ}
use Rattle.theory_meaning.specs.Point.{Name}
use Rattle.theory_meaning.specs.Tree.{Line}

-- a line and its number in the text, from 1
pub record Numbered : Type 0 where
  pub at : ℕ
  pub line : Line

-- a change of one line of a model: a line takes the place of the one with its key or is added, or the line of a key goes
pub data Op : Type 0 where
  put_line : Line → Op
  drop_key : Name → Op
