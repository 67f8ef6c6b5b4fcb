-- The tokens of a line, as plain data. docs/MODEL_TEXT.md has them in words.
use Rattle.std.specs.Prelude.{ℕ}
use Rattle.theory_meaning.specs.declared.words.Rel.{Rel}
use Rattle.theory_meaning.specs.Point.{Name}
use Rattle.theory_grammar.specs.declared.words.Keyword.{Keyword}
use Rattle.theory_grammar.specs.declared.words.Mark.{Mark}

-- a token of a line
pub data Token : Type 0 where
  -- a reserved word but `d`
  keyword : Keyword → Token
  -- an identifier
  name : Name → Token
  -- two identifiers joined by a dot, or `d` and an identifier: the bytes of the whole
  dotted : Name → Token
  -- digits, by the number that they stand for
  number : ℕ → Token
  mark : Mark → Token
  relation : Rel → Token
  -- `d` alone, or a dotted name with a reserved word in any other way: a token that no line has
  stray : Token
