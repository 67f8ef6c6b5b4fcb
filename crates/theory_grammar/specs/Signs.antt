-- The bytes of reserved words and of signs. docs/MODEL_TEXT.md has them in words.
use Rattle.std.specs.Prelude.{ℕ, List, codes}
use Rattle.theory_meaning.specs.declared.words.Rel.{Rel}
use Rattle.theory_meaning.specs.declared.words.Rel.TheVariants.{Eq, Ne, Lt, Le, Gt, Ge}
use Rattle.theory_grammar.specs.declared.words.Keyword.{Keyword}
use Rattle.theory_grammar.specs.declared.words.Keyword.TheVariants as reserved
use Rattle.theory_grammar.specs.declared.words.Mark.{Mark}
use Rattle.theory_grammar.specs.declared.words.Mark.TheVariants.{Open, Close, OpenSquare, CloseSquare, Plus, Minus, Times, Over, Power, Colon}

-- the bytes of a reserved word
abbrev pub keyword_bytes : Keyword → List ℕ
keyword_bytes reserved.Model = codes "model"
keyword_bytes reserved.Var = codes "var"
keyword_bytes reserved.Param = codes "param"
keyword_bytes reserved.Fun = codes "fun"
keyword_bytes reserved.Of = codes "of"
keyword_bytes reserved.Eq = codes "eq"
keyword_bytes reserved.Assume = codes "assume"
keyword_bytes reserved.Claim = codes "claim"
keyword_bytes reserved.By = codes "by"
keyword_bytes reserved.Not = codes "not"
keyword_bytes reserved.And = codes "and"
keyword_bytes reserved.Or = codes "or"
keyword_bytes reserved.Implies = codes "implies"
keyword_bytes reserved.Iff = codes "iff"
keyword_bytes reserved.True = codes "true"
keyword_bytes reserved.False = codes "false"

-- the byte of a sign
abbrev pub mark_byte : Mark → ℕ
mark_byte Open = 40
mark_byte Close = 41
mark_byte OpenSquare = 91
mark_byte CloseSquare = 93
mark_byte Plus = 43
mark_byte Minus = 45
mark_byte Times = 42
mark_byte Over = 47
mark_byte Power = 94
mark_byte Colon = 58

-- the bytes of a comparison
abbrev pub relation_bytes : Rel → List ℕ
relation_bytes Eq = codes "="
relation_bytes Ne = codes "!="
relation_bytes Lt = codes "<"
relation_bytes Le = codes "<="
relation_bytes Gt = codes ">"
relation_bytes Ge = codes ">="
