-- Worked readings of quotients and fraction literals, as the left side of an equation. docs/MODEL_TEXT.md has the rules in words.
use Rattle.std.specs.Prelude.{ℕ, ◌+◌, pos, List, [], ◌∷◌, ◌++◌, codes}
use Rattle.theory_meaning.specs.declared.words.Rel.TheVariants as rel
use Rattle.theory_meaning.specs.Fraction.{whole}
use Rattle.theory_meaning.specs.Tree.{Expr, equation}
use Rattle.theory_meaning.specs.Tree as plain
use Rattle.theory_grammar.specs.declared.words.Keyword.TheVariants as word
use Rattle.theory_grammar.specs.declared.words.Mark.TheVariants as sign
use Rattle.theory_grammar.specs.declared.words.LineFaultKind.{LineFaultKind}
use Rattle.theory_grammar.specs.LineFault.{FirstFault}
use Rattle.theory_grammar.specs.Spelled.{every, lowest, IsLine}
use Rattle.theory_grammar.specs.Token.{Token, keyword, name, mark, relation, number}

-- the token of `x`
abbrev pub x_ : Token
x_ = name (codes "x")

-- the token of `y`
abbrev pub y_ : Token
y_ = name (codes "y")

-- the token of `/`
abbrev pub over : Token
over = mark sign.Over

-- the token of `*`
abbrev pub times : Token
times = mark sign.Times

-- the token of `-`
abbrev pub minus : Token
minus = mark sign.Minus

-- the token of `^`
abbrev pub power : Token
power = mark sign.Power

-- the token of `(`
abbrev pub open_ : Token
open_ = mark sign.Open

-- the token of `)`
abbrev pub close : Token
close = mark sign.Close

-- the expression of `x`
abbrev pub the_x : Expr
the_x = plain.symbol (codes "x")

-- the expression of `y`
abbrev pub the_y : Expr
the_y = plain.symbol (codes "y")

-- the expression of a whole number
abbrev pub the : ℕ → Expr
the n = plain.number (whole (pos n))

-- the expression of the literal m/n
abbrev pub literal : ℕ → ℕ → Expr
literal m n = plain.number (lowest m n)

-- `eq E: .. = 0` with these tokens on its left side
abbrev pub equated : List Token → List Token
equated ts = keyword word.Eq ∷ name (codes "E") ∷ mark sign.Colon ∷ (ts ++ relation rel.Eq ∷ number 0 ∷ [])

-- there the tokens are this expression
abbrev pub AreRead : List Token → Expr → Type 0
AreRead ts u = IsLine every (equated ts) (equation (codes "E") u (the 0))

-- there the one behind so many of them is the first at fault, for this reason
abbrev pub FailBehind : ℕ → LineFaultKind → List Token → Type 0
FailBehind n kind ts = FirstFault IsLine (equated ts) kind (n + 3)
