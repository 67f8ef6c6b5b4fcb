-- How the bytes of a line are read as tokens, by the longest match. docs/MODEL_TEXT.md has it in words.
use Rattle.std.specs.Prelude.{◌≡◌, ◌≢◌, ◌⊎◌, ℕ, ◌+◌, ◌≤◌, Bool, false, ◌||◌, ◌==◌, List, [], ◌∷◌, length, IsTrue, All}
use Rattle.theory_meaning.specs.Identifier.{IsIdentifier}
use Rattle.theory_meaning.specs.Limits.{bound}
use Rattle.theory_grammar.specs.declared.unreadable.Unreadable.{Unreadable}
use Rattle.theory_grammar.specs.declared.unreadable.Unreadable.TheVariants.{BadToken}
use Rattle.theory_grammar.specs.Token.{Token, name, number}
use Rattle.theory_grammar.specs.Lexeme.{Lexeme, spelling, IsLongest, HasNoLexeme, token, fault, meaning}

-- a space, a tab or a carriage return
abbrev pub is_blank : ℕ → Bool
is_blank b = (b == 32) || (b == 9) || (b == 13)

-- a token and the column of its first byte, from 1
pub record Placed : Type 0 where
  pub column : ℕ
  pub token : Token

-- how a line ends, each with its column
pub data End : Type 0 where
  -- at a comment sign, or one past the last byte
  complete : ℕ → End
  -- at bytes that can't be read
  broken : Unreadable → ℕ → End

-- nothing is left, or a comment, which may hold any bytes
abbrev pub IsOver : List ℕ → Type 0
IsOver bytes = (bytes ≡ []) ⊎ ((note : List ℕ) × (bytes ≡ 35 ∷ note))

-- bytes that begin neither a lexeme nor a comment, nor with a blank
pub record IsBad (b : ℕ) (rest : List ℕ) : Type 0 where
  pub no_blank : is_blank b ≡ false
  pub no_comment : b ≢ 35
  pub no_lexeme : HasNoLexeme (b ∷ rest)

-- the bytes from this column on are read as these tokens, and end so
pub data Reads : ℕ → List ℕ → List Placed → End → Type 0 where
  over : (c : ℕ) (bytes : List ℕ) → IsOver bytes → Reads c bytes [] (complete c)
  blank : (c b : ℕ) (rest : List ℕ) (ts : List Placed) (e : End) → IsTrue (is_blank b) → Reads (c + 1) rest ts e → Reads c (b ∷ rest) ts e
  read : (c : ℕ) (bytes rest : List ℕ) (x : Lexeme) (t : Token) (ts : List Placed) (e : End) → IsLongest x rest bytes → meaning x ≡ token t →
      Reads (c + length (spelling x)) rest ts e → Reads c bytes (record { column = c; token = t } ∷ ts) e
  unread : (c : ℕ) (bytes rest : List ℕ) (x : Lexeme) (u : Unreadable) → IsLongest x rest bytes → meaning x ≡ fault u → Reads c bytes [] (broken u c)
  bad : (c b : ℕ) (rest : List ℕ) → IsBad b rest → Reads c (b ∷ rest) [] (broken BadToken c)

-- the bytes of a line are read as these tokens, and end so
abbrev pub ReadsLine : List ℕ → List Placed → End → Type 0
ReadsLine line = Reads 1 line

-- a name is an identifier, and a number is within the bound of literals
abbrev pub IsFit : Token → Type 0
IsFit (name x) = IsIdentifier x
IsFit (number n) = n ≤ bound
IsFit _ = Unit {0}

-- each token that is read is fit
abbrev pub TokensAreFit : Type 0
TokensAreFit = (line : List ℕ) (ts : List Placed) (e : End) → ReadsLine line ts e → All (λ p. IsFit p.token) ts

-- each line of bytes is read in some way
abbrev pub EachLineIsRead : Type 0
EachLineIsRead = (line : List ℕ) → (ts : List Placed) × (e : End) × ReadsLine line ts e

-- and in no other
abbrev pub NoLineIsReadTwice : Type 0
NoLineIsReadTwice = (line : List ℕ) (ts us : List Placed) (e f : End) → ReadsLine line ts e → ReadsLine line us f → (ts ≡ us) × (e ≡ f)
