-- Lexemes of a line, the longest match among them, and what each is read as. docs/MODEL_TEXT.md has it in words.
use Rattle.std.specs.Prelude.{◌≡◌, ◌≢◌, ℕ, ◌+◌, ◌-◌, ◌*◌, ◌≤◌, not, ◌&&◌, ◌||◌, nat_lt, if◌then◌else◌, List, [], ◌∷◌, ◌++◌, length, fold, Option, None, Some, codes, IsTrue}
use Rattle.std.specs.List.{list_all}
use Rattle.std.specs.Str.{bytes_eq}
use Rattle.theory_meaning.specs.declared.words.Rel.{Rel}
use Rattle.theory_meaning.specs.Identifier.{is_digit, is_word, is_reserved}
use Rattle.theory_meaning.specs.Limits.{bound}
use Rattle.theory_grammar.specs.declared.words.Keyword.{Keyword}
use Rattle.theory_grammar.specs.declared.words.Keyword.TheVariants as reserved
use Rattle.theory_grammar.specs.declared.words.Mark.{Mark}
use Rattle.theory_grammar.specs.declared.unreadable.Unreadable.{Unreadable}
use Rattle.theory_grammar.specs.declared.unreadable.Unreadable.TheVariants.{BadToken, LiteralWide}
use Rattle.theory_grammar.specs.Token.{Token, keyword, name, dotted, number, mark, relation, stray}
use Rattle.theory_grammar.specs.Signs.{keyword_bytes, mark_byte, relation_bytes}

-- bytes that belong together, whatever they stand for
pub data Lexeme : Type 0 where
  word : List ℕ → Lexeme
  -- two words with a dot between them
  pair : List ℕ → List ℕ → Lexeme
  digits : List ℕ → Lexeme
  sign : Mark → Lexeme
  comparison : Rel → Lexeme

-- the bytes of a lexeme
abbrev pub spelling : Lexeme → List ℕ
spelling (word w) = w
spelling (pair u v) = u ++ 46 ∷ v
spelling (digits ds) = ds
spelling (sign m) = mark_byte m ∷ []
spelling (comparison rel) = relation_bytes rel

-- its words are words, and its digits are digits, at least one
abbrev pub IsLexeme : Lexeme → Type 0
IsLexeme (word w) = IsTrue (is_word w)
IsLexeme (pair u v) = IsTrue (is_word u) × IsTrue (is_word v)
IsLexeme (digits ds) = (ds ≢ []) × IsTrue (list_all is_digit ds)
IsLexeme (sign m) = Unit {0}
IsLexeme (comparison rel) = Unit {0}

-- the bytes begin with this lexeme, and with no longer one
pub record IsLongest (x : Lexeme) (rest bytes : List ℕ) : Type 0 where
  pub lexeme : IsLexeme x
  pub whole : bytes ≡ spelling x ++ rest
  pub longest : (y : Lexeme) (behind : List ℕ) → IsLexeme y → bytes ≡ spelling y ++ behind → length (spelling y) ≤ length (spelling x)

-- the bytes begin with no lexeme
abbrev pub HasNoLexeme : List ℕ → Type 0
HasNoLexeme bytes = (y : Lexeme) (behind : List ℕ) → IsLexeme y → bytes ≡ spelling y ++ behind → ⊥

-- what a lexeme is read as
pub data Meaning : Type 0 where
  token : Token → Meaning
  fault : Unreadable → Meaning

-- the first of these reserved words that the bytes are
abbrev pub keyword_among : List ℕ → List Keyword → Option Keyword
keyword_among w [] = None
keyword_among w (k ∷ ks) = if bytes_eq w (keyword_bytes k) then Some k else keyword_among w ks

-- the reserved words, but `d`
abbrev pub all_keywords : List Keyword
all_keywords =
    reserved.Model ∷ reserved.Var ∷ reserved.Param ∷ reserved.Fun ∷ reserved.Of ∷ reserved.Eq ∷ reserved.Assume ∷ reserved.Claim ∷
    reserved.By ∷ reserved.Not ∷ reserved.And ∷ reserved.Or ∷ reserved.Implies ∷ reserved.Iff ∷ reserved.True ∷ reserved.False ∷ []

-- the token of a reserved word, which is stray for `d` alone
abbrev pub reserved_token : Option Keyword → Token
reserved_token (Some k) = keyword k
reserved_token None = stray

-- a word of more than 32 bytes can't be read
abbrev pub word_meaning : List ℕ → Meaning
word_meaning w = if nat_lt 32 (length w) then fault BadToken else token (if is_reserved w then reserved_token (keyword_among w all_keywords) else name w)

-- both words are identifiers, but `d` may stand before the dot; with another reserved word the token is stray
abbrev pub pair_meaning : List ℕ → List ℕ → Meaning
pair_meaning u v =
    if nat_lt 32 (length u) || nat_lt 32 (length v) then fault BadToken
    else token (if (is_reserved u && not (bytes_eq u (codes "d"))) || is_reserved v then stray else dotted (u ++ 46 ∷ v))

-- the number that digits stand for
abbrev pub number_of : List ℕ → ℕ
number_of ds = fold (λ n d. n * 10 + (d - 48)) 0 ds

-- a number above the bound can't be read
abbrev pub digits_meaning : List ℕ → Meaning
digits_meaning ds = if nat_lt bound (number_of ds) then fault LiteralWide else token (number (number_of ds))

-- what a lexeme is read as, by its kind
abbrev pub meaning : Lexeme → Meaning
meaning (word w) = word_meaning w
meaning (pair u v) = pair_meaning u v
meaning (digits ds) = digits_meaning ds
meaning (sign m) = token (mark m)
meaning (comparison rel) = token (relation rel)
