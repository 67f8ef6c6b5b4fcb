-- What stands next on a line, for the clauses of private functions.
use Rattle.std.specs.Prelude.{◌≡◌, ◌≢◌, ℕ, ◌+◌, ◌-◌, ◌<◌, Bool, true, false, List, [], ◌∷◌, length, Result, Ok, Err}
use Rattle.theory_meaning.specs.Identifier.{is_letter, is_word_byte, is_digit}
use Rattle.theory_grammar.specs.declared.unreadable.Unreadable.{Unreadable}
use Rattle.theory_grammar.specs.Signs.{mark_byte}
use Rattle.theory_grammar.specs.Lexeme.{Meaning, token, fault}
use Rattle.theory_grammar.specs.Scan.{is_blank, Placed, End, complete, broken, Reads}
use Rattle.theory_grammar.specs.declared.words.Mark.{Mark}
use Rattle.theory_grammar.specs.Runs.{first_passes}
use Rattle.theory_grammar.specs.Token as plain
use Rattle.theory_tokens.specs.declared.run.Kind.{Kind}
use Rattle.theory_tokens.specs.declared.run.Kind.TheVariants.{Blank, WordByte, Digit}
use Rattle.theory_tokens.specs.declared.token.Token.{Token}
use Rattle.theory_tokens.specs.declared.next.Next.{Next}
use Rattle.theory_tokens.specs.declared.next.Next.TheVariants.{Found, Over, Bad}
use Rattle.theory_tokens.specs.Plain.{plain_token}

-- the test of a kind of bytes
abbrev pub kind_test : Kind → ℕ → Bool
kind_test Blank = is_blank
kind_test WordByte = is_word_byte
kind_test Digit = is_digit

-- what a token, or the reason that there is none, stands for
abbrev pub meaning_of : Result Token Unreadable → Meaning
meaning_of (Ok t) = token (plain_token t)
meaning_of (Err u) = fault u

-- the token stands first: whatever the bytes behind it are read as, the whole is read so behind the token
pub record Takes (t : plain.Token) (behind bytes : List ℕ) : Type 0 where
  pub shorter : length behind < length bytes
  pub reads : (c : ℕ) (ts : List Placed) (e : End) → Reads (c + (length bytes - length behind)) behind ts e →
      Reads c bytes (record { column = c; token = t } ∷ ts) e

-- what was found stands first
abbrev pub IsNext : List ℕ → Next → Type 0
IsNext bytes (Found t behind) = Takes (plain_token t) behind.now bytes
IsNext bytes Over = (c : ℕ) → Reads c bytes [] (complete c)
IsNext bytes (Bad u) = (c : ℕ) → Reads c bytes [] (broken u c)

-- a token of this meaning was found with these bytes behind it, or no token for this reason
abbrev pub IsFoundAs : Meaning → List ℕ → Next → Type 0
IsFoundAs m behind (Found t rest) = (m ≡ token (plain_token t)) × (rest.now ≡ behind)
IsFoundAs m behind Over = ⊥
IsFoundAs m behind (Bad u) = m ≡ fault u

-- the bytes behind a dot, which a letter begins
pub record IsPart (part bytes : List ℕ) : Type 0 where
  pub split : bytes ≡ 46 ∷ part
  pub letter : first_passes is_letter part ≡ true

-- the byte begins neither blanks nor a comment, and no word or number
pub record BeginsNoWord (b : ℕ) : Type 0 where
  pub blank : is_blank b ≡ false
  pub comment : b ≢ 35
  pub letter : is_letter b ≡ false
  pub digit : is_digit b ≡ false

-- the byte is no mark
pub record IsNoMark (b : ℕ) : Type 0 where
  pub differs : (m : Mark) → b ≢ mark_byte m
