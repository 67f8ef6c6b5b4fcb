-- Words and the identifiers among them. docs/MODEL_TEXT.md has them in words.
use Rattle.std.specs.Prelude.{ℕ, Bool, false, not, ◌&&◌, ◌||◌, ◌==◌, nat_le, List, [], ◌∷◌, length, codes, IsTrue}
use Rattle.std.specs.List.{list_all, list_any}
use Rattle.std.specs.Str.{bytes_eq}
use Rattle.theory_meaning.specs.Point.{Name}

-- an ASCII digit
abbrev pub is_digit : ℕ → Bool
is_digit b = nat_le 48 b && nat_le b 57

-- an ASCII letter
abbrev pub is_letter : ℕ → Bool
is_letter b = (nat_le 65 b && nat_le b 90) || (nat_le 97 b && nat_le b 122)

-- a byte that goes on in a word
abbrev pub is_word_byte : ℕ → Bool
is_word_byte b = is_letter b || is_digit b || (b == 95)

-- a letter and then letters, digits or underlines
abbrev pub is_word : List ℕ → Bool
is_word [] = false
is_word (b ∷ bs) = is_letter b && list_all is_word_byte bs

-- the words of the language that take up a line, and `d`, which stands before the dot of a shift
abbrev pub reserved_words : List (List ℕ)
reserved_words = codes "model" ∷ codes "var" ∷ codes "param" ∷ codes "fun" ∷ codes "of" ∷ codes "eq" ∷ codes "assume" ∷ codes "claim" ∷ codes "by" ∷ codes
    "not" ∷ codes "and" ∷ codes "or" ∷ codes "implies" ∷ codes "iff" ∷ codes "true" ∷ codes "false" ∷ codes "d" ∷ []

-- the bytes are a reserved word
abbrev pub is_reserved : List ℕ → Bool
is_reserved bs = list_any (bytes_eq bs) reserved_words

-- a word of at most 32 bytes that isn't reserved
abbrev pub is_identifier : Name → Bool
is_identifier name = is_word name && nat_le (length name) 32 && not (is_reserved name)

-- the same as a fact
abbrev pub IsIdentifier : Name → Type 0
IsIdentifier name = IsTrue (is_identifier name)
