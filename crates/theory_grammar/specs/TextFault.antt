-- What the bytes of a line or a text spell, and their first fault. docs/MODEL_TEXT.md has both in words.
use Rattle.std.specs.Prelude.{◌≢◌, ◌⊎◌, ℕ, zero, suc, ◌+◌, ◌≤◌, ◌<◌, ◌==◌, if◌then◌else◌, List, [], ◌∷◌, length, map, take, count_by, IsUtf8}
use Rattle.std.specs.Str.{IsValidUpTo}
use Rattle.theory_grammar.specs.declared.text_kind.TextKind.{TextKind}
use Rattle.theory_grammar.specs.declared.text_kind.TextKind.TheVariants as kind
use Rattle.theory_grammar.specs.declared.unreadable.Unreadable.{Unreadable}
use Rattle.theory_grammar.specs.declared.unreadable.Unreadable.TheVariants as unreadable
use Rattle.theory_grammar.specs.declared.words.LineFaultKind.{LineFaultKind}
use Rattle.theory_grammar.specs.declared.words.LineFaultKind.TheVariants as line
use Rattle.theory_grammar.specs.Token.{Token}
use Rattle.theory_grammar.specs.Scan.{Placed, End, complete, broken, ReadsLine}
use Rattle.theory_grammar.specs.Spelled.{every}
use Rattle.theory_grammar.specs.LineFault.{Grammar, FirstFault}

-- a fault and its place: line and column from 1, columns in bytes
pub record Fault : Type 0 where
  pub kind : TextKind
  pub line : ℕ
  pub column : ℕ

-- the kind of a fault at a token or at the end of a line
abbrev pub kind_of_token : LineFaultKind → TextKind
kind_of_token line.Unexpected = kind.Unexpected
kind_of_token line.ZeroBelow = kind.ZeroBelow
kind_of_token line.Exponent = kind.Exponent
kind_of_token line.Deep = kind.Deep

-- the kind of a fault at bytes that are no token
abbrev pub kind_of_bytes : Unreadable → TextKind
kind_of_bytes unreadable.BadToken = kind.BadToken
kind_of_bytes unreadable.LiteralWide = kind.LiteralWide

-- the tokens without their columns
abbrev pub tokens_of : List Placed → List Token
tokens_of = map (λ p. p.token)

-- the column of the token before which so many stand, and behind the last one that of the end
abbrev pub column_at : List Placed → ℕ → ℕ → ℕ
column_at [] end k = end
column_at (p ∷ ps) end zero = p.column
column_at (p ∷ ps) end (suc k) = column_at ps end k

-- the line isn't too long and its bytes are these tokens
pub record IsScanned (bytes : List ℕ) (ts : List Placed) : Type 0 where
  pub short : length bytes ≤ 1024
  pub end : ℕ
  pub reads : ReadsLine bytes ts (complete end)

-- the line spells this, within all limits
pub record SpellsOne {T : Type 0} (Spells : Grammar T) (bytes : List ℕ) (tree : T) : Type 0 where
  pub tokens : List Placed
  pub scanned : IsScanned bytes tokens
  pub spelled : Spells every (tokens_of tokens) tree

-- the line has no token, or it spells something
abbrev pub IsFine : {T : Type 0} → Grammar T → List ℕ → Type 0
IsFine {T = T} Spells bytes = IsScanned bytes [] ⊎ ((tree : T) × SpellsOne Spells bytes tree)

-- the fault of a line with the least column: at a token, at the end, or at bytes that no token is at fault before
pub data LineFails {T : Type 0} (Spells : Grammar T) (bytes : List ℕ) : TextKind → ℕ → Type 0 where
  too_long : 1024 < length bytes → LineFails Spells bytes kind.TooLong 1025
  at_token : (ts : List Placed) (e : End) (k : LineFaultKind) (place : ℕ) → length bytes ≤ 1024 → ReadsLine bytes ts e
      → FirstFault Spells (tokens_of ts) k place → place < length ts → LineFails Spells bytes (kind_of_token k) (column_at ts 0 place)
  at_end : (ts : List Placed) (column : ℕ) (k : LineFaultKind) → length bytes ≤ 1024 → ReadsLine bytes ts (complete column)
      → ts ≢ [] → FirstFault Spells (tokens_of ts) k (length ts) → LineFails Spells bytes (kind_of_token k) column
  at_bytes : (ts : List Placed) (u : Unreadable) (column : ℕ) → length bytes ≤ 1024 → ReadsLine bytes ts (broken u column)
      → ((k : LineFaultKind) (place : ℕ) → FirstFault Spells (tokens_of ts) k place → length ts ≤ place) → LineFails Spells bytes (kind_of_bytes u) column

-- a byte that goes before the first line
abbrev pub onto_first : ℕ → List (List ℕ) → List (List ℕ)
onto_first b [] = (b ∷ []) ∷ []
onto_first b (l ∷ ls) = (b ∷ l) ∷ ls

-- what stands between line feeds: a line feed at the very end opens no further line
abbrev pub cut_lines : List ℕ → List (List ℕ)
cut_lines [] = []
cut_lines (b ∷ bs) = if b == 10 then [] ∷ cut_lines bs else onto_first b (cut_lines bs)

-- from the line of this number on, the lines that have a token spell these, each kept with its number
pub data SpellFrom {T A : Type 0} (Spells : Grammar T) (keep : ℕ → T → A) : ℕ → List (List ℕ) → List A → Type 0 where
  ended : (n : ℕ) → SpellFrom Spells keep n [] []
  passed : (n : ℕ) (l : List ℕ) (ls : List (List ℕ)) (xs : List A) → IsScanned l []
      → SpellFrom Spells keep (n + 1) ls xs → SpellFrom Spells keep n (l ∷ ls) xs
  spelled : (n : ℕ) (l : List ℕ) (ls : List (List ℕ)) (tree : T) (xs : List A) → SpellsOne Spells l tree
      → SpellFrom Spells keep (n + 1) ls xs → SpellFrom Spells keep n (l ∷ ls) (keep n tree ∷ xs)

-- the first line that isn't fine, and its fault
pub data FailFrom {T : Type 0} (Spells : Grammar T) : ℕ → List (List ℕ) → Fault → Type 0 where
  here : (n : ℕ) (l : List ℕ) (ls : List (List ℕ)) (k : TextKind) (column : ℕ) → LineFails Spells l k column
      → FailFrom Spells n (l ∷ ls) (record { kind = k; line = n; column = column })
  later : (n : ℕ) (l : List ℕ) (ls : List (List ℕ)) (f : Fault) → IsFine Spells l
      → FailFrom Spells (n + 1) ls f → FailFrom Spells n (l ∷ ls) f

-- the number of the line in which the byte behind these ones stands
abbrev pub line_behind : List ℕ → ℕ
line_behind bytes = count_by (λ b. b == 10) bytes + 1

-- its column, given that of the first byte
abbrev pub column_from : ℕ → List ℕ → ℕ
column_from c [] = c
column_from c (b ∷ bs) = column_from (if b == 10 then 1 else c + 1) bs

-- a fault at the byte behind these ones
abbrev pub fault_behind : TextKind → List ℕ → Fault
fault_behind k bytes = record { kind = k; line = line_behind bytes; column = column_from 1 bytes }

-- the bytes are few enough and UTF-8
pub record IsText (bytes : List ℕ) : Type 0 where
  pub size : length bytes ≤ 65536
  pub utf8 : IsUtf8 bytes

-- the bytes spell these lines or edits
pub record SpellsText {T A : Type 0} (Spells : Grammar T) (keep : ℕ → T → A) (bytes : List ℕ) (xs : List A) : Type 0 where
  pub text : IsText bytes
  pub lines : SpellFrom Spells keep 1 (cut_lines bytes) xs

-- the first fault of a text: its size, then its encoding, then its lines in order
pub data TextFails {T : Type 0} (Spells : Grammar T) (bytes : List ℕ) : Fault → Type 0 where
  too_large : 65536 < length bytes → TextFails Spells bytes (fault_behind kind.TooLong (take 65536 bytes))
  not_utf8 : (n : ℕ) → length bytes ≤ 65536 → IsValidUpTo bytes n → TextFails Spells bytes (fault_behind kind.NotUtf8 (take n bytes))
  in_line : (f : Fault) → IsText bytes → FailFrom Spells 1 (cut_lines bytes) f → TextFails Spells bytes f
