-- What bytes spell that are one line, and their first fault. docs/MODEL_TEXT.md has both in words.
use Rattle.std.specs.Prelude.{◌≡◌, ℕ, ◌+◌, ◌≤◌, ◌<◌, List, [], ◌∷◌, ◌++◌, length, Bool, not, ◌==◌, IsTrue, Option, None, Some}
use Rattle.std.specs.List.{list_all}
use Rattle.std.specs.Str.{IsValidUpTo}
use Rattle.theory_grammar.specs.declared.text_kind.TextKind.{TextKind}
use Rattle.theory_grammar.specs.declared.text_kind.TextKind.TheVariants as kind
use Rattle.theory_grammar.specs.LineFault.{Grammar}
use Rattle.theory_grammar.specs.TextFault.{Fault, IsScanned, SpellsOne, IsFine, LineFails, IsText}

-- no line feed stands among the bytes
abbrev pub has_no_feed : List ℕ → Bool
has_no_feed = list_all (λ b. not (b == 10))

-- the line has no token, or spells this
abbrev pub IsLineAs : {T : Type 0} → Grammar T → List ℕ → Option T → Type 0
IsLineAs Spells bytes None = IsScanned bytes []
IsLineAs Spells bytes (Some tree) = SpellsOne Spells bytes tree

-- the bytes are one line without a line feed, and it spells this
pub record SpellsLine {T : Type 0} (Spells : Grammar T) (bytes : List ℕ) (tree : Option T) : Type 0 where
  pub text : IsText bytes
  pub one : IsTrue (has_no_feed bytes)
  pub line : IsLineAs Spells bytes tree

-- a fault of line 1
abbrev pub in_line_1 : TextKind → ℕ → Fault
in_line_1 k column = record { kind = k; line = 1; column = column }

-- the first fault of one line: its size as a text, its encoding, its fault as a line, and a line feed in a comment
pub data OneLineFails {T : Type 0} (Spells : Grammar T) (bytes : List ℕ) : Fault → Type 0 where
  too_large : 65536 < length bytes → OneLineFails Spells bytes (in_line_1 kind.TooLong 65537)
  not_utf8 : (n : ℕ) → length bytes ≤ 65536 → IsValidUpTo bytes n → OneLineFails Spells bytes (in_line_1 kind.NotUtf8 (n + 1))
  in_line : (k : TextKind) (column : ℕ) → IsText bytes → LineFails Spells bytes k column → OneLineFails Spells bytes (in_line_1 k column)
  line_feed : (before behind : List ℕ) → IsText bytes → IsFine Spells bytes → bytes ≡ before ++ 10 ∷ behind → IsTrue (has_no_feed before)
      → OneLineFails Spells bytes (in_line_1 kind.BadToken (length before + 1))
