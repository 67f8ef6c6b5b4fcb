-- What printed forms spell.
use Rattle.std.specs.Prelude.{◌≡◌, ℕ, ◌≤◌, false, List, [], length, Some}
use Rattle.std.specs.List.{AllByRecursion}
use Rattle.theory_meaning.specs.Divisors.{divisors_of_line}
use Rattle.theory_meaning.specs.Edit.{lines_alone, numbered_from}
use Rattle.theory_meaning.specs.Tree.{Line}
use Rattle.theory_meaning.specs.Text.{Numbered, Op, put_line, drop_key}
use Rattle.theory_grammar.specs.LineFault.{Grammar}
use Rattle.theory_grammar.specs.OneLine.{SpellsLine}
use Rattle.theory_grammar.specs.Opened.{open_in_line, open_in_op}
use Rattle.theory_grammar.specs.Printed.{line_text, text_of}
use Rattle.theory_grammar.specs.Spelled.{IsLine}
use Rattle.theory_grammar.specs.TextFault.{SpellsOne, SpellsText}
use Rattle.theory_grammar.specs.Texts.{SpellsLines, with_number}

-- the same grammar where any number of signs may stand open
abbrev pub AtAnyDepth : {T : Type 0} → Grammar T → Grammar T
AtAnyDepth Spells limits = Spells (record limits { depth = false })

-- what the bytes of a line spell, its printed form alone spells too at any depth, where that isn't too long for a line
abbrev pub PrintsBackAtAnyDepth : {T : Type 0} → Grammar T → (T → List ℕ) → Type 0
PrintsBackAtAnyDepth {T = T} Spells printed =
    (bytes : List ℕ) (tree : T) → SpellsOne Spells bytes tree → length (printed tree) ≤ 1024 → SpellsLine (AtAnyDepth Spells) (printed tree) (Some tree)

-- and within the limit of open signs, where the tree is of this kind
abbrev pub PrintsBack : {T : Type 0} → Grammar T → (T → List ℕ) → (T → Type 0) → Type 0
PrintsBack {T = T} Spells printed IsOfKind =
    (bytes : List ℕ) (tree : T) → SpellsOne Spells bytes tree → length (printed tree) ≤ 1024 → IsOfKind tree → SpellsLine Spells (printed tree) (Some tree)

-- at most 32 signs stand open at once in the printed form of the line
abbrev pub LineOpensFew : Line → Type 0
LineOpensFew line = open_in_line line ≤ 32

-- or in that of the edit
abbrev pub EditOpensFew : Op → Type 0
EditOpensFew op = open_in_op op ≤ 32

-- nothing divides in the line
abbrev pub NothingDivides : Line → Type 0
NothingDivides line = divisors_of_line line ≡ []

-- nor in the line that is put
abbrev pub NothingDividesInEdit : Op → Type 0
NothingDividesInEdit (put_line line) = NothingDivides line
NothingDividesInEdit (drop_key key) = Unit {0}

-- no printed line is too long
abbrev pub AreShort : List Line → Type 0
AreShort = AllByRecursion (λ line. length (line_text line) ≤ 1024)

-- what the bytes of a text spell, its printed lines spell too at any depth, numbered anew, where they aren't too long for lines and a text
abbrev pub TextPrintsBackAtAnyDepth : Type 0
TextPrintsBackAtAnyDepth =
    (bytes : List ℕ) (lines : List Numbered) → SpellsLines bytes lines → AreShort (lines_alone lines) → length (text_of (lines_alone lines)) ≤ 65536 →
    SpellsText (AtAnyDepth IsLine) with_number (text_of (lines_alone lines)) (numbered_from 1 (lines_alone lines))

-- and within the limit of open signs, where each line is of this kind
abbrev pub TextPrintsBack : (Line → Type 0) → Type 0
TextPrintsBack IsOfKind =
    (bytes : List ℕ) (lines : List Numbered) → SpellsLines bytes lines → AreShort (lines_alone lines) → length (text_of (lines_alone lines)) ≤ 65536 →
    AllByRecursion IsOfKind (lines_alone lines) → SpellsLines (text_of (lines_alone lines)) (numbered_from 1 (lines_alone lines))
