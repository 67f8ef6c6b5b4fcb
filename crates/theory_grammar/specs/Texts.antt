-- Model texts, edit texts and single lines: what bytes spell, and their first fault.
use Rattle.std.specs.Prelude.{◌≡◌, ◌⊎◌, ℕ, List, Option}
use Rattle.theory_meaning.specs.Tree.{Line}
use Rattle.theory_meaning.specs.Text.{Numbered, Op}
use Rattle.theory_grammar.specs.Spelled.{IsLine, IsOp}
use Rattle.theory_grammar.specs.TextFault.{Fault, SpellsText, TextFails}
use Rattle.theory_grammar.specs.OneLine.{SpellsLine, OneLineFails}

-- a line is kept with its number in the text
abbrev pub with_number : ℕ → Line → Numbered
with_number n line = record { at = n; line = line }

-- an edit is kept without a number
abbrev pub without_number : ℕ → Op → Op
without_number n op = op

-- the bytes of a model text spell these numbered lines
abbrev pub SpellsLines : List ℕ → List Numbered → Type 0
SpellsLines = SpellsText IsLine with_number

-- the first fault of a model text
abbrev pub IsFirstFault : List ℕ → Fault → Type 0
IsFirstFault = TextFails IsLine

-- the bytes of an edit text spell these edits
abbrev pub SpellsOps : List ℕ → List Op → Type 0
SpellsOps = SpellsText IsOp without_number

-- the first fault of an edit text
abbrev pub IsFirstOpsFault : List ℕ → Fault → Type 0
IsFirstOpsFault = TextFails IsOp

-- the bytes are one line that spells this, or blanks and a comment
abbrev pub SpellsOneLine : List ℕ → Option Line → Type 0
SpellsOneLine = SpellsLine IsLine

-- the first fault of one line
abbrev pub IsFirstLineFault : List ℕ → Fault → Type 0
IsFirstLineFault = OneLineFails IsLine

-- bytes stand for at most one
abbrev pub IsOnce : {X : Type 0} → (List ℕ → X → Type 0) → Type 0
IsOnce {X = X} Stands = (bytes : List ℕ) (x y : X) → Stands bytes x → Stands bytes y → x ≡ y

-- bytes stand for something or have a fault
abbrev pub IsSome : {X : Type 0} → (List ℕ → X → Type 0) → (List ℕ → Fault → Type 0) → Type 0
IsSome {X = X} Stands Fails = (bytes : List ℕ) → ((x : X) × Stands bytes x) ⊎ ((f : Fault) × Fails bytes f)

-- never both
abbrev pub IsNeverBoth : {X : Type 0} → (List ℕ → X → Type 0) → (List ℕ → Fault → Type 0) → Type 0
IsNeverBoth {X = X} Stands Fails = (bytes : List ℕ) (x : X) (f : Fault) → Stands bytes x → ¬ (Fails bytes f)
