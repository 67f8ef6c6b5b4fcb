-- What the body of a request is read as, and in which format it is written.
use Rattle.std.specs.Prelude.{◌≡◌, ◌⊎◌, ℕ, List}
use Rattle.std.specs.List.{AllByRecursion}
use Rattle.theory_meaning.specs.Text.{Numbered, Op}
use Rattle.theory_grammar.specs.RoundTrip.{NothingDivides, NothingDividesInEdit}
use Rattle.theory_grammar.specs.TextFault.{Fault}
use Rattle.theory_grammar.specs.Texts.{SpellsLines, IsFirstFault, SpellsOps, IsFirstOpsFault}

-- what bytes are read as: what they spell, or their first fault
pub data Read (T : Type 0) : Type 0 where
  spelled : T → Read T
  faulty : Fault → Read T

-- the bytes of a model text are read so; all bytes are, in one way
abbrev pub IsTextRead : List ℕ → Read (List Numbered) → Type 0
IsTextRead bytes (spelled lines) = SpellsLines bytes lines
IsTextRead bytes (faulty fault) = IsFirstFault bytes fault

-- the bytes of an edit text are read so; all bytes are, in one way
abbrev pub IsEditRead : List ℕ → Read (List Op) → Type 0
IsEditRead bytes (spelled ops) = SpellsOps bytes ops
IsEditRead bytes (faulty fault) = IsFirstOpsFault bytes fault

-- there are two formats: 1, in which nothing divides, and 2
abbrev pub IsFormat : ℕ → Type 0 → Type 0
IsFormat format NothingThereDivides = ((format ≡ 1) × NothingThereDivides) ⊎ (format ≡ 2)

-- the bytes of a model text in this format spell these lines
pub record SpellsLinesBy (format : ℕ) (bytes : List ℕ) (lines : List Numbered) : Type 0 where
  pub spelled : SpellsLines bytes lines
  pub written : IsFormat format (AllByRecursion (λ n. NothingDivides n.line) lines)

-- the bytes of an edit text in this format spell these operations
pub record SpellsOpsBy (format : ℕ) (bytes : List ℕ) (ops : List Op) : Type 0 where
  pub spelled : SpellsOps bytes ops
  pub written : IsFormat format (AllByRecursion NothingDividesInEdit ops)
