-- The size and the encoding of bytes, for the clauses of private functions.
use Rattle.std.specs.Prelude.{◌≡◌, ◌⊎◌, ℕ, ◌≤◌, ◌<◌, List, length, Result, Ok, Err}
use Rattle.std.specs.Str.{IsValidUpTo}
use Rattle.theory_grammar.specs.declared.text_kind.TextKind.{TextKind}
use Rattle.theory_grammar.specs.declared.text_kind.TextKind.TheVariants as kind
use Rattle.theory_grammar.specs.TextFault.{Fault, IsText}
use Rattle.theory_text.specs.declared.error.TextError.{TextError}
use Rattle.theory_text.specs.declared.placing.NoText.{NoText}
use Rattle.theory_text.specs.declared.placing.NoText.TheVariants.{TooLong, NotUtf8}
use Rattle.theory_text.specs.Answers.{fault_of}

-- the bytes are a text, or too many, or UTF-8 up to there
abbrev pub IsSized : List ℕ → Result (Unit {0}) NoText → Type 0
IsSized bytes (Ok _) = IsText bytes
IsSized bytes (Err TooLong) = 65536 < length bytes
IsSized bytes (Err (NotUtf8 n)) = (length bytes ≤ 65536) × IsValidUpTo bytes n

-- the bytes are UTF-8 up to there alone, and the fault is told so
pub record EndsUtf8 (told : ℕ → Fault) (bytes : List ℕ) (f : Fault) : Type 0 where
  pub size : length bytes ≤ 65536
  pub end : ℕ
  pub valid : IsValidUpTo bytes end
  pub same : f ≡ told end

-- the bytes are a text, or the error tells the fault of size or encoding, whose place is given by the bytes before it
abbrev pub IsTextOr : (TextKind → ℕ → Fault) → List ℕ → Result (Unit {0}) TextError → Type 0
IsTextOr told bytes (Ok _) = IsText bytes
IsTextOr told bytes (Err e) = ((65536 < length bytes) × (fault_of e ≡ told kind.TooLong 65536)) ⊎ EndsUtf8 (told kind.NotUtf8) bytes (fault_of e)
