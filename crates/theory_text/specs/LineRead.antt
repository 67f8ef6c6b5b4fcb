-- What one line is read as, for the clauses of private functions.
use Rattle.std.specs.Prelude.{◌≡◌, ◌⊎◌, ℕ, zero, suc, ◌-◌, ◌≤◌, ◌<◌, Bool, true, false, List, [], length, slice_index, All, Option, Result, Ok, Err}
use Rattle.std.specs.Option.{option_map}
use Rattle.theory_grammar.specs.declared.text_kind.TextKind.TheVariants as kind
use Rattle.theory_grammar.specs.declared.unreadable.Unreadable.{Unreadable}
use Rattle.theory_grammar.specs.declared.words.LineFaultKind.{LineFaultKind}
use Rattle.theory_grammar.specs.LineFault.{Grammar}
use Rattle.theory_grammar.specs.OneLine.{IsLineAs}
use Rattle.theory_grammar.specs.Scan.{IsFit}
use Rattle.theory_grammar.specs.TextFault.{kind_of_token, kind_of_bytes, LineFails}
use Rattle.theory_line.specs.declared.fault.ParseFault.{ParseFault}
use Rattle.theory_line.specs.declared.fault.ParseFault.TheVariants.{At, Memory}
use Rattle.theory_tokens.specs.declared.line.End.{End}
use Rattle.theory_tokens.specs.declared.line.End.TheVariants.{Complete, Broken}
use Rattle.theory_tokens.specs.declared.line.Scanned.{Scanned}
use Rattle.theory_tokens.specs.declared.token.Token.{Token}
use Rattle.theory_tokens.specs.Plain.{plain_tokens}
use Rattle.theory_tokens.specs.Scanned.{IsScan}
use Rattle.theory_text.specs.declared.error.TextError.{TextError}

-- the first fault of the line of this number, or want of memory
abbrev pub TellsLineFault : {T : Type 0} → Grammar T → ℕ → List ℕ → TextError → Type 0
TellsLineFault Spells n bytes e = (e.kind ≡ kind.Memory) ⊎ ((e.line ≡ n) × LineFails Spells bytes e.kind e.column)

-- the line has no token or spells this, or the error tells its first fault
abbrev pub IsLineRead : {V T : Type 0} → Grammar T → (V → T) → ℕ → List ℕ → Result (Option V) TextError → Type 0
IsLineRead Spells tree n bytes (Ok v) = IsLineAs Spells bytes (option_map tree v)
IsLineRead Spells tree n bytes (Err e) = TellsLineFault Spells n bytes e

-- an error at a token or at the end of the line of this number
abbrev pub token_error : ℕ → LineFaultKind → ℕ → TextError
token_error n k column = record { kind = kind_of_token k; line = n; column = column }

-- an error at bytes that can't be read
abbrev pub bytes_error : ℕ → Unreadable → ℕ → TextError
bytes_error n u column = record { kind = kind_of_bytes u; line = n; column = column }

-- a line of more than 1,024 bytes
abbrev pub long_error : ℕ → TextError
long_error n = record { kind = kind.TooLong; line = n; column = 1025 }

-- tokens that are whole up to the end of the line, and what hides the end where bytes can't be read
abbrev pub ended : {V : Type 0} → ℕ → V → End → Result V TextError
ended n v (Complete column) = Ok v
ended n v (Broken u column) = Err (bytes_error n u column)

-- tokens that aren't whole at the end of the line
abbrev pub end_error : ℕ → LineFaultKind → End → TextError
end_error n k (Complete column) = token_error n k column
end_error n k (Broken u column) = bytes_error n u column

-- the error at the token from which on so many are left, or at the end of the line
abbrev pub left_error : ℕ → Scanned → LineFaultKind → ℕ → TextError
left_error n s k zero = end_error n k s.end
left_error n s k (suc left) = token_error n k (slice_index s.columns.items (length s.columns.items - suc left))

-- what the tokens were read as, up to the end of the line
abbrev pub IsWhole : {V : Type 0} → ℕ → Scanned → Result V ParseFault → Result V TextError → Type 0
IsWhole n s (Ok v) r = r ≡ ended n v s.end
IsWhole n s (Err (At k left)) r = r ≡ Err (left_error n s k left)
IsWhole n s (Err Memory) (Ok v) = ⊥
IsWhole n s (Err Memory) (Err e) = e.kind ≡ kind.Memory

-- the token at fault is one of so many, or the end
abbrev pub LeavesWithin : {V : Type 0} → ℕ → Result V ParseFault → Type 0
LeavesWithin n (Ok v) = Unit {0}
LeavesWithin n (Err (At k left)) = left ≤ n
LeavesWithin n (Err Memory) = Unit {0}

-- the line isn't too long, and is scanned so
pub record IsShortScan (bytes : List ℕ) (s : Scanned) : Type 0 where
  pub short : length bytes ≤ 1024
  pub scan : IsScan bytes s
  pub fit : All IsFit (plain_tokens s.tokens.items)

-- the line is scanned, or too long, or memory ran out
abbrev pub IsScanOrLong : ℕ → List ℕ → Result Scanned TextError → Type 0
IsScanOrLong n bytes (Ok s) = IsShortScan bytes s
IsScanOrLong n bytes (Err e) = (e.kind ≡ kind.Memory) ⊎ ((1024 < length bytes) × (e ≡ long_error n))

-- no token was read, and nothing hides the end
abbrev pub has_nothing : List Token → End → Bool
has_nothing [] (Complete column) = true
has_nothing _ _ = false
