-- What bytes were read as, and why they weren't.
use Rattle.std.specs.Prelude.{◌≡◌, ◌⊎◌, ℕ, List, Result, Ok, Err}
use Rattle.theory_grammar.specs.declared.text_kind.TextKind.TheVariants as kind
use Rattle.theory_grammar.specs.TextFault.{Fault}
use Rattle.theory_text.specs.declared.error.TextError.{TextError}

-- the fault that an error tells
abbrev pub fault_of : TextError → Fault
fault_of e = record { kind = e.kind; line = e.line; column = e.column }

-- the bytes stand for what was read, or the error tells their first fault, or memory ran out
abbrev pub IsReadAs : {V X : Type 0} → (List ℕ → X → Type 0) → (List ℕ → Fault → Type 0) → (V → X) → List ℕ → Result V TextError → Type 0
IsReadAs Stands Fails plain bytes (Ok v) = Stands bytes (plain v)
IsReadAs Stands Fails plain bytes (Err e) = (e.kind ≡ kind.Memory) ⊎ Fails bytes (fault_of e)
