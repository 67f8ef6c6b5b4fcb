-- What is read without counted places says what tokens spell.
use Rattle.std.proofs.Common.{◌≡◌, ℕ, suc, ◌+◌, List, [], ◌∷◌, length, Option, None, Some, Result, Ok, Err, refl, subst, arith}
use Rattle.theory_meaning.specs.Tree.{Line}
use Rattle.theory_meaning.specs.Tree as plain
use Rattle.theory_meaning.specs.Text.{Op, put_line, drop_key}
use Rattle.theory_grammar.specs.Token.{Token, name}
use Rattle.theory_grammar.specs.Spelled.{Limits, every, IsLine}
use Rattle.theory_grammar.specs.LineFault.{Grammar}
use Rattle.theory_grammar.specs.Machine.{State, step, ended, start, name_of_model, and_then}
use Rattle.theory_grammar.proofs.OpMachine.{putting, key_to_drop, op_step, op_ended, within_put, put_ended}
use Rattle.theory_grammar.proofs.Following.{Outcome, read, fault, Step, reads, Laws}
use Rattle.theory_grammar.proofs.Following as following
use Rattle.theory_grammar.proofs.LineLaws.{line_laws}
use Rattle.theory_grammar.proofs.FaultLaws.{read_is_spelled, fault_is_first}
use Rattle.theory_syntax.specs.declared.line.Line as source
use Rattle.theory_syntax.specs.Plain.{line_of}
use Rattle.theory_line.specs.declared.fault.ParseFault.{ParseFault}
use Rattle.theory_line.specs.declared.fault.ParseFault.TheVariants.{At, Memory}
use Rattle.theory_line.specs.Parsed.{IsParsed}
use Rattle.theory_line.specs.Reading.{Reading, stopped, at_end, reading}
use Rattle.theory_line.specs.Reading as here
use Rattle.theory_line.specs.Lines.{IsReadAs}

-- the answer for so many tokens is this outcome
abbrev pub IsOutcome : {V T : Type 0} → (V → T) → Outcome T → ℕ → Result V ParseFault → Type 0
IsOutcome tree o n (Ok v) = o ≡ read (tree v)
IsOutcome tree o n (Err (At kind left)) = (place : ℕ) × (place + left ≡ n) × (o ≡ fault kind place)
IsOutcome tree o n (Err Memory) = Unit {0}

-- an outcome says what the tokens spell, or their first fault
pub parsed : {V S T : Type 0} {Spells : Grammar T} {start : S} {step : Step S} {ended : S → Option T} {Reached : Limits → S → List Token → Type 0}
    (laws : Laws Spells start step ended Reached) (tree : V → T) (ts : List Token) (r : Result V ParseFault)
    → IsOutcome tree (reads step ended 0 start ts) (length ts) r → IsParsed Spells tree ts r
parsed laws tree ts (Ok v) h = read_is_spelled laws ts (tree v) h
parsed laws tree ts (Err (At kind left)) h = record { place = h.0; counted = h.1; first = fault_is_first laws ts kind h.0 h.2 }
parsed laws tree ts (Err Memory) h = tt

-- the same with counted places, behind n tokens
abbrev pub placed : ℕ → Reading → Outcome Line → Type 0
placed n (here.whole line) o = o ≡ read line
placed n (stopped kind left) o = (place : ℕ) × (place + left ≡ n) × (o ≡ fault kind place)

end_placed : (n : ℕ) (m : Option Line) → placed n (at_end m) (following.at_end n m)
end_placed n (Some line) = refl
end_placed n None = (n, omega arith, refl)

more_placed : (n m : ℕ) (from : Reading) (o : Outcome Line) → n ≡ m → placed n from o → placed m from o
more_placed n m from o e h = subst (λ (k : ℕ). placed k from o) e h

pub reads_placed : (ts : List Token) (n : ℕ) (st : State) → placed (n + length ts) (reading st ts) (reads step ended n st ts)
reads_placed [] n st = more_placed n (n + 0) (at_end (ended st)) (following.at_end n (ended st)) (omega arith) (end_placed n (ended st))
reads_placed (t ∷ ts) n st =
    elim (step every st t) as (λ m. placed (n + suc (length ts)) (and_then m (λ st'. reading st' ts) (λ kind. stopped kind (suc (length ts))))
    (and_then m (λ st'. reads step ended (suc n) st' ts) (λ kind. fault kind n))) [
      | Ok st' ↦ more_placed (suc n + length ts) (n + suc (length ts)) (reading st' ts) (reads step ended (suc n) st' ts) (omega arith)
          (reads_placed ts (suc n) st')
      | Err kind ↦ (n, refl, refl)
    ]

outcome_of : {V : Type 0} (tree : V → Line) (n : ℕ) (from : Reading) (o : Outcome Line) (r : Result V ParseFault) → placed n from o
    → IsReadAs tree from r → IsOutcome tree o n r
outcome_of tree n from o (Ok v) h is = subst (λ (f : Reading). placed n f o) is h
outcome_of tree n from o (Err (At kind left)) h is = subst (λ (f : Reading). placed n f o) is h
outcome_of tree n from o (Err Memory) h is = tt

pub line_outcome : {V : Type 0} (tree : V → Line) (ts : List Token) (n : ℕ) (st : State) (r : Result V ParseFault) → IsReadAs tree (reading st ts) r
    → IsOutcome tree (reads step ended n st ts) (n + length ts) r
line_outcome tree ts n st r h = outcome_of tree (n + length ts) (reading st ts) (reads step ended n st ts) r (reads_placed ts n st) h

pub line_parsed : (ts : List Token) (r : Result source.Line ParseFault) → IsReadAs line_of (reading start ts) r → IsParsed IsLine line_of ts r
line_parsed ts r h =
    let all : 0 + length ts ≡ length ts = omega arith in
    parsed line_laws line_of ts r
    (subst (λ (n : ℕ). IsOutcome line_of (reads step ended 0 start ts) n r) all (line_outcome line_of ts 0 start r h))

-- an outcome with another tree
abbrev pub turned : {T U : Type 0} → (T → U) → Outcome T → Outcome U
turned f (read x) = read (f x)
turned f (fault kind place) = fault kind place

-- a line to put is read as the line is
put_end : (n : ℕ) (m : Option Line) → following.at_end n (put_ended m) ≡ turned put_line (following.at_end n m)
put_end n (Some line) = refl
put_end n None = refl

pub put_reads : (ts : List Token) (n : ℕ) (st : State) → reads op_step op_ended n (putting st) ts ≡ turned put_line (reads step ended n st ts)
put_reads [] n st = put_end n (ended st)
put_reads (t ∷ ts) n st =
    elim (step every st t) as (λ m. and_then (within_put m) (λ s. reads op_step op_ended (suc n) s ts) (λ kind. fault kind n)
    ≡ turned put_line (and_then m (λ s. reads step ended (suc n) s ts) (λ kind. fault kind n))) [
      | Ok st' ↦ put_reads ts (suc n) st'
      | Err kind ↦ refl
    ]

-- the key to drop is read as the name of a model is
abbrev pub key_of : Line → Op
key_of (plain.model x) = drop_key x
key_of line = put_line line

pub drop_reads : (ts : List Token) (n : ℕ) → reads op_step op_ended n key_to_drop ts ≡ turned key_of (reads step ended n name_of_model ts)
drop_reads [] n = refl
drop_reads (name x ∷ []) n = refl
drop_reads (name x ∷ t ∷ ts) n = refl
drop_reads (t ∷ ts) n = refl
