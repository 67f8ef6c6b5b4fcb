-- Bytes that are one line: what they spell, or their first fault.
use Rattle.std.proofs.Common.{◌≡◌, ◌⊎◌, inl, inr, ℕ, ◌+◌, List, Option, Ok, Err, sym, ap, subst}
use Rattle.std.specs.Prelude.{Result}
use Rattle.std.specs.Option.{option_map}
use Rattle.std.specs.Result.{IsErrAnd}
use Rattle.theory_grammar.specs.declared.text_kind.TextKind.TheVariants as kind
use Rattle.theory_grammar.specs.LineFault.{Grammar}
use Rattle.theory_grammar.specs.OneLine.{IsLineAs, SpellsLine, in_line_1, OneLineFails, too_large, not_utf8, in_line, line_feed}
use Rattle.theory_grammar.specs.TextFault.{IsText, Fault}
use Rattle.theory_text.specs.declared.error.TextError.{TextError}
use Rattle.theory_text.specs.Answers.{fault_of, IsReadAs}
use Rattle.theory_text.specs.Checked.{IsTextOr}
use Rattle.theory_text.specs.Cut.{IsWithoutFeed}
use Rattle.theory_text.specs.LineRead.{TellsLineFault}
use Rattle.theory_text.proofs.TextLemmas.{fine_line}

-- what an error tells of one line
abbrev pub TellsFault : {T : Type 0} → Grammar T → List ℕ → TextError → Type 0
TellsFault Spells bytes e = (e.kind ≡ kind.Memory) ⊎ OneLineFails Spells bytes (fault_of e)

-- the bytes are no text
pub no_text : {T : Type 0} (Spells : Grammar T) (bytes : List ℕ) (e : TextError) → IsTextOr (λ k n. in_line_1 k (n + 1)) bytes (Err e) →
    TellsFault Spells bytes e
no_text Spells bytes e (inl large) = inr (subst (OneLineFails Spells bytes) (sym large.1) (too_large large.0))
no_text Spells bytes e (inr h) = inr (subst (OneLineFails Spells bytes) (sym h.same) (not_utf8 h.end h.size h.valid))

-- the line has a fault
pub line_fails : {T : Type 0} (Spells : Grammar T) (bytes : List ℕ) (e : TextError) → IsText bytes → TellsLineFault Spells 1 bytes e →
    TellsFault Spells bytes e
line_fails Spells bytes e text (inl memory) = inl memory
line_fails Spells bytes e text (inr fails) =
    let same : in_line_1 e.kind e.column ≡ fault_of e =
    ap (λ (n : ℕ). let f : Fault = record { kind = e.kind; line = n; column = e.column } in f) (sym fails.0) in
    inr (subst (OneLineFails Spells bytes) same (in_line e.kind e.column text fails.1))

-- the line is fine, and a line feed alone can be at fault
pub line_read : {V T : Type 0} (Spells : Grammar T) (tree : V → T) (bytes : List ℕ) (read : Option V) (r : Result (Option V) TextError) → IsText bytes →
    IsLineAs Spells bytes (option_map tree read) → IsWithoutFeed bytes read r →
    IsReadAs (SpellsLine Spells) (OneLineFails Spells) (option_map tree) bytes r
line_read Spells tree bytes read (Ok v) text line h =
    record { text = text; one = h.1; line = subst (λ o. IsLineAs Spells bytes (option_map tree o)) (sym h.0) line }
line_read Spells tree bytes read (Err e) text line h =
    let fine = fine_line Spells bytes (option_map tree read) line in
    inr (subst (OneLineFails Spells bytes) (sym h.told) (line_feed h.before h.behind text fine h.split h.none))

-- an error that is passed on
pub passed_error : {V X T : Type 0} (Spells : Grammar T) (Stands : List ℕ → X → Type 0) (plain : V → X) (bytes : List ℕ) (e : TextError)
    (r : Result V TextError) → TellsFault Spells bytes e → IsErrAnd r (λ f. f ≡ e) → IsReadAs Stands (OneLineFails Spells) plain bytes r
passed_error Spells Stands plain bytes e (Ok v) h is = absurd is
passed_error Spells Stands plain bytes e (Err f) h is = subst (TellsFault Spells bytes) (sym is) h
