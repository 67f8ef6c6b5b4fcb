-- Bytes that are one line alone: spelled in one way, or with one first fault.
use Rattle.std.proofs.Common.{◌≡◌, ◌⊎◌, inl, inr, ⊎_elim, ℕ, ◌+◌, ◌<◌, ◌≤◌, true, false, not, ◌==◌, List, [], ◌∷◌, ◌++◌, length, Option, Some, None, refl, sym, ap, ◌∙◌, arith}
use Rattle.std.specs.Str.{IsValidUpTo}
use Rattle.std.proofs.lemmas.Bool.{cases_lt, cases_Bool, false≢true, and_right, eqb-true}
use Rattle.std.proofs.lemmas.List.{append-nil}
use Rattle.std.proofs.lemmas.List.Folds.{list_all-append}
use Rattle.theory_grammar.specs.declared.text_kind.TextKind.{TextKind}
use Rattle.theory_grammar.specs.declared.text_kind.TextKind.TheVariants as kind
use Rattle.theory_grammar.specs.LineFault.{Grammar}
use Rattle.theory_grammar.specs.TextFault.{Fault, IsFine, LineFails, IsText}
use Rattle.theory_grammar.specs.OneLine.{has_no_feed, IsLineAs, SpellsLine, in_line_1, OneLineFails, too_large, not_utf8, in_line, line_feed}
use Rattle.theory_grammar.specs.Runs.{IsRun}
use Rattle.theory_grammar.proofs.RunLaws.{same_run, run_of}
use Rattle.theory_grammar.proofs.LineOutcomes.{HasOneOutcome, fine_not_fail, one_spelled, empty_not_spelled}
use Rattle.theory_grammar.proofs.LineFaultLaws.{Outcome, one_line_fault, line_outcome}
use Rattle.theory_grammar.proofs.TextLaws.{one_valid_end, not_valid, ValidEnd, utf8_or_end}

one_as : {T : Type 0} (Spells : Grammar T) → HasOneOutcome Spells → (bs : List ℕ) (x y : Option T) → IsLineAs Spells bs x → IsLineAs Spells bs y → x ≡ y
one_as Spells laws bs None None h k = refl
one_as Spells laws bs None (Some y) h k = absurd (empty_not_spelled Spells laws bs y h k)
one_as Spells laws bs (Some x) None h k = absurd (empty_not_spelled Spells laws bs x k h)
one_as Spells laws bs (Some x) (Some y) h k = ap Some (one_spelled Spells laws bs x y h k)

fine_as : {T : Type 0} (Spells : Grammar T) (bs : List ℕ) (x : Option T) → IsLineAs Spells bs x → IsFine Spells bs
fine_as Spells bs None h = inl h
fine_as Spells bs (Some x) h = inr (x, h)

-- one line is spelled in one way
pub one_line : {T : Type 0} (Spells : Grammar T) → HasOneOutcome Spells → (bs : List ℕ) (x y : Option T) → SpellsLine Spells bs x →
    SpellsLine Spells bs y → x ≡ y
one_line Spells laws bs x y h k = one_as Spells laws bs x y h.line k.line

-- a line feed is among the bytes
feed_found : (before behind : List ℕ) → has_no_feed (before ++ 10 ∷ behind) ≡ false
feed_found before behind =
    list_all-append (λ b. not (b == 10)) before (10 ∷ behind) ∙ and_right (has_no_feed before) false refl

-- a line that is spelled has no first fault
pub line_not_fail : {T : Type 0} (Spells : Grammar T) → HasOneOutcome Spells → (bs : List ℕ) (x : Option T) (f : Fault) → SpellsLine Spells bs x →
    OneLineFails Spells bs f → ⊥
line_not_fail Spells laws bs x f h (too_large large) = let size = h.text.size in absurd (omega arith)
line_not_fail Spells laws bs x f h (not_utf8 n size valid) = not_valid bs n h.text.utf8 valid
line_not_fail Spells laws bs x f h (in_line k c text fails) = fine_not_fail Spells laws bs k c (fine_as Spells bs x h.line) fails
line_not_fail Spells laws bs x f h (line_feed before behind text fine split none) =
    false≢true (sym (feed_found before behind) ∙ sym (ap has_no_feed split) ∙ h.one)

-- the first line feed stands at one place
one_feed : (bs before behind front back : List ℕ) → bs ≡ before ++ 10 ∷ behind → has_no_feed before ≡ true → bs ≡ front ++ 10 ∷ back →
    has_no_feed front ≡ true →
    before ≡ front
one_feed bs before behind front back split none cut no_more =
    (same_run (λ b. not (b == 10)) front (10 ∷ back) before (10 ∷ behind) no_more refl none refl (sym split ∙ cut)).0

large_fault : {T : Type 0} (Spells : Grammar T) (bs : List ℕ) (g : Fault) → 65536 < length bs → OneLineFails Spells bs g → in_line_1 kind.TooLong 65537 ≡ g
large_fault Spells bs g large (too_large also) = refl
large_fault Spells bs g large (not_utf8 n size valid) = absurd (omega arith)
large_fault Spells bs g large (in_line k c text fails) = let size = text.size in absurd (omega arith)
large_fault Spells bs g large (line_feed before behind text fine split none) = let size = text.size in absurd (omega arith)

encoding_fault : {T : Type 0} (Spells : Grammar T) (bs : List ℕ) (n : ℕ) (g : Fault) → length bs ≤ 65536 → IsValidUpTo bs n → OneLineFails Spells bs g →
    in_line_1 kind.NotUtf8 (n + 1) ≡ g
encoding_fault Spells bs n g size valid (too_large large) = absurd (omega arith)
encoding_fault Spells bs n g size valid (not_utf8 m also k) = ap (λ (i : ℕ). in_line_1 kind.NotUtf8 (i + 1)) (one_valid_end bs n m valid k)
encoding_fault Spells bs n g size valid (in_line k c text fails) = absurd (not_valid bs n text.utf8 valid)
encoding_fault Spells bs n g size valid (line_feed before behind text fine split none) = absurd (not_valid bs n text.utf8 valid)

inner_fault : {T : Type 0} (Spells : Grammar T) → HasOneOutcome Spells → (bs : List ℕ) (k : TextKind) (c : ℕ) (g : Fault) → IsText bs →
    LineFails Spells bs k c →
    OneLineFails Spells bs g → in_line_1 k c ≡ g
inner_fault Spells laws bs k c g text fails (too_large large) = let size = text.size in absurd (omega arith)
inner_fault Spells laws bs k c g text fails (not_utf8 n size valid) = absurd (not_valid bs n text.utf8 valid)
inner_fault Spells laws bs k c g text fails (in_line j d also h) =
    let same = one_line_fault Spells laws bs k j c d fails h in
    ap (λ (i : TextKind). in_line_1 i c) same.0 ∙ ap (in_line_1 j) same.1
inner_fault Spells laws bs k c g text fails (line_feed before behind also fine split none) = absurd (fine_not_fail Spells laws bs k c fine fails)

feed_fault : {T : Type 0} (Spells : Grammar T) → HasOneOutcome Spells → (bs before behind : List ℕ) (g : Fault) → IsText bs → IsFine Spells bs →
    bs ≡ before ++ 10 ∷ behind → has_no_feed before ≡ true → OneLineFails Spells bs g → in_line_1 kind.BadToken (length before + 1) ≡ g
feed_fault Spells laws bs before behind g text fine split none (too_large large) = let size = text.size in absurd (omega arith)
feed_fault Spells laws bs before behind g text fine split none (not_utf8 n size valid) = absurd (not_valid bs n text.utf8 valid)
feed_fault Spells laws bs before behind g text fine split none (in_line j d also h) = absurd (fine_not_fail Spells laws bs j d fine h)
feed_fault Spells laws bs before behind g text fine split none (line_feed front back also sound cut no_more) =
    ap (λ (p : List ℕ). in_line_1 kind.BadToken (length p + 1)) (one_feed bs before behind front back split none cut no_more)

-- one line has one first fault
pub one_line_first_fault : {T : Type 0} (Spells : Grammar T) → HasOneOutcome Spells → (bs : List ℕ) (f g : Fault) → OneLineFails Spells bs f →
    OneLineFails Spells bs g → f ≡ g
one_line_first_fault Spells laws bs f g (too_large large) h = large_fault Spells bs g large h
one_line_first_fault Spells laws bs f g (not_utf8 n size valid) h = encoding_fault Spells bs n g size valid h
one_line_first_fault Spells laws bs f g (in_line k c text fails) h = inner_fault Spells laws bs k c g text fails h
one_line_first_fault Spells laws bs f g (line_feed before behind text fine split none) h = feed_fault Spells laws bs before behind g text fine split none h

-- what one line comes to
abbrev pub LineComes : {T : Type 0} → Grammar T → List ℕ → Type 0
LineComes {T = T} Spells bs = ((x : Option T) × SpellsLine Spells bs x) ⊎ ((f : Fault) × OneLineFails Spells bs f)

-- bytes behind a run without a line feed are none, or begin with one
behind_run : {T : Type 0} (Spells : Grammar T) (bs run rest : List ℕ) → IsText bs → (x : Option T) → IsLineAs Spells bs x →
    IsRun (λ b. not (b == 10)) run rest bs → LineComes Spells bs
behind_run Spells bs run [] text x h r =
    let whole : bs ≡ run = r.whole ∙ append-nil run in
    inl (x, record { text = text; one = ap has_no_feed whole ∙ r.pass; line = h })
behind_run Spells bs run (b ∷ rest) text x h r =
    let split = λ (e : (b == 10) ≡ true). r.whole ∙ ap (λ (n : ℕ). run ++ n ∷ rest) (eqb-true b 10 e) in
    let passes = λ (e : (b == 10) ≡ false). absurd (false≢true (sym r.ends ∙ ap not e)) in
    ⊎_elim (λ e. inr (in_line_1 kind.BadToken (length run + 1), line_feed run rest text (fine_as Spells bs x h) (split e) r.pass)) passes
    (cases_Bool (b == 10))

fine_line : {T : Type 0} (Spells : Grammar T) (bs : List ℕ) → IsText bs → Outcome Spells bs → LineComes Spells bs
fine_line Spells bs text (inl (inl h)) = let r = run_of (λ b. not (b == 10)) bs in behind_run Spells bs r.run r.rest text None h r.is
fine_line Spells bs text (inl (inr h)) = let r = run_of (λ b. not (b == 10)) bs in behind_run Spells bs r.run r.rest text (Some h.0) h.1 r.is
fine_line Spells bs text (inr h) = inr (in_line_1 h.kind h.column, in_line h.kind h.column text h.fails)

-- one line is spelled or has a first fault
pub one_line_outcome : {T : Type 0} (Spells : Grammar T) → HasOneOutcome Spells → (bs : List ℕ) → LineComes Spells bs
one_line_outcome Spells laws bs =
    let large : 65536 < length bs → LineComes Spells bs = λ h. inr (in_line_1 kind.TooLong 65537, too_large h) in
    let encoded = λ (size : length bs ≤ 65536).
    ⊎_elim (λ h. fine_line Spells bs (record { size = size; utf8 = h }) (line_outcome Spells laws bs))
    (λ (k : ValidEnd bs). inr (in_line_1 kind.NotUtf8 (k.end + 1), not_utf8 k.end size k.is)) (utf8_or_end bs) in
    ⊎_elim large encoded (cases_lt 65536 (length bs))
