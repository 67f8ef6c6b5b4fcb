-- The fault of a line is one, and a line that isn't fine has it.
use Rattle.std.proofs.Common.{◌≡◌, ◌≢◌, ◌⊎◌, inl, inr, ⊎_elim, ℕ, ◌<◌, ◌≤◌, List, [], ◌∷◌, length, refl, sym, ap, ◌∙◌, subst, arith}
use Rattle.std.proofs.lemmas.Bool.{cases_lt}
use Rattle.std.proofs.lemmas.List.{length-map}
use Rattle.theory_grammar.specs.declared.text_kind.TextKind.{TextKind}
use Rattle.theory_grammar.specs.declared.text_kind.TextKind.TheVariants as kind
use Rattle.theory_grammar.specs.declared.unreadable.Unreadable.{Unreadable}
use Rattle.theory_grammar.specs.declared.words.LineFaultKind.{LineFaultKind}
use Rattle.theory_grammar.specs.Scan.{Placed, End, complete, broken, ReadsLine}
use Rattle.theory_grammar.specs.Spelled.{every}
use Rattle.theory_grammar.specs.LineFault.{Grammar, FirstFault}
use Rattle.theory_grammar.specs.TextFault.{kind_of_token, kind_of_bytes, tokens_of, column_at, IsScanned, IsFine, LineFails, too_long, at_token, at_end, at_bytes}
use Rattle.theory_grammar.proofs.ScanLaws.{one_reading}
use Rattle.theory_grammar.proofs.FrontLaws.{reading_of}
use Rattle.theory_grammar.proofs.LineOutcomes.{SomeFault, HasOneOutcome, place_within}

-- the same kind and column
abbrev Same : TextKind → ℕ → TextKind → ℕ → Type 0
Same j c k d = (j ≡ k) × (c ≡ d)

-- the fault of tokens at one place, by what a second fault of the line says
from_token : {T : Type 0} (Spells : Grammar T) → HasOneOutcome Spells → (l : List ℕ) (ts : List Placed) (e : End) (j : LineFaultKind) (n : ℕ)
    (k : TextKind) (c : ℕ) → length l ≤ 1024 → ReadsLine l ts e → FirstFault Spells (tokens_of ts) j n → n < length ts → LineFails Spells l k c →
    Same (kind_of_token j) (column_at ts 0 n) k c
from_token Spells laws l ts e j n k c short r f below (too_long long) = absurd (omega arith)
from_token Spells laws l ts e j n k c short r f below (at_token us g i m _ s h under) =
    let same = (one_reading 1 l ts us e g r s).0 in
    let moved = subst (λ (vs : List Placed). FirstFault Spells (tokens_of vs) j n) same f in
    let one = laws.one_fault (tokens_of us) j i n m moved h in
    (ap kind_of_token one.0, ap (λ (vs : List Placed). column_at vs 0 n) same ∙ ap (column_at us 0) one.1)
from_token Spells laws l ts e j n k c short r f below (at_end us column i _ s some h) =
    let same = (one_reading 1 l ts us e (complete column) r s).0 in
    let moved = subst (λ (vs : List Placed). FirstFault Spells (tokens_of vs) j n) same f in
    let one = laws.one_fault (tokens_of us) j i n (length us) moved h in
    absurd (omega (arith, one.1, ap length same))
from_token Spells laws l ts e j n k c short r f below (at_bytes us u column _ s none) =
    let same = (one_reading 1 l ts us e (broken u column) r s).0 in
    let above = none j n (subst (λ (vs : List Placed). FirstFault Spells (tokens_of vs) j n) same f) in
    absurd (omega (arith, ap length same))

from_end : {T : Type 0} (Spells : Grammar T) → HasOneOutcome Spells → (l : List ℕ) (ts : List Placed) (end : ℕ) (j : LineFaultKind)
    (k : TextKind) (c : ℕ) → length l ≤ 1024 → ReadsLine l ts (complete end) → FirstFault Spells (tokens_of ts) j (length ts) → LineFails Spells l k c →
    Same (kind_of_token j) end k c
from_end Spells laws l ts end j k c short r f (too_long long) = absurd (omega arith)
from_end Spells laws l ts end j k c short r f (at_token us g i m _ s h under) =
    let same = (one_reading 1 l ts us (complete end) g r s).0 in
    let moved = subst (λ (vs : List Placed). FirstFault Spells (tokens_of vs) j (length ts)) same f in
    let one = laws.one_fault (tokens_of us) j i (length ts) m moved h in
    absurd (omega (arith, one.1, ap length same))
from_end Spells laws l ts end j k c short r f (at_end us column i _ s some h) =
    let read = one_reading 1 l ts us (complete end) (complete column) r s in
    let moved = subst (λ (vs : List Placed). FirstFault Spells (tokens_of vs) j (length vs)) read.0 f in
    let one = laws.one_fault (tokens_of us) j i (length us) (length us) moved h in
    let ends : complete end ≡ complete column = read.1 in
    let columns : end ≡ column = cc in
    (ap kind_of_token one.0, columns)
from_end Spells laws l ts end j k c short r f (at_bytes us u column _ s none) =
    let ends : complete end ≡ broken u column = (one_reading 1 l ts us (complete end) (broken u column) r s).1 in
    cc

from_bytes : {T : Type 0} (Spells : Grammar T) → HasOneOutcome Spells → (l : List ℕ) (ts : List Placed) (u : Unreadable) (end : ℕ)
    (k : TextKind) (c : ℕ) → length l ≤ 1024 → ReadsLine l ts (broken u end) →
    ((i : LineFaultKind) (place : ℕ) → FirstFault Spells (tokens_of ts) i place → length ts ≤ place) → LineFails Spells l k c →
    Same (kind_of_bytes u) end k c
from_bytes Spells laws l ts u end k c short r none (too_long long) = absurd (omega arith)
from_bytes Spells laws l ts u end k c short r none (at_token us g i m _ s h under) =
    let same = (one_reading 1 l ts us (broken u end) g r s).0 in
    let above = none i m (subst (λ (vs : List Placed). FirstFault Spells (tokens_of vs) i m) (sym same) h) in
    absurd (omega (arith, ap length same))
from_bytes Spells laws l ts u end k c short r none (at_end us column i _ s some h) =
    let ends : broken u end ≡ complete column = (one_reading 1 l ts us (broken u end) (complete column) r s).1 in
    cc
from_bytes Spells laws l ts u end k c short r none (at_bytes us w column _ s nothing) =
    let ends : broken u end ≡ broken w column = (one_reading 1 l ts us (broken u end) (broken w column) r s).1 in
    let kinds : u ≡ w = cc in
    let columns : end ≡ column = cc in
    (ap kind_of_bytes kinds, columns)

from_long : {T : Type 0} (Spells : Grammar T) (l : List ℕ) (k : TextKind) (c : ℕ) → 1024 < length l → LineFails Spells l k c → Same kind.TooLong 1025 k c
from_long Spells l k c long (too_long also) = (refl, refl)
from_long Spells l k c long (at_token us g i m short s h under) = absurd (omega arith)
from_long Spells l k c long (at_end us column i short s some h) = absurd (omega arith)
from_long Spells l k c long (at_bytes us w column short s nothing) = absurd (omega arith)

-- a line has one fault
pub one_line_fault : {T : Type 0} (Spells : Grammar T) → HasOneOutcome Spells → (l : List ℕ) (j k : TextKind) (c d : ℕ) → LineFails Spells l j c →
    LineFails Spells l k d → (j ≡ k) × (c ≡ d)
one_line_fault Spells laws l j k c d (too_long long) h = from_long Spells l k d long h
one_line_fault Spells laws l j k c d (at_token ts e i n short r f below) h = from_token Spells laws l ts e i n k d short r f below h
one_line_fault Spells laws l j k c d (at_end ts column i short r some f) h = from_end Spells laws l ts column i k d short r f h
one_line_fault Spells laws l j k c d (at_bytes ts u column short r none) h = from_bytes Spells laws l ts u column k d short r none h

-- a fault of a line, whatever it is
pub record SomeLineFault {T : Type 0} (Spells : Grammar T) (l : List ℕ) : Type 0 where
  pub kind : TextKind
  pub column : ℕ
  pub fails : LineFails Spells l kind column

-- what a line comes to
abbrev pub Outcome : {T : Type 0} → Grammar T → List ℕ → Type 0
Outcome Spells l = IsFine Spells l ⊎ SomeLineFault Spells l

at_some_token : {T : Type 0} (Spells : Grammar T) (l : List ℕ) (ts : List Placed) (e : End) (f : SomeFault Spells (tokens_of ts)) → length l ≤ 1024 →
    ReadsLine l ts e → f.place < length ts → Outcome Spells l
at_some_token Spells l ts e f short r below =
    inr (record { kind = kind_of_token f.kind; column = column_at ts 0 f.place; fails = at_token ts e f.kind f.place short r f.fault below })

complete_fault : {T : Type 0} (Spells : Grammar T) (l : List ℕ) (ts : List Placed) (c : ℕ) (f : SomeFault Spells (tokens_of ts)) → length l ≤ 1024 →
    ReadsLine l ts (complete c) → ts ≢ [] → length ts ≤ f.place → Outcome Spells l
complete_fault Spells l ts c f short r some above =
    let within = place_within Spells (tokens_of ts) f.kind f.place f.fault in
    let at : f.place ≡ length ts = omega (arith, length-map ts (λ p. p.token)) in
    inr (record {
      kind = kind_of_token f.kind;
      column = c;
      fails = at_end ts c f.kind short r some (subst (FirstFault Spells (tokens_of ts) f.kind) at f.fault);
    })

complete_outcome : {T : Type 0} (Spells : Grammar T) → HasOneOutcome Spells → (l : List ℕ) (ts : List Placed) (c : ℕ) → length l ≤ 1024 →
    ReadsLine l ts (complete c) → Outcome Spells l
complete_outcome Spells laws l [] c short r = inl (inl (record { short = short; end = c; reads = r }))
complete_outcome Spells laws l (p ∷ ps) c short r =
    let scanned : IsScanned l (p ∷ ps) = record { short = short; end = c; reads = r } in
    let fault = λ (f : SomeFault Spells (tokens_of (p ∷ ps))).
    ⊎_elim (at_some_token Spells l (p ∷ ps) (complete c) f short r) (complete_fault Spells l (p ∷ ps) c f short r (λ e. cc))
    (cases_lt f.place (length (p ∷ ps))) in
    ⊎_elim (λ k. inl (inr (k.0, record { tokens = p ∷ ps; scanned = scanned; spelled = k.1 }))) fault (laws.some (tokens_of (p ∷ ps)))

broken_fault : {T : Type 0} (Spells : Grammar T) → (l : List ℕ) (ts : List Placed) (u : Unreadable) (c : ℕ) → length l ≤ 1024 →
    ReadsLine l ts (broken u c) → ((k : LineFaultKind) (place : ℕ) → FirstFault Spells (tokens_of ts) k place → length ts ≤ place) → Outcome Spells l
broken_fault Spells l ts u c short r none = inr (record { kind = kind_of_bytes u; column = c; fails = at_bytes ts u c short r none })

broken_outcome : {T : Type 0} (Spells : Grammar T) → HasOneOutcome Spells → (l : List ℕ) (ts : List Placed) (u : Unreadable) (c : ℕ) → length l ≤ 1024 →
    ReadsLine l ts (broken u c) → Outcome Spells l
broken_outcome {T = T} Spells laws l ts u c short r =
    let spelled = λ (k : (x : T) × Spells every (tokens_of ts) x).
    broken_fault Spells l ts u c short r (λ j n f. absurd (laws.not_both (tokens_of ts) k.0 j n k.1 f)) in
    let late = λ (f : SomeFault Spells (tokens_of ts)) (above : length ts ≤ f.place).
    broken_fault Spells l ts u c short r (λ j n g. omega (arith, (laws.one_fault (tokens_of ts) f.kind j f.place n f.fault g).1)) in
    let fault = λ (f : SomeFault Spells (tokens_of ts)).
    ⊎_elim (at_some_token Spells l ts (broken u c) f short r) (late f) (cases_lt f.place (length ts)) in
    ⊎_elim spelled fault (laws.some (tokens_of ts))

short_outcome : {T : Type 0} (Spells : Grammar T) → HasOneOutcome Spells → (l : List ℕ) (ts : List Placed) (e : End) → length l ≤ 1024 →
    ReadsLine l ts e → Outcome Spells l
short_outcome Spells laws l ts (complete c) short r = complete_outcome Spells laws l ts c short r
short_outcome Spells laws l ts (broken u c) short r = broken_outcome Spells laws l ts u c short r

-- a line is fine or has a fault
pub line_outcome : {T : Type 0} (Spells : Grammar T) → HasOneOutcome Spells → (l : List ℕ) → Outcome Spells l
line_outcome Spells laws l =
    let r = reading_of l in
    let long : 1024 < length l → Outcome Spells l = λ h. inr (record { kind = kind.TooLong; column = 1025; fails = too_long h }) in
    ⊎_elim long (λ short. short_outcome Spells laws l r.tokens r.end short r.reads) (cases_lt 1024 (length l))
