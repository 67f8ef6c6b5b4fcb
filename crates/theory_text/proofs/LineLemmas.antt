-- What one line is read as: nothing, a tree, or its first fault.
use Rattle.std.proofs.Common.{◌≡◌, inl, inr, ℕ, zero, suc, ◌+◌, ◌-◌, ◌<◌, ◌≤◌, true, false, List, [], ◌∷◌, length, Option, Ok, Err, refl, sym, ap, ◌∙◌, subst, arith}
use Rattle.std.specs.Prelude.{Result, slice_index}
use Rattle.std.specs.Result.{IsErrAnd}
use Rattle.std.proofs.lemmas.List.{length-map}
use Rattle.theory_grammar.specs.declared.unreadable.Unreadable.{Unreadable}
use Rattle.theory_grammar.specs.declared.words.LineFaultKind.{LineFaultKind}
use Rattle.theory_grammar.specs.LineFault.{Grammar, FirstFault}
use Rattle.theory_grammar.specs.Spelled.{every}
use Rattle.theory_grammar.specs.TextFault.{kind_of_token, tokens_of, column_at, IsScanned, SpellsOne, LineFails, too_long, at_token, at_end, at_bytes}
use Rattle.theory_grammar.proofs.LineOutcomes.{HasOneOutcome}
use Rattle.theory_line.specs.Parsed.{IsParsed, FaultLeaves}
use Rattle.theory_line.specs.declared.fault.ParseFault.{ParseFault}
use Rattle.theory_line.specs.declared.fault.ParseFault.TheVariants.{At, Memory}
use Rattle.theory_tokens.specs.declared.line.End.{End}
use Rattle.theory_tokens.specs.declared.line.End.TheVariants.{Complete, Broken}
use Rattle.theory_tokens.specs.declared.line.Scanned.{Scanned}
use Rattle.theory_tokens.specs.declared.token.Token.{Token}
use Rattle.theory_tokens.specs.Plain.{plain_token, plain_tokens}
use Rattle.theory_tokens.specs.Scanned.{placed_of, end_of}
use Rattle.theory_text.specs.declared.error.TextError.{TextError}
use Rattle.theory_text.specs.LineRead.{TellsLineFault, IsLineRead, bytes_error, ended, end_error, left_error, IsWhole, IsShortScan, IsScanOrLong, has_nothing}

-- tokens and columns side by side
placed_tokens : (ts : List Token) (cs : List ℕ) → length ts ≡ length cs → tokens_of (placed_of ts cs) ≡ plain_tokens ts
placed_tokens [] cs even = refl
placed_tokens (t ∷ ts) [] even = absurd (omega arith)
placed_tokens (t ∷ ts) (c ∷ cs) even = ap (λ us. plain_token t ∷ us) (placed_tokens ts cs (omega arith))

placed_length : (ts : List Token) (cs : List ℕ) → length ts ≡ length cs → length (placed_of ts cs) ≡ length ts
placed_length [] cs even = refl
placed_length (t ∷ ts) [] even = absurd (omega arith)
placed_length (t ∷ ts) (c ∷ cs) even = ap suc (placed_length ts cs (omega arith))

placed_column : (ts : List Token) (cs : List ℕ) (end k : ℕ) → length ts ≡ length cs → k < length cs → column_at (placed_of ts cs) end k ≡ slice_index cs k
placed_column [] [] end k even below = absurd (omega arith)
placed_column [] (c ∷ cs) end k even below = absurd (omega arith)
placed_column (t ∷ ts) [] end k even below = absurd (omega arith)
placed_column (t ∷ ts) (c ∷ cs) end zero even below = refl
placed_column (t ∷ ts) (c ∷ cs) end (suc k) even below = placed_column ts cs end k (omega arith) (omega arith)

-- a line with no token
pub nothing_read : (bytes : List ℕ) (s : Scanned) → IsShortScan bytes s → (ts : List Token) (e : End) → s.tokens.items ≡ ts → s.end ≡ e →
    has_nothing ts e ≡ true → IsScanned bytes []
nothing_read bytes s short (t ∷ ts) e tokens end h = cc
nothing_read bytes s short [] (Broken u c) tokens end h = cc
nothing_read bytes s short [] (Complete c) tokens end h =
    let scan = short.scan.reads in
    record { short = short.short; end = c; reads = rw (tokens, end) at scan }

-- what the tokens of a line are read as, up to its end
abbrev pub IsTreeRead : {V T : Type 0} → Grammar T → (V → T) → ℕ → List ℕ → Result V TextError → Type 0
IsTreeRead Spells tree n bytes (Ok v) = SpellsOne Spells bytes (tree v)
IsTreeRead Spells tree n bytes (Err e) = TellsLineFault Spells n bytes e

-- no first fault stands before unreadable bytes
at_unreadable : {T : Type 0} (Spells : Grammar T) (bytes : List ℕ) (s : Scanned) (u : Unreadable) (c n : ℕ) → IsShortScan bytes s → s.end ≡ Broken u c →
    ((k : LineFaultKind) (place : ℕ) → FirstFault Spells (plain_tokens s.tokens.items) k place → length s.tokens.items ≤ place) →
    TellsLineFault Spells n bytes (bytes_error n u c)
at_unreadable Spells bytes s u c n short end none =
    let ps = placed_of s.tokens.items s.columns.items in
    let same = placed_tokens s.tokens.items s.columns.items short.scan.even in
    let many = placed_length s.tokens.items s.columns.items short.scan.even in
    let scan = short.scan.reads in
    let before = λ (k : LineFaultKind) (place : ℕ) (f : FirstFault Spells (tokens_of ps) k place).
    let below = none k place (rw same at f) in
    let within : length ps ≤ place = omega (arith, many, below) in
    within in
    inr (refl, at_bytes ps u c short.short (rw end at scan) before)

-- the tokens are the whole line, or bytes behind them can't be read
whole_read : {V T : Type 0} (Spells : Grammar T) → HasOneOutcome Spells → (tree : V → T) (n : ℕ) (bytes : List ℕ) (s : Scanned) (v : V) (e : End) →
    IsShortScan bytes s → Spells every (plain_tokens s.tokens.items) (tree v) → s.end ≡ e → IsTreeRead Spells tree n bytes (ended n v e)
whole_read Spells laws tree n bytes s v (Complete c) short spelled end =
    let ps = placed_of s.tokens.items s.columns.items in
    let same = placed_tokens s.tokens.items s.columns.items short.scan.even in
    let scan = short.scan.reads in
    record { tokens = ps; scanned = record { short = short.short; end = c; reads = rw end at scan }; spelled = rw same spelled }
whole_read Spells laws tree n bytes s v (Broken u c) short spelled end =
    at_unreadable Spells bytes s u c n short end (λ k place f. absurd (laws.not_both (plain_tokens s.tokens.items) (tree v) k place spelled f))

some_placed : (ts : List Token) (cs : List ℕ) (c : ℕ) → length ts ≡ length cs → has_nothing ts (Complete c) ≡ false → [] ≡ placed_of ts cs → ⊥
some_placed [] cs c even some e = cc
some_placed (t ∷ ts) [] c even some e = absurd (omega arith)
some_placed (t ∷ ts) (d ∷ cs) c even some e = cc

-- the first fault at the end of the line
end_read : {T : Type 0} (Spells : Grammar T) → HasOneOutcome Spells → (n : ℕ) (bytes : List ℕ) (s : Scanned) (k : LineFaultKind) (e : End) →
    IsShortScan bytes s → has_nothing s.tokens.items s.end ≡ false → FirstFault Spells (plain_tokens s.tokens.items) k (length s.tokens.items) →
    s.end ≡ e → TellsLineFault Spells n bytes (end_error n k e)
end_read Spells laws n bytes s k (Complete c) short some first end =
    let ts = s.tokens.items in
    let cs = s.columns.items in
    let ps = placed_of ts cs in
    let scan = short.scan.reads in
    let even = short.scan.even in
    let same = placed_tokens ts cs even in
    let many = placed_length ts cs even in
    let there = λ (e : ps ≡ []). some_placed ts cs c even (rw end at some) (sym e) in
    inr (refl, at_end ps c k short.short (rw end at scan) there (rw (same, many) first))
end_read Spells laws n bytes s k (Broken u c) short some first end =
    let ts = plain_tokens s.tokens.items in
    let same_place = λ (j : LineFaultKind) (place : ℕ) (f : FirstFault Spells ts j place).
    let found = laws.one_fault ts k j (length s.tokens.items) place first f in
    let within : length s.tokens.items ≤ place = omega (arith, found.1) in
    within in
    at_unreadable Spells bytes s u c n short end same_place

-- the first fault of the tokens
fault_read : {T : Type 0} (Spells : Grammar T) → HasOneOutcome Spells → (n : ℕ) (bytes : List ℕ) (s : Scanned) (k : LineFaultKind) (left : ℕ) →
    IsShortScan bytes s → has_nothing s.tokens.items s.end ≡ false → FaultLeaves Spells (plain_tokens s.tokens.items) k left →
    TellsLineFault Spells n bytes (left_error n s k left)
fault_read Spells laws n bytes s k zero short some h =
    let ts = s.tokens.items in
    let at : h.place ≡ length ts = omega (arith, h.counted, length-map ts plain_token) in
    let first = h.first in
    end_read Spells laws n bytes s k s.end short some (rw at at first) refl
fault_read Spells laws n bytes s k (suc left) short some h =
    let ts = s.tokens.items in
    let cs = s.columns.items in
    let ps = placed_of ts cs in
    let even = short.scan.even in
    let same = placed_tokens ts cs even in
    let counted : h.place + suc left ≡ length ts = omega (arith, h.counted, length-map ts plain_token) in
    let below : h.place < length cs = omega arith in
    let at : h.place ≡ length cs - suc left = omega arith in
    let column : column_at ps 0 h.place ≡ slice_index cs (length cs - suc left) = placed_column ts cs 0 h.place even below ∙ ap (slice_index cs) at in
    let in_line : h.place < length ps = omega (arith, placed_length ts cs even) in
    let first = h.first in
    let fails = at_token ps (end_of s.end) k h.place short.short short.scan.reads (rw same first) in_line in
    inr (refl, subst (λ (c : ℕ). LineFails Spells bytes (kind_of_token k) c) column fails)

-- what a line with tokens is read as
pub tree_read : {V T : Type 0} (Spells : Grammar T) → HasOneOutcome Spells → (tree : V → T) (n : ℕ) (bytes : List ℕ) (s : Scanned)
    (parsed : Result V ParseFault) (r : Result V TextError) → IsShortScan bytes s → has_nothing s.tokens.items s.end ≡ false →
    IsParsed Spells tree (plain_tokens s.tokens.items) parsed → IsWhole n s parsed r → IsTreeRead Spells tree n bytes r
tree_read Spells laws tree n bytes s (Ok v) r short some parsed whole =
    subst (IsTreeRead Spells tree n bytes) (sym whole) (whole_read Spells laws tree n bytes s v s.end short parsed refl)
tree_read Spells laws tree n bytes s (Err (At k left)) r short some parsed whole =
    subst (IsTreeRead Spells tree n bytes) (sym whole) (fault_read Spells laws n bytes s k left short some parsed)
tree_read Spells laws tree n bytes s (Err Memory) (Ok v) short some parsed whole = absurd whole
tree_read Spells laws tree n bytes s (Err Memory) (Err e) short some parsed whole = inl whole

-- a line that is too long
pub long_read : {T : Type 0} (Spells : Grammar T) (n : ℕ) (bytes : List ℕ) (e : TextError) →
    IsScanOrLong n bytes (Err e) → TellsLineFault Spells n bytes e
long_read Spells n bytes e (inl memory) = inl memory
long_read Spells n bytes e (inr long) =
    subst (TellsLineFault Spells n bytes) (sym long.1) (inr (refl, too_long long.0))

-- an error that is passed on
pub passed_error : {V T : Type 0} (Spells : Grammar T) (tree : V → T) (n : ℕ) (bytes : List ℕ) (e : TextError) (r : Result (Option V) TextError) →
    TellsLineFault Spells n bytes e → IsErrAnd r (λ f. f ≡ e) → IsLineRead Spells tree n bytes r
passed_error Spells tree n bytes e (Ok v) h is = absurd is
passed_error Spells tree n bytes e (Err f) h is = subst (TellsLineFault Spells n bytes) (sym is) h
