-- A line is fine or has exactly one first fault, wherever its tokens are so.
use Rattle.std.proofs.Common.{◌≡◌, ◌⊎◌, inl, inr, ℕ, ◌<◌, ◌≤◌, List, [], length, sym, ap, ◌∙◌, subst, arith, length-append}
use Rattle.theory_grammar.specs.declared.text_kind.TextKind.{TextKind}
use Rattle.theory_grammar.specs.declared.unreadable.Unreadable.{Unreadable}
use Rattle.theory_grammar.specs.declared.words.LineFaultKind.{LineFaultKind}
use Rattle.theory_grammar.specs.Token.{Token}
use Rattle.theory_grammar.specs.Scan.{Placed, complete, broken, ReadsLine}
use Rattle.theory_grammar.specs.Spelled.{every}
use Rattle.theory_grammar.specs.LineFault.{Grammar, FirstFault}
use Rattle.theory_grammar.specs.TextFault.{tokens_of, IsScanned, SpellsOne, IsFine, LineFails, too_long, at_token, at_end, at_bytes}
use Rattle.theory_grammar.proofs.ScanLaws.{one_reading}

-- a first fault of tokens, whatever its kind
pub record SomeFault {T : Type 0} (Spells : Grammar T) (tokens : List Token) : Type 0 where
  pub kind : LineFaultKind
  pub place : ℕ
  pub fault : FirstFault Spells tokens kind place

-- tokens spell one tree or have one first fault, never both, and no tokens spell nothing
pub record HasOneOutcome {T : Type 0} (Spells : Grammar T) : Type 0 where
  pub one_tree : (ts : List Token) (x y : T) → Spells every ts x → Spells every ts y → x ≡ y
  pub one_fault : (ts : List Token) (j k : LineFaultKind) (m n : ℕ) → FirstFault Spells ts j m → FirstFault Spells ts k n → (j ≡ k) × (m ≡ n)
  pub not_both : (ts : List Token) (x : T) (k : LineFaultKind) (n : ℕ) → Spells every ts x → FirstFault Spells ts k n → ⊥
  pub some : (ts : List Token) → ((x : T) × Spells every ts x) ⊎ SomeFault Spells ts
  pub no_empty : (x : T) → Spells every [] x → ⊥

pub place_within : {T : Type 0} (Spells : Grammar T) (ts : List Token) (k : LineFaultKind) (n : ℕ) → FirstFault Spells ts k n → n ≤ length ts
place_within Spells ts k n h = omega (arith, h.counted, ap length h.parts ∙ length-append h.before h.rest)

-- a line is scanned in one way
pub one_scan : (l : List ℕ) (ts us : List Placed) → IsScanned l ts → IsScanned l us → ts ≡ us
one_scan l ts us h k = (one_reading 1 l ts us (complete h.end) (complete k.end) h.reads k.reads).0

no_scan_of_broken : (l : List ℕ) (ts us : List Placed) (u : Unreadable) (c : ℕ) → IsScanned l ts → ReadsLine l us (broken u c) → ⊥
no_scan_of_broken l ts us u c h r =
    let same : complete h.end ≡ broken u c = (one_reading 1 l ts us (complete h.end) (broken u c) h.reads r).1 in
    cc

-- a fault at a token needs a token
no_token : (ts : List Placed) (n : ℕ) → [] ≡ ts → n < length ts → ⊥
no_token ts n none below = absurd (omega (arith, ap length none))

empty_not_fail : {T : Type 0} (Spells : Grammar T) (l : List ℕ) (k : TextKind) (c : ℕ) → IsScanned l [] → LineFails Spells l k c → ⊥
empty_not_fail Spells l k c h (too_long long) = let short = h.short in absurd (omega arith)
empty_not_fail Spells l k c h (at_token ts e j n _ r f below) =
    no_token ts n (one_reading 1 l [] ts (complete h.end) e h.reads r).0 below
empty_not_fail Spells l k c h (at_end ts column j _ r some f) = some (sym (one_reading 1 l [] ts (complete h.end) (complete column) h.reads r).0)
empty_not_fail Spells l k c h (at_bytes ts u column _ r f) = no_scan_of_broken l [] ts u column h r

spelled_not_fail : {T : Type 0} (Spells : Grammar T) → HasOneOutcome Spells → (l : List ℕ) (x : T) (k : TextKind) (c : ℕ) → SpellsOne Spells l x →
    LineFails Spells l k c → ⊥
spelled_not_fail Spells laws l x k c h (too_long long) = let short = h.scanned.short in absurd (omega arith)
spelled_not_fail {T = T} Spells laws l x k c h (at_token ts e j n _ r f below) =
    let same = (one_reading 1 l h.tokens ts (complete h.scanned.end) e h.scanned.reads r).0 in
    laws.not_both (tokens_of ts) x j n (subst (λ (us : List Placed). Spells every (tokens_of us) x) same h.spelled) f
spelled_not_fail Spells laws l x k c h (at_end ts column j _ r some f) =
    let same = (one_reading 1 l h.tokens ts (complete h.scanned.end) (complete column) h.scanned.reads r).0 in
    laws.not_both (tokens_of ts) x j (length ts) (subst (λ (us : List Placed). Spells every (tokens_of us) x) same h.spelled) f
spelled_not_fail Spells laws l x k c h (at_bytes ts u column _ r f) = no_scan_of_broken l h.tokens ts u column h.scanned r

-- a fine line has no fault
pub fine_not_fail : {T : Type 0} (Spells : Grammar T) → HasOneOutcome Spells → (l : List ℕ) (k : TextKind) (c : ℕ) → IsFine Spells l →
    LineFails Spells l k c → ⊥
fine_not_fail Spells laws l k c (inl h) fails = empty_not_fail Spells l k c h fails
fine_not_fail Spells laws l k c (inr h) fails = spelled_not_fail Spells laws l h.0 k c h.1 fails

-- a line spells one tree, and none where it has no token
pub one_spelled : {T : Type 0} (Spells : Grammar T) → HasOneOutcome Spells → (l : List ℕ) (x y : T) → SpellsOne Spells l x → SpellsOne Spells l y → x ≡ y
one_spelled Spells laws l x y h k =
    let same = one_scan l h.tokens k.tokens h.scanned k.scanned in
    laws.one_tree (tokens_of k.tokens) x y (subst (λ (us : List Placed). Spells every (tokens_of us) x) same h.spelled) k.spelled

pub empty_not_spelled : {T : Type 0} (Spells : Grammar T) → HasOneOutcome Spells → (l : List ℕ) (x : T) → IsScanned l [] → SpellsOne Spells l x → ⊥
empty_not_spelled Spells laws l x h k =
    laws.no_empty x (subst (λ (us : List Placed). Spells every (tokens_of us) x) (one_scan l k.tokens [] k.scanned h) k.spelled)
