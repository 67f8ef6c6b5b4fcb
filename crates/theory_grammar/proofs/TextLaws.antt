-- Whole texts and single lines: spelled in one way, or with one first fault.
use Rattle.std.proofs.Common.{◌≡◌, ◌⊎◌, inl, inr, ⊎_elim, ℕ, zero, suc, ◌<◌, ◌≤◌, true, false, List, [], ◌∷◌, length, take, refl, sym, ap, ◌∙◌, subst, arith}
use Rattle.std.specs.Prelude.{IsUtf8}
use Rattle.std.specs.Str.{IsValidUpTo, is_utf8}
use Rattle.std.proofs.lemmas.Bool.{cases_lt, cases_order, cases_Bool, false≢true}
use Rattle.std.proofs.lemmas.List.{take_all}
use Rattle.std.proofs.lemmas.Str.{IsUtf8-nil, IsUtf8-from_is_utf8, is_utf8-from_IsUtf8}
use Rattle.theory_grammar.specs.declared.text_kind.TextKind.TheVariants as kind
use Rattle.theory_grammar.specs.LineFault.{Grammar}
use Rattle.theory_grammar.specs.TextFault.{Fault, fault_behind, cut_lines, FailFrom, IsText, SpellsText, TextFails, too_large, not_utf8, in_line}
use Rattle.theory_grammar.proofs.LineOutcomes.{HasOneOutcome}
use Rattle.theory_grammar.proofs.TextOutcomes.{one_list, list_not_fail, one_list_fault, Comes, list_outcome}

-- bytes that aren't UTF-8 are so up to one place
pub one_valid_end : (bs : List ℕ) (m n : ℕ) → IsValidUpTo bs m → IsValidUpTo bs n → m ≡ n
one_valid_end bs m n h k =
    ⊎_elim (λ e. e) (λ o. ⊎_elim (λ below. absurd (h.longest n below k.front)) (λ above. absurd (k.longest m above h.front)) o) (cases_order m n)

pub not_valid : (bs : List ℕ) (n : ℕ) → IsUtf8 bs → IsValidUpTo bs n → ⊥
not_valid bs n h k =
    let short = k.short in
    k.longest (length bs) short (subst IsUtf8 (sym (take_all (length bs) bs (omega arith))) h)

-- a place up to which the bytes are UTF-8, below a number past which no more are
pub record ValidEnd (bs : List ℕ) : Type 0 where
  pub end : ℕ
  pub is : IsValidUpTo bs end

no_more : (bs : List ℕ) (n : ℕ) → ((m : ℕ) → n < m → IsUtf8 (take m bs) → ⊥) → is_utf8 (take n bs) ≡ false → (m : ℕ) → n ≤ m → IsUtf8 (take m bs) → ⊥
no_more bs n none fails m above h =
    let here = λ (e : n ≡ m). false≢true (sym fails ∙ is_utf8-from_IsUtf8 (take n bs) (subst (λ (k : ℕ). IsUtf8 (take k bs)) (sym e) h)) in
    ⊎_elim here (λ o. ⊎_elim (λ below. none m below h) (λ less. absurd (omega arith)) o) (cases_order n m)

valid_below : (bs : List ℕ) (n : ℕ) → n < length bs → ((m : ℕ) → n < m → IsUtf8 (take m bs) → ⊥) → ValidEnd bs
valid_below bs zero short none = record { end = 0; is = record { short = short; front = IsUtf8-nil; longest = none } }
valid_below bs (suc n) short none =
    let found = λ (h : is_utf8 (take (suc n) bs) ≡ true).
    let all : ValidEnd bs = record { end = suc n; is = record { short = short; front = IsUtf8-from_is_utf8 (take (suc n) bs) h; longest = none } } in all in
    let further = λ (h : is_utf8 (take (suc n) bs) ≡ false).
    valid_below bs n (omega arith) (λ m above. no_more bs (suc n) none h m (omega arith)) in
    ⊎_elim found further (cases_Bool (is_utf8 (take (suc n) bs)))

whole_fails : (bs : List ℕ) → is_utf8 bs ≡ false → (m : ℕ) → length bs ≤ m → IsUtf8 (take m bs) → ⊥
whole_fails bs fails m above h =
    false≢true (sym fails ∙ is_utf8-from_IsUtf8 bs (subst IsUtf8 (take_all m bs above) h))

-- bytes are UTF-8 or they are so up to a place
pub utf8_or_end : (bs : List ℕ) → IsUtf8 bs ⊎ ValidEnd bs
utf8_or_end [] = inl IsUtf8-nil
utf8_or_end (b ∷ bs) =
    let all = b ∷ bs in
    let ends = λ (h : is_utf8 all ≡ false). inr (valid_below all (length bs) (omega arith) (λ m above. whole_fails all h m (omega arith))) in
    ⊎_elim (λ h. inl (IsUtf8-from_is_utf8 all h)) ends (cases_Bool (is_utf8 all))

-- a text is spelled in one way
pub one_text : {T A : Type 0} (Spells : Grammar T) (keep : ℕ → T → A) → HasOneOutcome Spells → (bs : List ℕ) (xs ys : List A) →
    SpellsText Spells keep bs xs → SpellsText Spells keep bs ys → xs ≡ ys
one_text Spells keep laws bs xs ys h k = one_list Spells keep laws 1 (cut_lines bs) xs ys h.lines k.lines

-- a text that is spelled has no first fault
pub text_not_fail : {T A : Type 0} (Spells : Grammar T) (keep : ℕ → T → A) → HasOneOutcome Spells → (bs : List ℕ) (xs : List A) (f : Fault) →
    SpellsText Spells keep bs xs → TextFails Spells bs f → ⊥
text_not_fail Spells keep laws bs xs f h (too_large large) = let size = h.text.size in absurd (omega arith)
text_not_fail Spells keep laws bs xs f h (not_utf8 n size valid) = not_valid bs n h.text.utf8 valid
text_not_fail Spells keep laws bs xs f h (in_line _ text fails) = list_not_fail Spells keep laws 1 (cut_lines bs) xs f h.lines fails

large_fault : {T : Type 0} (Spells : Grammar T) (bs : List ℕ) (g : Fault) → 65536 < length bs → TextFails Spells bs g →
    fault_behind kind.TooLong (take 65536 bs) ≡ g
large_fault Spells bs g large (too_large also) = refl
large_fault Spells bs g large (not_utf8 n size valid) = absurd (omega arith)
large_fault Spells bs g large (in_line _ text fails) = let size = text.size in absurd (omega arith)

encoding_fault : {T : Type 0} (Spells : Grammar T) (bs : List ℕ) (n : ℕ) (g : Fault) → length bs ≤ 65536 → IsValidUpTo bs n → TextFails Spells bs g →
    fault_behind kind.NotUtf8 (take n bs) ≡ g
encoding_fault Spells bs n g size valid (too_large large) = absurd (omega arith)
encoding_fault Spells bs n g size valid (not_utf8 m also k) = ap (λ (i : ℕ). fault_behind kind.NotUtf8 (take i bs)) (one_valid_end bs n m valid k)
encoding_fault Spells bs n g size valid (in_line _ text fails) = absurd (not_valid bs n text.utf8 valid)

lines_fault : {T : Type 0} (Spells : Grammar T) → HasOneOutcome Spells → (bs : List ℕ) (f g : Fault) → IsText bs → FailFrom Spells 1 (cut_lines bs) f →
    TextFails Spells bs g → f ≡ g
lines_fault Spells laws bs f g text fails (too_large large) = let size = text.size in absurd (omega arith)
lines_fault Spells laws bs f g text fails (not_utf8 n size valid) = absurd (not_valid bs n text.utf8 valid)
lines_fault Spells laws bs f g text fails (in_line _ also k) = one_list_fault Spells laws 1 (cut_lines bs) f g fails k

-- a text has one first fault
pub one_text_fault : {T : Type 0} (Spells : Grammar T) → HasOneOutcome Spells → (bs : List ℕ) (f g : Fault) → TextFails Spells bs f →
    TextFails Spells bs g → f ≡ g
one_text_fault Spells laws bs f g (too_large large) h = large_fault Spells bs g large h
one_text_fault Spells laws bs f g (not_utf8 n size valid) h = encoding_fault Spells bs n g size valid h
one_text_fault Spells laws bs f g (in_line _ text fails) h = lines_fault Spells laws bs f g text fails h

-- what a text comes to
abbrev pub TextComes : {T A : Type 0} → Grammar T → (ℕ → T → A) → List ℕ → Type 0
TextComes {A = A} Spells keep bs = ((xs : List A) × SpellsText Spells keep bs xs) ⊎ ((f : Fault) × TextFails Spells bs f)

from_lines : {T A : Type 0} (Spells : Grammar T) (keep : ℕ → T → A) (bs : List ℕ) → IsText bs → Comes Spells keep 1 (cut_lines bs) → TextComes Spells keep bs
from_lines Spells keep bs text (inl k) = inl (k.0, record { text = text; lines = k.1 })
from_lines Spells keep bs text (inr k) = inr (k.0, in_line k.0 text k.1)

-- a text is spelled or has a first fault
pub text_outcome : {T A : Type 0} (Spells : Grammar T) (keep : ℕ → T → A) → HasOneOutcome Spells → (bs : List ℕ) → TextComes Spells keep bs
text_outcome Spells keep laws bs =
    let large : 65536 < length bs → TextComes Spells keep bs = λ h. inr (fault_behind kind.TooLong (take 65536 bs), too_large h) in
    let encoded = λ (size : length bs ≤ 65536).
    ⊎_elim (λ h. from_lines Spells keep bs (record { size = size; utf8 = h }) (list_outcome Spells keep laws 1 (cut_lines bs)))
    (λ (k : ValidEnd bs). inr (fault_behind kind.NotUtf8 (take k.end bs), not_utf8 k.end size k.is)) (utf8_or_end bs) in
    ⊎_elim large encoded (cases_lt 65536 (length bs))
