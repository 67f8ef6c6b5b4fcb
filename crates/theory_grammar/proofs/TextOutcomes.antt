-- A text is spelled in one way or has exactly one first fault, wherever tokens are so.
use Rattle.std.proofs.Common.{◌≡◌, ◌⊎◌, inl, inr, ℕ, ◌+◌, List, [], ◌∷◌, refl, sym, ap, ◌∙◌}
use Rattle.theory_grammar.specs.declared.text_kind.TextKind.{TextKind}
use Rattle.theory_grammar.specs.LineFault.{Grammar}
use Rattle.theory_grammar.specs.TextFault.{Fault, IsScanned, SpellsOne, IsFine, LineFails, SpellFrom, ended, passed, spelled, FailFrom, here, later}
use Rattle.theory_grammar.proofs.LineOutcomes.{HasOneOutcome, fine_not_fail, one_spelled, empty_not_spelled}
use Rattle.theory_grammar.proofs.LineFaultLaws.{Outcome, one_line_fault, line_outcome}

from_ended : {T A : Type 0} (Spells : Grammar T) (keep : ℕ → T → A) (n : ℕ) (ys : List A) → SpellFrom Spells keep n [] ys → [] ≡ ys
from_ended Spells keep n ys (ended _) = refl

-- the rest of a list, behind its first element
pub record IsThen {A : Type 0} (Rest : List A → Type 0) (x : A) (ys : List A) : Type 0 where
  pub rest : List A
  pub split : ys ≡ x ∷ rest
  pub is : Rest rest

from_passed : {T A : Type 0} (Spells : Grammar T) (keep : ℕ → T → A) → HasOneOutcome Spells → (n : ℕ) (l : List ℕ) (ls : List (List ℕ)) (ys : List A) →
    IsScanned l [] → SpellFrom Spells keep n (l ∷ ls) ys → SpellFrom Spells keep (n + 1) ls ys
from_passed Spells keep laws n l ls ys h (passed _ _ _ _ k r) = r
from_passed Spells keep laws n l ls ys h (spelled _ _ _ y zs k r) = absurd (empty_not_spelled Spells laws l y h k)

from_spelled : {T A : Type 0} (Spells : Grammar T) (keep : ℕ → T → A) → HasOneOutcome Spells → (n : ℕ) (l : List ℕ) (ls : List (List ℕ)) (x : T)
    (ys : List A) → SpellsOne Spells l x → SpellFrom Spells keep n (l ∷ ls) ys → IsThen (SpellFrom Spells keep (n + 1) ls) (keep n x) ys
from_spelled Spells keep laws n l ls x ys h (passed _ _ _ _ k r) = absurd (empty_not_spelled Spells laws l x k h)
from_spelled {A = A} Spells keep laws n l ls x ys h (spelled _ _ _ y zs k r) =
    let same = one_spelled Spells laws l x y h k in
    record { rest = zs; split = ap (λ z. keep n z ∷ zs) (sym same); is = r }

-- lines are spelled in one way
pub one_list : {T A : Type 0} (Spells : Grammar T) (keep : ℕ → T → A) → HasOneOutcome Spells → (n : ℕ) (ls : List (List ℕ)) (xs ys : List A) →
    SpellFrom Spells keep n ls xs → SpellFrom Spells keep n ls ys → xs ≡ ys
one_list Spells keep laws n ls xs ys (ended _) k = from_ended Spells keep n ys k
one_list Spells keep laws n ls xs ys (passed _ l rest _ h r) k =
    one_list Spells keep laws (n + 1) rest xs ys r (from_passed Spells keep laws n l rest ys h k)
one_list Spells keep laws n ls xs ys (spelled _ l rest x zs h r) k =
    let behind = from_spelled Spells keep laws n l rest x ys h k in
    let below = one_list Spells keep laws (n + 1) rest zs behind.rest r behind.is in
    ap (λ ws. keep n x ∷ ws) below ∙ sym behind.split

-- lines that are spelled are fine
passed_or_spelled : {T A : Type 0} (Spells : Grammar T) (keep : ℕ → T → A) → HasOneOutcome Spells → (n : ℕ) (l : List ℕ) (ls : List (List ℕ)) (xs : List A) →
    SpellFrom Spells keep n (l ∷ ls) xs → IsFine Spells l × ((ys : List A) × SpellFrom Spells keep (n + 1) ls ys)
passed_or_spelled Spells keep laws n l ls xs (passed _ _ _ _ h r) = (inl h, (xs, r))
passed_or_spelled Spells keep laws n l ls xs (spelled _ _ _ x zs h r) = (inr (x, h), (zs, r))

-- lines that are spelled have no first fault
pub list_not_fail : {T A : Type 0} (Spells : Grammar T) (keep : ℕ → T → A) → HasOneOutcome Spells → (n : ℕ) (ls : List (List ℕ)) (xs : List A) (f : Fault) →
    SpellFrom Spells keep n ls xs → FailFrom Spells n ls f → ⊥
list_not_fail Spells keep laws n ls xs f h (here _ l rest k c fails) =
    fine_not_fail Spells laws l k c (passed_or_spelled Spells keep laws n l rest xs h).0 fails
list_not_fail Spells keep laws n ls xs f h (later _ l rest _ fine r) =
    let behind = (passed_or_spelled Spells keep laws n l rest xs h).1 in
    list_not_fail Spells keep laws (n + 1) rest behind.0 f behind.1 r

fault_of_line : {T : Type 0} (Spells : Grammar T) → HasOneOutcome Spells → (n : ℕ) (l : List ℕ) (ls : List (List ℕ)) (k : TextKind) (c : ℕ) (g : Fault) →
    LineFails Spells l k c → FailFrom Spells n (l ∷ ls) g → (let f : Fault = record { kind = k; line = n; column = c } in f) ≡ g
fault_of_line Spells laws n l ls k c g h (here _ _ _ j d fails) =
    let same = one_line_fault Spells laws l k j c d h fails in
    ap (λ (i : TextKind). let f : Fault = record { kind = i; line = n; column = c } in f) same.0 ∙
    ap (λ (m : ℕ). let f : Fault = record { kind = j; line = n; column = m } in f) same.1
fault_of_line Spells laws n l ls k c g h (later _ _ _ _ fine r) = absurd (fine_not_fail Spells laws l k c fine h)

fault_behind_line : {T : Type 0} (Spells : Grammar T) → HasOneOutcome Spells → (n : ℕ) (l : List ℕ) (ls : List (List ℕ)) (g : Fault) →
    IsFine Spells l → FailFrom Spells n (l ∷ ls) g → FailFrom Spells (n + 1) ls g
fault_behind_line Spells laws n l ls g h (here _ _ _ j d fails) = absurd (fine_not_fail Spells laws l j d h fails)
fault_behind_line Spells laws n l ls g h (later _ _ _ _ fine r) = r

-- lines have one first fault
pub one_list_fault : {T : Type 0} (Spells : Grammar T) → HasOneOutcome Spells → (n : ℕ) (ls : List (List ℕ)) (f g : Fault) → FailFrom Spells n ls f →
    FailFrom Spells n ls g → f ≡ g
one_list_fault Spells laws n ls f g (here _ l rest k c fails) h = fault_of_line Spells laws n l rest k c g fails h
one_list_fault Spells laws n ls f g (later _ l rest _ fine r) h =
    one_list_fault Spells laws (n + 1) rest f g r (fault_behind_line Spells laws n l rest g fine h)

-- what lines come to
abbrev pub Comes : {T A : Type 0} → Grammar T → (ℕ → T → A) → ℕ → List (List ℕ) → Type 0
Comes {A = A} Spells keep n ls = ((xs : List A) × SpellFrom Spells keep n ls xs) ⊎ ((f : Fault) × FailFrom Spells n ls f)

first_line : {T A : Type 0} (Spells : Grammar T) (keep : ℕ → T → A) (n : ℕ) (l : List ℕ) (ls : List (List ℕ)) → Outcome Spells l →
    Comes Spells keep (n + 1) ls →
    Comes Spells keep n (l ∷ ls)
first_line Spells keep n l ls (inl (inl h)) (inl k) = inl (k.0, passed n l ls k.0 h k.1)
first_line Spells keep n l ls (inl (inr h)) (inl k) = inl (keep n h.0 ∷ k.0, spelled n l ls h.0 k.0 h.1 k.1)
first_line Spells keep n l ls (inl h) (inr k) = inr (k.0, later n l ls k.0 h k.1)
first_line Spells keep n l ls (inr h) k = inr (record { kind = h.kind; line = n; column = h.column }, here n l ls h.kind h.column h.fails)

pub list_outcome : {T A : Type 0} (Spells : Grammar T) (keep : ℕ → T → A) → HasOneOutcome Spells → (n : ℕ) (ls : List (List ℕ)) → Comes Spells keep n ls
list_outcome Spells keep laws n [] = inl ([], ended n)
list_outcome Spells keep laws n (l ∷ ls) =
    first_line Spells keep n l ls (line_outcome Spells laws l) (list_outcome Spells keep laws (n + 1) ls)
