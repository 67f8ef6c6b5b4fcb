-- Cuts of the fractions: at a fraction, just before it, and beyond all. Signs of lines at cuts, and the order of cuts.
use Rattle.std.proofs.Common.{◌≡◌, ◌+◌, pos, neg_ℤ, ◌+ℤ◌, refl, sym, ap, ap₂, ◌∙◌, subst, arith, ◌⊎◌, inl, inr}
use Rattle.std.proofs.Math.IntN.{*ℤ_comm}
use Rattle.theory_meaning.proofs.WholeLaws.{neg-times}
use Rattle.theory_meaning.specs.declared.words.Sign.{Sign}
use Rattle.theory_meaning.specs.declared.words.Sign.TheVariants.{Minus, Zero, Plus}
use Rattle.theory_meaning.specs.Fraction.{Fraction, den, opposite_sign}
use Rattle.theory_formula.specs.Signs.{sign_of_whole}
use Rattle.theory_elimination.proofs.SignSums.{times, CanSum, positive}
use Rattle.theory_elimination.proofs.Lines.{Line, sign_on, slope_sign, base_sign, way, way_back, sign_along, flat}
use Rattle.std.proofs.lemmas.Int.{ints}

pub data Cut : Type 0 where
  top : Cut
  on : Fraction → Cut
  just_before : Fraction → Cut

-- the first of two signs that isn't zero
abbrev pub leading : Sign → Sign → Sign
leading Zero t = t
leading s t = s

abbrev pub sign_at_cut : Line → Cut → Sign
sign_at_cut l top = leading (slope_sign l) (base_sign l)
sign_at_cut l (on v) = sign_on l v
sign_at_cut l (just_before v) = leading (sign_on l v) (opposite_sign (slope_sign l))

-- a way that isn't down
abbrev pub IsUp : Sign → Type 0
IsUp Minus = ⊥
IsUp Zero = Unit {0}
IsUp Plus = Unit {0}

-- one cut isn't above the other
abbrev pub IsAtMost : Cut → Cut → Type 0
IsAtMost c top = Unit {0}
IsAtMost top (on w) = ⊥
IsAtMost top (just_before w) = ⊥
IsAtMost (on v) (on w) = IsUp (way v w)
IsAtMost (on v) (just_before w) = way v w ≡ Plus
IsAtMost (just_before v) (on w) = IsUp (way v w)
IsAtMost (just_before v) (just_before w) = IsUp (way v w)

-- ways add up
abbrev from : Fraction → Line
from v = record { slope = pos (den v); base = neg_ℤ v.num }

from_sign : (v w : Fraction) → sign_on (from v) w ≡ way v w
from_sign v w = ap sign_of_whole (ap₂ ◌+ℤ◌ (*ℤ_comm (pos (den v)) w.num) (neg-times v.num (pos (den w))))

from_slope : (v : Fraction) → slope_sign (from v) ≡ Plus
from_slope v = positive (pos (v.less + 1)) (omega (arith, ints))

pub ways_add : (u v w : Fraction) → CanSum (way u v) (way v w) (way u w)
ways_add u v w =
    let all = sign_along (from u) v w in
    let plain : CanSum (way u v) (times (slope_sign (from u)) (way v w)) (way u w) =
    subst (λ (r : Sign). CanSum (way u v) (times (slope_sign (from u)) (way v w)) r) (from_sign u w)
    (subst (λ (s : Sign). CanSum s (times (slope_sign (from u)) (way v w)) (sign_on (from u) w)) (from_sign u v) all) in
    subst (λ (t : Sign). CanSum (way u v) (times t (way v w)) (way u w)) (from_slope u) plain

up_up : (s t r : Sign) → CanSum s t r → IsUp s → IsUp t → IsUp r
up_up Zero t r e h k = subst IsUp (sym e) k
up_up Plus Zero r e h k = subst IsUp (sym e) h
up_up Plus Plus r e h k = subst IsUp (sym e) h
up_up Plus Minus r e h k = absurd k
up_up Minus t r e h k = absurd h

pub plus_up : (s t r : Sign) → CanSum s t r → s ≡ Plus → IsUp t → r ≡ Plus
plus_up Zero t r e h k = absurd cc
plus_up Plus Zero r e h k = e
plus_up Plus Plus r e h k = e
plus_up Plus Minus r e h k = absurd k
plus_up Minus t r e h k = absurd cc

pub up_plus : (s t r : Sign) → CanSum s t r → IsUp s → t ≡ Plus → r ≡ Plus
up_plus Zero t r e h k = e ∙ k
up_plus Plus Zero r e h k = absurd cc
up_plus Plus Plus r e h k = e
up_plus Plus Minus r e h k = absurd cc
up_plus Minus t r e h k = absurd h

pub plus_is_up : (s : Sign) → s ≡ Plus → IsUp s
plus_is_up Plus e = tt
plus_is_up Zero e = absurd cc
plus_is_up Minus e = absurd cc

pub at_most_along : (c d e : Cut) → IsAtMost c d → IsAtMost d e → IsAtMost c e
at_most_along c d top h k = tt
at_most_along c top (on w) h k = absurd k
at_most_along c top (just_before w) h k = absurd k
at_most_along top (on v) e h k = absurd h
at_most_along top (just_before v) e h k = absurd h
at_most_along (on u) (on v) (on w) h k = up_up (way u v) (way v w) (way u w) (ways_add u v w) h k
at_most_along (on u) (on v) (just_before w) h k = up_plus (way u v) (way v w) (way u w) (ways_add u v w) h k
at_most_along (on u) (just_before v) (on w) h k = plus_is_up (way u w) (plus_up (way u v) (way v w) (way u w) (ways_add u v w) h k)
at_most_along (on u) (just_before v) (just_before w) h k = plus_up (way u v) (way v w) (way u w) (ways_add u v w) h k
at_most_along (just_before u) (on v) (on w) h k = up_up (way u v) (way v w) (way u w) (ways_add u v w) h k
at_most_along (just_before u) (on v) (just_before w) h k = plus_is_up (way u w) (up_plus (way u v) (way v w) (way u w) (ways_add u v w) h k)
at_most_along (just_before u) (just_before v) (on w) h k = up_up (way u v) (way v w) (way u w) (ways_add u v w) h k
at_most_along (just_before u) (just_before v) (just_before w) h k = up_up (way u v) (way v w) (way u w) (ways_add u v w) h k

-- of two cuts one isn't above the other
pub up_or_back : (s t : Sign) → t ≡ opposite_sign s → IsUp s ⊎ (t ≡ Plus)
up_or_back Plus t e = inl tt
up_or_back Zero t e = inl tt
up_or_back Minus t e = inr e

pub plus_or_back : (s t : Sign) → t ≡ opposite_sign s → (s ≡ Plus) ⊎ IsUp t
plus_or_back Plus t e = inl refl
plus_or_back Zero t e = inr (subst IsUp (sym e) tt)
plus_or_back Minus t e = inr (subst IsUp (sym e) tt)

pub total_order : (c d : Cut) → IsAtMost c d ⊎ IsAtMost d c
total_order c top = inl tt
total_order top (on w) = inr tt
total_order top (just_before w) = inr tt
total_order (on v) (on w) = elim (up_or_back (way v w) (way w v) (way_back v w)) [
  | inl h ↦ inl h
  | inr h ↦ inr (plus_is_up (way w v) h)
]
total_order (on v) (just_before w) = plus_or_back (way v w) (way w v) (way_back v w)
total_order (just_before v) (on w) = up_or_back (way v w) (way w v) (way_back v w)
total_order (just_before v) (just_before w) = elim (up_or_back (way v w) (way w v) (way_back v w)) [
  | inl h ↦ inl h
  | inr h ↦ inr (plus_is_up (way w v) h)
]

pub at_most_itself : (v : Fraction) → IsAtMost (on v) (on v)
at_most_itself v = elim (up_or_back (way v v) (way v v) (way_back v v)) [
  | inl h ↦ h
  | inr h ↦ plus_is_up (way v v) h
]

-- the order of signs
abbrev pub IsNotAbove : Sign → Sign → Type 0
IsNotAbove Minus t = Unit {0}
IsNotAbove Zero Minus = ⊥
IsNotAbove Zero Zero = Unit {0}
IsNotAbove Zero Plus = Unit {0}
IsNotAbove Plus Minus = ⊥
IsNotAbove Plus Zero = ⊥
IsNotAbove Plus Plus = Unit {0}

not_above_along : (r s t : Sign) → IsNotAbove r s → IsNotAbove s t → IsNotAbove r t
not_above_along Minus s t h k = tt
not_above_along Zero Minus t h k = absurd h
not_above_along Zero Zero t h k = k
not_above_along Zero Plus Minus h k = absurd k
not_above_along Zero Plus Zero h k = absurd k
not_above_along Zero Plus Plus h k = tt
not_above_along Plus Minus t h k = absurd h
not_above_along Plus Zero t h k = absurd h
not_above_along Plus Plus t h k = k

below_plus : (s : Sign) → IsNotAbove s Plus
below_plus Minus = tt
below_plus Zero = tt
below_plus Plus = tt

-- where a line stands at a cut, seen along its slope: before its root, at it, behind it
abbrev pub place : Line → Cut → Sign
place l c = times (slope_sign l) (sign_at_cut l c)

up_keeps : (a s o r : Sign) → (a ≡ Zero → ⊥) → IsUp o → CanSum s (times a o) r → IsNotAbove (times a s) (times a r)
up_keeps Zero s o r h k e = absurd (h refl)
up_keeps Plus Minus o r h k e = tt
up_keeps Plus Zero Zero r h k e = subst (λ (t : Sign). IsNotAbove Zero t) (sym e) tt
up_keeps Plus Zero Plus r h k e = subst (λ (t : Sign). IsNotAbove Zero t) (sym e) tt
up_keeps Plus Plus Zero r h k e = subst (λ (t : Sign). IsNotAbove Plus t) (sym e) tt
up_keeps Plus Plus Plus r h k e = subst (λ (t : Sign). IsNotAbove Plus t) (sym e) tt
up_keeps Plus Zero Minus r h k e = absurd k
up_keeps Plus Plus Minus r h k e = absurd k
up_keeps Minus Plus o r h k e = tt
up_keeps Minus Zero Zero r h k e = subst (λ (t : Sign). IsNotAbove Zero (opposite_sign t)) (sym e) tt
up_keeps Minus Zero Plus r h k e = subst (λ (t : Sign). IsNotAbove Zero (opposite_sign t)) (sym e) tt
up_keeps Minus Minus Zero r h k e = subst (λ (t : Sign). IsNotAbove Plus (opposite_sign t)) (sym e) tt
up_keeps Minus Minus Plus r h k e = subst (λ (t : Sign). IsNotAbove Plus (opposite_sign t)) (sym e) tt
up_keeps Minus Zero Minus r h k e = absurd k
up_keeps Minus Minus Minus r h k e = absurd k

-- strictly up it moves, where it isn't before its root already
plus_moves : (a s r : Sign) → (a ≡ Zero → ⊥) → CanSum s (times a Plus) r → IsNotAbove (times a s) (times a (leading r (opposite_sign a)))
plus_moves Zero s r h e = absurd (h refl)
plus_moves Plus Minus r h e = tt
plus_moves Plus Zero r h e = subst (λ (t : Sign). IsNotAbove Zero (leading t Minus)) (sym e) tt
plus_moves Plus Plus r h e = subst (λ (t : Sign). IsNotAbove Plus (leading t Minus)) (sym e) tt
plus_moves Minus Plus r h e = tt
plus_moves Minus Zero r h e = subst (λ (t : Sign). IsNotAbove Zero (opposite_sign (leading t Plus))) (sym e) tt
plus_moves Minus Minus r h e = subst (λ (t : Sign). IsNotAbove Plus (opposite_sign (leading t Plus))) (sym e) tt

before_is_lower : (a s : Sign) → IsNotAbove (times a (leading s (opposite_sign a))) (times a s)
before_is_lower Zero Minus = tt
before_is_lower Zero Zero = tt
before_is_lower Zero Plus = tt
before_is_lower Plus Minus = tt
before_is_lower Plus Zero = tt
before_is_lower Plus Plus = tt
before_is_lower Minus Minus = tt
before_is_lower Minus Zero = tt
before_is_lower Minus Plus = tt

both_before : (a s r : Sign) → IsNotAbove (times a s) (times a r)
    → IsNotAbove (times a (leading s (opposite_sign a))) (times a (leading r (opposite_sign a)))
both_before Zero s r h = tt
both_before Plus Minus r h = tt
both_before Plus Zero r h = tt
both_before Plus Plus Plus h = tt
both_before Plus Plus Zero h = absurd h
both_before Plus Plus Minus h = absurd h
both_before Minus Plus r h = tt
both_before Minus Zero r h = tt
both_before Minus Minus Minus h = tt
both_before Minus Minus Zero h = absurd h
both_before Minus Minus Plus h = absurd h

at_top : (a b s : Sign) → (a ≡ Zero → ⊥) → IsNotAbove s (times a (leading a b))
at_top Zero b s h = absurd (h refl)
at_top Plus b s h = below_plus s
at_top Minus b s h = below_plus s

-- a higher cut isn't at a lower place
pub places_rise : (l : Line) (c d : Cut) → (slope_sign l ≡ Zero → ⊥) → IsAtMost c d → IsNotAbove (place l c) (place l d)
places_rise l c top h k = at_top (slope_sign l) (base_sign l) (place l c) h
places_rise l top (on w) h k = absurd k
places_rise l top (just_before w) h k = absurd k
places_rise l (on v) (on w) h k = up_keeps (slope_sign l) (sign_on l v) (way v w) (sign_on l w) h k (sign_along l v w)
places_rise l (on v) (just_before w) h k =
    plus_moves (slope_sign l) (sign_on l v) (sign_on l w) h
    (subst (λ (o : Sign). CanSum (sign_on l v) (times (slope_sign l) o) (sign_on l w)) k (sign_along l v w))
places_rise l (just_before v) (on w) h k =
    not_above_along (place l (just_before v)) (place l (on v)) (place l (on w)) (before_is_lower (slope_sign l) (sign_on l v))
    (up_keeps (slope_sign l) (sign_on l v) (way v w) (sign_on l w) h k (sign_along l v w))
places_rise l (just_before v) (just_before w) h k =
    both_before (slope_sign l) (sign_on l v) (sign_on l w) (up_keeps (slope_sign l) (sign_on l v) (way v w) (sign_on l w) h k (sign_along l v w))

-- a line without slope has one sign at every cut
leading_zero : (s : Sign) → leading s Zero ≡ s
leading_zero Minus = refl
leading_zero Zero = refl
leading_zero Plus = refl

pub flat_at_cut : (l : Line) (c : Cut) → slope_sign l ≡ Zero → sign_at_cut l c ≡ base_sign l
flat_at_cut l top h = ap (λ (s : Sign). leading s (base_sign l)) h
flat_at_cut l (on v) h = flat l v h
flat_at_cut l (just_before v) h = ap (λ (s : Sign). leading (sign_on l v) (opposite_sign s)) h ∙ leading_zero (sign_on l v) ∙ flat l v h
