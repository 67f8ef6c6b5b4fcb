-- Up to which cut a condition on a line stays true.
use Rattle.std.proofs.Common.{◌≡◌, true, refl, sym, ap, ◌∙◌, subst, ◌⊎◌, inl, inr, Option, None, Some, List}
use Rattle.theory_meaning.specs.declared.words.Sign.{Sign}
use Rattle.theory_meaning.specs.declared.words.Sign.TheVariants.{Minus, Zero, Plus}
use Rattle.theory_meaning.specs.Fraction.{Fraction, opposite_sign}
use Rattle.theory_formula.specs.declared.signs.Signs.{Signs}
use Rattle.theory_formula.specs.declared.signs.Signs.TheVariants as set
use Rattle.theory_formula.specs.Signs.{has}
use Rattle.theory_polynomial.specs.Polynomial.{Monomial}
use Rattle.theory_formula.proofs.ConditionLaws.{mirror_has_opposite}
use Rattle.theory_elimination.specs.TestPoint.{TestPoint, root, before, end_of}
use Rattle.theory_elimination.specs.Substituted.{along_slope}
use Rattle.theory_elimination.proofs.SignSums.{times, CanSum}
use Rattle.theory_elimination.proofs.Lines.{Line, sign_on, slope_sign, base_sign, way, way_back, sign_along, root_of, zero_at_root}
use Rattle.theory_elimination.proofs.Cuts.{Cut, top, on, just_before, leading, sign_at_cut, IsAtMost, IsNotAbove, place, places_rise, up_or_back, plus_or_back, flat_at_cut}

-- a condition seen along the slope
pub along_has : (s : Sign) (S : Signs) (t : Sign) → (s ≡ Zero → ⊥) → has S t ≡ has (along_slope s S) (times s t)
along_has Zero S t h = absurd (h refl)
along_has Plus S t h = refl
along_has Minus S t h = sym (mirror_has_opposite S t)

-- the kinds of upper ends
pub data Kind : Type 0 where
  open_end : Kind
  at_root : Kind
  before_root : Kind

abbrev pub kind_of : Signs → Kind
kind_of set.Neg = before_root
kind_of set.Zero = at_root
kind_of set.Pos = open_end
kind_of set.NotPos = at_root
kind_of set.NonZero = before_root
kind_of set.NotNeg = open_end

abbrev pub point_by : Kind → List Monomial → List Monomial → Sign → Option TestPoint
point_by open_end a b s = None
point_by at_root a b s = Some (root a b s)
point_by before_root a b s = Some (before a b s)

pub end_is : (S : Signs) (s : Sign) (a b : List Monomial) → (s ≡ Zero → ⊥) → end_of S s a b ≡ point_by (kind_of (along_slope s S)) a b s
end_is S Zero a b h = absurd (h refl)
end_is set.Neg Plus a b h = refl
end_is set.Zero Plus a b h = refl
end_is set.Pos Plus a b h = refl
end_is set.NotPos Plus a b h = refl
end_is set.NonZero Plus a b h = refl
end_is set.NotNeg Plus a b h = refl
end_is set.Neg Minus a b h = refl
end_is set.Zero Minus a b h = refl
end_is set.Pos Minus a b h = refl
end_is set.NotPos Minus a b h = refl
end_is set.NonZero Minus a b h = refl
end_is set.NotNeg Minus a b h = refl

abbrev pub cut_by : Kind → Fraction → Cut
cut_by open_end r = top
cut_by at_root r = on r
cut_by before_root r = just_before r

abbrev upper : Kind → Sign
upper open_end = Plus
upper at_root = Zero
upper before_root = Minus

-- a set that holds at a place holds from there up to an end of its kind, or without an end
record Bound (T : Signs) (s : Sign) : Type 0 where
  kind : Kind
  own : (kind ≡ open_end) ⊎ (kind ≡ kind_of T)
  below : IsNotAbove s (upper kind)
  closed : (t : Sign) → IsNotAbove s t → IsNotAbove t (upper kind) → has T t ≡ true

only_minus : (T : Signs) (t : Sign) → has T Minus ≡ true → IsNotAbove t Minus → has T t ≡ true
only_minus T Minus h k = h
only_minus T Zero h k = absurd k
only_minus T Plus h k = absurd k

only_plus : (T : Signs) (t : Sign) → has T Plus ≡ true → IsNotAbove Plus t → has T t ≡ true
only_plus T Minus h k = absurd k
only_plus T Zero h k = absurd k
only_plus T Plus h k = h

only_zero : (T : Signs) (t : Sign) → has T Zero ≡ true → IsNotAbove Zero t → IsNotAbove t Zero → has T t ≡ true
only_zero T Minus h k l = absurd k
only_zero T Zero h k l = h
only_zero T Plus h k l = absurd l

up_to_zero : (t : Sign) → IsNotAbove t Zero → has set.NotPos t ≡ true
up_to_zero Minus k = refl
up_to_zero Zero k = refl
up_to_zero Plus k = absurd k

from_zero : (t : Sign) → IsNotAbove Zero t → has set.NotNeg t ≡ true
from_zero Minus k = absurd k
from_zero Zero k = refl
from_zero Plus k = refl

bound : (T : Signs) (s : Sign) → has T s ≡ true → Bound T s
bound set.Neg Minus h = record { kind = before_root; own = inr refl; below = tt; closed = λ t k l. only_minus set.Neg t refl l }
bound set.Zero Zero h = record { kind = at_root; own = inr refl; below = tt; closed = λ t k l. only_zero set.Zero t refl k l }
bound set.Pos Plus h = record { kind = open_end; own = inl refl; below = tt; closed = λ t k l. only_plus set.Pos t refl k }
bound set.NotPos Minus h = record { kind = at_root; own = inr refl; below = tt; closed = λ t k l. up_to_zero t l }
bound set.NotPos Zero h = record { kind = at_root; own = inr refl; below = tt; closed = λ t k l. up_to_zero t l }
bound set.NonZero Minus h = record { kind = before_root; own = inr refl; below = tt; closed = λ t k l. only_minus set.NonZero t refl l }
bound set.NonZero Plus h = record { kind = open_end; own = inl refl; below = tt; closed = λ t k l. only_plus set.NonZero t refl k }
bound set.NotNeg Zero h = record { kind = open_end; own = inl refl; below = tt; closed = λ t k l. from_zero t k }
bound set.NotNeg Plus h = record { kind = open_end; own = inl refl; below = tt; closed = λ t k l. only_plus set.NotNeg t refl k }
bound set.Neg Zero h = absurd cc
bound set.Neg Plus h = absurd cc
bound set.Zero Minus h = absurd cc
bound set.Zero Plus h = absurd cc
bound set.Pos Minus h = absurd cc
bound set.Pos Zero h = absurd cc
bound set.NotPos Plus h = absurd cc
bound set.NonZero Zero h = absurd cc
bound set.NotNeg Minus h = absurd cc

module _ (l : Line) (sloped : slope_sign l ≡ Zero → ⊥) where
  times_zero : (s : Sign) → times s Zero ≡ Zero
  times_zero Minus = refl
  times_zero Zero = refl
  times_zero Plus = refl

  twice : (s t : Sign) → (s ≡ Zero → ⊥) → times s (leading s t) ≡ Plus
  twice Zero t h = absurd (h refl)
  twice Plus t h = refl
  twice Minus t h = refl

  turned : (s r : Sign) → (s ≡ Zero → ⊥) → r ≡ Zero → times s (leading r (opposite_sign s)) ≡ Minus
  turned Zero r h e = absurd (h refl)
  turned Plus r h e = ap (λ (t : Sign). leading t Minus) e
  turned Minus r h e = ap (λ (t : Sign). opposite_sign (leading t Plus)) e

  -- the place of an end
  pub place_by : (k : Kind) → place l (cut_by k (root_of l)) ≡ upper k
  place_by open_end = twice (slope_sign l) (base_sign l) sloped
  place_by at_root = ap (times (slope_sign l)) (zero_at_root l sloped) ∙ times_zero (slope_sign l)
  place_by before_root = turned (slope_sign l) (sign_on l (root_of l)) sloped (zero_at_root l sloped)

  -- behind the root a line has the sign of its slope
  behind_root : (a s r : Sign) → (a ≡ Zero → ⊥) → s ≡ Zero → CanSum s (times a Plus) r → times a r ≡ Plus
  behind_root Zero s r h k e = absurd (h refl)
  behind_root Plus s r h k e = subst (λ (t : Sign). CanSum t Plus r) k e
  behind_root Minus s r h k e = ap opposite_sign (subst (λ (t : Sign). CanSum t Minus r) k e)

  not_plus : (s : Sign) → IsNotAbove s Zero → s ≡ Plus → ⊥
  not_plus Minus h e = cc
  not_plus Zero h e = cc
  not_plus Plus h e = h

  not_down : (s : Sign) → s ≡ Minus → IsNotAbove Zero s → ⊥
  not_down Minus e h = h
  not_down Zero e h = cc
  not_down Plus e h = cc

  is_minus : (s : Sign) → IsNotAbove s Minus → s ≡ Minus
  is_minus Minus h = refl
  is_minus Zero h = absurd h
  is_minus Plus h = absurd h

  -- a value whose place isn't above that of an end isn't above the end
  pub not_above_end : (v : Fraction) (k : Kind) → IsNotAbove (place l (on v)) (upper k) → IsAtMost (on v) (cut_by k (root_of l))
  not_above_end v open_end h = tt
  not_above_end v at_root h =
      let r = root_of l in
      elim (up_or_back (way v r) (way r v) (way_back v r)) [
        | inl up ↦ up
        | inr down ↦
            let behind = behind_root (slope_sign l) (sign_on l r) (sign_on l v) sloped (zero_at_root l sloped)
            (subst (λ (o : Sign). CanSum (sign_on l r) (times (slope_sign l) o) (sign_on l v)) down (sign_along l r v)) in
            absurd (not_plus (place l (on v)) h behind)
      ]
  not_above_end v before_root h =
      let r = root_of l in
      elim (plus_or_back (way v r) (way r v) (way_back v r)) [
        | inl up ↦ up
        | inr down ↦
            let higher : IsNotAbove (place l (on r)) (place l (on v)) = places_rise l (on r) (on v) sloped down in
            let from_zero_up : IsNotAbove Zero (place l (on v)) = subst (λ (s : Sign). IsNotAbove s (place l (on v))) (place_by at_root) higher in
            absurd (not_down (place l (on v)) (is_minus (place l (on v)) h) from_zero_up)
      ]

-- the end of a condition that is true at a value
pub record Stays (l : Line) (S : Signs) (v : Fraction) : Type 0 where
  pub kind : Kind
  pub own : (kind ≡ open_end) ⊎ ((slope_sign l ≡ Zero → ⊥) × (kind ≡ kind_of (along_slope (slope_sign l) S)))
  pub above : IsAtMost (on v) (cut_by kind (root_of l))
  pub stays : (c : Cut) → IsAtMost (on v) c → IsAtMost c (cut_by kind (root_of l)) → has S (sign_at_cut l c) ≡ true

stays_sloped : (l : Line) (S : Signs) (v : Fraction) → (slope_sign l ≡ Zero → ⊥) → has S (sign_on l v) ≡ true → Stays l S v
stays_sloped l S v sloped h =
    let T = along_slope (slope_sign l) S in
    let b = bound T (place l (on v)) (sym (along_has (slope_sign l) S (sign_on l v) sloped) ∙ h) in
    record {
      kind = b.kind;
      own = elim b.own [
        | inl e ↦ inl e
        | inr e ↦ inr (sloped, e)
      ];
      above = not_above_end l sloped v b.kind b.below;
      stays = λ c k m. along_has (slope_sign l) S (sign_at_cut l c) sloped
          ∙ b.closed (place l c) (places_rise l (on v) c sloped k)
          (subst (λ (s : Sign). IsNotAbove (place l c) s) (place_by l sloped b.kind) (places_rise l c (cut_by b.kind (root_of l)) sloped m));
    }

stays_flat : (l : Line) (S : Signs) (v : Fraction) → slope_sign l ≡ Zero → has S (sign_on l v) ≡ true → Stays l S v
stays_flat l S v e h = record {
  kind = open_end;
  own = inl refl;
  above = tt;
  stays = λ c k m. ap (has S) (flat_at_cut l c e ∙ sym (flat_at_cut l (on v) e)) ∙ h;
}

sloped_minus : (s : Sign) → s ≡ Minus → s ≡ Zero → ⊥
sloped_minus s e f = cc

sloped_plus : (s : Sign) → s ≡ Plus → s ≡ Zero → ⊥
sloped_plus s e f = cc

pub stays_true : (l : Line) (S : Signs) (v : Fraction) → has S (sign_on l v) ≡ true → Stays l S v
stays_true l S v h =
    elim (slope_sign l) as (λ s. slope_sign l ≡ s → Stays l S v) [
      | Minus ↦ λ e. stays_sloped l S v (sloped_minus (slope_sign l) e) h
      | Zero ↦ λ e. stays_flat l S v e h
      | Plus ↦ λ e. stays_sloped l S v (sloped_plus (slope_sign l) e) h
    ] refl
