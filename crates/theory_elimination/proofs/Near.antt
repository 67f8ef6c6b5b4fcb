-- A value near a cut at which lines have the signs that they have at the cut.
use Rattle.std.proofs.Common.{◌≡◌, ◌+◌, pos, negsuc, neg_ℤ, ◌+ℤ◌, List, [], ◌∷◌, refl, sym, ap, ◌∙◌, subst, arith, inl, inr}
use Rattle.std.specs.Prelude.{unsigned_abs}
use Rattle.std.proofs.lemmas.Int.{ints}
use Rattle.theory_meaning.specs.declared.words.Sign.{Sign}
use Rattle.theory_meaning.specs.declared.words.Sign.TheVariants.{Minus, Zero, Plus}
use Rattle.theory_meaning.specs.Fraction.{Fraction, whole, cross, IsBelow, opposite_sign}
use Rattle.theory_meaning.proofs.OrderLaws.{mediant, below_mediant, mediant_below, whole_below, whole_above}
use Rattle.theory_elimination.proofs.SignSums.{times, CanSum, positive, is_positive, times_plus}
use Rattle.theory_elimination.proofs.Lines.{Line, sign_on, slope_sign, base_sign, way, way_back, sign_along, root_of, zero_at_root, flat}
use Rattle.theory_elimination.proofs.Cuts.{Cut, top, on, just_before, leading, sign_at_cut, flat_at_cut, ways_add, up_or_back, up_plus, plus_is_up}

way_of_below : (v w : Fraction) → IsBelow v w → way v w ≡ Plus
way_of_below v w h = positive (cross w v +ℤ neg_ℤ (cross v w)) (omega (arith, ints, h))

below_of_way : (v w : Fraction) → way v w ≡ Plus → IsBelow v w
below_of_way v w h = let p = is_positive (cross w v +ℤ neg_ℤ (cross v w)) h in omega (arith, ints, p)

-- a cut that isn't at a value, and the values from which it is approached
abbrev pub Approaches : Cut → Fraction → Type 0
Approaches top w = Unit {0}
Approaches (on v) w = ⊥
Approaches (just_before v) w = way w v ≡ Plus

abbrev pub IsOpen : Cut → Type 0
IsOpen top = Unit {0}
IsOpen (on v) = ⊥
IsOpen (just_before v) = Unit {0}

-- from above this value on, the line has the sign that it has at the cut
pub record Near (l : Line) (c : Cut) : Type 0 where
  pub low : Fraction
  pub approaches : Approaches c low
  pub signs : (w : Fraction) → way low w ≡ Plus → Approaches c w → sign_on l w ≡ sign_at_cut l c

behind_zero : (a s r : Sign) → s ≡ Zero → CanSum s (times a Plus) r → r ≡ a
behind_zero a s r h e = subst (λ (t : Sign). CanSum t (times a Plus) r) h e ∙ times_plus a

no_way : (a : Sign) → times a Zero ≡ Zero
no_way Minus = refl
no_way Zero = refl
no_way Plus = refl

level_zero : (a s r : Sign) → s ≡ Zero → CanSum s (times a Zero) r → r ≡ Zero
level_zero a s r h e = subst (λ (t : Sign). CanSum t (times a Zero) r) h e ∙ no_way a

before_zero : (a s r : Sign) → (a ≡ Zero → ⊥) → r ≡ Zero → CanSum s (times a Plus) r → s ≡ opposite_sign a
before_zero Zero s r h k e = absurd (h refl)
before_zero Plus Minus r h k e = refl
before_zero Plus Zero r h k e = absurd cc
before_zero Plus Plus r h k e = absurd cc
before_zero Minus Minus r h k e = absurd cc
before_zero Minus Zero r h k e = absurd cc
before_zero Minus Plus r h k e = refl

minus_zero : ◌≡◌ {A = Sign} Minus Zero → ⊥
minus_zero e = cc

plus_zero : ◌≡◌ {A = Sign} Plus Zero → ⊥
plus_zero e = cc

leads : (a s t : Sign) → (a ≡ Zero → ⊥) → s ≡ a → leading s t ≡ a
leads a Zero t h e = absurd (h (sym e))
leads a Plus t h e = e
leads a Minus t h e = e

leads_turned : (a s t : Sign) → (a ≡ Zero → ⊥) → s ≡ opposite_sign a → leading s t ≡ opposite_sign a
leads_turned Zero s t h e = absurd (h refl)
leads_turned Plus s t h e = leads Minus s t minus_zero e
leads_turned Minus s t h e = leads Plus s t plus_zero e

module _ (l : Line) (sloped : slope_sign l ≡ Zero → ⊥) where
  -- the sign behind the root, and before it
  sign_behind : (w : Fraction) → way (root_of l) w ≡ Plus → sign_on l w ≡ slope_sign l
  sign_behind w h =
      behind_zero (slope_sign l) (sign_on l (root_of l)) (sign_on l w) (zero_at_root l sloped)
      (subst (λ (o : Sign). CanSum (sign_on l (root_of l)) (times (slope_sign l) o) (sign_on l w)) h (sign_along l (root_of l) w))

  sign_before : (v w : Fraction) → sign_on l v ≡ Zero → way w v ≡ Plus → sign_on l w ≡ opposite_sign (slope_sign l)
  sign_before v w e h =
      before_zero (slope_sign l) (sign_on l w) (sign_on l v) sloped e
      (subst (λ (o : Sign). CanSum (sign_on l w) (times (slope_sign l) o) (sign_on l v)) h (sign_along l w v))

  near_top : Near l top
  near_top = record {
    low = root_of l;
    approaches = tt;
    signs = λ w h k. sign_behind w h ∙ sym (leads (slope_sign l) (slope_sign l) (base_sign l) sloped refl);
  }

  near_behind : (v : Fraction) → way (root_of l) v ≡ Plus → Near l (just_before v)
  near_behind v h = record {
    low = root_of l;
    approaches = h;
    signs = λ w k m. sign_behind w k ∙ sym (leads (slope_sign l) (sign_on l v) (opposite_sign (slope_sign l)) sloped (sign_behind v h));
  }

  near_root : (v : Fraction) → sign_on l v ≡ Zero → Near l (just_before v)
  near_root v e = record {
    low = whole (negsuc (unsigned_abs v.num));
    approaches = way_of_below (whole (negsuc (unsigned_abs v.num))) v (whole_below v);
    signs = λ w k m. sign_before v w e m ∙ sym (ap (λ (s : Sign). leading s (opposite_sign (slope_sign l))) e);
  }

  near_before : (v : Fraction) → way v (root_of l) ≡ Plus → Near l (just_before v)
  near_before v h =
      let r = root_of l in
      record {
        low = whole (negsuc (unsigned_abs v.num));
        approaches = way_of_below (whole (negsuc (unsigned_abs v.num))) v (whole_below v);
        signs = λ w k m.
            sign_before r w (zero_at_root l sloped) (up_plus (way w v) (way v r) (way w r) (ways_add w v r) (plus_is_up (way w v) m) h)
            ∙ sym (leads_turned (slope_sign l) (sign_on l v) (opposite_sign (slope_sign l)) sloped (sign_before r v (zero_at_root l sloped) h));
      }

  near_value : (v : Fraction) → Near l (just_before v)
  near_value v =
      let r = root_of l in
      elim (way r v) as (λ o. way r v ≡ o → Near l (just_before v)) [
        | Plus ↦ λ e. near_behind v e
        | Zero ↦ λ e. near_root v (level_zero (slope_sign l) (sign_on l r) (sign_on l v) (zero_at_root l sloped)
            (subst (λ (o : Sign). CanSum (sign_on l r) (times (slope_sign l) o) (sign_on l v)) e (sign_along l r v)))
        | Minus ↦ λ e. near_before v (way_back r v ∙ ap opposite_sign e)
      ] refl

near_flat : (l : Line) (c : Cut) (low : Fraction) → slope_sign l ≡ Zero → Approaches c low → Near l c
near_flat l c low e h = record { low = low; approaches = h; signs = λ w k m. flat l w e ∙ sym (flat_at_cut l c e) }

some_low : (c : Cut) → IsOpen c → (low : Fraction) × Approaches c low
some_low top h = (whole (pos 0), tt)
some_low (on v) h = absurd h
some_low (just_before v) h = (whole (negsuc (unsigned_abs v.num)), way_of_below (whole (negsuc (unsigned_abs v.num))) v (whole_below v))

near_sloped : (l : Line) (c : Cut) → (slope_sign l ≡ Zero → ⊥) → IsOpen c → Near l c
near_sloped l top h k = near_top l h
near_sloped l (on v) h k = absurd k
near_sloped l (just_before v) h k = near_value l h v

near : (l : Line) (c : Cut) → IsOpen c → Near l c
near l c h =
    elim (slope_sign l) as (λ s. slope_sign l ≡ s → Near l c) [
      | Minus ↦ λ e. near_sloped l c (λ z. minus_zero (sym e ∙ z)) h
      | Zero ↦ λ e. let low = some_low c h in near_flat l c low.0 e low.1
      | Plus ↦ λ e. near_sloped l c (λ z. plus_zero (sym e ∙ z)) h
    ] refl

module _ {A : Type 0} (line : A → Line) where
  abbrev pub HaveSigns : Cut → Fraction → List A → Type 0
  HaveSigns c w [] = Unit {0}
  HaveSigns c w (a ∷ rows) = (sign_on (line a) w ≡ sign_at_cut (line a) c) × HaveSigns c w rows

  record AllNear (c : Cut) (rows : List A) : Type 0 where
    low : Fraction
    approaches : Approaches c low
    signs : (w : Fraction) → way low w ≡ Plus → Approaches c w → HaveSigns c w rows

  -- the greater of two values
  greater : (c : Cut) (a : A) (rows : List A) → Near (line a) c → AllNear c rows → AllNear c (a ∷ rows)
  greater c a rows n m =
      elim (up_or_back (way n.low m.low) (way m.low n.low) (way_back n.low m.low)) [
        | inl up ↦ record {
          low = m.low;
          approaches = m.approaches;
          signs = λ w h k. (n.signs w (up_plus (way n.low m.low) (way m.low w) (way n.low w) (ways_add n.low m.low w) up h) k, m.signs w h k);
        }
        | inr down ↦ record {
          low = n.low;
          approaches = n.approaches;
          signs = λ w h k. (
            n.signs w h k,
            m.signs w (up_plus (way m.low n.low) (way n.low w) (way m.low w) (ways_add m.low n.low w)
                (plus_is_up (way m.low n.low) down) h) k,
          );
        }
      ]

  all_near : (c : Cut) (rows : List A) → IsOpen c → AllNear c rows
  all_near c [] h = let low = some_low c h in record { low = low.0; approaches = low.1; signs = λ w k m. tt }
  all_near c (a ∷ rows) h = greater c a rows (near (line a) c h) (all_near c rows h)

  beyond : (c : Cut) (low : Fraction) → Approaches c low → (w : Fraction) × (way low w ≡ Plus) × Approaches c w
  beyond top low h = (whole (pos (unsigned_abs low.num + 1)), way_of_below low (whole (pos (unsigned_abs low.num + 1))) (whole_above low), tt)
  beyond (on v) low h = absurd h
  beyond (just_before v) low h = (
    mediant low v,
    way_of_below low (mediant low v) (below_mediant low v (below_of_way low v h)),
    way_of_below (mediant low v) v (mediant_below low v (below_of_way low v h)),
  )

  -- at some value each line has the sign that it has at the cut
  pub some_value : (c : Cut) (rows : List A) → IsOpen c → (w : Fraction) × HaveSigns c w rows
  some_value c rows h =
      let n = all_near c rows h in
      let w = beyond c n.low n.approaches in
      (w.0, n.signs w.0 w.1 w.2)
