-- The branches of an equation: a true one gives a value of the symbol, and each point of the formula is one of some branch.
use Rattle.std.proofs.Common.{◌≡◌, ℕ, Bool, true, false, List, refl, sym, ap, ◌∙◌, subst, inl, inr}
use Rattle.std.specs.Prelude.{◌&&◌, IsTrue}
use Rattle.theory_meaning.specs.declared.words.Sign.{Sign}
use Rattle.theory_meaning.specs.declared.words.Sign.TheVariants.{Minus, Zero, Plus}
use Rattle.theory_meaning.specs.Fraction.{Fraction, opposite_sign}
use Rattle.theory_formula.specs.declared.signs.Signs.TheVariants as set
use Rattle.theory_formula.specs.Signs.{has}
use Rattle.theory_polynomial.specs.Polynomial.{Monomial, IsPolynomial}
use Rattle.theory_polynomial.specs.PolynomialValue.{Values, symbol_at, slope_in, base_in}
use Rattle.theory_formula.specs.Formula.{Formula, conjunction, none, more, Reading, sign_at, truth_at, truth_by, reading_at, IsTrueAt}
use Rattle.theory_formula.specs.SignCondition.{IsAtomOf}
use Rattle.theory_formula.proofs.ConditionLaws.{condition_truth}
use Rattle.theory_elimination.specs.TestPoint.{root, holds_symbol, is_constant, constant_sign}
use Rattle.theory_elimination.specs.Branches.{root_plans, IsGuarded}
use Rattle.theory_elimination.specs.Elimination.{IsLinearAtom, IsLinear}
use Rattle.theory_elimination.proofs.SignSums.{times, CanSum, times_plus}
use Rattle.theory_elimination.proofs.Lines.{Line, sign_on, slope_sign, base_sign, way, way_back, sign_along, root_of, zero_at_root}
use Rattle.theory_elimination.proofs.Cuts.{on, flat_at_cut}
use Rattle.theory_elimination.proofs.PartLaws.{part_is_polynomial, some_slope, constant_sign_is, constant_is_sloped}
use Rattle.theory_elimination.proofs.LineSigns.{line_of, slope_sign_is, base_sign_is}
use Rattle.theory_elimination.proofs.SubstitutedTruth.{reading_cut, formula_truth}
use Rattle.theory_elimination.proofs.AtomLists.{same_reading, at_own_value}
use Rattle.theory_elimination.proofs.PlanLists.{EachPlan, SomePlan}
use Rattle.theory_elimination.proofs.GuardedPoints.{HasValue, first_of_two, cut_value, guard_sign, guarded_sound, guarded_complete, IsSound, IsTrueHere}

minus_sloped : ◌≡◌ {A = Sign} Minus Zero → ⊥
minus_sloped e = cc

plus_sloped : ◌≡◌ {A = Sign} Plus Zero → ⊥
plus_sloped e = cc

module _ (x : ℕ) (p : Values) where
  -- two values that a line with a slope is zero at are one for every line
  level_signs : (s r : Sign) → CanSum s Zero r → r ≡ s
  level_signs Minus r h = h
  level_signs Zero r h = h
  level_signs Plus r h = h

  times_zero : (a : Sign) → times a Zero ≡ Zero
  times_zero Minus = refl
  times_zero Zero = refl
  times_zero Plus = refl

  no_way_between : (l : Line) (v w : Fraction) → (slope_sign l ≡ Zero → ⊥) → sign_on l v ≡ Zero → sign_on l w ≡ Zero → way v w ≡ Plus → ⊥
  no_way_between l v w n e f k =
      let moved = subst (λ (o : Sign). CanSum (sign_on l v) (times (slope_sign l) o) (sign_on l w)) k (sign_along l v w) in
      let from_zero = subst (λ (s : Sign). CanSum s (times (slope_sign l) Plus) (sign_on l w)) e moved in
      n (sym (times_plus (slope_sign l)) ∙ sym from_zero ∙ f)

  level_way : (l : Line) (v w : Fraction) → (slope_sign l ≡ Zero → ⊥) → sign_on l v ≡ Zero → sign_on l w ≡ Zero → way v w ≡ Zero
  level_way l v w n e f =
      elim (way v w) as (λ o. way v w ≡ o → o ≡ Zero) [
        | Plus ↦ λ k. absurd (no_way_between l v w n e f k)
        | Zero ↦ λ k. refl
        | Minus ↦ λ k. absurd (no_way_between l w v n f e (way_back v w ∙ ap opposite_sign k))
      ] refl

  same_on : (m : Line) (v w : Fraction) → way v w ≡ Zero → sign_on m w ≡ sign_on m v
  same_on m v w k =
      let moved = subst (λ (o : Sign). CanSum (sign_on m v) (times (slope_sign m) o) (sign_on m w)) k (sign_along m v w) in
      level_signs (sign_on m v) (sign_on m w) (subst (λ (t : Sign). CanSum (sign_on m v) t (sign_on m w)) (times_zero (slope_sign m)) moved)

  same_at_values : (v w : Fraction) (F : Formula) → way v w ≡ Zero → IsLinear x F → IsTrue (truth_by (reading_cut x p (on v)) F) →
      IsTrue (truth_by (reading_cut x p (on w)) F)
  same_at_values v w F k l t =
      same_reading x (reading_cut x p (on v)) (reading_cut x p (on w)) F (λ P S h. ap (has S) (sym (same_on (line_of x p P) v w k))) l t

  zero_sign : (s : Sign) → has set.Zero s ≡ true → s ≡ Zero
  zero_sign Minus e = absurd cc
  zero_sign Zero e = refl
  zero_sign Plus e = absurd cc

  left_true : (a b : Bool) → a && b ≡ true → a ≡ true
  left_true true b e = refl
  left_true false b e = absurd cc

  right_true : (a b : Bool) → a && b ≡ true → b ≡ true
  right_true true b e = e
  right_true false b e = absurd cc

  both_true : (a b : Bool) → a ≡ true → b ≡ true → a && b ≡ true
  both_true true true e f = refl
  both_true true false e f = absurd cc
  both_true false b e f = absurd cc

  three_true : (a b c : Bool) → a ≡ true → b ≡ true → c ≡ true → a && (b && (c && true)) ≡ true
  three_true true true true e f g = refl
  three_true true true false e f g = absurd cc
  three_true true false c e f g = absurd cc
  three_true false b c e f g = absurd cc

  of_three : (a b c : Bool) → a && (b && (c && true)) ≡ true → (a ≡ true) × (b ≡ true) × (c ≡ true)
  of_three true true true e = (refl, refl, refl)
  of_three true true false e = absurd cc
  of_three true false c e = absurd cc
  of_three false b c e = absurd cc

  -- at the root of the equation's line the equation is true
  at_root_value : (P : List Monomial) (G : Formula) (F : Formula) → ((r : Reading) → truth_by r F ≡ r P set.Zero && truth_by r G)
      → (slope_sign (line_of x p P) ≡ Zero → ⊥) → IsLinear x F → IsTrue (truth_by (reading_cut x p (on (root_of (line_of x p P)))) G) → HasValue x p F
  at_root_value P G F w n l t =
      let r = root_of (line_of x p P) in
      cut_value x p (on r) F l
      (w (reading_cut x p (on r)) ∙ both_true (reading_cut x p (on r) P set.Zero) (truth_by (reading_cut x p (on r)) G)
      (ap (has set.Zero) (zero_at_root (line_of x p P) n)) t)

  -- a formula that is true has the equation's root as its value, where the slope isn't zero
  others_at_root : (P : List Monomial) (G F : Formula) → ((r : Reading) → truth_by r F ≡ r P set.Zero && truth_by r G)
      → (slope_sign (line_of x p P) ≡ Zero → ⊥) → IsLinear x F → IsLinear x G → IsTrueAt F p →
      IsTrue (truth_by (reading_cut x p (on (root_of (line_of x p P)))) G)
  others_at_root P G F w n l m t =
      let v = symbol_at x p in
      let r = root_of (line_of x p P) in
      let here = sym (w (reading_cut x p (on v))) ∙ at_own_value x p F l t in
      let zero : sign_on (line_of x p P) v ≡ Zero = zero_sign (sign_on (line_of x p P) v)
      (left_true (reading_cut x p (on v) P set.Zero) (truth_by (reading_cut x p (on v)) G) here) in
      same_at_values v r G (level_way (line_of x p P) v r n zero (zero_at_root (line_of x p P) n)) m
      (right_true (reading_cut x p (on v) P set.Zero) (truth_by (reading_cut x p (on v)) G) here)

  -- the three branches of an equation, both ways
  not_level : (P : List Monomial) (s : Sign) → sign_at (slope_in x P) p ≡ s → (s ≡ Zero → ⊥) → slope_sign (line_of x p P) ≡ Zero → ⊥
  not_level P s e n z = n (sym e ∙ sym (slope_sign_is p (slope_in x P) (base_in x P)) ∙ z)

  guarded_root : (P : List Monomial) (s : Sign) (G F B : Formula) → ((r : Reading) → truth_by r F ≡ r P set.Zero && truth_by r G) → IsPolynomial (slope_in x P)
      → (s ≡ Zero → ⊥) → IsLinear x F → IsLinear x G → IsGuarded x (root (slope_in x P) (base_in x P) s) (slope_in x P) s G B → IsTrueAt B p → HasValue x p F
  guarded_root P s G F B w h n l m k t =
      let parts : IsTrue (truth_at k.guard p && (truth_at k.there p && true)) = ap (λ (H : Formula). truth_at H p) (sym k.written) ∙ t in
      let sign = guard_sign x p (slope_in x P) s k.guard h k.guard_is (first_of_two (truth_at k.guard p) (truth_at k.there p) parts) in
      at_root_value P G F w (not_level P s sign n) l
      (guarded_sound x p (root (slope_in x P) (base_in x P) s) (slope_in x P) s G B h (λ e. (e, n)) m k t)

  flat_value : (P : List Monomial) (G F flat zero : Formula) → ((r : Reading) → truth_by r F ≡ r P set.Zero && truth_by r G) → IsPolynomial (slope_in x P)
      → IsPolynomial (base_in x P) → IsLinear x F → IsLinear x G → IsAtomOf (slope_in x P) set.Zero flat → IsAtomOf (base_in x P) set.Zero zero
      → IsTrue (truth_at flat p && (truth_at zero p && (truth_at G p && true))) → HasValue x p F
  flat_value P G F flat zero w h k l m f z t =
      let v = symbol_at x p in
      let line = line_of x p P in
      let three = of_three (truth_at flat p) (truth_at zero p) (truth_at G p) t in
      let slope : slope_sign line ≡ Zero =
      slope_sign_is p (slope_in x P) (base_in x P) ∙ zero_sign (sign_at (slope_in x P) p)
      (sym (condition_truth (slope_in x P) set.Zero flat p h f) ∙ three.0) in
      let base : base_sign line ≡ Zero =
      base_sign_is p (slope_in x P) (base_in x P) ∙ zero_sign (sign_at (base_in x P) p) (sym (condition_truth (base_in x P) set.Zero zero p k z) ∙ three.1) in
      cut_value x p (on v) F l
      (w (reading_cut x p (on v)) ∙ both_true (reading_cut x p (on v) P set.Zero) (truth_by (reading_cut x p (on v)) G)
      (ap (has set.Zero) (flat_at_cut line (on v) slope ∙ base)) (at_own_value x p G m three.2))

  flat_branch : (P : List Monomial) (G F flat zero : Formula) → ((r : Reading) → truth_by r F ≡ r P set.Zero && truth_by r G) → IsPolynomial (slope_in x P)
      → IsPolynomial (base_in x P) → IsLinear x F → IsAtomOf (slope_in x P) set.Zero flat → IsAtomOf (base_in x P) set.Zero zero →
      slope_sign (line_of x p P) ≡ Zero
      → IsTrueAt F p → IsTrueAt (conjunction (more flat (more zero (more G none)))) p
  flat_branch P G F flat zero w h k l f z n t =
      let v = symbol_at x p in
      let line = line_of x p P in
      let here = sym (w (reading_at p)) ∙ t in
      let cut = sym (w (reading_cut x p (on v))) ∙ at_own_value x p F l t in
      let level : sign_on line v ≡ Zero = zero_sign (sign_on line v)
      (left_true (reading_cut x p (on v) P set.Zero) (truth_by (reading_cut x p (on v)) G) cut) in
      let base : sign_at (base_in x P) p ≡ Zero = sym (base_sign_is p (slope_in x P) (base_in x P)) ∙ sym (flat_at_cut line (on v) n) ∙ level in
      let slope : sign_at (slope_in x P) p ≡ Zero = sym (slope_sign_is p (slope_in x P) (base_in x P)) ∙ n in
      three_true (truth_at flat p) (truth_at zero p) (truth_at G p) (condition_truth (slope_in x P) set.Zero flat p h f ∙ ap (has set.Zero) slope)
      (condition_truth (base_in x P) set.Zero zero p k z ∙ ap (has set.Zero) base) (right_true (reading_at p P set.Zero) (truth_at G p) here)

  -- all branches of an equation
  pub equation_sound : (c : Bool) (P : List Monomial) (G F : Formula) → is_constant (slope_in x P) ≡ c
      → ((r : Reading) → truth_by r F ≡ r P set.Zero && truth_by r G) → IsLinearAtom x P set.Zero → holds_symbol x P ≡ true → IsLinear x F → IsLinear x G
      → EachPlan (IsSound x p F) (root_plans c (slope_in x P) (base_in x P) G)
  equation_sound true P G F k w h o l m =
      let ordered = part_is_polynomial x 1 P h.poly.canonical.ordered in
      let s = constant_sign (slope_in x P) in
      let sign = constant_sign_is (slope_in x P) p ordered k in
      let sloped = constant_is_sloped (slope_in x P) ordered k (some_slope x P o h.linear) in (
        λ B b t. at_root_value P G F w (not_level P s sign sloped) l
            (sym (formula_truth x p (root (slope_in x P) (base_in x P) s) (sign, sloped) G B m b) ∙ t),
        tt,
      )
  equation_sound false P G F k w h o l m =
      let slope = part_is_polynomial x 1 P h.poly.canonical.ordered in
      let base = part_is_polynomial x 0 P h.poly.canonical.ordered in (
        λ B b t. guarded_root P Plus G F B w slope plus_sloped l m b t,
        (
          λ B b t. guarded_root P Minus G F B w slope minus_sloped l m b t,
          (λ B b t. flat_value P G F b.flat b.zero w slope base l m b.flat_is b.zero_is (ap (λ (H : Formula). truth_at H p) (sym b.written) ∙ t), tt),
        ),
      )

  pub equation_complete : (c : Bool) (P : List Monomial) (G F : Formula) → is_constant (slope_in x P) ≡ c
      → ((r : Reading) → truth_by r F ≡ r P set.Zero && truth_by r G) → IsLinearAtom x P set.Zero → holds_symbol x P ≡ true → IsLinear x F → IsLinear x G
      → IsTrueAt F p → SomePlan (IsTrueHere x p) (root_plans c (slope_in x P) (base_in x P) G)
  equation_complete true P G F k w h o l m t =
      let ordered = part_is_polynomial x 1 P h.poly.canonical.ordered in
      let s = constant_sign (slope_in x P) in
      let sign = constant_sign_is (slope_in x P) p ordered k in
      let sloped = constant_is_sloped (slope_in x P) ordered k (some_slope x P o h.linear) in
      inl (λ B b. formula_truth x p (root (slope_in x P) (base_in x P) s) (sign, sloped) G B m b ∙ others_at_root P G F w (not_level P s sign sloped) l m t)
  equation_complete false P G F k w h o l m t =
      let a = slope_in x P in
      let slope = part_is_polynomial x 1 P h.poly.canonical.ordered in
      let base = part_is_polynomial x 0 P h.poly.canonical.ordered in
      elim (sign_at a p) as (λ s. sign_at a p ≡ s → SomePlan (IsTrueHere x p) (root_plans false a (base_in x P) G)) [
        | Plus ↦ λ e. inl (λ B b. guarded_complete x p (root a (base_in x P) Plus) a Plus G B slope e (e, plus_sloped) m b
            (others_at_root P G F w (not_level P Plus e plus_sloped) l m t))
        | Minus ↦ λ e. inr (inl (λ B b. guarded_complete x p (root a (base_in x P) Minus) a Minus G B slope e (e, minus_sloped) m b
            (others_at_root P G F w (not_level P Minus e minus_sloped) l m t)))
        | Zero ↦ λ e. inr (inr (inl (λ B b. ap (λ (H : Formula). truth_at H p) b.written
            ∙ flat_branch P G F b.flat b.zero w slope base l b.flat_is b.zero_is (slope_sign_is p a (base_in x P) ∙ e) t)))
      ] refl
