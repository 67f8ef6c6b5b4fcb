-- The truth of a condition on a rational function that stands for a number: whether the set has the sign of the number.
use Rattle.std.proofs.Common.{◌≡◌, zero, suc, ℤ, pos, negsuc, ◌*ℤ◌, Bool, true, false, not, refl, sym, ap, ap₂, ◌∙◌, subst, arith, inl, inr, ℕ}
use Rattle.std.specs.Prelude.{◌&&◌, ◌||◌}
use Rattle.std.proofs.lemmas.Int.{ints}
use Rattle.theory_meaning.specs.declared.words.Sign.{Sign}
use Rattle.theory_meaning.specs.declared.words.Sign.TheVariants.{Minus, Zero, Plus}
use Rattle.theory_meaning.specs.Fraction.{Fraction, whole, same, product_of, opposite_sign, HasSign}
use Rattle.theory_polynomial.specs.PolynomialValue.{Values, polynomial_at}
use Rattle.theory_polynomial.specs.RationalPolynomial.{Quotient, quotient_at}
use Rattle.theory_formula.specs.declared.signs.Signs.{Signs}
use Rattle.theory_formula.specs.declared.signs.Signs.TheVariants as set
use Rattle.theory_formula.specs.Signs.{has, mirror, sign_of, sign_of_whole}
use Rattle.theory_formula.specs.Formula.{Formula, truth_at, sign_at}
use Rattle.theory_formula.specs.SignCondition.{IsAtomOf}
use Rattle.theory_formula.proofs.ConditionLaws.{sign_of_only, mirror_has_opposite, condition_truth, same_sign}
use Rattle.theory_lowering.specs.RationalFunction.{RationalFunction, one}
use Rattle.theory_lowering.specs.Lowered.{IsByTop, IsByBoth, IsConditionOn}
use Rattle.theory_lowering.proofs.RationalValues.{StandsFor, one_value}
use Rattle.theory_lowering.proofs.SingleFractions.{IsReduced}

-- the signs of a bottom, of a top and of what the top is over the bottom
abbrev AreSignsOf : Sign → Sign → Sign → Type 0
AreSignsOf Plus top s = top ≡ s
AreSignsOf Minus top s = top ≡ opposite_sign s
AreSignsOf Zero top s = ⊥

sign_is : (c : ℤ) (s : Sign) → HasSign (whole c) s → sign_of_whole c ≡ s
sign_is c s h = sign_of_only (whole c) s h

whole_signs : (m n : ℤ) → ¬ (n ≡ pos 0) → AreSignsOf (sign_of_whole n) (sign_of_whole (m *ℤ n)) (sign_of_whole m)
whole_signs m (pos zero) h = absurd (h refl)
whole_signs (pos zero) (pos (suc b)) h = sign_is (pos zero *ℤ pos (suc b)) Zero (omega (arith, ints))
whole_signs (pos (suc a)) (pos (suc b)) h = sign_is (pos (suc a) *ℤ pos (suc b)) Plus (omega (arith, ints))
whole_signs (negsuc a) (pos (suc b)) h = sign_is (negsuc a *ℤ pos (suc b)) Minus (omega (arith, ints))
whole_signs (pos zero) (negsuc b) h = sign_is (pos zero *ℤ negsuc b) Zero (omega (arith, ints))
whole_signs (pos (suc a)) (negsuc b) h = sign_is (pos (suc a) *ℤ negsuc b) Minus (omega (arith, ints))
whole_signs (negsuc a) (negsuc b) h = sign_is (negsuc a *ℤ negsuc b) Plus (omega (arith, ints))

-- the number below a polynomial doesn't change the sign
top_sign : (q : Quotient) (p : Values) → sign_at q.top p ≡ sign_of (quotient_at q p)
top_sign q p = ap sign_of_whole (omega (arith, ints))

stands_signs : (q : RationalFunction) (p : Values) (x : Fraction) → StandsFor q p x
    → AreSignsOf (sign_at q.bottom p) (sign_at q.top.top p) (sign_of x)
stands_signs q p x h =
    let top : sign_of (product_of x (polynomial_at q.bottom p)) ≡ sign_at q.top.top p =
    same_sign (product_of x (polynomial_at q.bottom p)) (quotient_at q.top p) h.value ∙ sym (top_sign q.top p) in
    subst (λ s. AreSignsOf (sign_at q.bottom p) s (sign_of x)) top (whole_signs x.num (polynomial_at q.bottom p).num h.nonzero)

-- the two halves of a condition
first_half : (a b : Bool) → (true && (a && true)) || ((false && (b && true)) || false) ≡ a
first_half true b = refl
first_half false b = refl

second_half : (a b : Bool) → (false && (a && true)) || ((true && (b && true)) || false) ≡ b
second_half a true = refl
second_half a false = refl

halves : (S : Signs) (bottom top s : Sign) → AreSignsOf bottom top s
    → (has set.Pos bottom && (has S top && true)) || ((has set.Neg bottom && (has (mirror S) top && true)) || false) ≡ has S s
halves S Plus top s h = first_half (has S top) (has (mirror S) top) ∙ ap (has S) h
halves S Minus top s h = second_half (has S top) (has (mirror S) top) ∙ ap (has (mirror S)) h ∙ mirror_has_opposite S s
halves S Zero top s h = absurd h

-- sets that don't tell minus from plus
zero_turned : (s : Sign) → has set.Zero (opposite_sign s) ≡ has set.Zero s
zero_turned s = mirror_has_opposite set.Zero s

nonzero_turned : (s : Sign) → has set.NonZero (opposite_sign s) ≡ has set.NonZero s
nonzero_turned s = mirror_has_opposite set.NonZero s

zero_has : (bottom top s : Sign) → AreSignsOf bottom top s → has set.Zero top ≡ has set.Zero s
zero_has Plus top s h = ap (has set.Zero) h
zero_has Minus top s h = ap (has set.Zero) h ∙ zero_turned s
zero_has Zero top s h = absurd h

nonzero_has : (bottom top s : Sign) → AreSignsOf bottom top s → has set.NonZero top ≡ has set.NonZero s
nonzero_has Plus top s h = ap (has set.NonZero) h
nonzero_has Minus top s h = ap (has set.NonZero) h ∙ nonzero_turned s
nonzero_has Zero top s h = absurd h

module _ (q : RationalFunction) (p : Values) (x : Fraction) (low : IsReduced q) (h : StandsFor q p x) where
  signs : AreSignsOf (sign_at q.bottom p) (sign_at q.top.top p) (sign_of x)
  signs = stands_signs q p x h

  over_one_signs : q.bottom ≡ one → sign_at q.top.top p ≡ sign_of x
  over_one_signs is =
      let plus : sign_at q.bottom p ≡ Plus = ap (λ P. sign_at P p) is ∙ same_sign (polynomial_at one p) (whole (pos 1)) (one_value p) in
      subst (λ s. AreSignsOf s (sign_at q.top.top p) (sign_of x)) plus signs

  by_top_signs : (S : Signs) → IsByTop q S → has S (sign_at q.top.top p) ≡ has S (sign_of x)
  by_top_signs S (inl is) = ap (has S) (over_one_signs is)
  by_top_signs S (inr (inl is)) =
      subst (λ T. has T (sign_at q.top.top p) ≡ has T (sign_of x)) (sym is) (zero_has (sign_at q.bottom p) (sign_at q.top.top p) (sign_of x) signs)
  by_top_signs S (inr (inr is)) =
      subst (λ T. has T (sign_at q.top.top p) ≡ has T (sign_of x)) (sym is) (nonzero_has (sign_at q.bottom p) (sign_at q.top.top p) (sign_of x) signs)

  by_both_truth : (S : Signs) (F : Formula) → IsByBoth q S F → truth_at F p ≡ has S (sign_of x)
  by_both_truth S F is =
      let top = λ (T : Signs) (G : Formula) (k : IsAtomOf q.top.top T G). condition_truth q.top.top T G p low.low.ordered k in
      let bottom = λ (T : Signs) (G : Formula) (k : IsAtomOf q.bottom T G). condition_truth q.bottom T G p low.ordered k in
      ap (λ G. truth_at G p) is.written
      ∙ ap₂ ◌||◌
      (ap₂ (λ (m n : Bool). m && (n && true)) (bottom set.Pos is.positive is.positive_is) (top S is.kept is.kept_is))
      (ap₂ (λ (m n : Bool). (m && (n && true)) || false) (bottom set.Neg is.negative is.negative_is) (top (mirror S) is.mirrored is.mirrored_is))
      ∙ halves S (sign_at q.bottom p) (sign_at q.top.top p) (sign_of x) signs

  pub condition_on_truth : (S : Signs) (F : Formula) → IsConditionOn q S F → truth_at F p ≡ has S (sign_of x)
  condition_on_truth S F (inl is) = condition_truth q.top.top S F p low.low.ordered is.1 ∙ by_top_signs S is.0
  condition_on_truth S F (inr is) = by_both_truth S F is

-- the condition that a divisor isn't 0
has_nonzero : (n : ℤ) (k : ℕ) → has set.NonZero (sign_of_whole n) ≡ not (same (record { num = n; less = k }) (whole (pos 0)))
has_nonzero (pos zero) k = grind (arith, ints)
has_nonzero (pos (suc n)) k = grind (arith, ints)
has_nonzero (negsuc n) k = grind (arith, ints)

pub nonzero_truth : (q : RationalFunction) (p : Values) (x : Fraction) (F : Formula) → IsReduced q → StandsFor q p x
    → IsAtomOf q.top.top set.NonZero F → truth_at F p ≡ not (same x (whole (pos 0)))
nonzero_truth q p x F low h is =
    condition_on_truth q p x low h set.NonZero F (inl (inr (inr refl), is)) ∙ has_nonzero x.num x.less
