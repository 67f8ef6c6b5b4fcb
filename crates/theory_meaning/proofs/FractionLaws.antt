-- Products and sums of fractions in another order, whole factors, and signs.
use Rattle.std.proofs.Common.{◌≡◌, ℕ, zero, suc, ◌+◌, ℤ, pos, negsuc, ◌+ℤ◌, ◌*ℤ◌, refl, sym, ap, ap₂, ◌∙◌, subst, arith}
use Rattle.std.proofs.lemmas.Int.{ints}
use Rattle.std.specs.Prelude.{int_lt}
use Rattle.std.proofs.Math.IntN.{*ℤ_comm}
use Rattle.theory_meaning.specs.declared.words.Sign.{Sign}
use Rattle.theory_meaning.specs.declared.words.Sign.TheVariants.{Minus, Zero, Plus}
use Rattle.theory_meaning.specs.Fraction.{Fraction, whole, IsSame, HasSign, sum_of, difference_of, product_of, opposite_of, power_of}
use Rattle.theory_meaning.proofs.WholeLaws.{lt_from_test, test_from_lt, sum-times, flattened, int_lt_scales, int_gt_scales}
use Rattle.theory_meaning.proofs.OrderLaws.{same_trans, same_turned}
use Rattle.theory_meaning.proofs.ValueLaws.{sum_respects, product_respects, sum-zero_left, sum-swap, product-swap, product_assoc, sum-product, product-sum, difference-is}

-- the fraction with these parts
record_of : ℤ → ℕ → Fraction
record_of n k = record { num = n; less = k }

same_parts : (m n : ℤ) (k l : ℕ) → m ≡ n → k ≡ l → record_of m k ≡ record_of n l
same_parts m n k l e f = ap₂ record_of e f

-- summands in another order
pub sum_assoc : (p q r : Fraction) → sum_of (sum_of p q) r ≡ sum_of p (sum_of q r)
unfolding record_of
sum_assoc p q r = same_parts _ _ _ _ (simp (sum-times, flattened) (omega (arith, ints))) (omega arith)

pub sum_left_swap : (p q r : Fraction) → sum_of p (sum_of q r) ≡ sum_of q (sum_of p r)
sum_left_swap p q r = sym (sum_assoc p q r) ∙ ap (λ z. sum_of z r) (sum-swap p q) ∙ sum_assoc q p r

-- factors in another order, and 1
pub one_times : (q : Fraction) → product_of (whole (pos 1)) q ≡ q
unfolding record_of
one_times q = same_parts _ _ _ _ (omega (arith, ints)) (omega arith)

pub product_left_swap : (p q r : Fraction) → product_of p (product_of q r) ≡ product_of q (product_of p r)
product_left_swap p q r = sym (product_assoc p q r) ∙ ap (λ z. product_of z r) (product-swap p q) ∙ product_assoc q p r

pub product_middle_swap : (p q r s : Fraction) → product_of (product_of p q) (product_of r s) ≡ product_of (product_of p r) (product_of q s)
product_middle_swap p q r s =
    product_assoc p q (product_of r s) ∙ ap (product_of p) (product_left_swap q r s) ∙ sym (product_assoc p r (product_of q s))

-- powers multiply
pub power_sum : (q : Fraction) (m n : ℕ) → power_of q (m + n) ≡ product_of (power_of q m) (power_of q n)
power_sum q m zero =
    ap (power_of q) (let e : m + 0 ≡ m = omega arith in e) ∙ sym (one_times (power_of q m)) ∙ product-swap (whole (pos 1)) (power_of q m)
power_sum q m (suc n) =
    ap (power_of q) (let e : m + suc n ≡ suc (m + n) = omega arith in e)
    ∙ ap (λ z. product_of z q) (power_sum q m n) ∙ product_assoc (power_of q m) (power_of q n) q

-- whole numbers
pub whole_product : (m n : ℤ) → whole (m *ℤ n) ≡ product_of (whole m) (whole n)
whole_product m n = refl

pub whole_sum : (m n : ℤ) → sum_of (whole m) (whole n) ≡ whole (m +ℤ n)
unfolding record_of
whole_sum m n = same_parts _ _ _ _ (omega (arith, ints)) (omega arith)

pub whole_sum_times : (m n : ℤ) (q : Fraction) → IsSame (sum_of (product_of (whole m) q) (product_of (whole n) q)) (product_of (whole (m +ℤ n)) q)
whole_sum_times m n q =
    subst (λ z. IsSame (sum_of (product_of (whole m) q) (product_of (whole n) q)) (product_of z q)) (whole_sum m n) (sum-product (whole m) (whole n) q)

pub zero_times : (q : Fraction) → IsSame (product_of (whole (pos 0)) q) (whole (pos 0))
zero_times q = omega (arith, ints)

pub times_whole_zero : (q : Fraction) → IsSame (product_of q (whole (pos 0))) (whole (pos 0))
times_whole_zero q = subst (λ z. IsSame z (whole (pos 0))) (product-swap (whole (pos 0)) q) (zero_times q)

pub turned_times : (q : Fraction) → product_of (whole (negsuc 0)) q ≡ opposite_of q
unfolding record_of
turned_times q = same_parts _ _ _ _ (omega (arith, ints)) (omega arith)

-- what differs by 0 is the same
pub same_from_difference : (q r : Fraction) → IsSame (sum_of q (opposite_of r)) (whole (pos 0)) → IsSame q r
same_from_difference q r h =
    let none : IsSame (difference_of q r) (whole (pos 0)) = subst (λ z. IsSame z (whole (pos 0))) (sym (difference-is q r)) h in
    omega (arith, ints, none)

-- a positive factor keeps the order towards 0
nothing : (n : ℕ) → pos 0 *ℤ pos (n + 1) ≡ pos 0
nothing n = omega (arith, ints)

pub below_zero_scaled : (a : ℤ) (n : ℕ) → int_lt (a *ℤ pos (n + 1)) (pos 0) ≡ int_lt a (pos 0)
below_zero_scaled a n = ap (int_lt (a *ℤ pos (n + 1))) (sym (nothing n)) ∙ int_lt_scales a (pos 0) n

pub above_zero_scaled : (a : ℤ) (n : ℕ) → int_lt (pos 0) (a *ℤ pos (n + 1)) ≡ int_lt (pos 0) a
above_zero_scaled a n = ap (λ z. int_lt z (a *ℤ pos (n + 1))) (sym (nothing n)) ∙ int_gt_scales a (pos 0) n

-- numbers that lie alike towards 0 have the same sign
sign_along : (q r : Fraction) (s : Sign) → int_lt q.num (pos 0) ≡ int_lt r.num (pos 0) → int_lt (pos 0) q.num ≡ int_lt (pos 0) r.num
    → HasSign q s → HasSign r s
sign_along q r Minus e f h = lt_from_test r.num (pos 0) (sym e ∙ test_from_lt q.num (pos 0) h)
sign_along q r Zero e f h = grind (arith, ints)
sign_along q r Plus e f h = lt_from_test (pos 0) r.num (sym f ∙ test_from_lt (pos 0) q.num h)

-- the sign is that of each fraction that is the same
pub sign_of_same : (q r : Fraction) (s : Sign) → IsSame q r → HasSign q s → HasSign r s
sign_of_same q r s e h =
    sign_along q r s
    (sym (below_zero_scaled q.num r.less) ∙ ap (λ z. int_lt z (pos 0)) e ∙ below_zero_scaled r.num q.less)
    (sym (above_zero_scaled q.num r.less) ∙ ap (int_lt (pos 0)) e ∙ above_zero_scaled r.num q.less) h

-- a positive factor keeps it
pub sign_of_scaled : (n : ℕ) (q : Fraction) (s : Sign) → HasSign (product_of (whole (pos (n + 1))) q) s → HasSign q s
sign_of_scaled n q s h =
    let turned : pos (n + 1) *ℤ q.num ≡ q.num *ℤ pos (n + 1) = *ℤ_comm (pos (n + 1)) q.num in
    sign_along (product_of (whole (pos (n + 1))) q) q s
    (ap (λ z. int_lt z (pos 0)) turned ∙ below_zero_scaled q.num n) (ap (int_lt (pos 0)) turned ∙ above_zero_scaled q.num n) h

pub scaled_has_sign : (n : ℕ) (q : Fraction) (s : Sign) → HasSign q s → HasSign (product_of (whole (pos (n + 1))) q) s
scaled_has_sign n q s h =
    let turned : pos (n + 1) *ℤ q.num ≡ q.num *ℤ pos (n + 1) = *ℤ_comm (pos (n + 1)) q.num in
    sign_along q (product_of (whole (pos (n + 1))) q) s
    (sym (ap (λ z. int_lt z (pos 0)) turned ∙ below_zero_scaled q.num n)) (sym (ap (int_lt (pos 0)) turned ∙ above_zero_scaled q.num n)) h

-- the same number, as a record that names its two sides
pub record Equals (q r : Fraction) : Type 0 where
  pub is : IsSame q r

pub exact : {q r : Fraction} → q ≡ r → Equals q r
exact {q} {r} e = record { is = subst (IsSame q) e refl }

pub back : {q r : Fraction} → Equals q r → Equals r q
back {q} {r} h = record { is = same_turned q r h.is }

pub along : {q r s : Fraction} → Equals q r → Equals r s → Equals q s
along {q} {r} {s} h k = record { is = same_trans q r s h.is k.is }

pub sums : {q p r s : Fraction} → Equals q p → Equals r s → Equals (sum_of q r) (sum_of p s)
sums {q} {p} {r} {s} h k = record { is = sum_respects q p r s h.is k.is }

pub products : {q p r s : Fraction} → Equals q p → Equals r s → Equals (product_of q r) (product_of p s)
products {q} {p} {r} {s} h k = record { is = product_respects q p r s h.is k.is }

pub zero_plus : (q : Fraction) → Equals (sum_of (whole (pos 0)) q) q
zero_plus q = record { is = sum-zero_left (whole (pos 0)) q refl }

pub zero_times_is : (q : Fraction) → Equals (product_of (whole (pos 0)) q) (whole (pos 0))
zero_times_is q = record { is = zero_times q }

pub times_zero_is : (q : Fraction) → Equals (product_of q (whole (pos 0))) (whole (pos 0))
times_zero_is q = record { is = times_whole_zero q }

pub sum_times_is : (a c q : Fraction) → Equals (sum_of (product_of a q) (product_of c q)) (product_of (sum_of a c) q)
sum_times_is a c q = record { is = sum-product a c q }

pub times_sum_is : (n q r : Fraction) → Equals (product_of n (sum_of q r)) (sum_of (product_of n q) (product_of n r))
times_sum_is n q r = record { is = product-sum n q r }

pub whole_sum_times_is : (m n : ℤ) (q : Fraction) → Equals (sum_of (product_of (whole m) q) (product_of (whole n) q)) (product_of (whole (m +ℤ n)) q)
whole_sum_times_is m n q = record { is = whole_sum_times m n q }
