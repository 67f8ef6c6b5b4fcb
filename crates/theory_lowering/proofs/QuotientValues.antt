-- The value of a polynomial over a number: of sums, differences, products, symbols and lowest forms.
use Rattle.std.proofs.Common.{◌≡◌, ℕ, zero, suc, ◌+◌, ◌-◌, ◌*◌, ◌<◌, ℤ, pos, negsuc, Bool, true, false, List, [], ◌∷◌, length, replicate, set, refl, sym, ap, ap₂, ◌∙◌, arith}
use Rattle.std.specs.Prelude.{if◌then◌else◌}
use Rattle.std.specs.Str.{bytes_eq}
use Rattle.std.proofs.lemmas.Int.{ints}
use Rattle.std.proofs.lemmas.Slice.Eq.{bytes_eq-Decides}
use Rattle.theory_meaning.specs.Fraction.{Fraction, den, whole, sum_of, difference_of, product_of, opposite_of}
use Rattle.theory_meaning.specs.Point.{Name, Point, value_at}
use Rattle.theory_meaning.proofs.ValueLaws.{product-swap, product_assoc, difference-is, sum-zero_left, sum-zero_right, opposite_respects}
use Rattle.theory_polynomial.specs.Polynomial.{constant_of, symbol_of, no_powers, scaled}
use Rattle.theory_polynomial.specs.PolynomialValue.{Values, first_of, rest_of, symbol_at, power_product, polynomial_at}
use Rattle.theory_polynomial.specs.RationalPolynomial.{Quotient, IsSameQuotient, IsLowestOf, sum_of_quotients, difference_of_quotients, product_of_quotients, quotient_at}
use Rattle.theory_lowering.specs.RationalFunction.{over, opposite_of_quotient}
use Rattle.theory_lowering.specs.Lowered.{place_of, values_of}
use Rattle.theory_meaning.proofs.FractionLaws.{Equals, exact, back, along, sums, products, one_times, product_middle_swap, sum_times_is, turned_times}
use Rattle.theory_polynomial.proofs.PolynomialValues.{value_of_sum, value_of_scaled, value_of_same, value_of_difference, value_of_product}

pub itself : (q : Fraction) → Equals q q
itself q = exact refl

pub times_one : (q : Fraction) → product_of q (whole (pos 1)) ≡ q
times_one q = product-swap q (whole (pos 1)) ∙ one_times q

-- one over a number
abbrev pub inverse : ℕ → Fraction
inverse b = record { num = pos 1; less = b - 1 }

abbrev fraction_with : ℤ → ℕ → Fraction
fraction_with n l = record { num = n; less = l }

less_of_product : (m n : ℕ) → suc m * suc n - 1 ≡ (suc m - 1) * ((suc n - 1) + 1) + (suc n - 1)
less_of_product m n =
    let whole_is : suc m * suc n ≡ (m + 1) * (n + 1) = ap₂ ◌*◌ (let e : suc m ≡ m + 1 = omega arith in e) (let e : suc n ≡ n + 1 = omega arith in e) in
    let part_is : (suc m - 1) * ((suc n - 1) + 1) ≡ m * (n + 1) =
    ap₂ ◌*◌ (let e : suc m - 1 ≡ m = omega arith in e) (let e : (suc n - 1) + 1 ≡ n + 1 = omega arith in e) in
    omega (arith, whole_is, part_is)

inverse_product : (a b : ℕ) → 0 < a → 0 < b → inverse (a * b) ≡ product_of (inverse a) (inverse b)
inverse_product zero b h k = absurd (omega arith)
inverse_product (suc m) zero h k = absurd (omega arith)
inverse_product (suc m) (suc n) h k = ap₂ fraction_with (omega (arith, ints)) (less_of_product m n)

inverse_cancels : (b : ℕ) → 0 < b → Equals (product_of (whole (pos b)) (inverse b)) (whole (pos 1))
inverse_cancels zero h = absurd (omega arith)
inverse_cancels (suc m) h = record { is = omega (arith, ints) }

pub cancel : (b : ℕ) (x : Fraction) → 0 < b → Equals (product_of (product_of (whole (pos b)) x) (inverse b)) x
cancel b x h =
    let w : Fraction = whole (pos b) in
    let i : Fraction = inverse b in
    let swapped : product_of (product_of w x) i ≡ product_of (product_of w i) x =
    product_assoc w x i ∙ ap (product_of w) (product-swap x i) ∙ sym (product_assoc w i x) in
    along (exact swapped) (along (products (inverse_cancels b h) (itself x)) (exact (one_times x)))

pub last_swap : (x y z : Fraction) → product_of (product_of x y) z ≡ product_of (product_of x z) y
last_swap x y z = product_assoc x y z ∙ ap (product_of x) (product-swap y z) ∙ sym (product_assoc x z y)

-- the value at a point
pub at_point : (q : Quotient) (p : Values) → quotient_at q p ≡ product_of (polynomial_at q.top p) (inverse q.below)
at_point q p = refl

-- quotients that are the same have the same value
pub quotient_same : (q r : Quotient) (p : Values) → 0 < q.below → 0 < r.below → IsSameQuotient r q → Equals (quotient_at r p) (quotient_at q p)
quotient_same q r p h k same =
    let qv : Fraction = polynomial_at q.top p in
    let rv : Fraction = polynomial_at r.top p in
    let qi : Fraction = inverse q.below in
    let ri : Fraction = inverse r.below in
    let left : Fraction = product_of (whole (pos q.below)) rv in
    let right : Fraction = product_of (whole (pos r.below)) qv in
    let cross : Equals left right =
    along (back (value_of_scaled (pos q.below) r.top p))
    (along (value_of_same (scaled (pos q.below) r.top) (scaled (pos r.below) q.top) p same) (value_of_scaled (pos r.below) q.top p)) in
    along (exact (at_point r p))
    (along (products (back (cancel q.below rv h)) (itself ri))
    (along (products (products cross (itself qi)) (itself ri))
    (along (exact (last_swap right qi ri)) (along (products (cancel r.below qv k) (itself qi)) (exact (sym (at_point q p)))))))

pub lowest_value : (q r : Quotient) (p : Values) → 0 < q.below → IsLowestOf q r → Equals (quotient_at r p) (quotient_at q p)
lowest_value q r p h k = quotient_same q r p h k.lowest.positive k.same

-- a part over the product of both numbers
first_part : (a b : ℕ) (x : Fraction) → 0 < b → Equals (product_of (product_of (whole (pos b)) x) (product_of (inverse a) (inverse b))) (product_of x
    (inverse a))
first_part a b x h =
    let w : Fraction = whole (pos b) in
    let moved : product_of (product_of w x) (product_of (inverse a) (inverse b)) ≡ product_of (product_of x (inverse a)) (product_of w (inverse b)) =
    ap (λ z. product_of z (product_of (inverse a) (inverse b))) (product-swap w x) ∙ product_middle_swap x w (inverse a) (inverse b) in
    along (exact moved) (along (products (itself (product_of x (inverse a))) (inverse_cancels b h)) (exact (times_one (product_of x (inverse a)))))

second_part : (a b : ℕ) (y : Fraction) → 0 < a → Equals (product_of (product_of (whole (pos a)) y) (product_of (inverse a) (inverse b))) (product_of y
    (inverse b))
second_part a b y h =
    along (exact (product_middle_swap (whole (pos a)) y (inverse a) (inverse b)))
    (along (products (inverse_cancels a h) (itself (product_of y (inverse b)))) (exact (one_times (product_of y (inverse b)))))

pub sum_quotient : (a b : Quotient) (p : Values) → 0 < a.below → 0 < b.below
    → Equals (quotient_at (sum_of_quotients a b) p) (sum_of (quotient_at a p) (quotient_at b p))
sum_quotient a b p h k =
    let x : Fraction = polynomial_at a.top p in
    let y : Fraction = polynomial_at b.top p in
    let i : Fraction = product_of (inverse a.below) (inverse b.below) in
    let left : Fraction = product_of (whole (pos b.below)) x in
    let right : Fraction = product_of (whole (pos a.below)) y in
    let tops : Equals (polynomial_at (sum_of_quotients a b).top p) (sum_of left right) =
    along (value_of_sum (scaled (pos b.below) a.top) (scaled (pos a.below) b.top) p)
    (sums (value_of_scaled (pos b.below) a.top p) (value_of_scaled (pos a.below) b.top p)) in
    along (exact (at_point (sum_of_quotients a b) p))
    (along (products tops (exact (inverse_product a.below b.below h k)))
    (along (back (sum_times_is left right i))
    (along (sums (first_part a.below b.below x k) (second_part a.below b.below y h))
    (sums (exact (sym (at_point a p))) (exact (sym (at_point b p)))))))

opposite_product : (x y : Fraction) → product_of (opposite_of x) y ≡ opposite_of (product_of x y)
opposite_product x y =
    ap (λ z. product_of z y) (sym (turned_times x)) ∙ product_assoc (whole (negsuc 0)) x y ∙ turned_times (product_of x y)

pub opposites : (q r : Fraction) → Equals q r → Equals (opposite_of q) (opposite_of r)
opposites q r h = record { is = opposite_respects q r h.is }

pub difference_quotient : (a b : Quotient) (p : Values) → 0 < a.below → 0 < b.below
    → Equals (quotient_at (difference_of_quotients a b) p) (difference_of (quotient_at a p) (quotient_at b p))
difference_quotient a b p h k =
    let x : Fraction = polynomial_at a.top p in
    let y : Fraction = polynomial_at b.top p in
    let i : Fraction = product_of (inverse a.below) (inverse b.below) in
    let left : Fraction = product_of (whole (pos b.below)) x in
    let right : Fraction = product_of (whole (pos a.below)) y in
    let scaled_y : Fraction = polynomial_at (scaled (pos a.below) b.top) p in
    let tops : Equals (polynomial_at (difference_of_quotients a b).top p) (sum_of left (opposite_of right)) =
    along (value_of_difference (scaled (pos b.below) a.top) (scaled (pos a.below) b.top) p)
    (sums (value_of_scaled (pos b.below) a.top p) (opposites scaled_y right (value_of_scaled (pos a.below) b.top p))) in
    let turned : Equals (product_of (opposite_of right) i) (opposite_of (product_of y (inverse b.below))) =
    along (exact (opposite_product right i)) (opposites (product_of right i) (product_of y (inverse b.below)) (second_part a.below b.below y h)) in
    along (exact (at_point (difference_of_quotients a b) p))
    (along (products tops (exact (inverse_product a.below b.below h k)))
    (along (back (sum_times_is left (opposite_of right) i))
    (along (sums (first_part a.below b.below x k) turned)
    (along (sums (exact (sym (at_point a p))) (exact (ap opposite_of (sym (at_point b p))))) (exact (sym (difference-is (quotient_at a p) (quotient_at b
    p))))))))

pub product_quotient : (a b : Quotient) (p : Values) → 0 < a.below → 0 < b.below
    → Equals (quotient_at (product_of_quotients a b) p) (product_of (quotient_at a p) (quotient_at b p))
product_quotient a b p h k =
    let x : Fraction = polynomial_at a.top p in
    let y : Fraction = polynomial_at b.top p in
    along (exact (at_point (product_of_quotients a b) p))
    (along (products (value_of_product a.top b.top p) (exact (inverse_product a.below b.below h k)))
    (along (exact (product_middle_swap x y (inverse a.below) (inverse b.below))) (products (exact (sym (at_point a p))) (exact (sym (at_point b p))))))

-- symbols
zeros_product : (n : ℕ) (p : Values) → power_product (replicate n 0) p ≡ whole (pos 1)
zeros_product zero p = refl
zeros_product (suc n) p = one_times (power_product (replicate n 0) (rest_of p)) ∙ zeros_product n (rest_of p)

one_power : (k n : ℕ) (p : Values) → k < n → power_product (set (replicate n 0) k 1) p ≡ symbol_at k p
one_power k zero p h = absurd (omega arith)
one_power zero (suc n) p h =
    ap₂ product_of (one_times (first_of p)) (zeros_product n (rest_of p)) ∙ times_one (first_of p)
one_power (suc k) (suc n) p h =
    one_times (power_product (set (replicate n 0) k 1) (rest_of p)) ∙ one_power k n (rest_of p) (omega (arith, h))

pub symbol_value : (k : ℕ) (p : Values) → k < 32 → Equals (polynomial_at (symbol_of k) p) (symbol_at k p)
symbol_value k p h =
    let g : Fraction = power_product (set (replicate 32 0) k 1) p in
    along (record { is = sum-zero_right (product_of (whole (pos 1)) g) }) (exact (one_times g ∙ one_power k 32 p h))

place_by : (x y : Name) (ns : List Name) (p : Point) (b : Bool) → bytes_eq y x ≡ b
    → (place_of x ns < length ns → symbol_at (place_of x ns) (values_of ns p) ≡ value_at p x) → (if b then 0 else suc (place_of x ns)) < suc (length ns)
    → symbol_at (if b then 0 else suc (place_of x ns)) (value_at p y ∷ values_of ns p) ≡ value_at p x
place_by x y ns p true is more h = ap (value_at p) ((bytes_eq-Decides y x).0 is)
place_by x y ns p false is more h = more (omega (arith, h))

pub symbol_at_place : (x : Name) (ns : List Name) (p : Point) → place_of x ns < length ns → symbol_at (place_of x ns) (values_of ns p) ≡ value_at p x
symbol_at_place x [] p h = absurd (omega (arith, h))
symbol_at_place x (y ∷ ns) p h = place_by x y ns p (bytes_eq y x) refl (symbol_at_place x ns p) h

-- numbers
pub constant_value : (n : ℤ) (p : Values) → Equals (polynomial_at (constant_of n) p) (whole n)
constant_value n p = along (record { is = sum-zero_right (product_of (whole n) (power_product no_powers p)) }) (exact (times_one (whole n)))

pub over_den : (q : Fraction) → product_of (whole q.num) (inverse (den q)) ≡ q
over_den q = ap₂ fraction_with (omega (arith, ints)) (omega arith)

pub over_one : (x : Fraction) → product_of x (inverse 1) ≡ x
over_one x = times_one x

pub times_positive : (m n : ℕ) → 0 < m → 0 < n → 0 < m * n
times_positive zero n h k = absurd (omega arith)
times_positive (suc m) zero h k = absurd (omega arith)
times_positive (suc m) (suc n) h k = omega arith

pub opposite_quotient : (a : Quotient) (p : Values) → 0 < a.below → Equals (quotient_at (opposite_of_quotient a) p) (opposite_of (quotient_at a p))
opposite_quotient a p h =
    let nothing : Fraction = quotient_at (over [] 1) p in
    along (difference_quotient (over [] 1) a p (omega arith) h)
    (along (exact (difference-is nothing (quotient_at a p)))
    (record { is = sum-zero_left nothing (opposite_of (quotient_at a p)) (omega (arith, ints)) }))
