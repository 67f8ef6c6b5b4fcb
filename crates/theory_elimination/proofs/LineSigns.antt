-- A polynomial that is linear in a symbol has the sign of a line over the whole numbers.
use Rattle.std.proofs.Common.{◌≡◌, ℕ, zero, suc, ◌+◌, ◌-◌, ◌*◌, ◌^◌, ◌≤◌, ℤ, pos, ◌+ℤ◌, ◌*ℤ◌, List, refl, sym, ap, ap₂, ◌∙◌, subst, arith, ◌⊎◌, inl, inr}
use Rattle.std.proofs.lemmas.Bool.{cases_lt}
use Rattle.std.proofs.Math.IntN.{*ℤ_comm}
use Rattle.std.proofs.Math.Nat.{pow-suc, pow-zero}
use Rattle.std.proofs.lemmas.Int.{ints}
use Rattle.theory_meaning.specs.Fraction.{Fraction, den, whole, IsSame, sum_of as fraction_sum, product_of as fraction_product}
use Rattle.theory_meaning.proofs.WholeLaws.{times-swap}
use Rattle.theory_meaning.proofs.OrderLaws.{same_itself}
use Rattle.theory_formula.specs.Signs.{sign_of, sign_of_whole}
use Rattle.theory_formula.specs.Formula.{sign_at}
use Rattle.theory_polynomial.specs.Polynomial.{Monomial, degree_in, IsLinearIn, scaled, sum_of}
use Rattle.theory_polynomial.specs.PolynomialValue.{Values, rest_of, symbol_at, polynomial_at, GivesValue, part_of, restriction_step, slope_in, base_in}
use Rattle.theory_meaning.proofs.FractionLaws.{Equals, along, sums, sign_of_same}
use Rattle.theory_polynomial.proofs.PolynomialValues.{value_of_sum, value_of_scaled}
use Rattle.theory_polynomial.proofs.RestrictionLaws.{last_has_sign}
use Rattle.theory_formula.proofs.ConditionLaws.{sign_of_own, sign_of_only}
use Rattle.theory_elimination.specs.Elimination.{with_value}
use Rattle.theory_elimination.proofs.SignSums.{sign_of_scaled}
use Rattle.theory_elimination.proofs.Lines.{Line, sign_on, slope_sign, base_sign}
use Rattle.theory_elimination.proofs.PartLaws.{no_part, part_value}

-- the line with this slope and base, cleared of their denominators
abbrev pub line_with : Fraction → Fraction → Line
line_with A B = record { slope = A.num *ℤ pos (den B); base = B.num *ℤ pos (den A) }

-- the line of a slope and a base at a point, and of a polynomial in a symbol
abbrev pub line_at : Values → List Monomial → List Monomial → Line
line_at p a b = line_with (polynomial_at a p) (polynomial_at b p)

abbrev pub line_of : ℕ → Values → List Monomial → Line
line_of x p P = line_at p (slope_in x P) (base_in x P)

-- signs of a line's slope and base
pub slope_sign_is : (p : Values) (a b : List Monomial) → slope_sign (line_at p a b) ≡ sign_at a p
slope_sign_is p a b = sign_of_scaled (polynomial_at a p).num (polynomial_at b p).less

pub base_sign_is : (p : Values) (a b : List Monomial) → base_sign (line_at p a b) ≡ sign_at b p
base_sign_is p a b = sign_of_scaled (polynomial_at b p).num (polynomial_at a p).less

same_signs : (f g : Fraction) → Equals f g → sign_of f ≡ sign_of g
same_signs f g e = sym (sign_of_only g (sign_of f) (sign_of_same f g (sign_of f) e.is (sign_of_own f)))

nothing_times : (k l : ℕ) → 0 * k + l ≡ l
nothing_times k l = omega arith

moved : (n a d : ℤ) → n *ℤ a *ℤ d ≡ a *ℤ d *ℤ n
moved n a d = ap (λ (z : ℤ). z *ℤ d) (*ℤ_comm n a) ∙ times-swap a n d

-- the sign of n*A + d*B
weighted : (n d : ℤ) (A B : Fraction) → sign_of (fraction_sum (fraction_product (whole n) A) (fraction_product (whole d) B))
    ≡ sign_of_whole (A.num *ℤ pos (den B) *ℤ n +ℤ B.num *ℤ pos (den A) *ℤ d)
weighted n d A B =
    ap₂ (λ (k l : ℕ). sign_of_whole (n *ℤ A.num *ℤ pos (l + 1) +ℤ d *ℤ B.num *ℤ pos (k + 1))) (nothing_times (den A) A.less) (nothing_times (den B) B.less)
    ∙ ap₂ (λ (y z : ℤ). sign_of_whole (y +ℤ z)) (moved n A.num (pos (den B))) (moved d B.num (pos (den A)))

times_one : (d : ℕ) → 1 * d ≡ d
times_one d = omega arith

none_or_one : (D : ℕ) → D ≤ 1 → (D ≡ 0) ⊎ (D ≡ 1)
none_or_one D h = elim (cases_lt D 1) [
  | inl less ↦ inl (omega (arith, less))
  | inr more ↦ inr (omega (arith, h, more))
]

nothing_of : (c : ℤ) → pos 0 *ℤ c ≡ pos 0
nothing_of c = omega (arith, ints)

no_slope : (n m : ℤ) → pos 0 *ℤ n +ℤ m ≡ m
no_slope n m = omega (arith, ints)

no_rise : (c n m : ℤ) → pos 0 *ℤ c *ℤ n +ℤ m ≡ m
no_rise c n m = ap (λ (z : ℤ). z *ℤ n +ℤ m) (nothing_of c) ∙ no_slope n m

one_power : (d : ℕ) → d ^ 1 ≡ d
one_power d = pow-suc d 0 ∙ ap (λ (k : ℕ). k * d) (pow-zero d) ∙ times_one d

-- the first step, where there is no slope, and the second
flat_sign : (v B : Fraction) → sign_of B ≡ sign_on (line_with (whole (pos 0)) B) v
flat_sign v B =
    let one : ℤ = B.num *ℤ pos 1 in
    sym (sign_of_scaled B.num 0) ∙ sym (sign_of_scaled one v.less) ∙ ap sign_of_whole (sym (no_rise (pos (den B)) v.num (one *ℤ pos (den v))))

step_sign : (x : ℕ) (v : Fraction) (P : List Monomial) (p : Values) (D : ℕ) → degree_in x P ≡ D → (D ≡ 0) ⊎ (D ≡ 1)
    → sign_at (restriction_step x v P D) p ≡ sign_on (line_of x p P) v
step_sign x v P p D h (inl none) =
    let zero_degree : degree_in x P ≡ 0 = h ∙ none in
    ap (λ (k : ℕ). sign_at (restriction_step x v P k) p) none
    ∙ ap (λ (k : ℕ). sign_at (part_of x k P) p) zero_degree
    ∙ flat_sign v (polynomial_at (base_in x P) p)
    ∙ ap (λ (a : List Monomial). sign_on (line_at p a (base_in x P)) v) (sym (no_part x P zero_degree))
step_sign x v P p D h (inr one) =
    let degree : degree_in x P ≡ 1 = h ∙ one in
    let A = polynomial_at (slope_in x P) p in
    let B = polynomial_at (base_in x P) p in
    let d : ℤ = pos (den v ^ 1) in
    let value : Equals (polynomial_at (sum_of (scaled v.num (slope_in x P)) (scaled d (base_in x P))) p)
    (fraction_sum (fraction_product (whole v.num) A) (fraction_product (whole d) B)) =
    along (value_of_sum (scaled v.num (slope_in x P)) (scaled d (base_in x P)) p)
    (sums (value_of_scaled v.num (slope_in x P) p) (value_of_scaled d (base_in x P) p)) in
    ap (λ (k : ℕ). sign_at (restriction_step x v P k) p) one
    ∙ ap (λ (k : ℕ). sign_at (sum_of (scaled v.num (part_of x k P)) (scaled d (part_of x (k - 1) P))) p) degree
    ∙ same_signs (polynomial_at (sum_of (scaled v.num (slope_in x P)) (scaled d (base_in x P))) p)
    (fraction_sum (fraction_product (whole v.num) A) (fraction_product (whole d) B)) value
    ∙ weighted v.num d A B
    ∙ ap (λ (k : ℕ). sign_of_whole (A.num *ℤ pos (den B) *ℤ v.num +ℤ B.num *ℤ pos (den A) *ℤ pos k)) (one_power (den v))

-- the sign of the polynomial where the symbol has this value
pub sign_is_on_line : (x : ℕ) (v : Fraction) (P : List Monomial) (p : Values) → IsLinearIn x P → GivesValue x v p → sign_at P p ≡ sign_on (line_of x p P) v
sign_is_on_line x v P p l g =
    let s = sign_at (restriction_step x v P (degree_in x P)) p in
    sign_of_only (polynomial_at P p) s ((last_has_sign x v p P s g).0 (sign_of_own (polynomial_at (restriction_step x v P (degree_in x P)) p)))
    ∙ step_sign x v P p (degree_in x P) refl (none_or_one (degree_in x P) l)

-- the symbol has the value that it is given, and slope and base stay as they were
gives : (x : ℕ) (v : Fraction) (p : Values) → symbol_at x (with_value x v p) ≡ v
gives zero v p = refl
gives (suc x) v p = gives x v (rest_of p)

pub gives_value : (x : ℕ) (v : Fraction) (p : Values) → GivesValue x v (with_value x v p)
gives_value x v p = subst (λ (q : Fraction). IsSame q v) (sym (gives x v p)) (same_itself v)

pub same_line : (x : ℕ) (v : Fraction) (p : Values) (P : List Monomial) → line_of x (with_value x v p) P ≡ line_of x p P
same_line x v p P = ap₂ line_with (part_value x 1 v P p) (part_value x 0 v P p)

pub sign_with_value : (x : ℕ) (v : Fraction) (P : List Monomial) (p : Values) → IsLinearIn x P → sign_at P (with_value x v p) ≡ sign_on (line_of x p P) v
sign_with_value x v P p l =
    sign_is_on_line x v P (with_value x v p) l (gives_value x v p) ∙ ap (λ (m : Line). sign_on m v) (same_line x v p P)
