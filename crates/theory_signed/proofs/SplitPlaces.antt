-- Places of symbols in lists of exponents: those of squares, of the symbol that crosses, and how many there are.
use Rattle.std.proofs.Common.{◌≡◌, ℕ, suc, ◌+◌, ◌<◌, ◌≤◌, Bool, true, false, List, [], ◌∷◌, length, Some, refl, sym, ap, ◌∙◌, arith}
use Rattle.std.specs.Prelude.{◌&&◌, map, nat_eq, nat_le, get_or, if◌then◌else◌}
use Rattle.theory_polynomial.specs.Polynomial.{Monomial, IsPolynomial, degree_in}
use Rattle.theory_signed.specs.CommonPowers.{least_powers, common_powers, odd_part, is_square, squares_from, crossing_from}

-- places
one_more : (x k : ℕ) → suc x + k ≡ x + suc k
one_more x k = omega arith

at_once : (x : ℕ) → x ≡ x + 0
at_once x = omega arith

pub none_more : (k : ℕ) → 0 + k ≡ k
none_more k = omega arith

pub none_before : (k : ℕ) → k ≡ 0 + k
none_before k = omega arith

more_below : (k n : ℕ) → k < n → suc k < suc n
more_below k n h = omega (arith, h)

some_below : (n : ℕ) → 0 < suc n
some_below n = omega arith

pub below_limit : (k x n : ℕ) → k ≡ x → k < n → n ≤ 32 → x < 32
below_limit k x n e h l = omega (arith, e, h, l)

in_limit : (x n : ℕ) → x + suc n ≤ 32 → x < 32
in_limit x n h = omega (arith, h)

shifted_limit : (x n : ℕ) → x + suc n ≤ 32 → suc x + n ≤ 32
shifted_limit x n h = omega (arith, h)

pub from_start : (n : ℕ) → n ≤ 32 → 0 + n ≤ 32
from_start n h = omega (arith, h)

one_longer : (m n : ℕ) → m ≤ n → suc m ≤ suc n
one_longer m n h = omega (arith, h)

as_long : (n : ℕ) → n ≡ 32 → n ≤ 32
as_long n e = omega (arith, e)

shorter : (m n : ℕ) → m ≤ n → n ≡ 32 → m ≤ 32
shorter m n h e = omega (arith, h, e)

-- the symbol that crosses
pub record Crosses (x : ℕ) (e : List ℕ) (y : ℕ) : Type 0 where
  pub place : ℕ
  pub is : y ≡ x + place
  pub below : place < length e
  pub one : get_or e place 0 ≡ 1

first_true : (a b : Bool) → a && b ≡ true → a ≡ true
first_true true b h = refl
first_true false b h = absurd cc

equal_one : (n : ℕ) → nat_eq n 1 ≡ true → n ≡ 1
equal_one n h = grind (arith, h)

further : (x n y : ℕ) (e : List ℕ) → Crosses (suc x) e y → Crosses x (n ∷ e) y
further x n y e c = record { place = suc c.place; is = c.is ∙ one_more x c.place; below = more_below c.place (length e) c.below; one = c.one }

pub crossing : (x : ℕ) (e : List ℕ) (ts : List Monomial) (y : ℕ) → crossing_from x e ts ≡ Some y → Crosses x e y
crossing x [] ts y h = absurd cc
crossing x (n ∷ e) ts y h =
    elim (nat_eq n 1 && nat_le 2 (degree_in x ts)) as (λ b. nat_eq n 1 && nat_le 2 (degree_in x ts) ≡ b
    → (if b then Some x else crossing_from (suc x) e ts) ≡ Some y → Crosses x (n ∷ e) y) [
      | true ↦ λ b e'.
          let same : x ≡ y = cc in
          record {
            place = 0;
            is = sym same ∙ at_once x;
            below = some_below (length e);
            one = equal_one n (first_true (nat_eq n 1) (nat_le 2 (degree_in x ts)) b);
          }
      | false ↦ λ b e'. further x n y e (crossing (suc x) e ts y e')
    ] refl h

-- the squares
abbrev pub AreBelow : List ℕ → Type 0
AreBelow [] = Unit {0}
AreBelow (x ∷ xs) = (x < 32) × AreBelow xs

pub squares_below : (x : ℕ) (e : List ℕ) → x + length e ≤ 32 → AreBelow (squares_from x e)
squares_below x [] h = tt
squares_below x (n ∷ e) h =
    elim (is_square n) as (λ b. AreBelow (if b then x ∷ squares_from (suc x) e else squares_from (suc x) e)) [
      | true ↦ (in_limit x (length e) h, squares_below (suc x) e (shifted_limit x (length e) h))
      | false ↦ squares_below (suc x) e (shifted_limit x (length e) h)
    ]

-- lengths
least_length : (e d : List ℕ) → length (least_powers e d) ≤ length e
least_length [] d = omega arith
least_length (m ∷ e) [] = omega arith
least_length (m ∷ e) (n ∷ d) = one_longer (length (least_powers e d)) (length e) (least_length e d)

pub common_length : (P : List Monomial) → IsPolynomial P → length (common_powers P) ≤ 32
common_length [] h = omega arith
common_length (t ∷ []) h = as_long (length t.powers) (h.0).places
common_length (t ∷ u ∷ ts) h =
    shorter (length (least_powers t.powers (common_powers (u ∷ ts)))) (length t.powers) (least_length t.powers (common_powers (u ∷ ts))) (h.0).places

pub mapped_length : (e : List ℕ) → length (map odd_part e) ≡ length e
mapped_length [] = refl
mapped_length (n ∷ e) = ap suc (mapped_length e)
