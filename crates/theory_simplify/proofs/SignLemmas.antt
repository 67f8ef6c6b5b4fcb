-- The rule of signs by the members of sets, by parity, and symbol by symbol.
use Rattle.std.proofs.Common.{◌≡◌, ℕ, zero, suc, ◌+◌, ◌<◌, ◌≤◌, Bool, true, false, List, [], ◌∷◌, length, drop, pos, if◌then◌else◌, None, Some, refl, sym, ap, ◌∙◌, arith}
use Rattle.std.specs.Prelude.{◌%◌, ◌&&◌, ◌||◌, get_or, nat_eq, nat_lt, slice_set}
use Rattle.std.specs.List.{sum}
use Rattle.std.specs.Ordering.{int_eq}
use Rattle.std.specs.Str.{bytes_eq}
use Rattle.theory_polynomial.specs.Terms.{Monomial, no_powers, symbol_of}
use Rattle.theory_elimination.specs.Facts.{Facts, known_set}
use Rattle.theory_elimination.specs.SameFormula.{is_same_poly}
use Rattle.std.proofs.Math.Seq.{drop-cons}
use Rattle.theory_meaning.specs.declared.words.Sign.{Sign}
use Rattle.theory_meaning.specs.declared.words.Sign.TheVariants.{Minus, Zero, Plus}
use Rattle.theory_formula.specs.declared.signs.Signs.TheVariants as set
use Rattle.theory_formula.specs.Signs.{set_of}
use Rattle.theory_elimination.specs.TestPoint.{is_same_sign}
use Rattle.theory_signed.specs.SignRules.{product_sign, power_sign, Known, known_by, may_be, powers, products, sums}
use Rattle.theory_signed.specs.CommonPowers.{odd_part}
use Rattle.theory_signed.specs.PossibleSigns.{of_powers, of_symbols, is_symbol}

each_known : (P : Known → Type 0) → P None → P (Some set.Neg) → P (Some set.Zero) → P (Some set.Pos) → P (Some set.NotPos) → P (Some set.NonZero)
    → P (Some set.NotNeg) → (T : Known) → P T
each_known P a b c d e f g None = a
each_known P a b c d e f g (Some set.Neg) = b
each_known P a b c d e f g (Some set.Zero) = c
each_known P a b c d e f g (Some set.Pos) = d
each_known P a b c d e f g (Some set.NotPos) = e
each_known P a b c d e f g (Some set.NonZero) = f
each_known P a b c d e f g (Some set.NotNeg) = g

-- products and sums by the members of the sets
abbrev fit : Known → Sign → Known → Sign → Bool
fit T s U t = may_be T s && may_be U t

abbrev product_members : Known → Known → Known
product_members T U =
    set_of (fit T Minus U Plus || fit T Plus U Minus) (may_be T Zero || may_be U Zero) (fit T Minus U Minus || fit T Plus U Plus)

abbrev sum_members : Known → Known → Known
sum_members T U =
    set_of (may_be T Minus || may_be U Minus) ((fit T Zero U Zero || fit T Minus U Plus) || fit T Plus U Minus) (may_be T Plus || may_be U Plus)

abbrev product_row : Known → Type 0
product_row T = (U : Known) → products T U ≡ product_members T U

pub products_by_members : (T U : Known) → products T U ≡ product_members T U
products_by_members =
    each_known product_row
    (each_known (λ U. products None U ≡ product_members None U) refl refl refl refl refl refl refl)
    (each_known (λ U. products (Some set.Neg) U ≡ product_members (Some set.Neg) U) refl refl refl refl refl refl refl)
    (each_known (λ U. products (Some set.Zero) U ≡ product_members (Some set.Zero) U) refl refl refl refl refl refl refl)
    (each_known (λ U. products (Some set.Pos) U ≡ product_members (Some set.Pos) U) refl refl refl refl refl refl refl)
    (each_known (λ U. products (Some set.NotPos) U ≡ product_members (Some set.NotPos) U) refl refl refl refl refl refl refl)
    (each_known (λ U. products (Some set.NonZero) U ≡ product_members (Some set.NonZero) U) refl refl refl refl refl refl refl)
    (each_known (λ U. products (Some set.NotNeg) U ≡ product_members (Some set.NotNeg) U) refl refl refl refl refl refl refl)

abbrev sum_row : Known → Type 0
sum_row T = (U : Known) → sums T U ≡ sum_members T U

pub sums_by_members : (T U : Known) → sums T U ≡ sum_members T U
sums_by_members =
    each_known sum_row
    (each_known (λ U. sums None U ≡ sum_members None U) refl refl refl refl refl refl refl)
    (each_known (λ U. sums (Some set.Neg) U ≡ sum_members (Some set.Neg) U) refl refl refl refl refl refl refl)
    (each_known (λ U. sums (Some set.Zero) U ≡ sum_members (Some set.Zero) U) refl refl refl refl refl refl refl)
    (each_known (λ U. sums (Some set.Pos) U ≡ sum_members (Some set.Pos) U) refl refl refl refl refl refl refl)
    (each_known (λ U. sums (Some set.NotPos) U ≡ sum_members (Some set.NotPos) U) refl refl refl refl refl refl refl)
    (each_known (λ U. sums (Some set.NonZero) U ≡ sum_members (Some set.NonZero) U) refl refl refl refl refl refl refl)
    (each_known (λ U. sums (Some set.NotNeg) U ≡ sum_members (Some set.NotNeg) U) refl refl refl refl refl refl refl)

-- powers by parity
abbrev power_members : Known → Sign → Sign → Sign → Known
power_members T a b c =
    known_by (λ r. (may_be T Minus && is_same_sign a r) || (may_be T Zero && is_same_sign b r) || (may_be T Plus && is_same_sign c r))

turned_twice : (s : Sign) → product_sign (product_sign s s) s ≡ s
turned_twice Minus = refl
turned_twice Zero = refl
turned_twice Plus = refl

square_of_square : (s : Sign) → product_sign (product_sign (product_sign s s) s) s ≡ product_sign s s
square_of_square Minus = refl
square_of_square Zero = refl
square_of_square Plus = refl

odd_power : (s : Sign) (n : ℕ) → odd_part n ≡ 1 → power_sign s n ≡ s
odd_power s zero h = absurd (omega (arith, h))
odd_power s (suc zero) h = refl
odd_power s (suc (suc n)) h = ap (λ (t : Sign). product_sign (product_sign t s) s) (odd_power s n h) ∙ turned_twice s

even_power : (s : Sign) (n : ℕ) → odd_part n ≡ 0 → power_sign s (suc (suc n)) ≡ product_sign s s
even_power s zero h = refl
even_power s (suc zero) h = absurd (omega (arith, h))
even_power s (suc (suc n)) h = ap (λ (t : Sign). product_sign (product_sign t s) s) (even_power s n h) ∙ square_of_square s

same_members : (T : Known) (a b c x y z : Sign) → a ≡ x → b ≡ y → c ≡ z → power_members T a b c ≡ power_members T x y z
same_members T a b c x y z p q r =
    ap (λ (s : Sign). power_members T s b c) p ∙ ap (λ (s : Sign). power_members T x s c) q ∙ ap (λ (s : Sign). power_members T x y s) r

power_as_members : (T : Known) (n : ℕ) → powers T n ≡ power_members T (power_sign Minus n) (power_sign Zero n) (power_sign Plus n)
power_as_members T n = refl

-- the signs of a square
abbrev pub square_of : Known → Known
square_of T = set_of false (may_be T Zero) (may_be T Minus || may_be T Plus)

own_members : (T : Known) → power_members T Minus Zero Plus ≡ T
own_members = each_known (λ T. power_members T Minus Zero Plus ≡ T) refl refl refl refl refl refl refl

square_members : (T : Known) → power_members T Plus Zero Plus ≡ square_of T
square_members = each_known (λ T. power_members T Plus Zero Plus ≡ square_of T) refl refl refl refl refl refl refl

pub no_power : (T : Known) → powers T 0 ≡ Some set.Pos
no_power = each_known (λ T. powers T 0 ≡ Some set.Pos) refl refl refl refl refl refl refl

pub powers_odd : (T : Known) (n : ℕ) → odd_part n ≡ 1 → powers T n ≡ T
powers_odd T n h =
    power_as_members T n
    ∙ same_members T (power_sign Minus n) (power_sign Zero n) (power_sign Plus n) Minus Zero Plus (odd_power Minus n h) (odd_power Zero n h)
    (odd_power Plus n h)
    ∙ own_members T

even_again : (T : Known) (n : ℕ) → odd_part n ≡ 0 → powers T (suc (suc n)) ≡ square_of T
even_again T n h =
    same_members T (power_sign Minus (suc (suc n))) (power_sign Zero (suc (suc n))) (power_sign Plus (suc (suc n))) Plus Zero Plus
    (even_power Minus n h) (even_power Zero n h) (even_power Plus n h)
    ∙ square_members T

pub powers_even : (T : Known) (n : ℕ) → (n ≡ 0 → ⊥) → odd_part n ≡ 0 → powers T n ≡ square_of T
powers_even T zero some h = absurd (some refl)
powers_even T (suc zero) some h = absurd (omega (arith, h))
powers_even T (suc (suc n)) some h = even_again T n h

pub odd_or_even : (n : ℕ) → (odd_part n ≡ 1 → ⊥) → odd_part n ≡ 0
odd_or_even zero h = refl
odd_or_even (suc zero) h = absurd (h refl)
odd_or_even (suc (suc n)) h = odd_or_even n h

-- symbol by symbol, from the last one
abbrev pub from_place : ℕ → (ℕ → Known) → ℕ → Known
from_place x known k = known (x + k)

same_known : (f g : ℕ → Known) (e : List ℕ) → ((k : ℕ) → f k ≡ g k) → of_powers f e ≡ of_powers g e
same_known f g [] h = refl
same_known f g (n ∷ e) h =
    ap (λ (T : Known). products (powers T n) (of_powers (λ k. f (suc k)) e)) (h 0)
    ∙ ap (products (powers (g 0) n)) (same_known (λ k. f (suc k)) (λ k. g (suc k)) e (λ k. h (suc k)))

one_up : (x k : ℕ) → x + suc k ≡ suc x + k
one_up x k = omega arith

none_before : (k : ℕ) → 0 + k ≡ k
none_before k = omega arith

none_up : (x : ℕ) → x + 0 ≡ x
none_up x = omega arith

pub from_first : (known : ℕ → Known) (e : List ℕ) → of_powers (from_place 0 known) e ≡ of_powers known e
from_first known e = same_known (from_place 0 known) known e (λ k. ap known (none_before k))

pub one_place : (known : ℕ → Known) (x n : ℕ) (e : List ℕ)
    → of_powers (from_place x known) (n ∷ e) ≡ products (powers (known x) n) (of_powers (from_place (suc x) known) e)
one_place known x n e =
    ap (λ (T : Known). products (powers T n) (of_powers (λ k. known (x + suc k)) e)) (ap known (none_up x))
    ∙ ap (products (powers (known x) n)) (same_known (λ k. known (x + suc k)) (from_place (suc x) known) e (λ k. ap known (one_up x k)))

one_times : (T : Known) → products (Some set.Pos) T ≡ T
one_times = each_known (λ T. products (Some set.Pos) T ≡ T) refl refl refl refl refl refl refl

pub skipped_place : (known : ℕ → Known) (x n : ℕ) (e : List ℕ) → n ≡ 0
    → of_powers (from_place x known) (n ∷ e) ≡ of_powers (from_place (suc x) known) e
skipped_place known x n e h =
    one_place known x n e
    ∙ ap (λ (m : ℕ). products (powers (known x) m) (of_powers (from_place (suc x) known) e)) h
    ∙ ap (λ (T : Known). products T (of_powers (from_place (suc x) known) e)) (no_power (known x))
    ∙ one_times (of_powers (from_place (suc x) known) e)

-- one place further back
pub place_step : (known : ℕ → Known) (e : List ℕ) (x m n : ℕ) (T : Known) → x < length e → m ≡ suc x → n ≡ x
    → T ≡ of_powers (from_place m known) (drop m e) → products (powers (known x) (get_or e x 0)) T ≡ of_powers (from_place n known) (drop n e)
place_step known e x m n T h i j k =
    ap (products (powers (known x) (get_or e x 0))) (k ∙ ap (λ (y : ℕ). of_powers (from_place y known) (drop y e)) i)
    ∙ sym (one_place known x (get_or e x 0) (drop (suc x) e))
    ∙ ap (of_powers (from_place x known)) (sym (drop-cons e x 0 h))
    ∙ ap (λ (y : ℕ). of_powers (from_place y known) (drop y e)) (sym j)

-- past the last symbol
pub none_left : (known : ℕ → Known) (e : List ℕ) (n : ℕ) → length e ≤ n → Some set.Pos ≡ of_powers known (drop n e)
none_left known [] zero h = refl
none_left known [] (suc n) h = refl
none_left known (m ∷ e) zero h = absurd (omega (arith, h))
none_left known (m ∷ e) (suc n) h = none_left known e n (omega (arith, h))

pub no_power_times : (T U : Known) (n : ℕ) → n ≡ 0 → U ≡ products (powers T n) U
no_power_times T U n h =
    sym (one_times U) ∙ ap (λ (V : Known). products V U) (sym (no_power T)) ∙ ap (λ (m : ℕ). products (powers T m) U) (sym h)

-- single symbols
pub is_one_symbol : (ts : List Monomial) (d : Monomial) → length ts ≡ 1
    → is_symbol ts ≡ int_eq (get_or ts 0 d).coefficient (pos 1) && nat_eq (sum (get_or ts 0 d).powers) 1
is_one_symbol [] d h = absurd (omega (arith, h))
is_one_symbol (t ∷ []) d h = refl
is_one_symbol (t ∷ u ∷ ts) d h = absurd (omega (arith, h))

pub is_no_symbol : (ts : List Monomial) → (length ts ≡ 1 → ⊥) → is_symbol ts ≡ false
is_no_symbol [] h = refl
is_no_symbol (t ∷ []) h = absurd (h refl)
is_no_symbol (t ∷ u ∷ ts) h = refl

and_true : (b : Bool) → b && true ≡ b
and_true true = refl
and_true false = refl

pub is_this_symbol : (ts : List Monomial) (d : Monomial) (x : ℕ) → length ts ≡ 1
    → is_same_poly ts (symbol_of x) ≡ int_eq (get_or ts 0 d).coefficient (pos 1) && bytes_eq (get_or ts 0 d).powers (slice_set no_powers x 1)
is_this_symbol [] d x h = absurd (omega (arith, h))
is_this_symbol (t ∷ []) d x h = and_true (int_eq t.coefficient (pos 1) && bytes_eq t.powers (slice_set no_powers x 1))
is_this_symbol (t ∷ u ∷ ts) d x h = absurd (omega (arith, h))

and_false : (b : Bool) → b && false ≡ false
and_false true = refl
and_false false = refl

pub is_not_this_symbol : (ts : List Monomial) (x : ℕ) → (length ts ≡ 1 → ⊥) → is_same_poly ts (symbol_of x) ≡ false
is_not_this_symbol [] x h = refl
is_not_this_symbol (t ∷ []) x h = absurd (h refl)
is_not_this_symbol (t ∷ u ∷ ts) x h = and_false (int_eq t.coefficient (pos 1) && bytes_eq t.powers (slice_set no_powers x 1))

in_range : (x : ℕ) → x < 32 → nat_lt x 32 ≡ true
in_range x h = grind (arith, h)

pub symbol_known : (K : Facts) (x : ℕ) → x < 32 → of_symbols K x ≡ known_set (symbol_of x) K
symbol_known K x h = ap (λ (b : Bool). if b then known_set (symbol_of x) K else None) (in_range x h)

-- odd and even
pub odd_part_is : (n : ℕ) → n % 2 ≡ odd_part n
odd_part_is zero = refl
odd_part_is (suc zero) = refl
odd_part_is (suc (suc n)) = let rest = odd_part_is n in omega arith

-- powers by parity, for `grind`
pub ruleset power_laws = (no_power, powers_odd, powers_even, odd_or_even)

-- single symbols, likewise
pub ruleset symbol_laws = (is_one_symbol, is_no_symbol)
