-- Sums, differences and products of quotients, from what was gathered over the product of the numbers below.
use Rattle.std.proofs.Common.{◌≡◌, ℕ, ◌/◌, ◌<◌, ◌≤◌, ℤ, pos, negsuc, neg_ℤ, ◌*ℤ◌, List, sym, ap₂, subst, subst₂, arith, Result, IfOk}
use Rattle.std.proofs.lemmas.Int.{ints}
use Rattle.std.proofs.Math.Nat.{div-le_self}
use Rattle.theory_meaning.specs.Limits.{bound}
use Rattle.theory_points.specs.declared.limit.Limit.{Limit}
use Rattle.theory_polynomial.specs.Polynomial.{Monomial, AreSame, scaled, sum_of, difference_of, product_of}
use Rattle.theory_polynomial.specs.RationalPolynomial.{Quotient, IsLowestOf, IsQuotientBeyond, sum_of_quotients, difference_of_quotients, product_of_quotients}
use Rattle.theory_polynomial.proofs.CoefficientLaws.{same_itself, same_trans, same_turned, sum_same, scaled_twice}
use Rattle.theory_poly.specs.Answers.{WideWhere}
use Rattle.theory_poly.specs.Kept.{IsKept, IsGathered, IsGreatestWith, IsKeptQuotient, quotient_of}
use Rattle.theory_poly.proofs.ContentLaws.{kept_divided}
use Rattle.theory_poly.proofs.QuotientLaws.{lowest_by_division, carries_lowest, carries_quotient_wide}

-- what was gathered, over the right number
pub top_of_sum : (q r : Quotient) (n m : ℤ) (a b all x : List Monomial) (k : ℕ) → n ≡ pos r.below → m ≡ pos q.below → a ≡ q.top → b ≡ r.top
    → IsGathered (sum_of (scaled n a) (scaled m b)) k all → x ≡ all → AreSame x (sum_of_quotients q r).top
top_of_sum q r n m a b all x k is_n is_m is_a is_b g is =
    subst (λ z. AreSame z (sum_of_quotients q r).top) (sym is)
    (subst₂ (λ y z. AreSame all (sum_of y z)) (ap₂ scaled is_n is_a) (ap₂ scaled is_m is_b) g.ordered.same)

turned_number : (n : ℕ) → negsuc 0 *ℤ pos n ≡ neg_ℤ (pos n)
turned_number n = omega (arith, ints)

turned_multiple : (n : ℕ) (us : List Monomial) → AreSame (scaled (neg_ℤ (pos n)) us) (scaled (negsuc 0) (scaled (pos n) us))
turned_multiple n us =
    subst (λ z. AreSame (scaled z us) (scaled (negsuc 0) (scaled (pos n) us))) (turned_number n)
    (same_turned (scaled (negsuc 0) (scaled (pos n) us)) (scaled (negsuc 0 *ℤ pos n) us) (scaled_twice (negsuc 0) (pos n) us))

pub top_of_difference : (q r : Quotient) (n m : ℤ) (a b all x : List Monomial) (k : ℕ) → n ≡ pos r.below → m ≡ neg_ℤ (pos q.below) → a ≡ q.top → b ≡ r.top
    → IsGathered (sum_of (scaled n a) (scaled m b)) k all → x ≡ all → AreSame x (difference_of_quotients q r).top
top_of_difference q r n m a b all x k is_n is_m is_a is_b g is =
    let first : List Monomial = scaled (pos r.below) q.top in
    let second : List Monomial = scaled (pos q.below) r.top in
    subst (λ z. AreSame z (difference_of first second)) (sym is)
    (same_trans all (sum_of first (scaled (neg_ℤ (pos q.below)) r.top)) (difference_of first second)
    (subst₂ (λ y z. AreSame all (sum_of y z)) (ap₂ scaled is_n is_a) (ap₂ scaled is_m is_b) g.ordered.same)
    (sum_same first (scaled (neg_ℤ (pos q.below)) r.top) first (scaled (negsuc 0) second) (same_itself first) (turned_multiple q.below r.top)))

pub top_of_product : (q r : Quotient) (a b all x : List Monomial) (k : ℕ) → a ≡ q.top → b ≡ r.top → IsGathered (product_of a b) k all → x ≡ all
    → AreSame x (product_of_quotients q r).top
top_of_product q r a b all x k is_a is_b g is =
    subst (λ z. AreSame z (product_of_quotients q r).top) (sym is) (subst₂ (λ y z. AreSame all (product_of y z)) is_a is_b g.ordered.same)

pub answers_lowest : (x ts : List Monomial) (p b : ℕ) (result : Result Quotient Limit) → AreSame x ts → p ≡ b → IfOk result (IsLowestOf (quotient_of x p))
    → IfOk result (IsLowestOf (quotient_of ts b))
answers_lowest x ts p b result same is h = subst (λ n. IfOk result (IsLowestOf (quotient_of ts n))) is (carries_lowest x ts p result same h)

pub answers_lowest_wide : (x ts : List Monomial) (p b : ℕ) (result : Result Quotient Limit) → AreSame x ts → p ≡ b →
    WideWhere (IsQuotientBeyond (quotient_of x p)) result
    → WideWhere (IsQuotientBeyond (quotient_of ts b)) result
answers_lowest_wide x ts p b result same is h = subst (λ n. WideWhere (IsQuotientBeyond (quotient_of ts n)) result) is
    (carries_quotient_wide x ts p result same h)

-- a polynomial over a number, divided in place
pub new_is_kept : (ts r y : List Monomial) (b g m : ℕ) → IsKept ts → b ≤ bound → 0 < b → 0 < g → y ≡ ts → IsGreatestWith b y g →
    scaled (pos g) r ≡ ts → m ≡ b / g
    → IsKeptQuotient (quotient_of r m)
new_is_kept ts r y b g m kept small some positive same h times is = record {
  lowest = (lowest_by_division ts r b g m kept.ordered some (subst (λ z. IsGreatestWith b z g) same h) times is).lowest;
  within = record {
    top = (kept_divided g r ts positive times kept).within;
    below = let less = div-le_self b g in omega (arith, less, small, is);
  };
}
