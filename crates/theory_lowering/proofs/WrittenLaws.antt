-- The claim that is written for a formula is true where the formula is: the values of its polynomials.
use Rattle.std.proofs.Common.{◌≡◌, ℕ, zero, suc, ◌+◌, ◌-◌, ◌<◌, ◌≤◌, ℤ, pos, negsuc, neg_ℤ, ◌*ℤ◌, Bool, true, false, List, [], ◌∷◌, ◌++◌, length, refl, sym, ap, ap₂, ◌∙◌, subst, arith, unsigned_abs}
use Rattle.std.specs.Prelude.{if◌then◌else◌, ◌==◌, ◌&&◌, ◌||◌, nat_lt, int_lt, slice_index}
use Rattle.std.proofs.lemmas.Bool.Decides.{nat_tests}
use Rattle.std.proofs.lemmas.Int.{ints}
use Rattle.theory_meaning.specs.Fraction.{Fraction, whole, IsSame, sum_of, difference_of, product_of, opposite_of, power_of}
use Rattle.theory_meaning.specs.Point.{Name, Point, value_at}
use Rattle.theory_meaning.specs.Tree.{Expr, number, symbol, sum, difference, opposite, product, power, Claim, Claims}
use Rattle.theory_meaning.specs.Tree as claim
use Rattle.theory_meaning.specs.Truth.{value_of, holds, truth_of, all_of, some_of}
use Rattle.theory_meaning.proofs.ValueLaws.{product-swap, product_assoc, difference-is, sum-zero_right}
use Rattle.theory_formula.specs.declared.signs.Signs.{Signs}
use Rattle.theory_formula.specs.declared.signs.Signs.TheVariants as set
use Rattle.theory_polynomial.specs.Polynomial.{Monomial, degree_in}
use Rattle.theory_polynomial.specs.PolynomialValue.{power_product, term_at, polynomial_at}
use Rattle.theory_formula.specs.Signs.{has, signs_of}
use Rattle.theory_formula.specs.Formula.{Formula, Formulas, always, never, atom, conjunction, disjunction, none, more, truth_by, all_by, some_by, reading_at, sign_at, EachAtom, EachAtomOfAll}
use Rattle.theory_lowering.specs.Lowered.{values_of}
use Rattle.theory_lowering.specs.WrittenClaim.{rel_of, small_power, power_factors, factors_of, product_from, multiple_of, term_of, sum_from, polynomial_of, both_of, either_of, written_claim, written_claims}
use Rattle.theory_formula.specs.Symbols.{IsNamed}
use Rattle.theory_meaning.proofs.FractionLaws.{Equals, exact, back, along, sums, sum_assoc, one_times, power_sum, turned_times}
use Rattle.theory_formula.proofs.ConditionLaws.{same_sign}
use Rattle.theory_formula.proofs.FormulaLaws.{sign_of_difference}

times_one : (q : Fraction) → product_of q (whole (pos 1)) ≡ q
times_one q = product-swap q (whole (pos 1)) ∙ one_times q

-- the value of factors
factors_value : List Expr → Point → Fraction
factors_value [] p = whole (pos 1)
factors_value (v ∷ vs) p = product_of (value_of v p) (factors_value vs p)

product_value : (u : Expr) (vs : List Expr) (p : Point) → value_of (product_from u vs) p ≡ product_of (value_of u p) (factors_value vs p)
unfolding factors_value
product_value u [] p = sym (times_one (value_of u p))
product_value u (v ∷ vs) p = product_value (product u v) vs p ∙ product_assoc (value_of u p) (value_of v p) (factors_value vs p)

factors_value-append : (us vs : List Expr) (p : Point) → factors_value (us ++ vs) p ≡ product_of (factors_value us p) (factors_value vs p)
unfolding factors_value
factors_value-append [] vs p = sym (one_times (factors_value vs p))
factors_value-append (u ∷ us) vs p =
    ap (product_of (value_of u p)) (factors_value-append us vs p) ∙ sym (product_assoc (value_of u p) (factors_value us p) (factors_value vs p))

small_power_value : (x : Name) (n : ℕ) (p : Point) → factors_value (small_power x n) p ≡ power_of (value_at p x) n
unfolding factors_value
small_power_value x zero p = refl
small_power_value x (suc zero) p = product-swap (value_at p x) (whole (pos 1))
small_power_value x (suc (suc n)) p = times_one (power_of (value_at p x) (suc (suc n)))

eighth : (v : Fraction) (n : ℕ) → 8 < n → product_of (power_of v 8) (power_of v (n - 8)) ≡ power_of v n
eighth v n h = sym (power_sum v 8 (n - 8)) ∙ ap (power_of v) (let e : 8 + (n - 8) ≡ n = omega arith in e)

above_eight : (n : ℕ) → nat_lt 8 n ≡ true → 8 < n
above_eight n h = grind (arith, nat_tests)

power_factors_by : (x : Name) (n : ℕ) (p : Point) (b : Bool) → nat_lt 8 n ≡ b
    → factors_value (if b then power (symbol x) 8 ∷ small_power x (n - 8) else small_power x n) p ≡ power_of (value_at p x) n
unfolding factors_value
power_factors_by x n p true h =
    ap (product_of (power_of (value_at p x) 8)) (small_power_value x (n - 8) p) ∙ eighth (value_at p x) n (above_eight n h)
power_factors_by x n p false h = small_power_value x n p

power_factors_value : (x : Name) (n : ℕ) (p : Point) → factors_value (power_factors x n) p ≡ power_of (value_at p x) n
power_factors_value x n p = power_factors_by x n p (nat_lt 8 n) refl

-- exponents past the names are 0
EndsWith : ℕ → List ℕ → Type 0
EndsWith n e = (k : ℕ) → n ≤ k → slice_index e k ≡ 0

power_product_past : (e : List ℕ) → EndsWith 0 e → power_product e [] ≡ whole (pos 1)
unfolding EndsWith
power_product_past [] h = refl
power_product_past (n ∷ e) h =
    let first : n ≡ 0 = h 0 (omega arith) in
    ap (λ m. product_of (power_of (whole (pos 0)) m) (power_product e [])) first ∙ one_times (power_product e [])
    ∙ power_product_past e (λ k _. h (suc k) (omega arith))

-- the value of the powers of a term
powers_value : (ns : List Name) (e : List ℕ) (p : Point) → EndsWith (length ns) e → factors_value (factors_of ns e) p ≡ power_product e (values_of ns p)
unfolding EndsWith factors_value
powers_value [] e p h = sym (power_product_past e (λ k _. h k (omega arith)))
powers_value (x ∷ ns) [] p h = refl
powers_value (x ∷ ns) (n ∷ e) p h =
    factors_value-append (power_factors x n) (factors_of ns e) p
    ∙ ap₂ product_of (power_factors_value x n p) (powers_value ns e p (λ k small. h (suc k) (omega (arith, small))))

is_one : (n : ℕ) → (n == 1) ≡ true → n ≡ 1
is_one n h = grind (arith, nat_tests)

multiple_by : (n : ℕ) (u : Expr) (us : List Expr) (p : Point) (b : Bool) → (n == 1) ≡ b
    → value_of (if b then product_from u us else product_from (number (whole (pos n))) (u ∷ us)) p ≡ product_of (whole (pos n)) (factors_value (u ∷ us) p)
unfolding factors_value
multiple_by n u us p true h =
    product_value u us p ∙ sym (one_times (factors_value (u ∷ us) p)) ∙ ap (λ m. product_of (whole (pos m)) (factors_value (u ∷ us) p)) (sym (is_one n h))
multiple_by n u us p false h = product_value (number (whole (pos n))) (u ∷ us) p

multiple_value : (n : ℕ) (us : List Expr) (p : Point) → value_of (multiple_of n us) p ≡ product_of (whole (pos n)) (factors_value us p)
unfolding factors_value
multiple_value n [] p = sym (times_one (whole (pos n)))
multiple_value n (u ∷ us) p = multiple_by n u us p (n == 1) refl

term_value : (ns : List Name) (t : Monomial) (p : Point) → EndsWith (length ns) t.powers
    → value_of (term_of ns t) p ≡ product_of (whole (pos (unsigned_abs t.coefficient))) (power_product t.powers (values_of ns p))
term_value ns t p h =
    multiple_value (unsigned_abs t.coefficient) (factors_of ns t.powers) p
    ∙ ap (product_of (whole (pos (unsigned_abs t.coefficient)))) (powers_value ns t.powers p h)

-- with its sign
size_below : (c : ℤ) → int_lt c (pos 0) ≡ true → neg_ℤ (pos (unsigned_abs c)) ≡ c
size_below c h = grind (arith, ints)

size_above : (c : ℤ) → int_lt c (pos 0) ≡ false → pos (unsigned_abs c) ≡ c
size_above c h = grind (arith, ints)

turned_number : (n : ℤ) → negsuc 0 *ℤ n ≡ neg_ℤ n
turned_number n = omega (arith, ints)

opposite_times : (n : ℤ) (q : Fraction) → opposite_of (product_of (whole n) q) ≡ product_of (whole (neg_ℤ n)) q
opposite_times n q =
    sym (turned_times (product_of (whole n) q)) ∙ sym (product_assoc (whole (negsuc 0)) (whole n) q) ∙ ap (λ c. product_of (whole c) q) (turned_number n)

signed_term : (ns : List Name) (t : Monomial) (p : Point) (b : Bool) → int_lt t.coefficient (pos 0) ≡ b → EndsWith (length ns) t.powers
    → Equals (if b then opposite_of (value_of (term_of ns t) p) else value_of (term_of ns t) p) (term_at t (values_of ns p))
signed_term ns t p true is h =
    let g : Fraction = power_product t.powers (values_of ns p) in
    let n : ℤ = pos (unsigned_abs t.coefficient) in
    exact (ap opposite_of (term_value ns t p h) ∙ opposite_times n g ∙ ap (λ c. product_of (whole c) g) (size_below t.coefficient is))
signed_term ns t p false is h =
    let g : Fraction = power_product t.powers (values_of ns p) in
    exact (term_value ns t p h ∙ ap (λ c. product_of (whole c) g) (size_above t.coefficient is))

value_of_more : (u w : Expr) (p : Point) (b : Bool)
    → value_of (if b then difference u w else sum u w) p ≡ sum_of (value_of u p) (if b then opposite_of (value_of w p) else value_of w p)
value_of_more u w p true = difference-is (value_of u p) (value_of w p)
value_of_more u w p false = refl

value_of_first : (w : Expr) (p : Point) (b : Bool) → value_of (if b then opposite w else w) p ≡ (if b then opposite_of (value_of w p) else value_of w p)
value_of_first w p true = refl
value_of_first w p false = refl

-- no term has an exponent past the names
AllEnd : ℕ → List Monomial → Type 0
AllEnd n [] = Unit {0}
AllEnd n (t ∷ ts) = EndsWith n t.powers × AllEnd n ts

all_end : (n : ℕ) (ts : List Monomial) → ((x : ℕ) → n ≤ x → degree_in x ts ≡ 0) → AllEnd n ts
unfolding AllEnd EndsWith
all_end n [] h = tt
all_end n (t ∷ ts) h = (λ x past. let free = h x past in omega (arith, free), all_end n ts (λ x past. let free = h x past in omega (arith, free)))

-- the value of a sum of terms
sum_value : (ns : List Name) (u : Expr) (ts : List Monomial) (p : Point) → AllEnd (length ns) ts
    → Equals (value_of (sum_from ns u ts) p) (sum_of (value_of u p) (polynomial_at ts (values_of ns p)))
unfolding AllEnd
sum_value ns u [] p h = back (record { is = sum-zero_right (value_of u p) })
sum_value ns u (t ∷ ts) p h =
    let b : Bool = int_lt t.coefficient (pos 0) in
    let w : Expr = term_of ns t in
    let rest : Fraction = polynomial_at ts (values_of ns p) in
    let both : Equals (value_of (if b then difference u w else sum u w) p) (sum_of (value_of u p) (term_at t (values_of ns p))) =
    along (exact (value_of_more u w p b)) (sums (exact {q = value_of u p} refl) (signed_term ns t p b refl h.0)) in
    along (sum_value ns (if b then difference u w else sum u w) ts p h.1)
    (along (sums both (exact {q = rest} refl)) (exact (sum_assoc (value_of u p) (term_at t (values_of ns p)) rest)))

pub polynomial_value : (ns : List Name) (ts : List Monomial) (p : Point) → ((x : ℕ) → length ns ≤ x → degree_in x ts ≡ 0)
    → Equals (value_of (polynomial_of ns ts) p) (polynomial_at ts (values_of ns p))
unfolding AllEnd
polynomial_value ns [] p h = exact refl
polynomial_value ns (t ∷ ts) p h =
    let ends : AllEnd (length ns) (t ∷ ts) = all_end (length ns) (t ∷ ts) h in
    let b : Bool = int_lt t.coefficient (pos 0) in
    let w : Expr = term_of ns t in
    let rest : Fraction = polynomial_at ts (values_of ns p) in
    along (sum_value ns (if b then opposite w else w) ts p ends.1)
    (sums (along (exact (value_of_first w p b)) (signed_term ns t p b refl ends.0)) (exact {q = rest} refl))

-- the truth of an atom
signs_of_rel : (S : Signs) → signs_of (rel_of S) ≡ S
signs_of_rel set.Neg = refl
signs_of_rel set.Zero = refl
signs_of_rel set.Pos = refl
signs_of_rel set.NotPos = refl
signs_of_rel set.NonZero = refl
signs_of_rel set.NotNeg = refl

less_zero : (q : Fraction) → IsSame (difference_of q (whole (pos 0))) q
less_zero q = subst (λ z. IsSame z q) (sym (difference-is q (whole (pos 0)))) (sum-zero_right q)

atom_truth : (ns : List Name) (P : List Monomial) (S : Signs) (p : Point) → IsNamed ns P S
    → holds (rel_of S) (value_of (polynomial_of ns P) p) (whole (pos 0)) ≡ has S (sign_at P (values_of ns p))
atom_truth ns P S p h =
    let v : Fraction = value_of (polynomial_of ns P) p in
    let left : Equals (difference_of v (whole (pos 0))) v = record { is = less_zero v } in
    sym (sign_of_difference (rel_of S) v (whole (pos 0)))
    ∙ ap₂ has (signs_of_rel S) (same_sign (difference_of v (whole (pos 0))) (polynomial_at P (values_of ns p)) (along left (polynomial_value ns P p h)))

-- the truth of lists of claims
and_true : (b : Bool) → b ≡ (b && true)
and_true true = refl
and_true false = refl

or_false : (b : Bool) → b ≡ (b || false)
or_false true = refl
or_false false = refl

both_truth : (cs : Claims) (p : Point) → truth_of (both_of cs) p ≡ all_of cs p
both_truth claim.none p = refl
both_truth (claim.more c claim.none) p = and_true (truth_of c p)
both_truth (claim.more c (claim.more d cs)) p = refl

either_truth : (cs : Claims) (p : Point) → truth_of (either_of cs) p ≡ some_of cs p
either_truth claim.none p = refl
either_truth (claim.more c claim.none) p = or_false (truth_of c p)
either_truth (claim.more c (claim.more d cs)) p = refl

-- the written claim has the truth of the formula
mutual
  pub written_truth : (ns : List Name) (F : Formula) (p : Point) → EachAtom (IsNamed ns) F
      → truth_of (written_claim ns F) p ≡ truth_by (reading_at (values_of ns p)) F
  written_truth ns always p h = refl
  written_truth ns never p h = refl
  written_truth ns (atom P S) p h = atom_truth ns P S p h
  written_truth ns (conjunction Fs) p h = both_truth (written_claims ns Fs) p ∙ written_all ns Fs p h
  written_truth ns (disjunction Fs) p h = either_truth (written_claims ns Fs) p ∙ written_some ns Fs p h

  written_all : (ns : List Name) (Fs : Formulas) (p : Point) → EachAtomOfAll (IsNamed ns) Fs
      → all_of (written_claims ns Fs) p ≡ all_by (reading_at (values_of ns p)) Fs
  written_all ns none p h = refl
  written_all ns (more F Fs) p h = ap₂ ◌&&◌ (written_truth ns F p h.0) (written_all ns Fs p h.1)

  written_some : (ns : List Name) (Fs : Formulas) (p : Point) → EachAtomOfAll (IsNamed ns) Fs
      → some_of (written_claims ns Fs) p ≡ some_by (reading_at (values_of ns p)) Fs
  written_some ns none p h = refl
  written_some ns (more F Fs) p h = ap₂ ◌||◌ (written_truth ns F p h.0) (written_some ns Fs p h.1)
