-- Slope and base of a polynomial that is linear in a symbol: both are polynomials without the symbol, and give its sign.
use Rattle.std.proofs.Common.{◌≡◌, ℕ, zero, suc, ◌≤◌, max, length, Bool, true, false, List, [], ◌∷◌, get_or, set, refl, sym, ap, ap₂, ◌∙◌, subst, arith, inl, inr, replicate}
use Rattle.std.specs.Prelude.{◌==◌, nat_lt, filter, map, cond}
use Rattle.std.specs.Ordering.{nat_cmp, ordering_then}
use Rattle.std.specs.Cmp.{nat_cmp_is}
use Rattle.std.specs.Cmp.Lexicographic.{slice_cmp}
use Rattle.std.specs.declared.cmp.Ordering.{Ordering}
use Rattle.std.specs.declared.cmp.Ordering.TheVariants.{Equal}
use Rattle.std.proofs.lemmas.Bool.{cases_Bool}
use Rattle.theory_meaning.specs.declared.words.Sign.{Sign}
use Rattle.theory_meaning.specs.declared.words.Sign.TheVariants.{Minus, Zero, Plus}
use Rattle.theory_meaning.specs.Fraction.{Fraction, whole, sum_of as fraction_sum, product_of as fraction_product, power_of}
use Rattle.theory_formula.specs.Formula.{sign_at, truth_at}
use Rattle.theory_polynomial.specs.Polynomial.{Monomial, monomial, coefficient_at, Precedes, PrecedesFirst, IsPolynomial, exponent_of, degree_in, IsLinearIn, no_powers, greatest_of, greatest_exponent_of}
use Rattle.theory_polynomial.specs.PolynomialValue.{Values, first_of, rest_of, power_product, polynomial_at, part_of, slope_in}
use Rattle.theory_polynomial.proofs.FixedOrder.{precedes_rest}
use Rattle.theory_formula.proofs.ConditionLaws.{condition_truth, constant_from_first, zero_powers}
use Rattle.theory_formula.specs.SignCondition.{IsConstant, decided}
use Rattle.theory_formula.specs.Signs.{has}
use Rattle.theory_elimination.specs.Branches.{only}
use Rattle.theory_elimination.proofs.SignSums.{is_none}
use Rattle.theory_elimination.specs.TestPoint.{holds_symbol, is_constant, constant_sign}
use Rattle.theory_elimination.specs.Elimination.{with_value}

eq_of : (m n : ℕ) → m == n ≡ true → m ≡ n
eq_of m n h = grind (arith, h)

not_equal : (m n : ℕ) → m == n ≡ false → m ≡ n → ⊥
not_equal m n h e = grind (arith, h, e)

not_one : (n : ℕ) → n ≡ 0 → n == 1 ≡ false
not_one n h = ap (λ (m : ℕ). m == 1) h

not_above : (n : ℕ) → nat_lt 0 n ≡ false → n ≡ 0
not_above n h = grind (arith, h)

exactly_one : (n : ℕ) → nat_lt 0 n ≡ true → n ≤ 1 → n ≡ 1
exactly_one n h k = grind (arith, h, k)

rest_has : (m n : ℕ) → max m n ≡ 1 → (m ≡ 1 → ⊥) → n ≡ 1
rest_has m n h k = grind (arith, h, k)

-- two exponent lists that agree at a place are ordered as they are without it
same_first : (m n : ℕ) (f e : List ℕ) → m ≡ n → slice_cmp nat_cmp (m ∷ f) (n ∷ e) ≡ slice_cmp nat_cmp f e
same_first m n f e h =
    let tie : Equal ≡ nat_cmp m n = nat_cmp_is m n Equal h in
    ap (λ (o : Ordering). ordering_then o (slice_cmp nat_cmp f e)) (sym tie)

without_place : (x : ℕ) (f e : List ℕ) → length f ≡ length e → get_or f x 0 ≡ get_or e x 0
    → slice_cmp nat_cmp (set f x 0) (set e x 0) ≡ slice_cmp nat_cmp f e
without_place x [] [] l h = refl
without_place x [] (n ∷ e) l h = absurd (omega (arith, l))
without_place x (m ∷ f) [] l h = absurd (omega (arith, l))
without_place zero (m ∷ f) (n ∷ e) l h = same_first 0 0 f e refl ∙ sym (same_first m n f e h)
without_place (suc x) (m ∷ f) (n ∷ e) l h =
    ap (ordering_then (nat_cmp m n)) (without_place x f e (omega (arith, l)) h)

precedes_without : (x : ℕ) (e f : List ℕ) → length f ≡ length e → get_or f x 0 ≡ get_or e x 0 → Precedes e f → Precedes (set e x 0) (set f x 0)
precedes_without x e f l h k = without_place x f e l h ∙ k

set_length : (x : ℕ) (e : List ℕ) → length (set e x 0) ≡ length e
set_length x [] = refl
set_length zero (n ∷ e) = refl
set_length (suc x) (n ∷ e) = ap suc (set_length x e)

-- a term without the symbol
abbrev bare : ℕ → Monomial → Monomial
bare x t = monomial t.coefficient (set t.powers x 0)

-- the part behind a term: with the term, if it has the exponent
abbrev part_if : Bool → ℕ → ℕ → Monomial → List Monomial → List Monomial
part_if b x k t ts = map (bare x) (cond b (t ∷ filter (λ t. exponent_of x t == k) ts) (filter (λ t. exponent_of x t == k) ts))

part_first : (x k : ℕ) (e : List ℕ) (ts : List Monomial) → length e ≡ 32 → get_or e x 0 ≡ k → PrecedesFirst e ts → IsPolynomial ts
    → PrecedesFirst (set e x 0) (part_of x k ts)
part_first x k e [] l h p q = tt
part_first x k e (u ∷ us) l h p q =
    elim (cases_Bool (exponent_of x u == k)) [
      | inl own ↦
          let same : get_or u.powers x 0 ≡ k = eq_of (get_or u.powers x 0) k own in
          subst (λ (b : Bool). PrecedesFirst (set e x 0) (part_if b x k u us)) (sym own)
          (precedes_without x e u.powers (q.0.places ∙ sym l) (same ∙ sym h) p)
      | inr apart ↦
          subst (λ (b : Bool). PrecedesFirst (set e x 0) (part_if b x k u us)) (sym apart)
          (part_first x k e us l h (precedes_rest e u.powers us p q.1) q.2)
    ]

pub part_is_polynomial : (x k : ℕ) (ts : List Monomial) → IsPolynomial ts → IsPolynomial (part_of x k ts)
part_is_polynomial x k [] h = tt
part_is_polynomial x k (t ∷ ts) h =
    elim (cases_Bool (exponent_of x t == k)) [
      | inl own ↦
          let same : get_or t.powers x 0 ≡ k = eq_of (get_or t.powers x 0) k own in
          subst (λ (b : Bool). IsPolynomial (part_if b x k t ts)) (sym own) (
            record { nonzero = h.0.nonzero; places = set_length x t.powers ∙ h.0.places },
            part_first x k t.powers ts h.0.places same h.1 h.2,
            part_is_polynomial x k ts h.2,
          )
      | inr apart ↦
          subst (λ (b : Bool). IsPolynomial (part_if b x k t ts)) (sym apart) (part_is_polynomial x k ts h.2)
    ]

-- the value of a part doesn't change with the symbol
power_without : (x : ℕ) (v : Fraction) (e : List ℕ) (p : Values) → power_product (set e x 0) (with_value x v p) ≡ power_product (set e x 0) p
power_without x v [] p = refl
power_without zero v (n ∷ e) p = refl
power_without (suc x) v (n ∷ e) p = ap (fraction_product (power_of (first_of p) n)) (power_without x v e (rest_of p))

pub part_value : (x k : ℕ) (v : Fraction) (ts : List Monomial) (p : Values) →
    polynomial_at (part_of x k ts) (with_value x v p) ≡ polynomial_at (part_of x k ts) p
part_value x k v [] p = refl
part_value x k v (t ∷ ts) p =
    elim (cases_Bool (exponent_of x t == k)) [
      | inl own ↦
          subst (λ (b : Bool). polynomial_at (part_if b x k t ts) (with_value x v p) ≡ polynomial_at (part_if b x k t ts) p) (sym own)
          (ap₂ fraction_sum (ap (fraction_product (whole t.coefficient)) (power_without x v t.powers p)) (part_value x k v ts p))
      | inr apart ↦
          subst (λ (b : Bool). polynomial_at (part_if b x k t ts) (with_value x v p) ≡ polynomial_at (part_if b x k t ts) p) (sym apart) (part_value x k v ts p)
    ]

-- where the symbol doesn't occur there is no slope
pub no_part : (x : ℕ) (ts : List Monomial) → degree_in x ts ≡ 0 → slope_in x ts ≡ []
no_part x [] h = refl
no_part x (t ∷ ts) h =
    let own : exponent_of x t ≡ 0 = omega (arith, h) in
    let rest : degree_in x ts ≡ 0 = omega (arith, h) in
    ap (λ (b : Bool). part_if b x 1 t ts) (not_one (exponent_of x t) own) ∙ no_part x ts rest

pub no_slope : (x : ℕ) (P : List Monomial) → holds_symbol x P ≡ false → slope_in x P ≡ []
no_slope x P h = no_part x P (not_above (degree_in x P) h)

-- and where it does there is one
some_part : (x : ℕ) (ts : List Monomial) → degree_in x ts ≡ 1 → slope_in x ts ≡ [] → ⊥
some_part x [] h e = absurd (omega (arith, h))
some_part x (t ∷ ts) h e =
    elim (cases_Bool (exponent_of x t == 1)) [
      | inl own ↦ let f : part_if true x 1 t ts ≡ [] = ap (λ (b : Bool). part_if b x 1 t ts) (sym own) ∙ e in cc
      | inr apart ↦
          let other : exponent_of x t ≡ 1 → ⊥ = not_equal (exponent_of x t) 1 apart in
          let rest : degree_in x ts ≡ 1 = rest_has (exponent_of x t) (degree_in x ts) h other in
          some_part x ts rest (ap (λ (b : Bool). part_if b x 1 t ts) (sym apart) ∙ e)
    ]

pub some_slope : (x : ℕ) (P : List Monomial) → holds_symbol x P ≡ true → IsLinearIn x P → slope_in x P ≡ [] → ⊥
some_slope x P h l e = some_part x P (exactly_one (degree_in x P) h l) e

-- a constant slope has its sign at every point, and it isn't zero
pub only_own : (s : Sign) → has (only s) s ≡ true
only_own Minus = refl
only_own Zero = refl
only_own Plus = refl

pub only_has : (s t : Sign) → has (only s) t ≡ true → t ≡ s
only_has Minus Minus e = refl
only_has Minus Zero e = absurd cc
only_has Minus Plus e = absurd cc
only_has Zero Minus e = absurd cc
only_has Zero Zero e = refl
only_has Zero Plus e = absurd cc
only_has Plus Minus e = absurd cc
only_has Plus Zero e = absurd cc
only_has Plus Plus e = refl

pub constant_sign_is : (a : List Monomial) (p : Values) → IsPolynomial a → is_constant a ≡ true → sign_at a p ≡ constant_sign a
constant_sign_is a p h k =
    let none : IsConstant a = eq_of (greatest_exponent_of a) 0 k in
    let s = constant_sign a in
    let F = decided (has (only s) s) in
    let truth : truth_at F p ≡ has (only s) (sign_at a p) = condition_truth a (only s) F p h (inl (record { constant = none; written = refl })) in
    only_has s (sign_at a p) (sym truth ∙ ap (λ (b : Bool). truth_at (decided b) p) (only_own s))

zeros_of : (e : List ℕ) → length e ≡ 32 → greatest_of e ≡ 0 → e ≡ no_powers
zeros_of e h k = zero_powers e k ∙ ap (λ n. replicate n 0) h

pub constant_is_sloped : (a : List Monomial) → IsPolynomial a → is_constant a ≡ true → (a ≡ [] → ⊥) → constant_sign a ≡ Zero → ⊥
constant_is_sloped [] h k some e = some refl
constant_is_sloped (t ∷ ts) h k some e =
    let none : greatest_exponent_of (t ∷ ts) ≡ 0 = eq_of (greatest_exponent_of (t ∷ ts)) 0 k in
    let zeros : t.powers ≡ no_powers = zeros_of (t.powers) h.0.places (omega (arith, none)) in
    let value : coefficient_at (t ∷ ts) no_powers ≡ t.coefficient = (constant_from_first t ts h zeros).1 in
    h.0.nonzero (sym value ∙ is_none (coefficient_at (t ∷ ts) no_powers) e)
