-- The truth of a formula reads the values of the symbols that occur in it, and no others.
use Rattle.std.proofs.Common.{◌≡◌, ℕ, zero, suc, List, [], ◌∷◌, get_or, refl, ap, ap₂, arith, inl, inr}
use Rattle.std.specs.Prelude.{◌&&◌, ◌||◌}
use Rattle.theory_meaning.specs.Fraction.{IsSame, power_of}
use Rattle.theory_meaning.proofs.FractionLaws.{Equals, exact, sums, products}
use Rattle.theory_meaning.proofs.ValueLaws.{power_respects}
use Rattle.theory_formula.specs.Signs.{has}
use Rattle.theory_polynomial.specs.Polynomial.{Monomial, degree_in, IsFreeOf}
use Rattle.theory_polynomial.specs.PolynomialValue.{Values, first_of, rest_of, symbol_at, power_product, polynomial_at}
use Rattle.theory_formula.specs.Formula.{Formula, Formulas, always, never, atom, conjunction, disjunction, none, more, sign_at, truth_at, all_by, some_by, reading_at}
use Rattle.theory_formula.specs.Symbols.{SomeAtomAmong, AgreeOnSymbols}
use Rattle.theory_formula.proofs.ConditionLaws.{same_sign}

-- powers and products of powers
first_power : (n : ℕ) (p q : Values) → ((n ≡ 0 → ⊥) → IsSame (first_of p) (first_of q)) → Equals (power_of (first_of p) n) (power_of (first_of q) n)
first_power zero p q h = exact refl
first_power (suc n) p q h = record { is = power_respects (first_of p) (first_of q) (suc n) (h (λ e. absurd (omega (arith, e)))) }

powers_read : (e : List ℕ) (p q : Values) → ((y : ℕ) → (get_or e y 0 ≡ 0 → ⊥) → IsSame (symbol_at y p) (symbol_at y q))
    → Equals (power_product e p) (power_product e q)
powers_read [] p q h = exact refl
powers_read (n ∷ e) p q h = products (first_power n p q (h zero)) (powers_read e (rest_of p) (rest_of q) (λ y. h (suc y)))

-- the value and the sign of a polynomial
own_degree : (y : ℕ) (t : Monomial) (ts : List Monomial) → degree_in y (t ∷ ts) ≡ 0 → get_or t.powers y 0 ≡ 0
own_degree y t ts h = omega (arith, h)

rest_degree : (y : ℕ) (t : Monomial) (ts : List Monomial) → degree_in y (t ∷ ts) ≡ 0 → degree_in y ts ≡ 0
rest_degree y t ts h = omega (arith, h)

value_reads : (P : List Monomial) (p q : Values) → ((y : ℕ) → (degree_in y P ≡ 0 → ⊥) → IsSame (symbol_at y p) (symbol_at y q))
    → Equals (polynomial_at P p) (polynomial_at P q)
value_reads [] p q h = exact refl
value_reads (t ∷ ts) p q h =
    sums (products (exact refl) (powers_read t.powers p q (λ y n. h y (λ e. n (own_degree y t ts e)))))
    (value_reads ts p q (λ y n. h y (λ e. n (rest_degree y t ts e))))

pub sign_reads : (P : List Monomial) (p q : Values) → ((y : ℕ) → (degree_in y P ≡ 0 → ⊥) → IsSame (symbol_at y p) (symbol_at y q))
    → sign_at P p ≡ sign_at P q
sign_reads P p q h = same_sign (polynomial_at P p) (polynomial_at P q) (value_reads P p q h)

-- the truth of a formula
module _ (p q : Values) where
  mutual
    pub truth_reads : (F : Formula) → AgreeOnSymbols F p q → truth_at F p ≡ truth_at F q
    truth_reads always h = refl
    truth_reads never h = refl
    truth_reads (atom P S) h = ap (has S) (sign_reads P p q h)
    truth_reads (conjunction Fs) h = all_read Fs h
    truth_reads (disjunction Fs) h = some_read Fs h

    all_read : (Fs : Formulas) → ((x : ℕ) → SomeAtomAmong (λ P S. ¬ IsFreeOf x P) Fs → IsSame (symbol_at x p) (symbol_at x q))
        → all_by (reading_at p) Fs ≡ all_by (reading_at q) Fs
    all_read none h = refl
    all_read (more F Fs) h = ap₂ ◌&&◌ (truth_reads F (λ x o. h x (inl o))) (all_read Fs (λ x o. h x (inr o)))

    some_read : (Fs : Formulas) → ((x : ℕ) → SomeAtomAmong (λ P S. ¬ IsFreeOf x P) Fs → IsSame (symbol_at x p) (symbol_at x q))
        → some_by (reading_at p) Fs ≡ some_by (reading_at q) Fs
    some_read none h = refl
    some_read (more F Fs) h = ap₂ ◌||◌ (truth_reads F (λ x o. h x (inl o))) (some_read Fs (λ x o. h x (inr o)))
