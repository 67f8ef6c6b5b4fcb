-- Facts of all atoms of a formula and of some atom.
use Rattle.std.proofs.Common.{◌≡◌, ℕ, zero, suc, ◌<◌, ◌≤◌, List, [], ◌∷◌, get_or, refl, ap, ap₂, arith, inl, inr}
use Rattle.std.specs.Prelude.{nat_lt, ◌&&◌, ◌||◌}
use Rattle.std.proofs.lemmas.Bool.{cases_Bool}
use Rattle.theory_formula.specs.declared.signs.Signs.{Signs}
use Rattle.theory_polynomial.specs.Polynomial.{Monomial, degree_in, greatest_of, greatest_exponent_of, IsFreeOf}
use Rattle.theory_polynomial.specs.PolynomialValue.{Values}
use Rattle.theory_formula.specs.Signs.{has}
use Rattle.theory_formula.specs.Formula.{Formula, Formulas, always, never, atom, conjunction, disjunction, none, more, sign_at, truth_at, all_by, some_by, reading_at, negated, negated_all, EachAtom, EachAtomOfAll}
use Rattle.theory_formula.specs.SignCondition.{IsAtomPolynomial, HasSymbol}
use Rattle.theory_formula.specs.Symbols.{SomeAtom, SomeAtomAmong, Occurs, IsFree, IsProper}

-- what follows from two facts of each atom
module _ (Q R T : List Monomial → Signs → Type 0) (follows : (P : List Monomial) (S : Signs) → Q P S → R P S → T P S) where
  mutual
    pub each_of_two : (F : Formula) → EachAtom Q F → EachAtom R F → EachAtom T F
    each_of_two always h k = tt
    each_of_two never h k = tt
    each_of_two (atom P S) h k = follows P S h k
    each_of_two (conjunction Fs) h k = all_of_two Fs h k
    each_of_two (disjunction Fs) h k = all_of_two Fs h k

    all_of_two : (Fs : Formulas) → EachAtomOfAll Q Fs → EachAtomOfAll R Fs → EachAtomOfAll T Fs
    all_of_two none h k = tt
    all_of_two (more F Fs) h k = (each_of_two F h.0 k.0, all_of_two Fs h.1 k.1)

-- where each atom's polynomial has the same sign the truth is the same
module _ (p q : Values) where
  mutual
    pub same_signs : (F : Formula) → EachAtom (λ P S. sign_at P p ≡ sign_at P q) F → truth_at F p ≡ truth_at F q
    same_signs always h = refl
    same_signs never h = refl
    same_signs (atom P S) h = ap (has S) h
    same_signs (conjunction Fs) h = all_alike Fs h
    same_signs (disjunction Fs) h = some_alike Fs h

    all_alike : (Fs : Formulas) → EachAtomOfAll (λ P S. sign_at P p ≡ sign_at P q) Fs → all_by (reading_at p) Fs ≡ all_by (reading_at q) Fs
    all_alike none h = refl
    all_alike (more F Fs) h = ap₂ ◌&&◌ (same_signs F h.0) (all_alike Fs h.1)

    some_alike : (Fs : Formulas) → EachAtomOfAll (λ P S. sign_at P p ≡ sign_at P q) Fs → some_by (reading_at p) Fs ≡ some_by (reading_at q) Fs
    some_alike none h = refl
    some_alike (more F Fs) h = ap₂ ◌||◌ (same_signs F h.0) (some_alike Fs h.1)

-- negation keeps the polynomials
module _ (Q : List Monomial → Type 0) where
  mutual
    pub negated_each : (F : Formula) → EachAtom (λ P S. Q P) F → EachAtom (λ P S. Q P) (negated F)
    negated_each always h = tt
    negated_each never h = tt
    negated_each (atom P S) h = h
    negated_each (conjunction Fs) h = negated_each_of Fs h
    negated_each (disjunction Fs) h = negated_each_of Fs h

    negated_each_of : (Fs : Formulas) → EachAtomOfAll (λ P S. Q P) Fs → EachAtomOfAll (λ P S. Q P) (negated_all Fs)
    negated_each_of none h = tt
    negated_each_of (more F Fs) h = (negated_each F h.0, negated_each_of Fs h.1)

-- a formula without the symbols from some one on has them in no atom
module _ (n : ℕ) where
  mutual
    pub each_is_over : (F : Formula) → ((x : ℕ) → n ≤ x → IsFree x F) → EachAtom (λ P S. (x : ℕ) → n ≤ x → IsFreeOf x P) F
    each_is_over always h = tt
    each_is_over never h = tt
    each_is_over (atom P S) h = h
    each_is_over (conjunction Fs) h = all_are_over Fs h
    each_is_over (disjunction Fs) h = all_are_over Fs h

    all_are_over : (Fs : Formulas) → ((x : ℕ) → n ≤ x → EachAtomOfAll (λ P S. IsFreeOf x P) Fs)
        → EachAtomOfAll (λ P S. (x : ℕ) → n ≤ x → IsFreeOf x P) Fs
    all_are_over none h = tt
    all_are_over (more F Fs) h = (each_is_over F (λ x l. (h x l).0), all_are_over Fs (λ x l. (h x l).1))

-- a symbol that doesn't occur is in no atom
no_degree : (n : ℕ) → ((n ≡ 0 → ⊥) → ⊥) → n ≡ 0
no_degree zero h = refl
no_degree (suc n) h = absurd (h (λ e. absurd (omega (arith, e))))

module _ (x : ℕ) where
  mutual
    pub free_unless : (F : Formula) → (Occurs x F → ⊥) → IsFree x F
    free_unless always h = tt
    free_unless never h = tt
    free_unless (atom P S) h = no_degree (degree_in x P) h
    free_unless (conjunction Fs) h = all_free_unless Fs h
    free_unless (disjunction Fs) h = all_free_unless Fs h

    all_free_unless : (Fs : Formulas) → (SomeAtomAmong (λ P S. ¬ IsFreeOf x P) Fs → ⊥) → EachAtomOfAll (λ P S. IsFreeOf x P) Fs
    all_free_unless none h = tt
    all_free_unless (more F Fs) h = (free_unless F (λ o. h (inl o)), all_free_unless Fs (λ o. h (inr o)))

-- a symbol that occurs isn't one of which the formula is free
module _ (x : ℕ) where
  mutual
    pub occurs_not_free : (F : Formula) → Occurs x F → IsFree x F → ⊥
    occurs_not_free always o h = o
    occurs_not_free never o h = o
    occurs_not_free (atom P S) o h = o h
    occurs_not_free (conjunction Fs) o h = some_not_free Fs o h
    occurs_not_free (disjunction Fs) o h = some_not_free Fs o h

    some_not_free : (Fs : Formulas) → SomeAtomAmong (λ P S. ¬ IsFreeOf x P) Fs → EachAtomOfAll (λ P S. IsFreeOf x P) Fs → ⊥
    some_not_free none o h = o
    some_not_free (more F Fs) (inl o) h = occurs_not_free F o h.0
    some_not_free (more F Fs) (inr o) h = some_not_free Fs o h.1

-- a symbol with an exponent
in_powers : (e : List ℕ) → 0 < greatest_of e → (y : ℕ) × (get_or e y 0 ≡ 0 → ⊥)
in_powers [] h = absurd (omega (arith, h))
in_powers (n ∷ e) h = elim (cases_Bool (nat_lt 0 n)) [
  | inl own ↦ (zero, λ z. grind (arith, own, z))
  | inr none_here ↦ let later : 0 < greatest_of e = grind (arith, none_here, h) in let y = in_powers e later in (suc y.0, y.1)
]

some_symbol : (P : List Monomial) → HasSymbol P → (y : ℕ) × (degree_in y P ≡ 0 → ⊥)
some_symbol [] h = absurd (omega (arith, h))
some_symbol (t ∷ ts) h = elim (cases_Bool (nat_lt 0 (greatest_of t.powers))) [
  | inl own ↦
      let y = in_powers t.powers (grind (arith, own)) in
      let n : get_or t.powers y.0 0 ≡ 0 → ⊥ = y.1 in
      (y.0, λ z. n (omega (arith, z)))
  | inr none_here ↦
      let later : 0 < greatest_exponent_of ts = grind (arith, none_here, h) in
      let y = some_symbol ts later in
      let n : degree_in y.0 ts ≡ 0 → ⊥ = y.1 in
      (y.0, λ z. n (omega (arith, z)))
]

-- where a proper formula has an atom, some symbol occurs
mutual
  pub some_occurs : (F : Formula) → IsProper F → SomeAtom (λ P S. Unit {0}) F → (y : ℕ) × Occurs y F
  some_occurs always h o = absurd o
  some_occurs never h o = absurd o
  some_occurs (atom P S) h o = some_symbol P h.symbol
  some_occurs (conjunction Fs) h o = some_occurs_among Fs h o
  some_occurs (disjunction Fs) h o = some_occurs_among Fs h o

  some_occurs_among : (Fs : Formulas) → EachAtomOfAll (λ P S. IsAtomPolynomial P) Fs → SomeAtomAmong (λ P S. Unit {0}) Fs
      → (y : ℕ) × SomeAtomAmong (λ P S. ¬ IsFreeOf y P) Fs
  some_occurs_among none h o = absurd o
  some_occurs_among (more F Fs) h (inl o) = let y = some_occurs F h.0 o in (y.0, inl y.1)
  some_occurs_among (more F Fs) h (inr o) = let y = some_occurs_among Fs h.1 o in (y.0, inr y.1)
