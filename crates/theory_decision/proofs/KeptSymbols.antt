-- A formula in which only kept symbols occur has the same truth where these have the same values.
use Rattle.std.proofs.Common.{◌≡◌, ℕ, zero, suc, ◌<◌, ◌≤◌, ◌+◌, length, Bool, true, false, List, [], ◌∷◌, ◌++◌, get_or, refl, subst, arith, inl, inr}
use Rattle.std.specs.Prelude.{◌&&◌, ◌||◌, not, nat_lt, filter, cond, IsTrue}
use Rattle.std.specs.List.{list_any}
use Rattle.std.proofs.lemmas.Bool.{cases_Bool}
use Rattle.theory_polynomial.specs.Polynomial.{Monomial, degree_in, IsPolynomial, IsFreeOf}
use Rattle.theory_polynomial.specs.PolynomialValue.{Values}
use Rattle.theory_formula.specs.Formula.{Formula, Formulas, always, never, atom, conjunction, disjunction, none, more, truth_at, EachAtomOfAll}
use Rattle.theory_formula.specs.FormulaAtoms.{atoms_of, atoms_of_all}
use Rattle.theory_formula.specs.SignCondition.{IsAtomPolynomial}
use Rattle.theory_formula.specs.Symbols.{Occurs, SomeAtomAmong, IsProper}
use Rattle.theory_formula.proofs.ReadSymbols.{truth_reads}
use Rattle.theory_elimination.specs.TestPoint.{holds_symbol}
use Rattle.theory_elimination.proofs.AtomLists.{Row}
use Rattle.theory_decision.specs.Choice.{Symbols, is_one_of, occurs, symbols_from, others}
use Rattle.theory_decision.specs.Regions.{AgreeOn}

-- a test of some row
or_true : (a b : Bool) → b ≡ true → a || b ≡ true
or_true true b e = refl
or_true false b e = e

first_true : (a b : Bool) → a ≡ true → a || b ≡ true
first_true true b e = refl
first_true false b e = absurd cc

any_first : (t : Row → Bool) (rows others : List Row) → list_any t rows ≡ true → list_any t (rows ++ others) ≡ true
any_first t [] others e = absurd cc
any_first t (a ∷ rows) others e =
    elim (t a) as (λ b. b || list_any t rows ≡ true → b || list_any t (rows ++ others) ≡ true) [
      | true ↦ λ h. refl
      | false ↦ λ h. any_first t rows others h
    ] e

any_second : (t : Row → Bool) (rows others : List Row) → list_any t others ≡ true → list_any t (rows ++ others) ≡ true
any_second t [] others e = e
any_second t (a ∷ rows) others e = or_true (t a) (list_any t (rows ++ others)) (any_second t rows others e)

-- a symbol that occurs is seen in the list of atoms
holds : (n : ℕ) → (n ≡ 0 → ⊥) → nat_lt 0 n ≡ true
holds zero h = absurd (h refl)
holds (suc n) h = grind arith

module _ (x : ℕ) where
  mutual
    pub occurs_there : (F : Formula) → Occurs x F → occurs F x ≡ true
    occurs_there always h = absurd h
    occurs_there never h = absurd h
    occurs_there (atom P S) h = first_true (holds_symbol x P) false (holds (degree_in x P) h)
    occurs_there (conjunction Fs) h = occurs_among Fs h
    occurs_there (disjunction Fs) h = occurs_among Fs h

    occurs_among : (Fs : Formulas) → SomeAtomAmong (λ P S. ¬ IsFreeOf x P) Fs → list_any (λ (a : Row). holds_symbol x a.0) (atoms_of_all Fs) ≡ true
    occurs_among none h = absurd h
    occurs_among (more F Fs) (inl h) = any_first (λ a. holds_symbol x a.0) (atoms_of F) (atoms_of_all Fs) (occurs_there F h)
    occurs_among (more F Fs) (inr h) = any_second (λ a. holds_symbol x a.0) (atoms_of F) (atoms_of_all Fs) (occurs_among Fs h)

-- a polynomial has no symbol past the last place
past_places : (e : List ℕ) (y : ℕ) → length e ≤ y → get_or e y 0 ≡ 0
past_places [] y h = refl
past_places (n ∷ e) zero h = absurd (omega (arith, h))
past_places (n ∷ e) (suc y) h = past_places e y (omega (arith, h))

none_past : (P : List Monomial) (y : ℕ) → IsPolynomial P → 32 ≤ y → degree_in y P ≡ 0
none_past [] y h l = refl
none_past (t ∷ ts) y h l =
    let places = h.0.places in
    let own : get_or t.powers y 0 ≡ 0 = past_places t.powers y (omega (arith, places, l)) in
    let rest = none_past ts y h.2 l in
    omega (arith, own, rest)

pub below_last : (P : List Monomial) (y : ℕ) → IsPolynomial P → (degree_in y P ≡ 0 → ⊥) → y < 32
below_last P y h n = elim (cases_Bool (nat_lt y 32)) [
  | inl less ↦ grind (arith, less)
  | inr beyond ↦ absurd (n (none_past P y h (grind (arith, beyond))))
]

module _ (x : ℕ) where
  mutual
    pub symbol_below : (F : Formula) → IsProper F → Occurs x F → x < 32
    symbol_below always h o = absurd o
    symbol_below never h o = absurd o
    symbol_below (atom P S) h o = below_last P x h.canonical.ordered o
    symbol_below (conjunction Fs) h o = some_below Fs h o
    symbol_below (disjunction Fs) h o = some_below Fs h o

    some_below : (Fs : Formulas) → EachAtomOfAll (λ P S. IsAtomPolynomial P) Fs → SomeAtomAmong (λ P S. ¬ IsFreeOf x P) Fs → x < 32
    some_below none h o = absurd o
    some_below (more F Fs) h (inl o) = symbol_below F h.0 o
    some_below (more F Fs) h (inr o) = some_below Fs h.1 o

-- where nothing passes a test, each fails it
fails_each : (t : ℕ → Bool) (x n y : ℕ) → filter t (symbols_from x n) ≡ [] → x ≤ y → y < x + n → t y ≡ false
fails_each t x zero y e h k = absurd (omega (arith, h, k))
fails_each t x (suc n) y e h k =
    elim (t x) as (λ b. t x ≡ b → cond b (x ∷ filter t (symbols_from (suc x) n)) (filter t (symbols_from (suc x) n)) ≡ [] → t y ≡ false) [
      | true ↦ λ f e'. absurd cc
      | false ↦ λ f e'. elim (cases_Bool (nat_lt x y)) [
        | inl later ↦ let l : suc x ≤ y = grind (arith, later) in fails_each t (suc x) n y e' l (omega (arith, k))
        | inr same ↦ let s : x ≡ y = grind (arith, same, h) in subst (λ (z : ℕ). t z ≡ false) s f
      ]
    ] refl e

kept_or_not : (a b : Bool) → not a && b ≡ false → b ≡ true → IsTrue a
kept_or_not true b e h = refl
kept_or_not false b e h = absurd cc

-- where no other symbol occurs, each that does is kept
pub only_kept : (keep : Symbols) (S : Formula) (y : ℕ) → others keep S ≡ [] → y < 32 → occurs S y ≡ true → IsTrue (is_one_of keep y)
unfolding others
only_kept keep S y e h k =
    kept_or_not (is_one_of keep y) (occurs S y)
    (fails_each (λ x. not (is_one_of keep x) && occurs S x) 0 32 y e (omega arith) (omega (arith, h))) k

pub kept_alone : (keep : Symbols) (S : Formula) (y : ℕ) → IsProper S → others keep S ≡ [] → Occurs y S → IsTrue (is_one_of keep y)
kept_alone keep S y h e o = only_kept keep S y e (symbol_below y S h o) (occurs_there y S o)

pub leaf_reads : (keep : Symbols) (S : Formula) (p q : Values) → IsProper S → others keep S ≡ [] → AgreeOn keep p q → truth_at S p ≡ truth_at S q
leaf_reads keep S p q h e agree = truth_reads p q S (λ y o. agree y (kept_alone keep S y h e o))
