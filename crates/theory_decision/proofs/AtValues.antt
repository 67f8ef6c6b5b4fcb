-- A formula restricted to the values of all symbols but one has the truth of the formula there.
use Rattle.std.proofs.Common.{◌≡◌, ℕ, zero, suc, ◌<◌, ◌≤◌, ◌+◌, ◌-◌, ◌^◌, ◌⊎◌, pos, Bool, true, false, List, [], ◌∷◌, refl, sym, ap, ap₂, ◌∙◌, subst, arith, inl, inr}
use Rattle.std.specs.Prelude.{◌&&◌, ◌||◌, ◌==◌, not, nat_lt, filter, map, cond}
use Rattle.std.proofs.lemmas.Bool.{cases_Bool}
use Rattle.theory_meaning.specs.Fraction.{Fraction, den, IsSame}
use Rattle.theory_meaning.proofs.OrderLaws.{same_itself, same_turned, same_trans}
use Rattle.theory_formula.specs.declared.signs.Signs.{Signs}
use Rattle.theory_formula.specs.Signs.{has}
use Rattle.theory_polynomial.specs.Polynomial.{Monomial, degree_in, IsPolynomial, IsFreeOf, scaled}
use Rattle.theory_polynomial.specs.PolynomialValue.{Values, symbol_at, polynomial_at, part_of, restriction_step, IsRestriction, GivesValue}
use Rattle.theory_formula.specs.Formula.{Formula, Formulas, always, never, atom, conjunction, disjunction, none, more, sign_at, truth_at, all_by, some_by, reading_at, EachAtom, EachAtomOfAll}
use Rattle.theory_formula.specs.SignCondition.{IsAtomPolynomial}
use Rattle.theory_formula.proofs.ConditionLaws.{condition_truth, sign_of_own, sign_of_only}
use Rattle.theory_polynomial.proofs.FreeLaws.{lacks_is_free}
use Rattle.theory_polynomial.proofs.SignLaws.{restriction_free, restriction_sign}
use Rattle.theory_elimination.specs.Elimination.{with_value}
use Rattle.theory_formula.proofs.FreeTerms.{TermsLack, lack_append, lack_scaled, lack_other_part, free_terms, primitive_lacks}
use Rattle.theory_elimination.proofs.LineSigns.{gives_value}
use Rattle.theory_decision.proofs.AtomFacts.{each_of_two, each_is_over}
use Rattle.theory_decision.specs.Choice.{Symbols, is_one_of, symbols_from}
use Rattle.theory_formula.specs.Symbols.{IsProper}
use Rattle.theory_decision.specs.Witness.{IsOver, only_at, IsAtValues, IsFormulaAtValues, AreFormulasAtValues, other_values}
use Rattle.theory_formula.proofs.ReadSymbols.{sign_reads}
use Rattle.theory_decision.proofs.SearchTruth.{other_symbol}

-- a restriction adds no symbol
step_lacks : (z y : ℕ) (c : Fraction) (P : List Monomial) (i : ℕ) → TermsLack y P → TermsLack y (restriction_step z c P i)
step_lacks z y c P zero h = lack_other_part z y (degree_in z P) P h
step_lacks z y c P (suc i) h =
    lack_append y (scaled c.num (restriction_step z c P i)) (scaled (pos (den c ^ suc i)) (part_of z (degree_in z P - suc i) P))
    (lack_scaled y c.num (restriction_step z c P i) (step_lacks z y c P i h))
    (lack_scaled y (pos (den c ^ suc i)) (part_of z (degree_in z P - suc i) P) (lack_other_part z y (degree_in z P - suc i) P h))

restriction_stays_free : (z y : ℕ) (c : Fraction) (P m : List Monomial) → IsFreeOf y P → IsRestriction z c P m → IsFreeOf y m
restriction_stays_free z y c P m h w =
    lacks_is_free y m w.2 (primitive_lacks y (restriction_step z c P (degree_in z P)) m (step_lacks z y c P (degree_in z P) (free_terms y P h)) w)

abbrev pub Among : ℕ → List (ℕ × Fraction) → Type 0
Among y [] = ⊥
Among y (a ∷ vs) = (y ≡ a.0) ⊎ Among y vs

pub at_values_free : (y : ℕ) (vs : List (ℕ × Fraction)) (P r : List Monomial) → IsAtValues vs P r → IsFreeOf y P ⊎ Among y vs → IsFreeOf y r
at_values_free y [] P r w (inl h) = subst (IsFreeOf y) (sym w) h
at_values_free y [] P r w (inr h) = absurd h
at_values_free y (a ∷ vs) P r w (inl h) = at_values_free y vs w.0 r w.2 (inl (restriction_stays_free a.0 y a.1 P w.0 h w.1))
at_values_free y (a ∷ vs) P r w (inr (inl e)) =
    at_values_free y vs w.0 r w.2 (inl (subst (λ (z : ℕ). IsFreeOf z w.0) (sym e) (restriction_free a.0 a.1 P w.0 w.1)))
at_values_free y (a ∷ vs) P r w (inr (inr h)) = at_values_free y vs w.0 r w.2 (inr h)

pub at_values_polynomial : (vs : List (ℕ × Fraction)) (P r : List Monomial) → IsPolynomial P → IsAtValues vs P r → IsPolynomial r
at_values_polynomial [] P r h w = subst IsPolynomial (sym w) h
at_values_polynomial (a ∷ vs) P r h w = at_values_polynomial vs w.0 r w.1.2 w.2

-- its sign is the polynomial's where the symbols have these values
abbrev Have : Values → List (ℕ × Fraction) → Type 0
Have p [] = Unit {0}
Have p (a ∷ vs) = GivesValue a.0 a.1 p × Have p vs

restricted_sign : (z : ℕ) (c : Fraction) (P m : List Monomial) (p : Values) → IsRestriction z c P m → GivesValue z c p → sign_at m p ≡ sign_at P p
restricted_sign z c P m p w g =
    sign_of_only (polynomial_at m p) (sign_at P p) ((restriction_sign z c P m p (sign_at P p) w g).1 (sign_of_own (polynomial_at P p)))

at_values_sign : (vs : List (ℕ × Fraction)) (P r : List Monomial) (p : Values) → IsAtValues vs P r → Have p vs → sign_at r p ≡ sign_at P p
at_values_sign [] P r p w h = ap (λ (m : List Monomial). sign_at m p) w
at_values_sign (a ∷ vs) P r p w h = at_values_sign vs w.0 r p w.2 h.1 ∙ restricted_sign a.0 a.1 P w.0 p w.1 h.0

not_both : (a : Bool) → a ≡ true → a ≡ false → ⊥
not_both true e f = cc
not_both false e f = cc

or_true : (a b : Bool) → b ≡ true → a || b ≡ true
or_true true b e = refl
or_true false b e = e

wider : (t : ℕ → Bool) (x y : ℕ) (ys : Symbols) → is_one_of ys y ≡ true → is_one_of (cond (t x) (x ∷ ys) ys) y ≡ true
wider t x y ys e = elim (t x) as (λ b. is_one_of (cond b (x ∷ ys) ys) y ≡ true) [ true ↦ or_true (x == y) (is_one_of ys y) e | false ↦ e ]

first_one : (t : ℕ → Bool) (x y : ℕ) (ys : Symbols) → x ≡ y → t y ≡ true → is_one_of (cond (t x) (x ∷ ys) ys) y ≡ true
first_one t x y ys s e =
    let f : t x ≡ true = subst (λ (z : ℕ). t z ≡ true) (sym s) e in
    let g : x == y ≡ true = grind (arith, s) in
    ap (λ (b : Bool). is_one_of (cond b (x ∷ ys) ys) y) f ∙ ap (λ (b : Bool). b || is_one_of ys y) g

-- each symbol of the formula is the one or among the others
passes_each : (t : ℕ → Bool) (x n y : ℕ) → t y ≡ true → x ≤ y → y < x + n → is_one_of (filter t (symbols_from x n)) y ≡ true
passes_each t x zero y e h k = absurd (omega (arith, h, k))
passes_each t x (suc n) y e h k =
    elim (cases_Bool (nat_lt x y)) [
      | inl later ↦ let l : suc x ≤ y = grind (arith, later) in
          wider t x y (filter t (symbols_from (suc x) n)) (passes_each t (suc x) n y e l (omega (arith, k)))
      | inr same ↦ let s : x ≡ y = grind (arith, same, h) in first_one t x y (filter t (symbols_from (suc x) n)) s e
    ]

-- what fails a test isn't among what passes
is_not : (a b : ℕ) → (a ≡ b → ⊥) → a == b ≡ false
is_not a b n = elim (cases_Bool (a == b)) [ inl e ↦ absurd (n (grind (arith, e))) | inr e ↦ e ]

left_out : (t : ℕ → Bool) (x : ℕ) (xs : Symbols) → t x ≡ false → is_one_of (filter t xs) x ≡ false
left_out t x [] e = refl
left_out t x (z ∷ xs) e =
    elim (t z) as (λ b. t z ≡ b → is_one_of (cond b (z ∷ filter t xs) (filter t xs)) x ≡ false) [
      | true ↦ λ f. ap₂ ◌||◌ (is_not z x (λ s. not_both (t z) f (subst (λ (y : ℕ). t y ≡ false) (sym s) e))) (left_out t x xs e)
      | false ↦ λ f. left_out t x xs e
    ] refl

among_mapped : (f : ℕ → Fraction) (y : ℕ) (ys : Symbols) → is_one_of ys y ≡ true → Among y (map (λ z. (z, f z)) ys)
among_mapped f y [] e = absurd cc
among_mapped f y (z ∷ ys) e =
    elim (z == y) as (λ b. z == y ≡ b → b || is_one_of ys y ≡ true → (y ≡ z) ⊎ Among y (map (λ z. (z, f z)) ys)) [
      | true ↦ λ same e'. inl (grind (arith, same))
      | false ↦ λ apart e'. inr (among_mapped f y ys e')
    ] refl e

-- the others are the first n symbols but one
abbrev others_than : ℕ → ℕ → Symbols
others_than n x = filter (λ y. not (y == x)) (symbols_from 0 n)

not_itself : (x : ℕ) → not (x == x) ≡ false
not_itself x = let e : x == x ≡ true = grind arith in ap not e

not_other : (x y : ℕ) → (x ≡ y → ⊥) → not (y == x) ≡ true
not_other x y n = ap not (is_not y x (λ e. n (sym e)))

x_left_out : (n x : ℕ) → is_one_of (others_than n x) x ≡ false
x_left_out n x = left_out (λ y. not (y == x)) x (symbols_from 0 n) (not_itself x)

other_is_there : (n x y : ℕ) → (x ≡ y → ⊥) → y < n → is_one_of (others_than n x) y ≡ true
other_is_there n x y d h = passes_each (λ z. not (z == x)) 0 n y (not_other x y d) (omega arith) (omega (arith, h))

module _ (n x : ℕ) (v : Fraction) (q : Values) where
  abbrev there : Values
  there = with_value x v q

  have_others : (ys : Symbols) → is_one_of ys x ≡ false → Have there (map (λ y. (y, symbol_at y q)) ys)
  have_others [] a = tt
  have_others (z ∷ ys) a =
      elim (z == x) as (λ b. z == x ≡ b → b || is_one_of ys x ≡ false → Have there (map (λ y. (y, symbol_at y q)) (z ∷ ys))) [
        | true ↦ λ same a'. absurd cc
        | false ↦ λ apart a'. (
          subst (λ (a : Fraction). IsSame a (symbol_at z q)) (sym (other_symbol x z v q (λ e. grind (arith, apart, e))))
              (same_itself (symbol_at z q)),
          have_others ys a',
        )
      ] refl a

  -- what is known of each atom
  pub record IsReady (P : List Monomial) : Type 0 where
    pub ordered : IsPolynomial P
    pub others : (y : ℕ) → (degree_in y P ≡ 0 → ⊥) → (x ≡ y → ⊥) → Among y (other_values n x q)

  pub free_or_among : (P : List Monomial) (y : ℕ) → IsReady P → (x ≡ y → ⊥) → IsFreeOf y P ⊎ Among y (other_values n x q)
  free_or_among P y h d = elim (cases_Bool (degree_in y P == 0)) [
    | inl none_there ↦ inl (grind (arith, none_there))
    | inr some_there ↦ inr (h.others y (λ e. grind (arith, some_there, e)) d)
  ]

  at_symbol : (y : ℕ) (r P : List Monomial) → IsReady P → IsAtValues (other_values n x q) P r → (degree_in y r ≡ 0 → ⊥)
      → IsSame (symbol_at y (only_at x v)) (symbol_at y there)
  at_symbol y r P h w some = elim (cases_Bool (x == y)) [
    | inl own ↦
        let same : x ≡ y = grind (arith, own) in
        subst (λ (z : ℕ). IsSame (symbol_at z (only_at x v)) (symbol_at z there)) same
        (same_trans (symbol_at x (only_at x v)) v (symbol_at x there) (gives_value x v []) (same_turned (symbol_at x there) v (gives_value x v q)))
    | inr apart ↦ absurd (some (at_values_free y (other_values n x q) P r w (free_or_among P y h (λ e. grind (arith, apart, e)))))
  ]

  atom_at_values : (P r : List Monomial) → IsReady P → Have there (other_values n x q) → IsAtValues (other_values n x q) P r
      → sign_at r (only_at x v) ≡ sign_at P there
  atom_at_values P r h g w =
      sign_reads r (only_at x v) there (λ y some. at_symbol y r P h w some) ∙ at_values_sign (other_values n x q) P r there w g

  mutual
    formula_at_values : (F R : Formula) → Have there (other_values n x q) → EachAtom (λ P T. IsReady P) F → IsFormulaAtValues (other_values n x q) F R
        → truth_at R (only_at x v) ≡ truth_at F there
    formula_at_values always R g h w = ap (λ (G : Formula). truth_at G (only_at x v)) w
    formula_at_values never R g h w = ap (λ (G : Formula). truth_at G (only_at x v)) w
    formula_at_values (atom P T) R g h w =
        condition_truth w.0 T R (only_at x v) (at_values_polynomial (other_values n x q) P w.0 h.ordered w.1) w.2
        ∙ ap (has T) (atom_at_values P w.0 h g w.1)
    formula_at_values (conjunction Fs) R g h w = ap (λ (G : Formula). truth_at G (only_at x v)) w.2 ∙ all_at_values Fs w.0 g h w.1
    formula_at_values (disjunction Fs) R g h w = ap (λ (G : Formula). truth_at G (only_at x v)) w.2 ∙ some_at_values Fs w.0 g h w.1

    all_at_values : (Fs Rs : Formulas) → Have there (other_values n x q) → EachAtomOfAll (λ P T. IsReady P) Fs
        → AreFormulasAtValues (other_values n x q) Fs Rs
        → all_by (reading_at (only_at x v)) Rs ≡ all_by (reading_at there) Fs
    all_at_values none Rs g h w = ap (all_by (reading_at (only_at x v))) w
    all_at_values (more F Fs) Rs g h w =
        ap (all_by (reading_at (only_at x v))) w.4 ∙ ap₂ ◌&&◌ (formula_at_values F w.0 g h.0 w.2) (all_at_values Fs w.1 g h.1 w.3)

    some_at_values : (Fs Rs : Formulas) → Have there (other_values n x q) → EachAtomOfAll (λ P T. IsReady P) Fs
        → AreFormulasAtValues (other_values n x q) Fs Rs
        → some_by (reading_at (only_at x v)) Rs ≡ some_by (reading_at there) Fs
    some_at_values none Rs g h w = ap (some_by (reading_at (only_at x v))) w
    some_at_values (more F Fs) Rs g h w =
        ap (some_by (reading_at (only_at x v))) w.4 ∙ ap₂ ◌||◌ (formula_at_values F w.0 g h.0 w.2) (some_at_values Fs w.1 g h.1 w.3)

  pub is_ready : (P : List Monomial) (T : Signs) → IsAtomPolynomial P → ((y : ℕ) → n ≤ y → IsFreeOf y P) → IsReady P
  is_ready P T proper over = record {
    ordered = proper.canonical.ordered;
    others = λ y some d. elim (cases_Bool (nat_lt y n)) [
      | inl low ↦ among_mapped (λ z. symbol_at z q) y (others_than n x) (other_is_there n x y d (grind (arith, low)))
      | inr high ↦ absurd (some (over y (grind (arith, high))))
    ];
  }

  pub restricted_truth : (S R : Formula) → IsProper S → IsOver n S → IsFormulaAtValues (other_values n x q) S R
      → truth_at R (only_at x v) ≡ truth_at S there
  restricted_truth S R h o w =
      formula_at_values S R (have_others (others_than n x) (x_left_out n x))
      (each_of_two (λ P T. IsAtomPolynomial P) (λ P T. (y : ℕ) → n ≤ y → IsFreeOf y P) (λ P T. IsReady P) is_ready S h (each_is_over n S o)) w
