-- Negation member by member, and what the written forms say of truth.
use Rattle.std.proofs.Common.{◌≡◌, List, [], ◌∷◌, map, refl, sym, ap, ◌∙◌, not, true, false, subst, arith, inl, inr, w64, Result, Ok, Err, IfOk, Option, Some, None}
use Rattle.std.specs.Prelude.{slice_get}
use Rattle.std.specs.Str.{bytes_eq}
use Rattle.std.proofs.lemmas.Bool.{both_ways}
use Rattle.std.proofs.lemmas.Int.{ints}
use Rattle.std.proofs.lemmas.Slice.Eq.{bytes_eq-Decides}
use mir.Val.{to_z, of_z}
use Rattle.theory_points.specs.declared.limit.NoMemory.{NoMemory}
use Rattle.theory_meaning.specs.declared.words.Sign.{Sign}
use Rattle.theory_formula.specs.declared.signs.Signs.{Signs}
use Rattle.theory_polynomial.specs.Polynomial.{Monomial, IsPolynomial, coefficient_at, no_powers}
use Rattle.theory_polynomial.specs.PolynomialValue.{Values}
use Rattle.theory_formula.specs.Signs.{has, sign_of_whole}
use Rattle.theory_formula.specs.Formula.{Formula, formulas_from, more, negated, negated_all, truth_at, sign_at}
use Rattle.theory_formula.specs.SignCondition.{IsConstant, HasSymbol, IsCanonicalAtom, decided}
use Rattle.theory_formula.proofs.FormulaLaws.{negation_turns}
use Rattle.theory_formula.proofs.ConditionLaws.{condition_truth, constant_from_first, symbol_from_first}
use Rattle.theory_poly.specs.Kept.{IsKept}
use Rattle.theory_signs.specs.declared.formula.Formula as made
use Rattle.theory_signs.specs.Plain.{formula_of}

pub negated_all_from : (Fs : List Formula) → negated_all (formulas_from Fs) ≡ formulas_from (map negated Fs)
negated_all_from [] = refl
negated_all_from (F ∷ Fs) = ap (more (negated F)) (negated_all_from Fs)

-- a negated formula has the other truth
pub answers_negated : (F : Formula) (result : Result made.Formula NoMemory) → IfOk result (λ G. formula_of G ≡ negated F)
    → IfOk result (λ G. (p : Values) → truth_at (formula_of G) p ≡ not (truth_at F p))
answers_negated F (Ok G) h = λ p. ap (λ H. truth_at H p) h ∙ negation_turns F p
answers_negated F (Err e) h = tt

-- the canonical atom has the truth of the sign
pub answers_canonical : (P : List Monomial) (S : Signs) (result : Result made.Formula NoMemory) → IsPolynomial P
    → IfOk result (λ F. IsCanonicalAtom P S (formula_of F)) → IfOk result (λ F. (p : Values) → truth_at (formula_of F) p ≡ has S (sign_at P p))
answers_canonical P S (Ok F) h k = λ p. condition_truth P S (formula_of F) p h (inr k)
answers_canonical P S (Err e) h k = tt

-- and so has the decided one
pub decision_truth : (P : List Monomial) (S : Signs) (s : Sign) (F : Formula) (p : Values) → IsPolynomial P
    → IsConstant P × (s ≡ sign_of_whole (coefficient_at P no_powers)) → F ≡ decided (has S s) → truth_at F p ≡ has S (sign_at P p)
decision_truth P S s F p h k is =
    condition_truth P S F p h (inl (record { constant = k.0; written = is ∙ ap (λ z. decided (has S z)) k.1 }))

-- a list that has a first term
record StartsWith (P : List Monomial) (t : Monomial) : Type 0 where
  rest : List Monomial
  is : P ≡ t ∷ rest

some_of : Monomial → Option Monomial → Monomial
some_of d (Some t) = t
some_of d None = d

starts_with : (P : List Monomial) (t : Monomial) → slice_get P 0 ≡ Some t → StartsWith P t
unfolding some_of
starts_with [] t h = absurd (let other : None ≡ Some t = h in cc)
starts_with (u ∷ us) t h = record { rest = us; is = ap (λ v. v ∷ us) (ap (some_of t) h) }

-- a first term without a symbol is the constant
pub constant_case : (P : List Monomial) (t : Monomial) (s : Sign) → IsKept P → slice_get P 0 ≡ Some t → bytes_eq t.powers no_powers ≡ true
    → s ≡ sign_of_whole (to_z w64 (of_z w64 t.coefficient)) → IsConstant P × (s ≡ sign_of_whole (coefficient_at P no_powers))
constant_case P t s h k zeros is =
    let start = starts_with P t k in
    let kept : IsKept (t ∷ start.rest) = subst IsKept start.is h in
    let small = kept.within.coefficients in
    let cast : to_z w64 (of_z w64 t.coefficient) ≡ t.coefficient = omega (arith, ints, small) in
    let found = constant_from_first t start.rest kept.ordered ((bytes_eq-Decides t.powers no_powers).0 zeros) in
    subst (λ Q. IsConstant Q × (s ≡ sign_of_whole (coefficient_at Q no_powers))) (sym start.is)
    (found.0, is ∙ ap sign_of_whole (cast ∙ sym found.1))

pub symbol_case : (P : List Monomial) (t : Monomial) → IsKept P → slice_get P 0 ≡ Some t → bytes_eq t.powers no_powers ≡ false → HasSymbol P
symbol_case P t h k other =
    let start = starts_with P t k in
    let kept : IsKept (t ∷ start.rest) = subst IsKept start.is h in
    subst HasSymbol (sym start.is)
    (symbol_from_first t start.rest kept.ordered
    (λ e. let both = (bytes_eq-Decides t.powers no_powers).1 e in absurd (both_ways (bytes_eq t.powers no_powers) other both)))
