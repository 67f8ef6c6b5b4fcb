-- Restrictions to values, symbol by symbol and member by member.
use Rattle.std.proofs.Common.{◌≡◌, ℕ, ◌+◌, ◌<◌, List, [], ◌∷◌, ◌++◌, length, map, drop, get_or, refl, sym, ap, ◌∙◌, subst, inl, inr, ⊎_elim, Err}
use Rattle.std.proofs.lemmas.List.{at_drop_more, append_assoc, map-append}
use Rattle.theory_meaning.specs.Fraction.{Fraction}
use Rattle.theory_polynomial.specs.Polynomial.{Monomial, degree_in}
use Rattle.theory_polynomial.specs.PolynomialValue.{restriction_step, IsRestriction, IsWideRestriction}
use Rattle.theory_polynomial.proofs.SingleForms.{primitive_single}
use Rattle.theory_formula.specs.Formula as plain
use Rattle.theory_formula.specs.Formula.{formulas_from}
use Rattle.theory_formula.specs.Symbols.{SomeAtomAmong}
use Rattle.theory_decision.specs.Witness.{IsAtValues, IsWideAtValues, IsFormulaAtValues, AreFormulasAtValues}
use Rattle.theory_signs.specs.declared.formula.Formula.{Formula}
use Rattle.theory_signs.specs.Plain.{formula_of}
use Rattle.theory_points.specs.declared.limit.Limit.{Limit}
use Rattle.theory_points.specs.declared.limit.Limit.TheVariants.{Wide, Memory}
use Rattle.theory_poly.specs.Answers.{WideWhere}
use Rattle.theory_witness.specs.Restriction.{AreSymbols, IsWideFormulaAtValues}

-- what is known before one value of a list
pub record IsHeld (all rest : List (ℕ × Fraction)) (P held : List Monomial) : Type 0 where
  pub symbols : AreSymbols rest
  pub written : (r : List Monomial) → IsAtValues rest held r → IsAtValues all P r
  pub later : IsWideAtValues all P → IsWideAtValues rest held
  pub before : IsWideAtValues rest held → IsWideAtValues all P

pub held_first : (vs : List (ℕ × Fraction)) (P held : List Monomial) → AreSymbols vs → held ≡ P → IsHeld vs vs P held
held_first vs P held s e =
    subst (IsHeld vs vs P) (sym e) (record { symbols = s; written = λ r h. h; later = λ w. w; before = λ w. w })

single : (x : ℕ) (q : Fraction) (P m n : List Monomial) → IsRestriction x q P m → IsRestriction x q P n → m ≡ n
single x q P m n h k = primitive_single (restriction_step x q P (degree_in x P)) m n h k

one_held : (all rest : List (ℕ × Fraction)) (a : ℕ × Fraction) (P held next : List Monomial) → IsHeld all (a ∷ rest) P held
    → IsRestriction a.0 a.1 held next → ¬ IsWideRestriction a.0 a.1 held → IsHeld all rest P next
one_held all rest a P held next h made narrow = record {
  symbols = h.symbols.1;
  written = λ r k. h.written r (next, made, k);
  later = λ w. ⊎_elim (λ (y : IsWideRestriction a.0 a.1 held). absurd (narrow y))
      (λ (y : (m : List Monomial) × IsRestriction a.0 a.1 held m × IsWideAtValues rest m).
      subst (λ (m : List Monomial). IsWideAtValues rest m) (single a.0 a.1 held y.0 next y.1 made) y.2) (h.later w);
  before = λ w. h.before (inr (next, made, w));
}

-- the values from one place on
value_step : (vs : List (ℕ × Fraction)) (i : ℕ) (a : ℕ × Fraction) → i < length vs → a ≡ get_or vs i a → drop i vs ≡ a ∷ drop (i + 1) vs
value_step vs i a within item =
    at_drop_more (λ (ws : List (ℕ × Fraction)). ws) vs i a within ∙ ap (λ (b : ℕ × Fraction). b ∷ drop (i + 1) vs) (sym item)

module _ (vs : List (ℕ × Fraction)) (i : ℕ) (a : ℕ × Fraction) (P held : List Monomial) (within : i < length vs) (item : a ≡ get_or vs i a)
    (h : IsHeld vs (drop i vs) P held) where
  here : IsHeld vs (a ∷ drop (i + 1) vs) P held
  here = subst (λ (ws : List (ℕ × Fraction)). IsHeld vs ws P held) (value_step vs i a within item) h

  pub held_symbol : a.0 < 32
  held_symbol = here.symbols.0

  pub held_next : (next : List Monomial) → IsRestriction a.0 a.1 held next → ¬ IsWideRestriction a.0 a.1 held → IsHeld vs (drop (i + 1) vs) P next
  held_next next made narrow = one_held vs (drop (i + 1) vs) a P held next here made narrow

  pub held_wide : IsWideRestriction a.0 a.1 held → IsWideAtValues vs P
  held_wide w = here.before (inl w)

-- what is known before one formula of a list
pub record IsRestricted (vs : List (ℕ × Fraction)) (all rest made : List plain.Formula) : Type 0 where
  pub written : (Gs : List plain.Formula) → AreFormulasAtValues vs (formulas_from rest) (formulas_from Gs)
      → AreFormulasAtValues vs (formulas_from all) (formulas_from (made ++ Gs))
  pub later : SomeAtomAmong (λ P S. IsWideAtValues vs P) (formulas_from all) → SomeAtomAmong (λ P S. IsWideAtValues vs P) (formulas_from rest)
  pub before : SomeAtomAmong (λ P S. IsWideAtValues vs P) (formulas_from rest) → SomeAtomAmong (λ P S. IsWideAtValues vs P) (formulas_from all)

pub restricted_more : (vs : List (ℕ × Fraction)) (all rest next made grown : List plain.Formula) (F G : plain.Formula)
    → rest ≡ F ∷ next → ((Gs : List plain.Formula) → made ++ G ∷ Gs ≡ grown ++ Gs) → IsRestricted vs all rest made → IsFormulaAtValues vs F G
    → ¬ IsWideFormulaAtValues vs F → IsRestricted vs all next grown
restricted_more vs all rest next made grown F G step same h written fits =
    let here : IsRestricted vs all (F ∷ next) made = subst (λ Fs. IsRestricted vs all Fs made) step h in
    record {
      written = λ Gs k. subst (λ Fs. AreFormulasAtValues vs (formulas_from all) (formulas_from Fs)) (same Gs)
          (here.written (G ∷ Gs) (G, formulas_from Gs, written, k, refl));
      later = λ w. ⊎_elim (λ (y : IsWideFormulaAtValues vs F). absurd (fits y))
          (λ (y : SomeAtomAmong (λ P S. IsWideAtValues vs P) (formulas_from next)). y) (here.later w);
      before = λ w. here.before (inr w);
    }

-- the formulas from one place on, and a member more at the end
pub drop_step : (Fs : List Formula) (i : ℕ) (F : Formula) → i < length Fs → F ≡ get_or Fs i F
    → map formula_of (drop i Fs) ≡ formula_of F ∷ map formula_of (drop (i + 1) Fs)
drop_step Fs i F within item =
    at_drop_more (λ (Gs : List Formula). map formula_of Gs) Fs i F within ∙ ap (λ (G : Formula). map formula_of (G ∷ drop (i + 1) Fs)) (sym item)

pub grown_by_one : (old new : List Formula) (F : Formula) (Gs : List plain.Formula) → new ≡ old ++ F ∷ []
    → map formula_of old ++ formula_of F ∷ Gs ≡ map formula_of new ++ Gs
grown_by_one old new F Gs is =
    sym (ap (λ (xs : List Formula). map formula_of xs ++ Gs) is ∙ ap (λ (ys : List plain.Formula). ys ++ Gs) (map-append formula_of old (F ∷ []))
    ∙ append_assoc (map formula_of old) (formula_of F ∷ []) Gs)

-- a limit is passed where another is
pub wide_as : (A B : Type 0) → (A → B) → (limit : Limit) → WideWhere {T = List Monomial} A (Err limit) → WideWhere {T = List Monomial} B (Err limit)
wide_as A B f Wide h = f h
wide_as A B f Memory h = tt
