-- Claims have one lowered formula: rational functions, conditions and normal forms are written in one way.
use Rattle.std.proofs.Common.{◌≡◌, ℕ, List, [], ◌∷◌, sym, ap, ap₂, ◌∙◌, subst, subst₂, arith, inl, inr}
use Rattle.theory_meaning.specs.declared.words.Rel.{Rel}
use Rattle.theory_meaning.specs.Divisors.{divisors_of_claims}
use Rattle.theory_meaning.specs.Fraction.{den}
use Rattle.theory_meaning.specs.Point.{Name}
use Rattle.theory_meaning.specs.Tree.{Expr, number, symbol, sum, difference, opposite, product, power, quotient, Claim, Claims, claims_from}
use Rattle.theory_meaning.specs.Tree as claim
use Rattle.theory_polynomial.specs.Polynomial.{constant_of, symbol_of}
use Rattle.theory_polynomial.specs.RationalPolynomial.{sum_of_quotients, difference_of_quotients}
use Rattle.theory_formula.specs.declared.signs.Signs.{Signs}
use Rattle.theory_formula.specs.declared.signs.Signs.TheVariants as set
use Rattle.theory_formula.proofs.ConditionLaws.{condition_single}
use Rattle.theory_formula.specs.Signs.{signs_of, mirror}
use Rattle.theory_formula.specs.Formula.{Formula, Formulas, conjunction, disjunction, more, both, either}
use Rattle.theory_formula.specs.SignCondition.{IsAtomOf}
use Rattle.theory_lowering.specs.NormalForm.{normal_forms}
use Rattle.theory_lowering.specs.RationalFunction.{RationalFunction, over, one, IsJoinOf, IsOppositeOf, IsProductOf, IsPowerOf, IsQuotientOf}
use Rattle.theory_lowering.specs.Lowered.{place_of, IsResultOf, IsFormOf, IsByBoth, IsConditionOn, IsComparison, IsFormulaOf, AreFormulasOf, IsNonzeroOf, AreNonzeroOf, before, IsLowered}
use Rattle.theory_lowering.proofs.SingleFractions.{Form, IsOperation, fraction_form, sum_operation, difference_operation, opposite_form, product_operation, power_form, quotient_operation}

-- operations on what there is one of
result_form : (Op : RationalFunction → RationalFunction → RationalFunction → Type 0) (U V : RationalFunction → Type 0) → IsOperation Op → Form U → Form V
    → Form (IsResultOf Op U V)
result_form Op U V is u v = record {
  reduced = λ r h. (is.form h.0 h.1 (u.reduced h.0 h.2) (v.reduced h.1 h.3)).reduced r h.4;
  unique = λ r s h k.
      let first = u.unique k.0 h.0 k.2 h.2 in
      let second = v.unique k.1 h.1 k.3 h.3 in
      (is.form h.0 h.1 (u.reduced h.0 h.2) (v.reduced h.1 h.3)).unique r s h.4 (subst₂ (λ a b. Op a b s) first second k.4);
}

turned_form : (U : RationalFunction → Type 0) → Form U → Form (λ r. (a : RationalFunction) × U a × IsOppositeOf a r)
turned_form U u = record {
  reduced = λ r h. (opposite_form h.0 (u.reduced h.0 h.1)).reduced r h.2;
  unique = λ r s h k.
      let same = u.unique k.0 h.0 k.1 h.1 in
      (opposite_form h.0 (u.reduced h.0 h.1)).unique r s h.2 (subst (λ a. IsOppositeOf a s) same k.2);
}

raised_form : (U : RationalFunction → Type 0) (k : ℕ) → Form U → Form (λ r. (a : RationalFunction) × U a × IsPowerOf a k r)
raised_form U k u = record {
  reduced = λ r h. (power_form h.0 k (u.reduced h.0 h.1)).reduced r h.2;
  unique = λ r s h l.
      let same = u.unique l.0 h.0 l.1 h.1 in
      (power_form h.0 k (u.reduced h.0 h.1)).unique r s h.2 (subst (λ a. IsPowerOf a k s) same l.2);
}

-- the rational function of an expression
pub form : (ns : List Name) (e : Expr) → Form (IsFormOf ns e)
form ns (number q) = fraction_form (over (constant_of q.num) (den q)) one (omega arith)
form ns (symbol x) = fraction_form (over (symbol_of (place_of x ns)) 1) one (omega arith)
form ns (sum u v) = result_form (IsJoinOf sum_of_quotients) (IsFormOf ns u) (IsFormOf ns v) sum_operation (form ns u) (form ns v)
form ns (difference u v) = result_form (IsJoinOf difference_of_quotients) (IsFormOf ns u) (IsFormOf ns v) difference_operation (form ns u) (form ns v)
form ns (opposite u) = turned_form (IsFormOf ns u) (form ns u)
form ns (product u v) = result_form IsProductOf (IsFormOf ns u) (IsFormOf ns v) product_operation (form ns u) (form ns v)
form ns (power u k) = raised_form (IsFormOf ns u) k (form ns u)
form ns (quotient u v) = result_form IsQuotientOf (IsFormOf ns u) (IsFormOf ns v) quotient_operation (form ns u) (form ns v)

pub form_single : (ns : List Name) (e : Expr) (q r : RationalFunction) → IsFormOf ns e q → IsFormOf ns e r → q ≡ r
form_single ns e q r h k = (form ns e).unique q r h k

-- the condition on a rational function
by_both_single : (q : RationalFunction) (S : Signs) (F G : Formula) → IsByBoth q S F → IsByBoth q S G → F ≡ G
by_both_single q S F G w v =
    w.written
    ∙ ap₂ either
    (ap₂ both (condition_single q.bottom set.Pos w.positive v.positive w.positive_is v.positive_is)
    (condition_single q.top.top S w.kept v.kept w.kept_is v.kept_is))
    (ap₂ both (condition_single q.bottom set.Neg w.negative v.negative w.negative_is v.negative_is)
    (condition_single q.top.top (mirror S) w.mirrored v.mirrored w.mirrored_is v.mirrored_is))
    ∙ sym v.written

condition_on_single : (q : RationalFunction) (S : Signs) (F G : Formula) → IsConditionOn q S F → IsConditionOn q S G → F ≡ G
condition_on_single q S F G (inl w) (inl v) = condition_single q.top.top S F G w.1 v.1
condition_on_single q S F G (inl w) (inr v) = absurd (v.apart w.0)
condition_on_single q S F G (inr w) (inl v) = absurd (w.apart v.0)
condition_on_single q S F G (inr w) (inr v) = by_both_single q S F G w v

module _ (ns : List Name) where
  comparison_single : (u v : Expr) (rel : Rel) (F G : Formula) → IsComparison ns u rel v F → IsComparison ns u rel v G → F ≡ G
  comparison_single u v rel F G w x =
      let same = form_single ns (difference u v) w.0 x.0 w.1 x.1 in
      condition_on_single x.0 (signs_of rel) F G (subst (λ (q : RationalFunction). IsConditionOn q (signs_of rel) F) same w.2) x.2

  -- a claim in normal form has one formula
  mutual
    formula_single : (c : Claim) (F G : Formula) → IsFormulaOf ns c F → IsFormulaOf ns c G → F ≡ G
    formula_single claim.always F G w v = w ∙ sym v
    formula_single claim.never F G w v = w ∙ sym v
    formula_single (claim.atom l rel r) F G w v = comparison_single l r rel F G w v
    formula_single (claim.conjunction cs) F G w v = w.2 ∙ ap conjunction (formulas_single cs w.0 v.0 w.1 v.1) ∙ sym v.2
    formula_single (claim.disjunction cs) F G w v = w.2 ∙ ap disjunction (formulas_single cs w.0 v.0 w.1 v.1) ∙ sym v.2
    formula_single (claim.negation c) F G w v = absurd w
    formula_single (claim.implication a b) F G w v = absurd w
    formula_single (claim.equivalence a b) F G w v = absurd w

    formulas_single : (cs : Claims) (Fs Gs : Formulas) → AreFormulasOf ns cs Fs → AreFormulasOf ns cs Gs → Fs ≡ Gs
    formulas_single claim.none Fs Gs w v = w ∙ sym v
    formulas_single (claim.more c cs) Fs Gs w v =
        w.4 ∙ ap₂ more (formula_single c w.0 v.0 w.2 v.2) (formulas_single cs w.1 v.1 w.3 v.3) ∙ sym v.4

  -- divisors have one list of conditions
  nonzero_single : (v : Expr) (F G : Formula) → IsNonzeroOf ns v F → IsNonzeroOf ns v G → F ≡ G
  nonzero_single v F G w x =
      let same = form_single ns v w.0 x.0 w.1 x.1 in
      condition_single x.0.top.top set.NonZero F G (subst (λ (q : RationalFunction). IsAtomOf q.top.top set.NonZero F) same w.2) x.2

  nonzeros_single : (vs : List Expr) (Fs Gs : List Formula) → AreNonzeroOf ns vs Fs → AreNonzeroOf ns vs Gs → Fs ≡ Gs
  nonzeros_single [] Fs Gs w x = w ∙ sym x
  nonzeros_single (v ∷ vs) Fs Gs w x =
      w.4 ∙ ap₂ (λ (F : Formula) (Hs : List Formula). F ∷ Hs) (nonzero_single v w.0 x.0 w.2 x.2) (nonzeros_single vs w.1 x.1 w.3 x.3) ∙ sym x.4

  pub lowered_single : (cs : List Claim) (F G : Formula) → IsLowered ns cs F → IsLowered ns cs G → F ≡ G
  lowered_single cs F G w v =
      w.4
      ∙ ap conjunction (ap₂ before (nonzeros_single (divisors_of_claims (claims_from cs)) w.0 v.0 w.2 v.2)
      (formulas_single (normal_forms (claims_from cs)) w.1 v.1 w.3 v.3))
      ∙ sym v.4
