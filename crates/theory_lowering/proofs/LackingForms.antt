-- The rational function of an expression over listed names has no other symbol, in its top or its bottom.
use Rattle.std.proofs.Common.{◌≡◌, ℕ, zero, suc, ◌<◌, ◌≤◌, length, ℤ, pos, neg_ℤ, negsuc, List, [], ◌∷◌, get_or, set, replicate, refl, ap, ◌∙◌, arith, inl, inr}
use Rattle.std.specs.Prelude.{if◌then◌else◌}
use Rattle.theory_meaning.specs.Fraction.{den}
use Rattle.theory_meaning.specs.Point.{Name}
use Rattle.theory_meaning.specs.Tree.{Expr, number, symbol, sum, difference, opposite, product, power, quotient}
use Rattle.theory_polynomial.specs.Polynomial.{Monomial, IsPolynomialOf, scaled, no_powers, constant_of, symbol_of, product_of}
use Rattle.theory_polynomial.specs.RationalPolynomial.{Quotient, IsLowestOf, sum_of_quotients, difference_of_quotients, product_of_quotients}
use Rattle.theory_polynomial.proofs.FreeLaws.{same_lacks, divided_lacks, lacks_is_free}
use Rattle.theory_formula.proofs.FreeTerms.{TermsLack, lack_append, lack_scaled, lack_product, terms_lack, free_terms, canonical_lacks}
use Rattle.theory_lowering.specs.RationalFunction.{RationalFunction, over, one, times, opposite_of_quotient, scale_of, IsFractionOf, IsJoinOf, IsOppositeOf, IsProductOf, IsPowerOf, IsQuotientOf}
use Rattle.theory_lowering.specs.Lowered.{place_of, IsFormOf}
use Rattle.theory_lowering.specs.LoweringLimits.{IsListedExpr}
use Rattle.theory_lowering.proofs.QuotientValues.{times_positive}
use Rattle.theory_lowering.proofs.SingleFractions.{IsReduced}
use Rattle.theory_lowering.proofs.SingleLowered.{form}

module _ (x : ℕ) where
  -- neither top nor bottom has the symbol
  pub record FormLacks (r : RationalFunction) : Type 0 where
    pub top : TermsLack x r.top.top
    pub bottom : TermsLack x r.bottom

  no_power : (n y : ℕ) → let z : ℕ = 0 in get_or (replicate n z) y 0 ≡ 0
  no_power zero y = refl
  no_power (suc n) zero = refl
  no_power (suc n) (suc y) = no_power n y

  set_other : (e : List ℕ) (i y : ℕ) → (i ≡ y → ⊥) → get_or (set e i 1) y 0 ≡ get_or e y 0
  set_other [] i y n = refl
  set_other (m ∷ e) zero zero n = absurd (n refl)
  set_other (m ∷ e) zero (suc y) n = refl
  set_other (m ∷ e) (suc i) zero n = refl
  set_other (m ∷ e) (suc i) (suc y) n = set_other e i y (λ h. n (ap suc h))

  lack_constant : (c : ℤ) → TermsLack x (constant_of c)
  lack_constant c = (no_power 32 x, tt)

  lack_symbol : (i : ℕ) → (i ≡ x → ⊥) → TermsLack x (symbol_of i)
  lack_symbol i h = (set_other no_powers i x h ∙ no_power 32 x, tt)

  lack_lowest : (q r : Quotient) → 0 < q.below → TermsLack x q.top → IsLowestOf q r → TermsLack x r.top
  lack_lowest q r h k w =
      free_terms x r.top
      (lacks_is_free x r.top w.lowest.ordered
      (divided_lacks x q.below r.top h (same_lacks x (scaled (pos r.below) q.top) (scaled (pos q.below) r.top) w.same
      (terms_lack x (scaled (pos r.below) q.top) (lack_scaled x (pos r.below) q.top k)))))

  lack_polynomial : (P r : List Monomial) → TermsLack x P → IsPolynomialOf P r → TermsLack x r
  lack_polynomial P r h w = free_terms x r (lacks_is_free x r w.ordered (same_lacks x P r w.same (terms_lack x P h)))

  lack_fraction : (top : Quotient) (bottom : List Monomial) (r : RationalFunction) → 0 < top.below → TermsLack x top.top → TermsLack x bottom
      → IsFractionOf top bottom r → FormLacks r
  lack_fraction top bottom r some h k w =
      record { top = lack_lowest top r.top some h w.top_is; bottom = lack_polynomial bottom r.bottom k w.bottom_is }

  lack_times : (q : Quotient) (P : List Monomial) (r : Quotient) → 0 < q.below → TermsLack x q.top → TermsLack x P → IsLowestOf (times q P) r
      → TermsLack x r.top
  lack_times q P r some h k w = lack_lowest (times q P) r (times_positive q.below 1 some (omega arith)) (lack_product x q.top P h k) w

  -- sums and differences
  pub record KeepsLack (op : Quotient → Quotient → Quotient) : Type 0 where
    pub positive : (a b : Quotient) → 0 < a.below → 0 < b.below → 0 < (op a b).below
    pub lack : (a b : Quotient) → TermsLack x a.top → TermsLack x b.top → TermsLack x (op a b).top

  sum_keeps : KeepsLack sum_of_quotients
  sum_keeps = record {
    positive = λ a b. times_positive a.below b.below;
    lack = λ a b h k.
        lack_append x (scaled (pos b.below) a.top) (scaled (pos a.below) b.top) (lack_scaled x (pos b.below) a.top h) (lack_scaled x (pos a.below) b.top k);
  }

  difference_keeps : KeepsLack difference_of_quotients
  difference_keeps = record {
    positive = λ a b. times_positive a.below b.below;
    lack = λ a b h k.
        lack_append x (scaled (pos b.below) a.top) _ (lack_scaled x (pos b.below) a.top h)
        (lack_scaled x (negsuc 0) (scaled (pos a.below) b.top) (lack_scaled x (pos a.below) b.top k));
  }

  lack_join : (op : Quotient → Quotient → Quotient) → KeepsLack op → (a b r : RationalFunction) → IsReduced a → IsReduced b → FormLacks a → FormLacks b
      → IsJoinOf op a b r → FormLacks r
  lack_join op keeps a b r l m h k (inl w) =
      lack_fraction (op a.top b.top) a.bottom r (keeps.positive a.top b.top l.low.positive m.low.positive) (keeps.lack a.top b.top h.top k.top) h.bottom w.whole
  lack_join op keeps a b r l m h k (inr w) =
      lack_fraction (op w.first w.second) (product_of a.bottom b.bottom) r
      (keeps.positive w.first w.second w.first_is.lowest.positive w.second_is.lowest.positive)
      (keeps.lack w.first w.second (lack_times a.top b.bottom w.first l.low.positive h.top k.bottom w.first_is)
      (lack_times b.top a.bottom w.second m.low.positive k.top h.bottom w.second_is)) (lack_product x a.bottom b.bottom h.bottom k.bottom) w.whole

  -- opposites, products, powers and quotients
  lack_opposite : (a r : RationalFunction) → IsReduced a → FormLacks a → IsOppositeOf a r → FormLacks r
  lack_opposite a r l h w =
      lack_fraction (opposite_of_quotient a.top) a.bottom r (times_positive 1 a.top.below (omega arith) l.low.positive)
      (difference_keeps.lack (over [] 1) a.top tt h.top) h.bottom w

  lack_product_of : (a b r : RationalFunction) → IsReduced a → IsReduced b → FormLacks a → FormLacks b → IsProductOf a b r → FormLacks r
  lack_product_of a b r l m h k w =
      lack_fraction (product_of_quotients a.top b.top) (product_of a.bottom b.bottom) r
      (times_positive a.top.below b.top.below l.low.positive m.low.positive) (lack_product x a.top.top b.top.top h.top k.top)
      (lack_product x a.bottom b.bottom h.bottom k.bottom) w

  power_reduced : (a : RationalFunction) (k : ℕ) (r : RationalFunction) → IsPowerOf a k r → IsReduced r
  power_reduced a zero r w = record { low = w.top_is.lowest; ordered = w.bottom_is.ordered }
  power_reduced a (suc k) r w = record { low = w.2.top_is.lowest; ordered = w.2.bottom_is.ordered }

  lack_power : (a : RationalFunction) (k : ℕ) (r : RationalFunction) → IsReduced a → FormLacks a → IsPowerOf a k r → FormLacks r
  lack_power a zero r l h w = lack_fraction (over one 1) one r (omega arith) (lack_constant (pos 1)) (lack_constant (pos 1)) w
  lack_power a (suc k) r l h w = lack_product_of w.0 a r (power_reduced a k w.0 w.1) l (lack_power a k w.0 l h w.1) h w.2

  lack_quotient : (a b r : RationalFunction) → IsReduced a → IsReduced b → FormLacks a → FormLacks b → IsQuotientOf a b r → FormLacks r
  lack_quotient a b r l m h k (inl w) = lack_fraction (over [] 1) one r (omega arith) tt (lack_constant (pos 1)) w.whole
  lack_quotient a b r l m h k (inr w) =
      let some = w.form.is_content.positive in
      let factor : Quotient = scale_of w.turned b.top.below w.form.content in
      let poly : TermsLack x w.poly =
      free_terms x w.poly
      (lacks_is_free x w.poly w.form.canonical.ordered (canonical_lacks x b.top.top w.poly w.turned (terms_lack x b.top.top k.top) w.form)) in
      let scaled : TermsLack x w.scaled.top =
      lack_lowest (product_of_quotients a.top factor) w.scaled (times_positive a.top.below w.form.content l.low.positive some)
      (lack_product x a.top.top factor.top h.top (lack_constant (if w.turned then neg_ℤ (pos b.top.below) else pos b.top.below))) w.scaled_is in
      lack_fraction (times w.scaled b.bottom) (product_of a.bottom w.poly) r
      (times_positive w.scaled.below 1 w.scaled_is.lowest.positive (omega arith)) (lack_product x w.scaled.top b.bottom scaled k.bottom)
      (lack_product x a.bottom w.poly h.bottom poly) w.whole

module _ (ns : List Name) (x : ℕ) (past : length ns ≤ x) where
  reduced : (e : Expr) (r : RationalFunction) → IsFormOf ns e r → IsReduced r
  reduced e r w = (form ns e).reduced r w

  pub lack_form : (e : Expr) (r : RationalFunction) → IsListedExpr ns e → IsFormOf ns e r → FormLacks x r
  lack_form (number q) r l w = lack_fraction x (over (constant_of q.num) (den q)) one r (omega arith) (lack_constant x q.num) (lack_constant x (pos 1)) w
  lack_form (symbol y) r l w =
      lack_fraction x (over (symbol_of (place_of y ns)) 1) one r (omega arith)
      (lack_symbol x (place_of y ns) (λ e. absurd (omega (arith, past, l, e)))) (lack_constant x (pos 1)) w
  lack_form (sum u v) r l w =
      lack_join x sum_of_quotients (sum_keeps x) w.0 w.1 r (reduced u w.0 w.2) (reduced v w.1 w.3) (lack_form u w.0 l.0 w.2) (lack_form v w.1 l.1 w.3) w.4
  lack_form (difference u v) r l w =
      lack_join x difference_of_quotients (difference_keeps x) w.0 w.1 r (reduced u w.0 w.2) (reduced v w.1 w.3) (lack_form u w.0 l.0 w.2)
      (lack_form v w.1 l.1 w.3) w.4
  lack_form (opposite u) r l w = lack_opposite x w.0 r (reduced u w.0 w.1) (lack_form u w.0 l w.1) w.2
  lack_form (product u v) r l w =
      lack_product_of x w.0 w.1 r (reduced u w.0 w.2) (reduced v w.1 w.3) (lack_form u w.0 l.0 w.2) (lack_form v w.1 l.1 w.3) w.4
  lack_form (power u k) r l w = lack_power x w.0 k r (reduced u w.0 w.1) (lack_form u w.0 l w.1) w.2
  lack_form (quotient u v) r l w =
      lack_quotient x w.0 w.1 r (reduced u w.0 w.2) (reduced v w.1 w.3) (lack_form u w.0 l.0 w.2) (lack_form v w.1 l.1 w.3) w.4
