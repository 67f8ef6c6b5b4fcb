-- The parts of a rational function give what an operation gives, and pass a limit where that does.
use Rattle.std.proofs.Common.{◌≡◌, ◌≢◌, ℕ, zero, suc, ◌+◌, ◌-◌, ◌<◌, Bool, List, [], ◌∷◌, length, refl, sym, ap, ap₂, ◌∙◌, subst, subst₂, arith, inl, inr, ⊎_elim, Result, Ok, Err, IfOk}
use Rattle.std.proofs.lemmas.Int.{ints}
use Rattle.theory_points.specs.declared.limit.Limit.{Limit}
use Rattle.theory_points.specs.declared.limit.Limit.TheVariants.{Wide, Memory}
use Rattle.theory_polynomial.specs.Polynomial.{Monomial, IsPolynomial, IsPolynomialOf, IsContent, IsCanonicalOf, PassesLimit, IsBeyond, product_of, greatest_exponent_of, height_of}
use Rattle.theory_polynomial.specs.RationalPolynomial.{Quotient, IsLowestOf, IsQuotientBeyond, product_of_quotients}
use Rattle.theory_polynomial.proofs.CoefficientLaws.{same_itself}
use Rattle.theory_polynomial.proofs.PrimitiveLaws.{content_unique}
use Rattle.theory_polynomial.proofs.SingleForms.{canonical_single, lowest_single}
use Rattle.theory_lowering.specs.RationalFunction.{RationalFunction, one, times, scale_of, IsFractionOf, IsOverBoth, IsJoinOf, IsProductOf, IsPowerOf, IsOver}
use Rattle.theory_lowering.specs.LoweringLimits.{IsBeyondFraction, IsWideOverBoth, IsWideJoin, IsWideProduct, IsWidePower, IsWideOver}
use Rattle.theory_lowering.proofs.QuotientValues.{times_positive}
use Rattle.theory_lowering.proofs.SingleFractions.{IsReduced, power_form, no_canonical}
use Rattle.theory_poly.specs.Answers.{WideWhere}
use Rattle.theory_poly.specs.Kept.{IsKept, IsKeptQuotient}
use Rattle.theory_poly.proofs.AnswerLaws.{the_polynomial}
use Rattle.theory_poly.proofs.StepLaws.{within_passes_none}
use Rattle.theory_lower.specs.Combined.{IsKeptFunction, Pairs}

-- what is kept passes no limit
pub not_beyond : (ts r : List Monomial) → IsPolynomialOf ts r → IsKept r → ¬ IsBeyond ts
not_beyond ts r h kept b = within_passes_none r kept.within (subst PassesLimit (the_polynomial ts b.0 r b.1 h) b.2)

pub itself : (P : List Monomial) → IsPolynomial P → IsPolynomialOf P P
itself P h = record { ordered = h; same = same_itself P }

-- nor does 1
one_ordered : IsPolynomial one
one_ordered = (record { nonzero = λ e. absurd (omega (arith, ints, e)); places = refl }, tt, tt)

one_within : ¬ PassesLimit one
one_within (inl k) = absurd (omega (arith, k))
one_within (inr (inl k)) = let none : greatest_exponent_of one ≡ 0 = refl in absurd (omega (arith, k, none))
one_within (inr (inr k)) = let height : height_of one ≡ 1 = refl in absurd (omega (arith, k, height))

pub one_is : (P : List Monomial) → IsPolynomialOf one P → P ≡ one
one_is P h = the_polynomial one P one h (itself one one_ordered)

pub one_fits : ¬ IsBeyond one
one_fits b = one_within (subst PassesLimit (one_is b.0 b.1) b.2)

pub reduced : (a : RationalFunction) → IsKeptFunction a → IsReduced a
reduced a h = record { low = h.top.lowest; ordered = h.bottom.ordered }

-- a fault of one call as that of another
pub passed_on : (S T P Q : Type 0) (e : Limit) → (P → Q) → WideWhere {T = S} P (Err e) → WideWhere {T = T} Q (Err e)
passed_on S T P Q Wide f h = f h
passed_on S T P Q Memory f h = tt

-- both parts
pub paired_value : (T : Quotient) (B : List Monomial) (top : Result Quotient Limit) (bottom : Result (List Monomial) Limit)
    (result : Result RationalFunction Limit)
    → IfOk top (IsLowestOf T) → IfOk bottom (IsPolynomialOf B) → Pairs top bottom result → IfOk result (IsFractionOf T B)
paired_value T B (Ok q) (Ok P) (Ok r) h k is = subst (IsFractionOf T B) (sym is) (record { top_is = h; bottom_is = k })
paired_value T B (Ok q) (Ok P) (Err e) h k is = tt
paired_value T B (Ok q) (Err e) result h k is = subst (λ r. IfOk r (IsFractionOf T B)) (sym is) tt
paired_value T B (Err e) bottom result h k is = subst (λ r. IfOk r (IsFractionOf T B)) (sym is) tt

pub paired_wide : (T : Quotient) (B : List Monomial) (top : Result Quotient Limit) (bottom : Result (List Monomial) Limit)
    (result : Result RationalFunction Limit)
    → WideWhere (IsQuotientBeyond T) top → WideWhere (IsBeyond B) bottom → Pairs top bottom result → WideWhere (IsBeyondFraction T B) result
paired_wide T B (Ok q) (Ok P) (Ok r) h k is = λ w. ⊎_elim (λ (x : IsQuotientBeyond T). h x) (λ (y : IsBeyond B). k y) w
paired_wide T B (Ok q) (Ok P) (Err e) h k is = absurd is
paired_wide T B (Ok q) (Err e) result h k is =
    subst (WideWhere (IsBeyondFraction T B)) (sym is) (passed_on (List Monomial) RationalFunction (IsBeyond B) (IsBeyondFraction T B) e (λ y. inr y) k)
paired_wide T B (Err e) bottom result h k is =
    subst (WideWhere (IsBeyondFraction T B)) (sym is) (passed_on Quotient RationalFunction (IsQuotientBeyond T) (IsBeyondFraction T B) e (λ x. inl x) h)

-- sums and differences
module _ (op : Quotient → Quotient → Quotient) (a b : RationalFunction) where
  pub common_value : (result : Result RationalFunction Limit) → a.bottom ≡ b.bottom → IfOk result (IsFractionOf (op a.top b.top) a.bottom)
      → IfOk result (IsJoinOf op a b)
  common_value (Ok r) e h = inl (record { common = e; whole = h })
  common_value (Err x) e h = tt

  pub common_wide : (result : Result RationalFunction Limit) → a.bottom ≡ b.bottom → WideWhere (IsBeyondFraction (op a.top b.top) a.bottom) result
      → WideWhere (IsWideJoin op a b) result
  common_wide (Ok r) e h =
      λ w. ⊎_elim (λ (k : (a.bottom ≡ b.bottom) × IsBeyondFraction (op a.top b.top) a.bottom). h k.1) (λ (k : IsWideOverBoth op a b). k.0 e) w
  common_wide (Err x) e h =
      passed_on RationalFunction RationalFunction (IsBeyondFraction (op a.top b.top) a.bottom) (IsWideJoin op a b) x (λ k. inl (e, k)) h

  pub both_value : (x y : Quotient) (result : Result RationalFunction Limit) → a.bottom ≢ b.bottom → IsLowestOf (times a.top b.bottom) x
      → IsLowestOf (times b.top a.bottom) y → IfOk result (IsFractionOf (op x y) (product_of a.bottom b.bottom)) → IfOk result (IsOverBoth op a b)
  both_value x y (Ok r) n h k w = record { apart = n; first = x; second = y; first_is = h; second_is = k; whole = w }
  both_value x y (Err e) n h k w = tt

  pub second_wide : (e : Limit) → a.bottom ≢ b.bottom → WideWhere {T = Quotient} (IsQuotientBeyond (times b.top a.bottom)) (Err e)
      → WideWhere {T = RationalFunction} (IsWideOverBoth op a b) (Err e)
  second_wide e n h = passed_on Quotient RationalFunction (IsQuotientBeyond (times b.top a.bottom)) (IsWideOverBoth op a b) e (λ k. (n, inr (inl k))) h

  pub both_wide : (x y : Quotient) (result : Result RationalFunction Limit) → IsKeptQuotient a.top → IsKeptQuotient b.top → a.bottom ≢ b.bottom
      → IsLowestOf (times a.top b.bottom) x → IsLowestOf (times b.top a.bottom) y → ¬ IsQuotientBeyond (times a.top b.bottom)
      → ¬ IsQuotientBeyond (times b.top a.bottom) → WideWhere (IsBeyondFraction (op x y) (product_of a.bottom b.bottom)) result
      → WideWhere (IsWideOverBoth op a b) result
  both_wide x y (Ok r) l m n h k f g w =
      λ wide. ⊎_elim f
      (λ rest. ⊎_elim g
      (λ (last : (u : Quotient) × (v : Quotient) × IsLowestOf (times a.top b.bottom) u × IsLowestOf (times b.top a.bottom) v
      × IsBeyondFraction (op u v) (product_of a.bottom b.bottom)).
      w (subst₂ (λ u v. IsBeyondFraction (op u v) (product_of a.bottom b.bottom))
      (lowest_single (times a.top b.bottom) last.0 x (times_positive a.top.below 1 l.lowest.positive (omega arith)) last.2 h)
      (lowest_single (times b.top a.bottom) last.1 y (times_positive b.top.below 1 m.lowest.positive (omega arith)) last.3 k) last.4)) rest) wide.1
  both_wide x y (Err e) l m n h k f g w =
      passed_on RationalFunction RationalFunction (IsBeyondFraction (op x y) (product_of a.bottom b.bottom)) (IsWideOverBoth op a b) e
      (λ z. (n, inr (inr (x, y, h, k, z)))) w

-- a power goes one factor further
pub power_more : (a b r : RationalFunction) (i : ℕ) → IsPowerOf a i b → IsProductOf b a r → IsPowerOf a (i + 1) r
power_more a b r i h k = subst (λ n. IsPowerOf a n r) (let e : suc i ≡ i + 1 = omega arith in e) (b, h, k)

pub power_fits_more : (a b : RationalFunction) (i : ℕ) → IsKeptFunction a → IsPowerOf a i b → ¬ IsWidePower a i → ¬ IsWideProduct b a
    → ¬ IsWidePower a (i + 1)
power_fits_more a b i kept h fits last =
    subst (λ n. ¬ IsWidePower a n) (let e : suc i ≡ i + 1 = omega arith in e)
    (λ w. ⊎_elim (λ (x : IsWidePower a i). fits x)
    (λ (z : (c : RationalFunction) × IsPowerOf a i c × IsWideProduct c a).
    last (subst (λ c. IsWideProduct c a) ((power_form a i (reduced a kept)).unique z.0 b z.1 h) z.2)) w)

-- what passes a limit on the way does so in the end
wide_later : (a : RationalFunction) (i n : ℕ) → IsWidePower a i → IsWidePower a (n + i)
wide_later a i zero h = subst (IsWidePower a) (let e : i ≡ 0 + i = omega arith in e) h
wide_later a i (suc n) h = subst (IsWidePower a) (let e : suc (n + i) ≡ suc n + i = omega arith in e) (inl (wide_later a i n h))

pub wide_at_last : (a b : RationalFunction) (i k : ℕ) → i < k → IsPowerOf a i b → IsWideProduct b a → IsWidePower a k
wide_at_last a b i k h p beyond =
    let next : IsWidePower a (suc i) = inr (b, p, beyond) in
    subst (IsWidePower a) (let e : (k - suc i) + suc i ≡ k = omega (arith, h) in e) (wide_later a (suc i) (k - suc i) next)

-- a quotient, whose divisor is a whole number g with a sign times a canonical polynomial, over a number d
module _ (a b : RationalFunction) (turned : Bool) (poly : List Monomial) (g d : ℕ) (kept : IsKeptQuotient a.top) (low : IsKeptQuotient b.top)
    (form : IsCanonicalOf b.top.top turned poly) (content : IsContent b.top.top g) (below : d ≡ b.top.below) where
  same_content : (w : IsCanonicalOf b.top.top turned poly) → w.content ≡ g
  same_content w = content_unique b.top.top w.content g low.lowest.ordered w.is_content content

  scale_is : scale_of turned d g ≡ scale_of turned b.top.below form.content
  scale_is = ap (λ n. scale_of turned n g) below ∙ ap (scale_of turned b.top.below) (sym (same_content form))

  pub over_value : (x : Quotient) (result : Result RationalFunction Limit) → IsLowestOf (product_of_quotients a.top (scale_of turned d g)) x
      → IfOk result (IsFractionOf (times x b.bottom) (product_of a.bottom poly)) → IfOk result (IsOver a b)
  over_value x (Ok r) h w =
      record {
        turned = turned;
        poly = poly;
        form = form;
        scaled = x;
        scaled_is = subst (λ s. IsLowestOf (product_of_quotients a.top s) x) scale_is h;
        whole = w;
      }
  over_value x (Err e) h w = tt

  pub scaled_wide : (e : Limit) → WideWhere {T = Quotient} (IsQuotientBeyond (product_of_quotients a.top (scale_of turned d g))) (Err e)
      → WideWhere {T = RationalFunction} (IsWideOver a b) (Err e)
  scaled_wide e h =
      passed_on Quotient RationalFunction (IsQuotientBeyond (product_of_quotients a.top (scale_of turned d g))) (IsWideOver a b) e
      (λ k. record {
        turned = turned;
        poly = poly;
        form = form;
        wide = inl (subst (λ s. IsQuotientBeyond (product_of_quotients a.top s)) scale_is k);
      }) h

  -- what passes a limit by another writing of the divisor does so by this one
  same_scale : (w : IsWideOver a b) → scale_of w.turned b.top.below w.form.content ≡ scale_of turned d g
  same_scale w =
      ap₂ (λ (t : Bool) (n : ℕ). scale_of t b.top.below n) (canonical_single b.top.top w.turned turned w.poly poly w.form form).0
      (content_unique b.top.top w.form.content g low.lowest.ordered w.form.is_content content)
      ∙ ap (λ n. scale_of turned n g) (sym below)

  pub over_wide : (x : Quotient) (result : Result RationalFunction Limit) → IsLowestOf (product_of_quotients a.top (scale_of turned d g)) x
      → ¬ IsQuotientBeyond (product_of_quotients a.top (scale_of turned d g))
      → WideWhere (IsBeyondFraction (times x b.bottom) (product_of a.bottom poly)) result → WideWhere (IsWideOver a b) result
  over_wide x (Ok r) h f k =
      λ w. ⊎_elim
      (λ (first : IsQuotientBeyond (product_of_quotients a.top (scale_of w.turned b.top.below w.form.content))).
      f (subst (λ s. IsQuotientBeyond (product_of_quotients a.top s)) (same_scale w) first))
      (λ (last : (y : Quotient) × IsLowestOf (product_of_quotients a.top (scale_of w.turned b.top.below w.form.content)) y
      × IsBeyondFraction (times y b.bottom) (product_of a.bottom w.poly)).
      k (subst₂ (λ (y : Quotient) (P : List Monomial). IsBeyondFraction (times y b.bottom) (product_of a.bottom P))
      (lowest_single (product_of_quotients a.top (scale_of turned d g)) last.0 x
      (times_positive a.top.below g kept.lowest.positive content.positive)
      (subst (λ s. IsLowestOf (product_of_quotients a.top s) last.0) (same_scale w) last.1) h)
      (canonical_single b.top.top w.turned turned w.poly poly w.form form).1 last.2)) w.wide
  over_wide x (Err e) h f k =
      passed_on RationalFunction RationalFunction (IsBeyondFraction (times x b.bottom) (product_of a.bottom poly)) (IsWideOver a b) e
      (λ z. record {
        turned = turned;
        poly = poly;
        form = form;
        wide = inr (x, subst (λ s. IsLowestOf (product_of_quotients a.top s) x) scale_is h, z);
      }) k

-- a list of length 0
pub none_where : (P : List Monomial) (n : ℕ) → n ≡ length P → n ≡ 0 → P ≡ []
none_where [] n h e = refl
none_where (t ∷ ts) n h e = absurd (omega (arith, h, e))

-- a divisor that is 0 has no canonical form
pub not_over_zero : (a b : RationalFunction) → b.top.top ≡ [] → ¬ IsWideOver a b
not_over_zero a b none w = no_canonical w.turned b.top.top w.poly none w.form
