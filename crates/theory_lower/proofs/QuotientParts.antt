-- Products of a polynomial over a number with a polynomial, and with a number over another.
use Rattle.std.proofs.Common.{◌≡◌, ◌≢◌, ℕ, ◌+◌, ◌*◌, ◌<◌, ℤ, pos, ◌+ℤ◌, ◌*ℤ◌, Bool, true, false, List, [], ◌∷◌, length, replicate, refl, sym, ap, ap₂, ◌∙◌, subst, arith, inl, inr, Result, Ok, Err, IfOk}
use Rattle.std.specs.Prelude.{if◌then◌else◌}
use Rattle.std.specs.Str.{bytes_eq}
use Rattle.std.proofs.Math.IntN.{*ℤ_comm}
use Rattle.std.proofs.Math.Nat.{eq-one_of_dvd-one}
use Rattle.std.proofs.lemmas.Bool.{cases_Bool}
use Rattle.std.proofs.lemmas.Int.{ints}
use Rattle.std.proofs.lemmas.Slice.Eq.{bytes_eq-Decides}
use Rattle.theory_points.specs.declared.limit.Limit.{Limit}
use Rattle.theory_points.specs.declared.limit.Limit.TheVariants.{Wide, Memory}
use Rattle.theory_polynomial.specs.Polynomial.{Monomial, monomial, coefficient_at, AreSame, IsPolynomial, scaled, powers_of_product, product_of, no_powers, constant_of}
use Rattle.theory_polynomial.specs.RationalPolynomial.{Quotient, IsLowestOf, IsQuotientBeyond, QuotientPasses, product_of_quotients}
use Rattle.theory_polynomial.proofs.CoefficientLaws.{coefficient_at-scaled, same_itself, times_times, times_zero}
use Rattle.theory_polynomial.proofs.FixedOrder.{polynomial_unique}
use Rattle.theory_polynomial.proofs.PrimitiveLaws.{without_factor}
use Rattle.theory_polynomial.proofs.SingleForms.{lowest_single}
use Rattle.theory_lowering.specs.RationalFunction.{over, times}
use Rattle.theory_lowering.proofs.QuotientValues.{times_positive}
use Rattle.theory_lowering.proofs.RationalValues.{whole_nonzero}
use Rattle.theory_poly.specs.Answers.{WideWhere}
use Rattle.theory_poly.proofs.QuotientLaws.{lowest_of_same}

-- a polynomial over 1 is in lowest form
pub whole_is : (P : List Monomial) (r : Quotient) → IsPolynomial P → IsLowestOf (over P 1) r → r ≡ over P 1
whole_is P r ordered h =
    lowest_single (over P 1) r (over P 1) (omega arith) h
    (record {
      lowest = record { ordered = ordered; positive = omega arith; lowest = λ d one all. eq-one_of_dvd-one one };
      same = same_itself (scaled (pos 1) P);
    })

pub multiplied_value : (q f : Quotient) (P Q : List Monomial) (result : Result Quotient Limit) → IsPolynomial P → Q ≡ P → IsLowestOf (over Q 1) f
    → IfOk result (IsLowestOf (product_of_quotients q f)) → IfOk result (IsLowestOf (times q P))
multiplied_value q f P Q result ordered is h =
    subst (λ g. IfOk result (IsLowestOf (product_of_quotients q g))) (whole_is P f ordered (subst (λ R. IsLowestOf (over R 1) f) is h))

pub multiplied_wide : (q f : Quotient) (P Q : List Monomial) (result : Result Quotient Limit) → IsPolynomial P → Q ≡ P → IsLowestOf (over Q 1) f
    → WideWhere (IsQuotientBeyond (product_of_quotients q f)) result → WideWhere (IsQuotientBeyond (times q P)) result
multiplied_wide q f P Q result ordered is h =
    subst (λ g. WideWhere (IsQuotientBeyond (product_of_quotients q g)) result) (whole_is P f ordered (subst (λ R. IsLowestOf (over R 1) f) is h))

-- 0 in lowest form
nothing_same : (e : List ℕ) (b : Bool) → (if b then pos 0 else pos 0) +ℤ pos 0 ≡ pos 0
nothing_same e true = omega (arith, ints)
nothing_same e false = omega (arith, ints)

nothing : AreSame (constant_of (pos 0)) []
nothing = record { at = λ e. nothing_same e (bytes_eq no_powers e) }

pub zero_is_lowest : (z : Quotient) → IsLowestOf (over (constant_of (pos 0)) 1) z → IsLowestOf (over [] 1) z
zero_is_lowest z h = lowest_of_same (constant_of (pos 0)) [] 1 z nothing h

zero_is : (z : Quotient) → IsLowestOf (over (constant_of (pos 0)) 1) z → z ≡ over [] 1
zero_is z h = whole_is [] z tt (zero_is_lowest z h)

pub opposite_value : (a z : Quotient) (result : Result Quotient Limit) (op : Quotient → Quotient → Quotient) → IsLowestOf (over (constant_of (pos 0)) 1) z
    → IfOk result (IsLowestOf (op z a)) → IfOk result (IsLowestOf (op (over [] 1) a))
opposite_value a z result op h = subst (λ y. IfOk result (IsLowestOf (op y a))) (zero_is z h)

pub opposite_wide : (a z : Quotient) (result : Result Quotient Limit) (op : Quotient → Quotient → Quotient) → IsLowestOf (over (constant_of (pos 0)) 1) z
    → WideWhere (IsQuotientBeyond (op z a)) result → WideWhere (IsQuotientBeyond (op (over [] 1) a)) result
opposite_wide a z result op h = subst (λ y. WideWhere (IsQuotientBeyond (op y a)) result) (zero_is z h)

-- a product with a constant
powers_kept : (e : List ℕ) → powers_of_product e (replicate (length e) 0) ≡ e
powers_kept [] = refl
powers_kept (n ∷ e) = ap₂ (λ (m : ℕ) (f : List ℕ). m ∷ f) (let same : n + 0 ≡ n = omega arith in same) (powers_kept e)

product_constant : (P : List Monomial) (c : ℤ) → IsPolynomial P → product_of P (constant_of c) ≡ scaled c P
product_constant [] c h = refl
product_constant (t ∷ ts) c h =
    let powers : powers_of_product t.powers no_powers ≡ t.powers =
    ap (λ n. powers_of_product t.powers (replicate n 0)) (sym h.0.places) ∙ powers_kept t.powers in
    ap₂ (λ (u : Monomial) (us : List Monomial). u ∷ us) (ap₂ monomial (*ℤ_comm t.coefficient c) powers) (product_constant ts c h.2)

-- the lowest form of a number over another has a number as its top
record IsConstantTop (c : ℤ) (g : ℕ) (s : Quotient) : Type 0 where
  number : ℤ
  top : s.top ≡ constant_of number
  times : pos g *ℤ number ≡ pos s.below *ℤ c

own_coefficient : (c : ℤ) (e : List ℕ) → bytes_eq no_powers e ≡ true → coefficient_at (constant_of c) e ≡ c
own_coefficient c e h = ap (λ (b : Bool). (if b then c else pos 0) +ℤ pos 0) h ∙ (let same : c +ℤ pos 0 ≡ c = omega (arith, ints) in same)

other_coefficient : (c : ℤ) (e : List ℕ) → bytes_eq no_powers e ≡ false → coefficient_at (constant_of c) e ≡ pos 0
other_coefficient c e h = ap (λ (b : Bool). (if b then c else pos 0) +ℤ pos 0) h

module _ (c : ℤ) (g : ℕ) (s : Quotient) (some : c ≢ pos 0) (positive : 0 < g) (h : IsLowestOf (over (constant_of c) g) s) where
  at_power : (e : List ℕ) → pos g *ℤ coefficient_at s.top e ≡ pos s.below *ℤ coefficient_at (constant_of c) e
  at_power e =
      sym (coefficient_at-scaled (pos g) s.top e) ∙ h.same.at e ∙ coefficient_at-scaled (pos s.below) (constant_of c) e

  number_times : pos g *ℤ coefficient_at s.top no_powers ≡ pos s.below *ℤ c
  number_times = at_power no_powers ∙ ap (λ z. pos s.below *ℤ z) (own_coefficient c no_powers ((bytes_eq-Decides no_powers no_powers).1 refl))

  number_some : coefficient_at s.top no_powers ≢ pos 0
  number_some e =
      whole_nonzero (pos s.below) c (λ zero_is. let low = h.lowest.positive in absurd (omega (arith, ints, zero_is, low))) some
      (sym number_times ∙ ap (λ z. pos g *ℤ z) e ∙ times_zero (pos g))

  constant_at : (e : List ℕ) → coefficient_at s.top e ≡ coefficient_at (constant_of (coefficient_at s.top no_powers)) e
  constant_at e =
      elim (cases_Bool (bytes_eq no_powers e)) [
        | inl same ↦
            ap (coefficient_at s.top) (sym ((bytes_eq-Decides no_powers e).0 same)) ∙ sym (own_coefficient (coefficient_at s.top no_powers) e same)
        | inr apart ↦
            without_factor g (coefficient_at s.top e) (pos 0) positive
            (at_power e ∙ ap (λ z. pos s.below *ℤ z) (other_coefficient c e apart) ∙ times_zero (pos s.below) ∙ sym (times_zero (pos g)))
            ∙ sym (other_coefficient (coefficient_at s.top no_powers) e apart)
      ]

  constant_top : IsConstantTop c g s
  constant_top = record {
    number = coefficient_at s.top no_powers;
    top = polynomial_unique s.top (constant_of (coefficient_at s.top no_powers)) h.lowest.ordered
        (record { nonzero = number_some; places = refl }, tt, tt) (record { at = constant_at });
    times = number_times;
  }

-- so a product with it is one with the number over the other
swapped : (a b c : ℤ) → a *ℤ (b *ℤ c) ≡ b *ℤ (a *ℤ c)
swapped a b c = times_times a b c ∙ ap (λ z. z *ℤ c) (*ℤ_comm a b) ∙ sym (times_times b a c)

crossed : (s : ℕ) (x g n c b r a : ℤ) → 0 < s → x *ℤ (pos s *ℤ r) ≡ b *ℤ (n *ℤ a) → g *ℤ n ≡ pos s *ℤ c → x *ℤ (g *ℤ r) ≡ b *ℤ (c *ℤ a)
crossed s x g n c b r a some h k =
    without_factor s (x *ℤ (g *ℤ r)) (b *ℤ (c *ℤ a)) some
    (swapped (pos s) x (g *ℤ r) ∙ ap (λ z. x *ℤ z) (swapped (pos s) g r) ∙ swapped x g (pos s *ℤ r)
    ∙ ap (λ z. g *ℤ z) h
    ∙ swapped g b (n *ℤ a) ∙ ap (λ z. b *ℤ z) (times_times g n a ∙ ap (λ z. z *ℤ a) k ∙ sym (times_times (pos s) c a))
    ∙ swapped b (pos s) (c *ℤ a))

whole_times : (m n : ℕ) (r : ℤ) → pos (m * n) *ℤ r ≡ pos m *ℤ (pos n *ℤ r)
whole_times m n r = ap (λ z. z *ℤ r) (let e : pos (m * n) ≡ pos m *ℤ pos n = omega (arith, ints) in e) ∙ sym (times_times (pos m) (pos n) r)

module _ (q : Quotient) (c : ℤ) (g : ℕ) (s : Quotient) (ordered : IsPolynomial q.top) (some : c ≢ pos 0) (positive : 0 < g)
    (h : IsLowestOf (over (constant_of c) g) s) where
  same_product : (r : Quotient) (t : IsConstantTop c g s) → AreSame (scaled (pos (q.below * s.below)) r.top) (scaled (pos r.below) (product_of q.top s.top))
      → AreSame (scaled (pos (q.below * g)) r.top) (scaled (pos r.below) (product_of q.top (constant_of c)))
  same_product r t same = record {
    at = λ e.
        coefficient_at-scaled (pos (q.below * g)) r.top e ∙ whole_times q.below g (coefficient_at r.top e)
        ∙ crossed s.below (pos q.below) (pos g) t.number c (pos r.below) (coefficient_at r.top e) (coefficient_at q.top e) h.lowest.positive
        (sym (whole_times q.below s.below (coefficient_at r.top e)) ∙ sym (coefficient_at-scaled (pos (q.below * s.below)) r.top e) ∙ same.at e
        ∙ coefficient_at-scaled (pos r.below) (product_of q.top s.top) e
        ∙ ap (λ (us : List Monomial). pos r.below *ℤ coefficient_at us e) (ap (product_of q.top) t.top ∙ product_constant q.top t.number ordered)
        ∙ ap (λ z. pos r.below *ℤ z) (coefficient_at-scaled t.number q.top e))
        t.times
        ∙ ap (λ z. pos r.below *ℤ z)
        (sym (ap (λ (us : List Monomial). coefficient_at us e) (product_constant q.top c ordered) ∙ coefficient_at-scaled c q.top e))
        ∙ sym (coefficient_at-scaled (pos r.below) (product_of q.top (constant_of c)) e);
  }

  lowest_product : (r : Quotient) → IsLowestOf (product_of_quotients q s) r → IsLowestOf (product_of_quotients q (over (constant_of c) g)) r
  lowest_product r k = record { lowest = k.lowest; same = same_product r (constant_top c g s some positive h) k.same }

  pub scaled_value : (result : Result Quotient Limit) → IfOk result (IsLowestOf (product_of_quotients q s))
      → IfOk result (IsLowestOf (product_of_quotients q (over (constant_of c) g)))
  scaled_value (Ok r) k = lowest_product r k
  scaled_value (Err e) k = tt

  pub scaled_wide : (result : Result Quotient Limit) → 0 < q.below → IfOk result (IsLowestOf (product_of_quotients q s))
      → WideWhere (IsQuotientBeyond (product_of_quotients q s)) result
      → WideWhere (IsQuotientBeyond (product_of_quotients q (over (constant_of c) g))) result
  scaled_wide (Ok r) low k fits =
      λ b. fits (
        r,
        k,
        subst QuotientPasses
            (lowest_single (product_of_quotients q (over (constant_of c) g)) b.0 r (times_positive q.below g low positive) b.1 (lowest_product r k)) b.2,
      )
  scaled_wide (Err Wide) low k beyond = (beyond.0, lowest_product beyond.0 beyond.1, beyond.2)
  scaled_wide (Err Memory) low k beyond = tt
