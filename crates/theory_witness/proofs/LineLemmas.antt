-- A polynomial that holds one symbol alone, and is linear in it: its terms, and its value where the symbol has one.
use Rattle.std.proofs.Common.{◌≡◌, ◌≢◌, ℕ, zero, suc, ◌+◌, ◌<◌, ◌≤◌, ◌⊎◌, inl, inr, ⊎_elim, ℤ, pos, negsuc, ◌+ℤ◌, ◌*ℤ◌, neg_ℤ}
use Rattle.std.proofs.Common.{List, [], ◌∷◌, length, replicate, get_or, set, refl, sym, ap, ap₂, ◌∙◌, subst, subst₂, arith}
use Rattle.std.specs.Prelude.{slice_get, Option, Some, None, unsigned_abs}
use Rattle.std.proofs.lemmas.Int.{ints}
use Rattle.theory_meaning.specs.Fraction.{Fraction, den, whole, cross, IsSame, product_of as fraction_product, power_of, sum_of as fraction_sum}
use Rattle.theory_meaning.specs.Limits.{bound}
use Rattle.theory_formula.specs.Signs.{sign_of, sign_of_whole}
use Rattle.theory_formula.specs.declared.signs.Signs.{Signs}
use Rattle.theory_formula.specs.Formula.{sign_at}
use Rattle.theory_polynomial.specs.Polynomial.{Monomial, IsPolynomial, IsFreeOf, IsLinearIn, no_powers, height_of, greatest_of, greatest_exponent_of, Precedes}
use Rattle.theory_polynomial.specs.PolynomialValue.{Values, rest_of, power_product}
use Rattle.theory_polynomial.proofs.FixedOrder.{precedes_irreflexive}
use Rattle.theory_formula.specs.SignCondition.{HasSymbol}
use Rattle.theory_formula.proofs.ConditionLaws.{constant_from_first, zero_powers}
use Rattle.theory_meaning.specs.declared.words.Sign.{Sign}
use Rattle.theory_meaning.specs.declared.words.Sign.TheVariants.{Minus, Zero, Plus}
use Rattle.std.proofs.Math.IntN.{*ℤ_comm}
use Rattle.theory_meaning.proofs.WholeLaws.{neg-times}
use Rattle.theory_points.specs.Parts.{IsQuotient, IsWideQuotient}
use Rattle.theory_elimination.proofs.Lines as lines
use Rattle.theory_elimination.proofs.SignSums.{times, CanSum, is_none}
use Rattle.theory_decision.specs.Witness.{only_at}
use Rattle.theory_witness.specs.declared.line.Line.{Line}
use Rattle.theory_witness.specs.Lines.{HoldsOnly, coefficient_of, height, IsKeptLine, IsLineOf}
use Rattle.theory_poly.specs.Kept.{IsKept}

-- exponents that are 0 but for one symbol, which has 1
abbrev pub own : ℕ → ℕ → List ℕ
own n x = set (replicate n 0) x 1

-- exponents of one symbol alone, at most 1, are these or all 0
record OneAlone (x : ℕ) (e : List ℕ) : Type 0 where
  alone : (y : ℕ) → y ≢ x → get_or e y 0 ≡ 0
  straight : get_or e x 0 ≤ 1

all_zero : (e : List ℕ) → ((y : ℕ) → get_or e y 0 ≡ 0) → e ≡ replicate (length e) 0
all_zero [] h = refl
all_zero (n ∷ e) h = ap₂ (λ (m : ℕ) (f : List ℕ). m ∷ f) (h 0) (all_zero e (λ y. h (suc y)))

later : (x y : ℕ) → y ≢ x → suc y ≢ suc x
later x y n e = n (omega (arith, e))

two_kinds : (e : List ℕ) (x : ℕ) → OneAlone x e → (e ≡ replicate (length e) 0) ⊎ (e ≡ own (length e) x)
two_kinds [] x h = inl refl
two_kinds (zero ∷ e) zero h = inl (ap (λ (f : List ℕ). 0 ∷ f) (all_zero e (λ y. h.alone (suc y) (λ k. absurd (omega (arith, k))))))
two_kinds (suc zero ∷ e) zero h = inr (ap (λ (f : List ℕ). 1 ∷ f) (all_zero e (λ y. h.alone (suc y) (λ k. absurd (omega (arith, k))))))
two_kinds (suc (suc n) ∷ e) zero h = absurd (let s = h.straight in omega (arith, s))
two_kinds (n ∷ e) (suc x) h =
    let first : n ≡ 0 = h.alone 0 (λ k. absurd (omega (arith, k))) in
    let rest : OneAlone x e = record { alone = λ y k. h.alone (suc y) (later x y k); straight = h.straight } in
    ⊎_elim (λ k. inl (ap₂ (λ (m : ℕ) (f : List ℕ). m ∷ f) first k)) (λ k. inr (ap₂ (λ (m : ℕ) (f : List ℕ). m ∷ f) first k)) (two_kinds e x rest)

-- the terms are that of the symbol, and a constant or none
pub record HasTerms (x : ℕ) (P : List Monomial) : Type 0 where
  pub first : Monomial
  pub rest : List Monomial
  pub are : P ≡ first ∷ rest
  pub powers : first.powers ≡ own 32 x
  pub few : (rest ≡ []) ⊎ ((t : Monomial) × (rest ≡ t ∷ []) × (t.powers ≡ no_powers))

abbrev NoOther : ℕ → List Monomial → Type 0
NoOther x P = ((y : ℕ) → y ≢ x → IsFreeOf y P)

one_of_term : (x : ℕ) (t : Monomial) (ts : List Monomial) → IsLinearIn x (t ∷ ts) → NoOther x (t ∷ ts) → OneAlone x t.powers
one_of_term x t ts l a = record {
  alone = λ y n. let h = a y n in omega (arith, h);
  straight = omega (arith, l);
}

kind_of_term : (x : ℕ) (t : Monomial) (ts : List Monomial) → IsPolynomial (t ∷ ts) → IsLinearIn x (t ∷ ts) → NoOther x (t ∷ ts)
    → (t.powers ≡ no_powers) ⊎ (t.powers ≡ own 32 x)
kind_of_term x t ts h l a =
    subst (λ (n : ℕ). (t.powers ≡ replicate n 0) ⊎ (t.powers ≡ own n x)) h.0.places (two_kinds t.powers x (one_of_term x t ts l a))

linear_rest : (x : ℕ) (t : Monomial) (ts : List Monomial) → IsLinearIn x (t ∷ ts) → IsLinearIn x ts
linear_rest x t ts l = omega (arith, l)

no_other_rest : (x : ℕ) (t : Monomial) (ts : List Monomial) → NoOther x (t ∷ ts) → NoOther x ts
no_other_rest x t ts a y n = let h = a y n in omega (arith, h)

-- nothing comes behind a constant
none_behind : (u : Monomial) (ts : List Monomial) → IsPolynomial (u ∷ ts) → u.powers ≡ no_powers → ts ≡ []
none_behind u [] h k = refl
none_behind u (w ∷ ws) h k =
    let constant : greatest_exponent_of (u ∷ w ∷ ws) ≡ 0 = (constant_from_first u (w ∷ ws) h k).0 in
    let zeros : greatest_of w.powers ≡ 0 = omega (arith, constant) in
    let same : w.powers ≡ no_powers = zero_powers w.powers zeros ∙ ap (λ (n : ℕ). replicate n 0) h.2.0.places in
    absurd (precedes_irreflexive no_powers (subst₂ Precedes k same h.1))

few_behind : (x : ℕ) (t : Monomial) (ts : List Monomial) → IsPolynomial (t ∷ ts) → IsLinearIn x (t ∷ ts) → NoOther x (t ∷ ts) → t.powers ≡ own 32 x
    → (ts ≡ []) ⊎ ((u : Monomial) × (ts ≡ u ∷ []) × (u.powers ≡ no_powers))
few_behind x t [] h l a k = inl refl
few_behind x t (u ∷ us) h l a k =
    ⊎_elim (λ j. inr (u, ap (λ (vs : List Monomial). u ∷ vs) (none_behind u us h.2 j), j))
    (λ j. absurd (precedes_irreflexive (own 32 x) (subst₂ Precedes k j h.1)))
    (kind_of_term x u us h.2 (linear_rest x t (u ∷ us) l) (no_other_rest x t (u ∷ us) a))

has_terms : (x : ℕ) (P : List Monomial) → IsPolynomial P → HasSymbol P → IsLinearIn x P → NoOther x P → HasTerms x P
has_terms x [] h s l a = absurd (omega (arith, s))
has_terms x (t ∷ ts) h s l a =
    ⊎_elim (λ k. absurd (let c : greatest_exponent_of (t ∷ ts) ≡ 0 = (constant_from_first t ts h k).0 in omega (arith, s, c)))
    (λ k. record { first = t; rest = ts; are = refl; powers = k; few = few_behind x t ts h l a k })
    (kind_of_term x t ts h l a)

-- products of powers: of none, and of one symbol at its value
fraction_by : ℤ → ℕ → Fraction
fraction_by n l = record { num = n; less = l }

once : (v : Fraction) → fraction_product (whole (pos 1)) v ≡ v
unfolding fraction_by
once v = ap₂ fraction_by (omega (arith, ints)) (omega arith)

once_more : (v : Fraction) → fraction_product v (whole (pos 1)) ≡ v
unfolding fraction_by
once_more v = ap₂ fraction_by (omega (arith, ints)) (omega arith)

no_powers_value : (n : ℕ) (p : Values) → power_product (replicate n 0) p ≡ whole (pos 1)
no_powers_value zero p = refl
no_powers_value (suc n) p = ap (fraction_product (whole (pos 1))) (no_powers_value n (rest_of p))

own_value : (n x : ℕ) (v : Fraction) → x < n → power_product (own n x) (only_at x v) ≡ v
own_value zero x v h = absurd (omega (arith, h))
own_value (suc n) zero v h =
    ap (fraction_product (power_of v 1)) (no_powers_value n []) ∙ once_more (power_of v 1) ∙ once v
own_value (suc n) (suc x) v h = ap (fraction_product (whole (pos 1))) (own_value n x v (omega (arith, h))) ∙ once v

one_value : (c n : ℤ) (k l : ℕ) → c *ℤ n *ℤ pos 1 +ℤ pos 0 *ℤ pos k ≡ c *ℤ n +ℤ pos 0 *ℤ pos l
one_value c n k l = omega (arith, ints)

two_values : (c n d : ℤ) (k l : ℕ) → k ≡ l → c *ℤ n *ℤ pos 1 +ℤ (d *ℤ pos 1 *ℤ pos 1 +ℤ pos 0 *ℤ pos 1) *ℤ pos k ≡ c *ℤ n +ℤ d *ℤ pos l
two_values c n d k l e =
    let first : c *ℤ n *ℤ pos 1 ≡ c *ℤ n = omega (arith, ints) in
    let second : d *ℤ pos 1 *ℤ pos 1 +ℤ pos 0 *ℤ pos 1 ≡ d = omega (arith, ints) in
    ap₂ (λ (y z : ℤ). y +ℤ z *ℤ pos k) first second ∙ ap (λ (m : ℕ). c *ℤ n +ℤ d *ℤ pos m) e

same_den : (v : Fraction) → den (fraction_product (whole (pos 1)) v) ≡ den v
same_den v = ap den (once v)

pub line_by : ℤ → ℤ → Line
line_by a b = record { slope = a; base = b }

-- the value of one term, and of two
sign_of_one : (x : ℕ) (t : Monomial) (v : Fraction) → x < 32 → t.powers ≡ own 32 x
    → sign_at (t ∷ []) (only_at x v) ≡ sign_of_whole (t.coefficient *ℤ v.num +ℤ pos 0 *ℤ pos (den v))
sign_of_one x t v l h =
    ap (λ (e : List ℕ). sign_of (fraction_sum (fraction_product (whole t.coefficient) (power_product e (only_at x v))) (whole (pos 0)))) h
    ∙ ap (λ (q : Fraction). sign_of (fraction_sum (fraction_product (whole t.coefficient) q) (whole (pos 0)))) (own_value 32 x v l)
    ∙ ap sign_of_whole (one_value t.coefficient v.num (den (fraction_product (whole t.coefficient) v)) (den v))

sign_of_two : (x : ℕ) (t u : Monomial) (v : Fraction) → x < 32 → t.powers ≡ own 32 x → u.powers ≡ no_powers
    → sign_at (t ∷ u ∷ []) (only_at x v) ≡ sign_of_whole (t.coefficient *ℤ v.num +ℤ u.coefficient *ℤ pos (den v))
sign_of_two x t u v l h k =
    let p = only_at x v in
    ap₂ (λ (e f : List ℕ). sign_of (fraction_sum (fraction_product (whole t.coefficient) (power_product e p))
    (fraction_sum (fraction_product (whole u.coefficient) (power_product f p)) (whole (pos 0))))) h k
    ∙ ap₂ (λ (q r : Fraction). sign_of (fraction_sum (fraction_product (whole t.coefficient) q)
    (fraction_sum (fraction_product (whole u.coefficient) r) (whole (pos 0))))) (own_value 32 x v l) (no_powers_value 32 p)
    ∙ ap sign_of_whole (two_values t.coefficient v.num u.coefficient (den (fraction_product (whole t.coefficient) v)) (den v) (same_den v))

abbrev FewBehind : List Monomial → Type 0
FewBehind ts = (ts ≡ []) ⊎ ((u : Monomial) × (ts ≡ u ∷ []) × (u.powers ≡ no_powers))

-- the line of these coefficients is that of the terms
abbrev HasLine : ℕ → Monomial → List Monomial → Type 0
HasLine x t ts = IsKept (t ∷ ts) → IsLineOf x (t ∷ ts) (line_by t.coefficient (coefficient_of (slice_get (t ∷ ts) 1)))

line_of_few : (x : ℕ) (t : Monomial) (ts : List Monomial) → x < 32 → IsKept (t ∷ ts) → t.powers ≡ own 32 x → FewBehind ts
    → IsLineOf x (t ∷ ts) (line_by t.coefficient (coefficient_of (slice_get (t ∷ ts) 1)))
unfolding line_by
line_of_few x t ts l h k (inl e) =
    subst (HasLine x t) (sym e) (λ kept. record {
      kept = record { slope = let c = kept.within.coefficients in omega (arith, c); base = omega arith };
      sloped = kept.ordered.0.nonzero;
      sign = λ v. sign_of_one x t v l k;
    }) h
line_of_few x t ts l h k (inr j) =
    subst (HasLine x t) (sym j.1) (λ kept. record {
      kept = record {
        slope = let c = kept.within.coefficients in omega (arith, c);
        base = let c = kept.within.coefficients in omega (arith, c);
      };
      sloped = kept.ordered.0.nonzero;
      sign = λ v. sign_of_two x t j.0 v l k j.2;
    }) h

-- the line of the first two coefficients
pub line_is : (x : ℕ) (P : List Monomial) (S : Signs) → x < 32 → HoldsOnly x P S → IsKept P
    → IsLineOf x P (line_by (coefficient_of (slice_get P 0)) (coefficient_of (slice_get P 1)))
line_is x P S l h kept =
    let has = has_terms x P kept.ordered h.linear.poly.symbol h.linear.linear h.alone in
    let own_line = line_of_few x has.first has.rest l (subst IsKept has.are kept) has.powers has.few in
    subst (λ (Q : List Monomial). IsLineOf x Q (line_by (coefficient_of (slice_get Q 0)) (coefficient_of (slice_get Q 1)))) (sym has.are) own_line

pub as_line : (x : ℕ) (P : List Monomial) (a b : ℤ) (l : Line) → l.slope ≡ a → l.base ≡ b → IsLineOf x P (line_by a b) → IsLineOf x P l
unfolding line_by
as_line x P a b l first second h =
    subst₂ (λ (c d : ℤ). IsLineOf x P (record { slope = c; base = d })) (sym first) (sym second) h

-- each coefficient is within the bound
pub small_at : (P : List Monomial) (k : ℕ) (t : Monomial) → height_of P ≤ bound → slice_get P k ≡ Some t → unsigned_abs t.coefficient ≤ bound
small_at [] k t h e = absurd (let other : None ≡ Some t = e in cc)
small_at (u ∷ us) zero t h e =
    subst (λ (w : Monomial). unsigned_abs w.coefficient ≤ bound) (ap (some_or u) e) (omega (arith, h))
  where
    some_or : Monomial → Option Monomial → Monomial
    some_or d (Some w) = w
    some_or d None = d
small_at (u ∷ us) (suc k) t h e = small_at us k t (omega (arith, h)) e

-- the root of a line, by its parts
cancels : (y z : ℤ) → y ≡ neg_ℤ z → y +ℤ z ≡ pos 0
cancels y z h = omega (arith, ints, h)

pub root_zero : (l : Line) (n d : ℤ) (q : Fraction) → IsQuotient n d q → n ≡ neg_ℤ l.base → d ≡ l.slope → height l q ≡ pos 0
root_zero l n d q h top bottom =
    let equal : q.num *ℤ l.slope ≡ neg_ℤ l.base *ℤ pos (den q) =
    subst₂ (λ (m e : ℤ). q.num *ℤ e ≡ m *ℤ pos (den q)) top bottom h.equal in
    cancels (l.slope *ℤ q.num) (l.base *ℤ pos (den q)) (*ℤ_comm l.slope q.num ∙ equal ∙ neg-times l.base (pos (den q)))

no_way : (s t : Sign) → (s ≡ Zero → ⊥) → times s t ≡ Zero → t ≡ Zero
no_way Zero t n h = absurd (n refl)
no_way Plus t n h = h
no_way Minus Zero n h = refl
no_way Minus Plus n h = absurd cc
no_way Minus Minus n h = absurd cc

even : (m n : ℤ) → m +ℤ neg_ℤ n ≡ pos 0 → n ≡ m
even m n h = omega (arith, ints, h)

pub only_root : (l : Line) (r q : Fraction) → l.slope ≢ pos 0 → height l r ≡ pos 0 → height l q ≡ pos 0 → IsSame r q
only_root l r q sloped here there =
    let m : lines.Line = record { slope = l.slope; base = l.base } in
    let moved : sign_of_whole (height l q) ≡ times (sign_of_whole l.slope) (lines.way r q) =
    subst (λ (s : Sign). CanSum s (times (sign_of_whole l.slope) (lines.way r q)) (sign_of_whole (height l q)))
    (ap sign_of_whole here) (lines.sign_along m r q) in
    even (cross q r) (cross r q)
    (is_none (cross q r +ℤ neg_ℤ (cross r q))
    (no_way (sign_of_whole l.slope) (lines.way r q) (λ e. sloped (is_none l.slope e)) (sym moved ∙ ap sign_of_whole there)))

-- the parts as they are make a fraction within the bound
turned_parts : (b : ℤ) (n : ℕ) → b *ℤ negsuc n ≡ neg_ℤ b *ℤ pos (n + 1)
turned_parts b n =
    *ℤ_comm b (negsuc n) ∙ neg-times (pos (suc n)) b ∙ ap neg_ℤ (*ℤ_comm (pos (suc n)) b)
    ∙ ap (λ (m : ℕ). neg_ℤ (b *ℤ pos m)) (let e : suc n ≡ n + 1 = omega arith in e) ∙ sym (neg-times b (pos (n + 1)))

not_wide : (a b : ℤ) → unsigned_abs a ≤ bound → unsigned_abs b ≤ bound → a ≢ pos 0 → IsWideQuotient (neg_ℤ b) a → ⊥
not_wide (pos zero) b h k s w = s refl
not_wide (pos (suc n)) b h k s w =
    w (record { num = neg_ℤ b; less = n }) (record { top = omega (arith, ints, k); bottom = omega (arith, h) })
    (record { divides = s; equal = ap (λ (m : ℕ). neg_ℤ b *ℤ pos m) (let e : suc n ≡ n + 1 = omega arith in e) })
not_wide (negsuc n) b h k s w =
    w (record { num = b; less = n }) (record { top = k; bottom = omega (arith, ints, h) }) (record { divides = s; equal = turned_parts b n })

pub root_exists : (l : Line) (n d : ℤ) → IsKeptLine l → l.slope ≢ pos 0 → IsWideQuotient n d → n ≡ neg_ℤ l.base → d ≡ l.slope → ⊥
root_exists l n d kept sloped wide top bottom = not_wide l.slope l.base kept.slope kept.base sloped (subst₂ IsWideQuotient top bottom wide)
