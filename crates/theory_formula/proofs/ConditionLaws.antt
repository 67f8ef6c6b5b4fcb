-- The sign condition on a polynomial, decided or on the canonical polynomial: its truth, and that it is one.
use Rattle.std.proofs.Common.{◌≡◌, ◌≢◌, ℕ, zero, suc, ◌<◌, ℤ, pos, negsuc, ◌+ℤ◌, ◌*ℤ◌, neg_ℤ, Bool, true, false, List, [], ◌∷◌, length, replicate, refl, sym, ap, ap₂, ◌∙◌, subst, arith, inl, inr, ⊎_elim}
use Rattle.std.specs.Prelude.{if◌then◌else◌}
use Rattle.std.specs.Ordering.{nat_cmp, ordering_then}
use Rattle.std.specs.Cmp.{nat_cmp_is}
use Rattle.std.specs.declared.cmp.Ordering.{Ordering}
use Rattle.std.specs.Cmp.Lexicographic.{slice_cmp}
use Rattle.std.specs.declared.cmp.Ordering.TheVariants.{Less, Equal, Greater}
use Rattle.std.specs.Str.{bytes_eq}
use Rattle.std.proofs.lemmas.Bool.{cases_lt}
use Rattle.std.proofs.lemmas.Int.{ints}
use Rattle.std.proofs.lemmas.Slice.Eq.{bytes_eq-Decides}
use Rattle.theory_meaning.specs.declared.words.Sign.{Sign}
use Rattle.theory_meaning.specs.declared.words.Sign.TheVariants.{Minus, Zero, Plus}
use Rattle.theory_meaning.specs.Fraction.{Fraction, whole, HasSign, sum_of as fraction_sum, product_of as fraction_product, opposite_sign}
use Rattle.theory_formula.specs.declared.signs.Signs.{Signs}
use Rattle.theory_formula.specs.declared.signs.Signs.TheVariants as set
use Rattle.theory_polynomial.specs.Polynomial.{Monomial, coefficient_at, IsPolynomial, IsCanonicalOf, no_powers, greatest_of, greatest_exponent_of}
use Rattle.theory_polynomial.specs.PolynomialValue.{Values, power_product, polynomial_at, HasSignAt, HaveSameSign}
use Rattle.theory_formula.specs.Signs.{has, mirror, sign_of, sign_of_whole}
use Rattle.theory_formula.specs.Formula.{Formula, atom, truth_at, sign_at}
use Rattle.theory_formula.specs.SignCondition.{IsConstant, HasSymbol, IsDecided, IsCanonicalAtom, IsAtomOf, decided}
use Rattle.theory_polynomial.proofs.CoefficientLaws.{coefficient_at-scaled, times_zero}
use Rattle.theory_polynomial.proofs.FixedOrder.{coefficient_first}
use Rattle.theory_polynomial.proofs.TurnedLaws.{canonical_kept, canonical_turned}
use Rattle.theory_polynomial.proofs.SingleForms.{canonical_single}
use Rattle.theory_meaning.proofs.FractionLaws.{Equals, back, sign_of_same}

-- exponents that are all 0
pub zero_powers : (e : List ℕ) → greatest_of e ≡ 0 → e ≡ replicate (length e) 0
zero_powers [] h = refl
zero_powers (n ∷ e) h =
    let first : n ≡ 0 = omega (arith, h) in
    let rest : greatest_of e ≡ 0 = omega (arith, h) in
    ap₂ (λ (m : ℕ) (f : List ℕ). m ∷ f) first (zero_powers e rest)

not_below_zeros : (e : List ℕ) → slice_cmp nat_cmp e (replicate (length e) 0) ≢ Less
not_below_zeros [] h = let other : Equal ≡ Less = h in cc
not_below_zeros (zero ∷ e) h = not_below_zeros e h
not_below_zeros (suc n ∷ e) h =
    let above : Greater ≡ nat_cmp (suc n) 0 = nat_cmp_is (suc n) 0 Greater (omega arith) in
    let rest : Ordering = slice_cmp nat_cmp e (replicate (length e) 0) in
    let other : Greater ≡ Less = ap (λ o. ordering_then o rest) above ∙ h in
    cc

zeros_of_term : (e : List ℕ) → length e ≡ 32 → greatest_of e ≡ 0 → e ≡ no_powers
zeros_of_term e h k = zero_powers e k ∙ ap (λ n. replicate n 0) h

-- nothing comes after the constant term
only_term : (t : Monomial) (ts : List Monomial) → IsPolynomial (t ∷ ts) → greatest_of t.powers ≡ 0 → ts ≡ []
only_term t [] h k = refl
only_term t (u ∷ us) h k =
    let own : t.powers ≡ no_powers = zeros_of_term t.powers h.0.places k in
    let zeros : no_powers ≡ replicate (length u.powers) 0 = ap (λ n. replicate n 0) (sym h.2.0.places) in
    absurd (not_below_zeros u.powers (subst (λ f. slice_cmp nat_cmp u.powers f ≡ Less) (own ∙ zeros) h.1))

-- a polynomial whose first term has no symbol has none, and its coefficient is that of the term
pub constant_from_first : (t : Monomial) (ts : List Monomial) → IsPolynomial (t ∷ ts) → t.powers ≡ no_powers
    → IsConstant (t ∷ ts) × (coefficient_at (t ∷ ts) no_powers ≡ t.coefficient)
constant_from_first t ts h k =
    let none : greatest_of t.powers ≡ 0 = ap greatest_of k in
    let rest : greatest_exponent_of ts ≡ 0 = ap greatest_exponent_of (only_term t ts h none) in
    (omega (arith, none, rest), ap (coefficient_at (t ∷ ts)) (sym k) ∙ coefficient_first t ts h)

-- and else a symbol occurs in the first term
pub symbol_in_first : (t : Monomial) (ts : List Monomial) → IsPolynomial (t ∷ ts) → HasSymbol (t ∷ ts) → 0 < greatest_of t.powers
symbol_in_first t ts h k =
    elim (cases_lt 0 (greatest_of t.powers)) [
      | inl some ↦ some
      | inr none ↦
          let zero_own : greatest_of t.powers ≡ 0 = omega (arith, none) in
          let rest : greatest_exponent_of ts ≡ 0 = ap greatest_exponent_of (only_term t ts h zero_own) in
          absurd (omega (arith, k, zero_own, rest))
    ]

pub symbol_from_first : (t : Monomial) (ts : List Monomial) → IsPolynomial (t ∷ ts) → t.powers ≢ no_powers → HasSymbol (t ∷ ts)
symbol_from_first t ts h k =
    elim (cases_lt 0 (greatest_of t.powers)) [
      | inl some ↦ omega (arith, some)
      | inr none ↦ absurd (k (zeros_of_term t.powers h.0.places (omega (arith, none))))
    ]

-- a constant has no coefficient at a symbol
constant_step : (t : Monomial) (ts : List Monomial) (e : List ℕ) (b : Bool) → bytes_eq t.powers e ≡ b → greatest_of t.powers ≡ 0 → 0 < greatest_of e
    → coefficient_at ts e ≡ pos 0 → (if b then t.coefficient else pos 0) +ℤ coefficient_at ts e ≡ pos 0
constant_step t ts e true is none some h =
    let same = ap greatest_of ((bytes_eq-Decides t.powers e).0 is) in absurd (omega (arith, same, none, some))
constant_step t ts e false is none some h = omega (arith, ints, h)

constant_coefficient : (ts : List Monomial) (e : List ℕ) → greatest_exponent_of ts ≡ 0 → 0 < greatest_of e → coefficient_at ts e ≡ pos 0
constant_coefficient [] e h k = refl
constant_coefficient (t ∷ ts) e h k =
    let own : greatest_of t.powers ≡ 0 = omega (arith, h) in
    let rest : greatest_exponent_of ts ≡ 0 = omega (arith, h) in
    constant_step t ts e (bytes_eq t.powers e) refl own k (constant_coefficient ts e rest k)

-- the canonical polynomial has a symbol where the polynomial has one
pub canonical_has_symbol : (P r : List Monomial) (b : Bool) → IsPolynomial P → HasSymbol P → IsCanonicalOf P b r → HasSymbol r
canonical_has_symbol [] r b h k c = absurd (omega (arith, k))
canonical_has_symbol (t ∷ ts) r b h k c =
    let factor : ℤ = if b then neg_ℤ (pos c.content) else pos c.content in
    elim (cases_lt 0 (greatest_exponent_of r)) [
      | inl some ↦ some
      | inr none ↦
          let nothing : coefficient_at r t.powers ≡ pos 0 = constant_coefficient r t.powers (omega (arith, none)) (symbol_in_first t ts h k) in
          absurd (h.0.nonzero (sym (coefficient_first t ts h) ∙ c.same.at t.powers ∙ coefficient_at-scaled factor r t.powers
          ∙ ap (λ z. factor *ℤ z) nothing ∙ times_zero factor))
    ]

-- the one sign of a fraction
whole_own : (c : ℤ) (n : ℕ) → HasSign (record { num = c; less = n }) (sign_of_whole c)
whole_own (pos zero) n = refl
whole_own (pos (suc m)) n = omega (arith, ints)
whole_own (negsuc m) n = omega (arith, ints)

pub sign_of_own : (q : Fraction) → HasSign q (sign_of q)
sign_of_own q = whole_own q.num q.less

whole_only : (c : ℤ) (n : ℕ) (s : Sign) → HasSign (record { num = c; less = n }) s → sign_of_whole c ≡ s
whole_only (pos zero) n Minus h = absurd (omega (arith, ints, h))
whole_only (pos zero) n Zero h = refl
whole_only (pos zero) n Plus h = absurd (omega (arith, ints, h))
whole_only (pos (suc m)) n Minus h = absurd (omega (arith, ints, h))
whole_only (pos (suc m)) n Zero h = absurd (omega (arith, ints, h))
whole_only (pos (suc m)) n Plus h = refl
whole_only (negsuc m) n Minus h = refl
whole_only (negsuc m) n Zero h = absurd (omega (arith, ints, h))
whole_only (negsuc m) n Plus h = absurd (omega (arith, ints, h))

pub sign_of_only : (q : Fraction) (s : Sign) → HasSign q s → sign_of q ≡ s
sign_of_only q s h = whole_only q.num q.less s h

-- the same sign everywhere is the same sign at each point
pub same_sign_at : (r P : List Monomial) (p : Values) → HaveSameSign r P → sign_at r p ≡ sign_at P p
same_sign_at r P p h = sign_of_only (polynomial_at r p) (sign_at P p) ((h p (sign_at P p)).1 (sign_of_own (polynomial_at P p)))

opposite_twice : (s : Sign) → opposite_sign (opposite_sign s) ≡ s
opposite_twice Minus = refl
opposite_twice Zero = refl
opposite_twice Plus = refl

pub turned_sign_at : (r P : List Monomial) (p : Values) → IsCanonicalOf P true r → sign_at r p ≡ opposite_sign (sign_at P p)
turned_sign_at r P p h =
    let s : Sign = sign_at P p in
    sign_of_only (polynomial_at r p) (opposite_sign s)
    ((canonical_turned P r p (opposite_sign s) h).1 (subst (λ z. HasSignAt p P z) (sym (opposite_twice s)) (sign_of_own (polynomial_at P p))))

-- the mirrored set has the opposite sign
pub mirror_has_opposite : (S : Signs) (s : Sign) → has (mirror S) (opposite_sign s) ≡ has S s
mirror_has_opposite set.Neg Minus = refl
mirror_has_opposite set.Neg Zero = refl
mirror_has_opposite set.Neg Plus = refl
mirror_has_opposite set.Zero Minus = refl
mirror_has_opposite set.Zero Zero = refl
mirror_has_opposite set.Zero Plus = refl
mirror_has_opposite set.Pos Minus = refl
mirror_has_opposite set.Pos Zero = refl
mirror_has_opposite set.Pos Plus = refl
mirror_has_opposite set.NotPos Minus = refl
mirror_has_opposite set.NotPos Zero = refl
mirror_has_opposite set.NotPos Plus = refl
mirror_has_opposite set.NonZero Minus = refl
mirror_has_opposite set.NonZero Zero = refl
mirror_has_opposite set.NonZero Plus = refl
mirror_has_opposite set.NotNeg Minus = refl
mirror_has_opposite set.NotNeg Zero = refl
mirror_has_opposite set.NotNeg Plus = refl

-- the truth of the canonical atom
canonical_atom_truth : (P r : List Monomial) (S : Signs) (p : Values) (b : Bool) → IsCanonicalOf P b r
    → has (if b then mirror S else S) (sign_at r p) ≡ has S (sign_at P p)
canonical_atom_truth P r S p true h = ap (has (mirror S)) (turned_sign_at r P p h) ∙ mirror_has_opposite S (sign_at P p)
canonical_atom_truth P r S p false h = ap (has S) (same_sign_at r P p (canonical_kept P r h))

-- the value of a constant term
term_sign : (c : ℤ) (p : Values) → sign_of (fraction_sum (fraction_product (whole c) (power_product no_powers p)) (whole (pos 0))) ≡ sign_of_whole c
term_sign c p = ap sign_of_whole (omega (arith, ints))

constant_sign_at : (P : List Monomial) (p : Values) → IsPolynomial P → IsConstant P → sign_at P p ≡ sign_of_whole (coefficient_at P no_powers)
constant_sign_at [] p h k = refl
constant_sign_at (t ∷ ts) p h k =
    let none : greatest_of t.powers ≡ 0 = omega (arith, k) in
    let own : t.powers ≡ no_powers = zeros_of_term t.powers h.0.places none in
    ap (λ us. sign_at (t ∷ us) p) (only_term t ts h none)
    ∙ ap (λ e. sign_of (fraction_sum (fraction_product (whole t.coefficient) (power_product e p)) (whole (pos 0)))) own
    ∙ term_sign t.coefficient p
    ∙ ap sign_of_whole (sym (constant_from_first t ts h own).1)

decided_truth : (b : Bool) (p : Values) → truth_at (decided b) p ≡ b
decided_truth true p = refl
decided_truth false p = refl

-- the truth of the condition
pub condition_truth : (P : List Monomial) (S : Signs) (F : Formula) (p : Values) → IsPolynomial P → IsAtomOf P S F → truth_at F p ≡ has S (sign_at P p)
condition_truth P S F p h k =
    ⊎_elim
    (λ (d : IsDecided P S F). ap (λ G. truth_at G p) d.written ∙ decided_truth (has S (sign_of_whole (coefficient_at P no_powers))) p
    ∙ ap (has S) (sym (constant_sign_at P p h d.constant)))
    (λ (c : IsCanonicalAtom P S F). ap (λ G. truth_at G p) c.written ∙ canonical_atom_truth P c.poly S p c.turned c.canonical) k

-- numbers that are the same have the same sign
pub same_sign : (q r : Fraction) → Equals q r → sign_of q ≡ sign_of r
same_sign q r h = sign_of_only q (sign_of r) (sign_of_same r q (sign_of r) (back h).is (sign_of_own r))

-- a condition is one formula
pub condition_single : (P : List Monomial) (S : Signs) (F G : Formula) → IsAtomOf P S F → IsAtomOf P S G → F ≡ G
condition_single P S F G (inl w) (inl v) = w.written ∙ sym v.written
condition_single P S F G (inl w) (inr v) =
    let a = w.constant in
    let b = v.symbol in absurd (omega (arith, a, b))
condition_single P S F G (inr w) (inl v) =
    let a = v.constant in
    let b = w.symbol in absurd (omega (arith, a, b))
condition_single P S F G (inr w) (inr v) =
    let same = canonical_single P w.turned v.turned w.poly v.poly w.canonical v.canonical in
    w.written ∙ ap₂ (λ (b : Bool) (r : List Monomial). atom r (if b then mirror S else S)) same.0 same.1 ∙ sym v.written
