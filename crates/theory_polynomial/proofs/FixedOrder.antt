-- The fixed order of terms: one list of all with the same coefficients is in it.
use Rattle.std.proofs.Common.{◌≡◌, ℕ, ℤ, pos, ◌+ℤ◌, Bool, true, false, List, [], ◌∷◌, refl, sym, ap, ap₂, ◌∙◌, subst, arith, inl, inr}
use Rattle.std.specs.Prelude.{if◌then◌else◌}
use Rattle.std.specs.Ordering.{nat_cmp, ordering_reverse}
use Rattle.std.specs.Cmp.Lexicographic.{slice_cmp}
use Rattle.std.specs.declared.cmp.Ordering.{Ordering}
use Rattle.std.specs.declared.cmp.Ordering.TheVariants.{Less, Equal, Greater}
use Rattle.std.specs.Str.{bytes_eq}
use Rattle.std.proofs.lemmas.Bool.{cases_Bool}
use Rattle.std.proofs.lemmas.Cmp.{nat_list_cmp_total, tied_itself}
use Rattle.std.proofs.lemmas.Slice.Eq.{bytes_eq-Decides}
use Rattle.std.proofs.lemmas.Int.{ints}
use Rattle.std.specs.FinMap.{slice_cmp-IsAntisymmetric, nat_cmp-IsAntisymmetric}
use Rattle.theory_polynomial.specs.Polynomial.{Monomial, monomial, coefficient_at, AreSame, Precedes, PrecedesFirst, IsPolynomial}
use Rattle.theory_polynomial.proofs.CoefficientLaws.{bytes_eq_itself}

-- exponent lists that tie are equal
pub tied_are_equal : (e f : List ℕ) → slice_cmp nat_cmp e f ≡ Equal → e ≡ f
tied_are_equal e f h = slice_cmp-IsAntisymmetric nat_cmp-IsAntisymmetric e f h

pub itself_ties : (e : List ℕ) → slice_cmp nat_cmp e e ≡ Equal
itself_ties e = tied_itself nat_list_cmp_total e

-- the order is transitive, and nothing precedes itself
pub precedes_trans : (e f g : List ℕ) → Precedes e f → Precedes f g → Precedes e g
precedes_trans e f g h k = nat_list_cmp_total.trans g f e k h

pub precedes_irreflexive : (e : List ℕ) → ¬ Precedes e e
precedes_irreflexive e h = absurd (let both : Equal ≡ Less = sym (itself_ties e) ∙ h in cc)

pub precedes_apart : (e f : List ℕ) → Precedes e f → bytes_eq f e ≡ false
precedes_apart e f h =
    elim (cases_Bool (bytes_eq f e)) [
      | inl same ↦ absurd (precedes_irreflexive e (subst (λ x. Precedes e x) ((bytes_eq-Decides f e).0 same) h))
      | inr apart ↦ apart
    ]

-- what precedes the first precedes all, and isn't among the terms
pub precedes_rest : (e f : List ℕ) (ts : List Monomial) → Precedes e f → PrecedesFirst f ts → PrecedesFirst e ts
precedes_rest e f [] h k = tt
precedes_rest e f (t ∷ ts) h k = precedes_trans e f t.powers h k

if_false : (c : ℤ) (b : Bool) → b ≡ false → (if b then c else pos 0) ≡ pos 0
if_false c b h = ap (λ x. if x then c else pos 0) h

if_true : (c : ℤ) (b : Bool) → b ≡ true → (if b then c else pos 0) ≡ c
if_true c b h = ap (λ x. if x then c else pos 0) h

pub coefficient_before : (e : List ℕ) (ts : List Monomial) → IsPolynomial ts → PrecedesFirst e ts → coefficient_at ts e ≡ pos 0
coefficient_before e [] h k = refl
coefficient_before e (t ∷ ts) h k =
    ap₂ ◌+ℤ◌ (if_false t.coefficient (bytes_eq t.powers e) (precedes_apart e t.powers k))
    (coefficient_before e ts h.2 (precedes_rest e t.powers ts k h.1))

-- the first coefficient
pub coefficient_first : (t : Monomial) (ts : List Monomial) → IsPolynomial (t ∷ ts) → coefficient_at (t ∷ ts) t.powers ≡ t.coefficient
coefficient_first t ts h =
    let rest = coefficient_before t.powers ts h.2 h.1 in
    let own = if_true t.coefficient (bytes_eq t.powers t.powers) (bytes_eq_itself t.powers) in
    omega (arith, ints, rest, own)

-- terms with equal parts are equal
pub term_same : (t u : Monomial) → t.coefficient ≡ u.coefficient → t.powers ≡ u.powers → t ≡ u
term_same t u h k = ap₂ monomial h k

-- a first term that the other polynomial doesn't reach
not_reached : (t : Monomial) (ts us : List Monomial) → IsPolynomial (t ∷ ts) → IsPolynomial us → PrecedesFirst t.powers us
    → coefficient_at (t ∷ ts) t.powers ≡ coefficient_at us t.powers → ⊥
not_reached t ts us h k first same = h.0.nonzero (sym (coefficient_first t ts h) ∙ same ∙ coefficient_before t.powers us k first)

own_at : Monomial → List ℕ → ℤ
own_at t e = if bytes_eq t.powers e then t.coefficient else pos 0

-- equal first terms leave the same rest
rest_same : (t u : Monomial) (ts us : List Monomial) → t ≡ u → AreSame (t ∷ ts) (u ∷ us) → AreSame ts us
unfolding own_at
rest_same t u ts us is h = record {
  at = λ e.
      let own : own_at t e ≡ own_at u e = ap (λ v. own_at v e) is in
      let whole : own_at t e +ℤ coefficient_at ts e ≡ own_at u e +ℤ coefficient_at us e = h.at e in
      omega (arith, ints, own, whole);
}

first_same : (t u : Monomial) (ts us : List Monomial) → IsPolynomial (t ∷ ts) → IsPolynomial (u ∷ us) → AreSame (t ∷ ts) (u ∷ us)
    → (o : Ordering) → slice_cmp nat_cmp t.powers u.powers ≡ o → t ≡ u
first_same t u ts us h k same Less is =
    absurd (not_reached u us (t ∷ ts) k h is (sym (same.at u.powers)))
first_same t u ts us h k same Equal is =
    let powers = tied_are_equal t.powers u.powers is in
    term_same t u
    (sym (coefficient_first t ts h) ∙ same.at t.powers ∙ ap (coefficient_at (u ∷ us)) powers ∙ coefficient_first u us k) powers
first_same t u ts us h k same Greater is =
    let turned : Precedes t.powers u.powers = nat_list_cmp_total.antisymm u.powers t.powers ∙ ap ordering_reverse is in
    absurd (not_reached t ts (u ∷ us) h k turned (same.at t.powers))

-- polynomials that are the same map are the same list of terms
pub polynomial_unique : (ts us : List Monomial) → IsPolynomial ts → IsPolynomial us → AreSame ts us → ts ≡ us
polynomial_unique [] [] h k same = refl
polynomial_unique [] (u ∷ us) h k same = absurd (not_reached u us [] k h tt (sym (same.at u.powers)))
polynomial_unique (t ∷ ts) [] h k same = absurd (not_reached t ts [] h k tt (same.at t.powers))
polynomial_unique (t ∷ ts) (u ∷ us) h k same =
    let is : t ≡ u = first_same t u ts us h k same (slice_cmp nat_cmp t.powers u.powers) refl in
    ap₂ (λ (v : Monomial) (vs : List Monomial). v ∷ vs) is (polynomial_unique ts us h.2 k.2 (rest_same t u ts us is same))

-- only the list without terms is the same as it
pub none_of_zero : (ts : List Monomial) → IsPolynomial ts → AreSame ts [] → ts ≡ []
none_of_zero ts h same = polynomial_unique ts [] h tt same
