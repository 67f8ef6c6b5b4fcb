-- What is free of a symbol: no coefficient stands at an exponent list with the symbol.
use Rattle.std.proofs.Common.{◌≡◌, ℕ, zero, suc, ◌-◌, ◌^◌, ◌<◌, ℤ, pos, ◌*ℤ◌, Bool, true, false, List, [], ◌∷◌, get_or, set, refl, sym, ap, ◌∙◌, subst, arith, inl, inr}
use Rattle.std.specs.Prelude.{if◌then◌else◌, ◌==◌, filter, map, cond}
use Rattle.std.specs.Str.{bytes_eq}
use Rattle.std.proofs.lemmas.Bool.{cases_Bool}
use Rattle.std.proofs.lemmas.Int.{ints}
use Rattle.std.proofs.lemmas.Slice.Eq.{bytes_eq-Decides}
use Rattle.theory_meaning.specs.Fraction.{Fraction, den}
use Rattle.theory_polynomial.specs.Polynomial.{Monomial, monomial, coefficient_at, AreSame, IsPolynomial, exponent_of, degree_in, IsFreeOf, scaled, sum_of}
use Rattle.theory_polynomial.specs.PolynomialValue.{part_of, restriction_step}
use Rattle.theory_polynomial.proofs.CoefficientLaws.{coefficient_at-append, coefficient_at-scaled, times_zero}
use Rattle.theory_polynomial.proofs.FixedOrder.{coefficient_first, coefficient_before}
use Rattle.theory_polynomial.proofs.PrimitiveLaws.{without_factor}

-- the coefficients with the symbol are 0
pub record LacksSymbol (x : ℕ) (ts : List Monomial) : Type 0 where
  pub none : (e : List ℕ) → ¬ (get_or e x 0 ≡ 0) → coefficient_at ts e ≡ pos 0

set_zero : (e : List ℕ) (x : ℕ) → get_or (set e x 0) x 0 ≡ 0
set_zero [] x = refl
set_zero (n ∷ e) zero = refl
set_zero (n ∷ e) (suc x) = set_zero e x

-- a term without the symbol
one_lacks : (x : ℕ) (t : Monomial) (ts : List Monomial) → get_or t.powers x 0 ≡ 0 → LacksSymbol x ts → LacksSymbol x (t ∷ ts)
one_lacks x t ts h k = record {
  none = λ e some.
      let other : bytes_eq t.powers e ≡ false =
      elim (cases_Bool (bytes_eq t.powers e)) [
        | inl same ↦ absurd (some (ap (λ f. get_or f x 0) (sym ((bytes_eq-Decides t.powers e).0 same)) ∙ h))
        | inr apart ↦ apart
      ] in
      let nothing : (if bytes_eq t.powers e then t.coefficient else pos 0) ≡ pos 0 = ap (λ b. if b then t.coefficient else pos 0) other in
      let rest = k.none e some in
      omega (arith, ints, nothing, rest);
}

part_step : (x k : ℕ) (t : Monomial) (ts : List Monomial) (b : Bool) → LacksSymbol x (part_of x k ts)
    → LacksSymbol x (map (λ t. monomial t.coefficient (set t.powers x 0))
    (cond b (t ∷ filter (λ t. exponent_of x t == k) ts) (filter (λ t. exponent_of x t == k) ts)))
part_step x k t ts true h = one_lacks x (monomial t.coefficient (set t.powers x 0)) (part_of x k ts) (set_zero t.powers x) h
part_step x k t ts false h = h

part_lacks : (x k : ℕ) (ts : List Monomial) → LacksSymbol x (part_of x k ts)
part_lacks x k [] = record { none = λ e some. refl }
part_lacks x k (t ∷ ts) = part_step x k t ts (exponent_of x t == k) (part_lacks x k ts)

scaled_lacks : (x : ℕ) (n : ℤ) (ts : List Monomial) → LacksSymbol x ts → LacksSymbol x (scaled n ts)
scaled_lacks x n ts h = record { none = λ e some. coefficient_at-scaled n ts e ∙ ap (λ z. n *ℤ z) (h.none e some) ∙ times_zero n }

sum_lacks : (x : ℕ) (ts us : List Monomial) → LacksSymbol x ts → LacksSymbol x us → LacksSymbol x (sum_of ts us)
sum_lacks x ts us h k = record {
  none = λ e some.
      let both = coefficient_at-append ts us e in
      let first = h.none e some in
      let second = k.none e some in
      omega (arith, ints, both, first, second);
}

-- a step of a restriction has no symbol left
pub step_lacks : (x : ℕ) (q : Fraction) (ts : List Monomial) (i : ℕ) → LacksSymbol x (restriction_step x q ts i)
step_lacks x q ts zero = part_lacks x (degree_in x ts) ts
step_lacks x q ts (suc i) =
    sum_lacks x (scaled q.num (restriction_step x q ts i)) (scaled (pos (den q ^ suc i)) (part_of x (degree_in x ts - suc i) ts))
    (scaled_lacks x q.num (restriction_step x q ts i) (step_lacks x q ts i))
    (scaled_lacks x (pos (den q ^ suc i)) (part_of x (degree_in x ts - suc i) ts) (part_lacks x (degree_in x ts - suc i) ts))

pub same_lacks : (x : ℕ) (ts us : List Monomial) → AreSame us ts → LacksSymbol x ts → LacksSymbol x us
same_lacks x ts us h k = record { none = λ e some. h.at e ∙ k.none e some }

pub divided_lacks : (x g : ℕ) (r : List Monomial) → 0 < g → LacksSymbol x (scaled (pos g) r) → LacksSymbol x r
divided_lacks x g r h k = record {
  none = λ e some.
      without_factor g (coefficient_at r e) (pos 0) h (sym (coefficient_at-scaled (pos g) r e) ∙ k.none e some ∙ sym (times_zero (pos g)));
}

-- a polynomial without coefficients with the symbol is free of it
zero_or_not : (n : ℕ) → ¬ (¬ (n ≡ 0)) → n ≡ 0
zero_or_not zero h = refl
zero_or_not (suc n) h = absurd (h (λ is. let e : suc n ≡ 0 = is in absurd (omega (arith, e))))

rest_lacks : (x : ℕ) (t : Monomial) (ts : List Monomial) → IsPolynomial (t ∷ ts) → LacksSymbol x (t ∷ ts) → LacksSymbol x ts
rest_lacks x t ts h k = record {
  none = λ e some.
      elim (cases_Bool (bytes_eq t.powers e)) [
        | inl same ↦ subst (λ f. coefficient_at ts f ≡ pos 0) ((bytes_eq-Decides t.powers e).0 same) (coefficient_before t.powers ts h.2 h.1)
        | inr apart ↦
            let nothing : (if bytes_eq t.powers e then t.coefficient else pos 0) ≡ pos 0 = ap (λ b. if b then t.coefficient else pos 0) apart in
            let whole = k.none e some in
            omega (arith, ints, nothing, whole)
      ];
}

pub lacks_is_free : (x : ℕ) (ts : List Monomial) → IsPolynomial ts → LacksSymbol x ts → IsFreeOf x ts
lacks_is_free x [] h k = refl
lacks_is_free x (t ∷ ts) h k =
    let own : get_or t.powers x 0 ≡ 0 = zero_or_not (get_or t.powers x 0) (λ some. h.0.nonzero (sym (coefficient_first t ts h) ∙ k.none t.powers some)) in
    let rest = lacks_is_free x ts h.2 (rest_lacks x t ts h k) in
    omega (arith, own, rest)
