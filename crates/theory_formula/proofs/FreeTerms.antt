-- Terms in which a symbol doesn't stand, and the conditions that are made of them.
use Rattle.std.proofs.Common.{◌≡◌, ℕ, zero, suc, ◌<◌, ℤ, pos, neg_ℤ, ◌*ℤ◌, Bool, true, false, List, [], ◌∷◌, ◌++◌, get_or, set, refl, sym, ap, ◌∙◌, subst, arith, inl, inr}
use Rattle.std.specs.Prelude.{if◌then◌else◌, ◌==◌, filter, map, cond}
use Rattle.std.specs.Str.{bytes_eq}
use Rattle.std.proofs.lemmas.Bool.{cases_Bool}
use Rattle.std.proofs.lemmas.Int.{ints}
use Rattle.std.proofs.lemmas.Slice.Eq.{bytes_eq-Decides}
use Rattle.theory_meaning.proofs.WholeLaws.{neg-times}
use Rattle.theory_formula.specs.declared.signs.Signs.{Signs}
use Rattle.theory_polynomial.specs.Polynomial.{Monomial, monomial, coefficient_at, IsPrimitiveOf, IsCanonicalOf, IsFreeOf, exponent_of, scaled, product_of, multiple_of, powers_of_product, cross_of}
use Rattle.theory_polynomial.specs.PolynomialValue.{part_of}
use Rattle.theory_formula.specs.Formula.{Formula}
use Rattle.theory_formula.specs.SignCondition.{IsAtomOf, decided}
use Rattle.theory_polynomial.proofs.CoefficientLaws.{coefficient_at-scaled, times_zero}
use Rattle.theory_polynomial.proofs.PrimitiveLaws.{without_factor}
use Rattle.theory_polynomial.proofs.FreeLaws.{LacksSymbol, same_lacks, divided_lacks, lacks_is_free}
use Rattle.theory_formula.specs.Symbols.{IsFree}

lack_powers : (x : ℕ) (e f : List ℕ) → get_or e x 0 ≡ 0 → get_or f x 0 ≡ 0 → get_or (powers_of_product e f) x 0 ≡ 0
lack_powers x [] f h k = k
lack_powers x (m ∷ e) [] h k = h
lack_powers zero (m ∷ e) (n ∷ f) h k = omega (arith, h, k)
lack_powers (suc x) (m ∷ e) (n ∷ f) h k = lack_powers x e f h k

set_zero : (e : List ℕ) (x : ℕ) → get_or (set e x 0) x 0 ≡ 0
set_zero [] x = refl
set_zero (n ∷ e) zero = refl
set_zero (n ∷ e) (suc x) = set_zero e x

unturned : (z : ℤ) → neg_ℤ z ≡ pos 0 → z ≡ pos 0
unturned z h = omega (arith, ints, h)

module _ (x : ℕ) where
  -- no term has the symbol
  abbrev pub TermsLack : List Monomial → Type 0
  TermsLack [] = Unit {0}
  TermsLack (t ∷ ts) = (get_or t.powers x 0 ≡ 0) × TermsLack ts

  pub lack_append : (ts us : List Monomial) → TermsLack ts → TermsLack us → TermsLack (ts ++ us)
  lack_append [] us h k = k
  lack_append (t ∷ ts) us h k = (h.0, lack_append ts us h.1 k)

  pub lack_scaled : (n : ℤ) (ts : List Monomial) → TermsLack ts → TermsLack (scaled n ts)
  lack_scaled n [] h = tt
  lack_scaled n (t ∷ ts) h = (h.0, lack_scaled n ts h.1)

  pub lack_multiple : (t : Monomial) (us : List Monomial) → get_or t.powers x 0 ≡ 0 → TermsLack us → TermsLack (multiple_of t us)
  lack_multiple t [] h k = tt
  lack_multiple t (u ∷ us) h k = (lack_powers x t.powers u.powers h k.0, lack_multiple t us h k.1)

  pub lack_product : (ts us : List Monomial) → TermsLack ts → TermsLack us → TermsLack (product_of ts us)
  lack_product [] us h k = tt
  lack_product (t ∷ ts) us h k = lack_append (multiple_of t us) (product_of ts us) (lack_multiple t us h.0 k) (lack_product ts us h.1 k)

  pub lack_cross : (a b c d : List Monomial) → TermsLack a → TermsLack b → TermsLack c → TermsLack d → TermsLack (cross_of a b c d)
  lack_cross a b c d h k l m =
      lack_append (product_of a b) (scaled (neg_ℤ (pos 1)) (product_of c d)) (lack_product a b h k)
      (lack_scaled (neg_ℤ (pos 1)) (product_of c d) (lack_product c d l m))

  part_step : (k : ℕ) (t : Monomial) (ts : List Monomial) (b : Bool) → TermsLack (part_of x k ts)
      → TermsLack (map (λ t. monomial t.coefficient (set t.powers x 0))
      (cond b (t ∷ filter (λ t. exponent_of x t == k) ts) (filter (λ t. exponent_of x t == k) ts)))
  part_step k t ts true h = (set_zero t.powers x, h)
  part_step k t ts false h = h

  pub lack_part : (k : ℕ) (ts : List Monomial) → TermsLack (part_of x k ts)
  lack_part k [] = tt
  lack_part k (t ∷ ts) = part_step k t ts (exponent_of x t == k) (lack_part k ts)

  -- so no coefficient has it
  term_apart : (t : Monomial) (e : List ℕ) → get_or t.powers x 0 ≡ 0 → (get_or e x 0 ≡ 0 → ⊥) → bytes_eq t.powers e ≡ false
  term_apart t e h k =
      elim (cases_Bool (bytes_eq t.powers e)) [
        | inl same ↦ absurd (k (ap (λ (f : List ℕ). get_or f x 0) (sym ((bytes_eq-Decides t.powers e).0 same)) ∙ h))
        | inr apart ↦ apart
      ]

  no_coefficient : (ts : List Monomial) (e : List ℕ) → TermsLack ts → (get_or e x 0 ≡ 0 → ⊥) → coefficient_at ts e ≡ pos 0
  no_coefficient [] e h k = refl
  no_coefficient (t ∷ ts) e h k =
      let nothing : (if bytes_eq t.powers e then t.coefficient else pos 0) ≡ pos 0 = ap (λ (b : Bool). if b then t.coefficient else pos 0)
      (term_apart t e h.0 k) in
      let rest = no_coefficient ts e h.1 k in
      omega (arith, ints, nothing, rest)

  pub terms_lack : (ts : List Monomial) → TermsLack ts → LacksSymbol x ts
  terms_lack ts h = record { none = λ e some. no_coefficient ts e h some }

  pub primitive_lacks : (ts r : List Monomial) → TermsLack ts → IsPrimitiveOf ts r → LacksSymbol x r
  primitive_lacks ts r h w = divided_lacks x w.0 r w.1.positive (same_lacks x ts (scaled (pos w.0) r) w.3 (terms_lack ts h))

  turned_factor : (g : ℕ) (c : ℤ) → 0 < g → neg_ℤ (pos g) *ℤ c ≡ pos 0 → c ≡ pos 0
  turned_factor g c h e =
      let back : pos g *ℤ c ≡ pos 0 = unturned (pos g *ℤ c) (sym (neg-times (pos g) c) ∙ e) in
      without_factor g c (pos 0) h (back ∙ sym (times_zero (pos g)))

  pub canonical_lacks : (P r : List Monomial) (b : Bool) → LacksSymbol x P → IsCanonicalOf P b r → LacksSymbol x r
  canonical_lacks P r true h w = record {
    none = λ e some.
        turned_factor w.content (coefficient_at r e) w.is_content.positive
        (sym (coefficient_at-scaled (neg_ℤ (pos w.content)) r e) ∙ sym (w.same.at e) ∙ h.none e some);
  }
  canonical_lacks P r false h w =
      divided_lacks x w.content r w.is_content.positive (record { none = λ e some. sym (w.same.at e) ∙ h.none e some })

  decided_free : (b : Bool) → IsFree x (decided b)
  decided_free true = tt
  decided_free false = tt

  -- a condition on what lacks the symbol lacks it
  pub atom_free : (P : List Monomial) (S : Signs) (F : Formula) → LacksSymbol x P → IsAtomOf P S F → IsFree x F
  atom_free P S F h (inl w) = subst (IsFree x) (sym w.written) (decided_free _)
  atom_free P S F h (inr w) =
      subst (IsFree x) (sym w.written) (lacks_is_free x w.poly w.canonical.canonical.ordered (canonical_lacks P w.poly w.turned h w.canonical))

-- a polynomial that is free of the symbol has no term with it
pub free_terms : (x : ℕ) (P : List Monomial) → IsFreeOf x P → TermsLack x P
free_terms x [] h = tt
free_terms x (t ∷ ts) h = (omega (arith, h), free_terms x ts (omega (arith, h)))

-- a part by one symbol has no other symbol than the polynomial
set_other : (e : List ℕ) (x y : ℕ) → get_or e y 0 ≡ 0 → get_or (set e x 0) y 0 ≡ 0
set_other [] x y h = h
set_other (n ∷ e) zero zero h = refl
set_other (n ∷ e) zero (suc y) h = h
set_other (n ∷ e) (suc x) zero h = h
set_other (n ∷ e) (suc x) (suc y) h = set_other e x y h

other_step : (x y k : ℕ) (t : Monomial) (ts : List Monomial) (b : Bool) → get_or t.powers y 0 ≡ 0 → TermsLack y (part_of x k ts)
    → TermsLack y (map (λ t. monomial t.coefficient (set t.powers x 0))
    (cond b (t ∷ filter (λ t. exponent_of x t == k) ts) (filter (λ t. exponent_of x t == k) ts)))
other_step x y k t ts true h l = (set_other t.powers x y h, l)
other_step x y k t ts false h l = l

pub lack_other_part : (x y k : ℕ) (P : List Monomial) → TermsLack y P → TermsLack y (part_of x k P)
lack_other_part x y k [] h = tt
lack_other_part x y k (t ∷ ts) h = other_step x y k t ts (exponent_of x t == k) h.0 (lack_other_part x y k ts h.1)
