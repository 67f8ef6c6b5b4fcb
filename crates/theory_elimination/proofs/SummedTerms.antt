-- Each sum of terms with 32 exponents has a polynomial: one term after the other goes to its place.
use Rattle.std.proofs.Common.{◌≡◌, ℕ, length, ℤ, pos, negsuc, ◌+ℤ◌, Bool, true, false, List, [], ◌∷◌, ◌++◌, refl, sym, ap, ◌∙◌, subst, arith, inl, inr}
use Rattle.std.specs.Prelude.{if◌then◌else◌}
use Rattle.std.specs.Ordering.{nat_cmp, int_eq, ordering_reverse}
use Rattle.std.specs.Cmp.Lexicographic.{slice_cmp}
use Rattle.std.specs.declared.cmp.Ordering.{Ordering}
use Rattle.std.specs.declared.cmp.Ordering.TheVariants.{Less, Equal, Greater}
use Rattle.std.specs.Str.{bytes_eq}
use Rattle.std.proofs.lemmas.Bool.{cases_Bool}
use Rattle.std.proofs.lemmas.Cmp.{nat_list_cmp_total}
use Rattle.std.proofs.lemmas.Int.{ints}
use Rattle.theory_polynomial.specs.Polynomial.{Monomial, monomial, coefficient_at, IsTerm, Precedes, PrecedesFirst, IsPolynomial, IsPolynomialOf, scaled, powers_of_product, multiple_of, product_of, cross_of}
use Rattle.theory_polynomial.proofs.FixedOrder.{precedes_rest, tied_are_equal}

-- the coefficient of a term at an exponent list
own : Monomial → List ℕ → ℤ
own t e = if bytes_eq t.powers e then t.coefficient else pos 0

own_sum : (b : Bool) (c d : ℤ) → (if b then c +ℤ d else pos 0) ≡ (if b then c else pos 0) +ℤ (if b then d else pos 0)
own_sum true c d = refl
own_sum false c d = refl

own_zero : (b : Bool) (c : ℤ) → c ≡ pos 0 → (if b then c else pos 0) ≡ pos 0
own_zero true c h = h
own_zero false c h = refl

eq_means : (a b : ℤ) → int_eq a b ≡ true → a ≡ b
eq_means a b h = grind (arith, ints)

not_eq_means : (a b : ℤ) → int_eq a b ≡ false → ¬ (a ≡ b)
not_eq_means a b h e = grind (arith, ints)

-- sums of three whole numbers
nothing_first : (a c : ℤ) → a ≡ pos 0 → c ≡ a +ℤ c
nothing_first a c h = omega (arith, ints, h)

swapped : (a b c : ℤ) → b +ℤ (a +ℤ c) ≡ a +ℤ (b +ℤ c)
swapped a b c = omega (arith, ints)

together : (a b c d : ℤ) → d ≡ a +ℤ b → d +ℤ c ≡ a +ℤ (b +ℤ c)
together a b c d h = omega (arith, ints, h)

opposite_parts : (a b c d : ℤ) → d ≡ a +ℤ b → d ≡ pos 0 → c ≡ a +ℤ (b +ℤ c)
opposite_parts a b c d h k = omega (arith, ints, h, k)

-- a polynomial with one term more
record IsWithTerm (t : Monomial) (us r : List Monomial) : Type 0 where
  ordered : IsPolynomial r
  same : (e : List ℕ) → coefficient_at r e ≡ own t e +ℤ coefficient_at us e
  first : (e : List ℕ) → Precedes e t.powers → PrecedesFirst e us → PrecedesFirst e r

record WithTerm (t : Monomial) (us : List Monomial) : Type 0 where
  poly : List Monomial
  is : IsWithTerm t us poly

-- where the exponents are equal the coefficients are added
own_other : (t u : Monomial) (e : List ℕ) → u.powers ≡ t.powers → own u e ≡ (if bytes_eq t.powers e then u.coefficient else pos 0)
unfolding own
own_other t u e same = ap (λ f. if bytes_eq f e then u.coefficient else pos 0) same

own_both : (t u : Monomial) (e : List ℕ) → u.powers ≡ t.powers → (if bytes_eq t.powers e then t.coefficient +ℤ u.coefficient else pos 0) ≡ own t e +ℤ own u e
unfolding own
own_both t u e same = own_sum (bytes_eq t.powers e) t.coefficient u.coefficient ∙ ap (λ z. own t e +ℤ z) (sym (own_other t u e same))

added : (t u : Monomial) (us : List Monomial) → u.powers ≡ t.powers → IsTerm t → IsPolynomial (u ∷ us) → WithTerm t (u ∷ us)
unfolding own
added t u us same h k =
    elim (cases_Bool (int_eq (t.coefficient +ℤ u.coefficient) (pos 0))) [
      | inl none ↦ record {
        poly = us;
        is = record {
          ordered = k.2;
          same = λ e.
              opposite_parts (own t e) (own u e) (coefficient_at us e) (if bytes_eq t.powers e then t.coefficient +ℤ u.coefficient else pos 0)
              (own_both t u e same) (own_zero (bytes_eq t.powers e) (t.coefficient +ℤ u.coefficient) (eq_means (t.coefficient +ℤ u.coefficient) (pos 0) none));
          first = λ e p q. precedes_rest e u.powers us q k.1;
        };
      }
      | inr some ↦ record {
        poly = monomial (t.coefficient +ℤ u.coefficient) t.powers ∷ us;
        is = record {
          ordered = (
            record { nonzero = not_eq_means (t.coefficient +ℤ u.coefficient) (pos 0) some; places = h.places },
            subst (λ e. PrecedesFirst e us) same k.1,
            k.2,
          );
          same = λ e.
              together (own t e) (own u e) (coefficient_at us e) (if bytes_eq t.powers e then t.coefficient +ℤ u.coefficient else pos 0) (own_both t u e same);
          first = λ e p q. p;
        };
      }
    ]

-- the term goes before the first, is added to it, or goes into the rest
placed : (o : Ordering) (t u : Monomial) (us : List Monomial) → slice_cmp nat_cmp u.powers t.powers ≡ o → IsTerm t → IsPolynomial (u ∷ us) → WithTerm t us
    → WithTerm t (u ∷ us)
unfolding own
placed Less t u us is h k rest = record {
  poly = t ∷ u ∷ us;
  is = record { ordered = (h, is, k); same = λ e. refl; first = λ e p q. p };
}
placed Equal t u us is h k rest = added t u us (tied_are_equal u.powers t.powers is) h k
placed Greater t u us is h k rest =
    let turned : Precedes u.powers t.powers = nat_list_cmp_total.antisymm t.powers u.powers ∙ ap ordering_reverse is in
    record {
      poly = u ∷ rest.poly;
      is = record {
        ordered = (k.0, rest.is.first u.powers turned k.1, rest.is.ordered);
        same = λ e. ap (λ z. own u e +ℤ z) (rest.is.same e) ∙ swapped (own t e) (own u e) (coefficient_at us e);
        first = λ e p q. q;
      };
    }

with_term : (t : Monomial) (us : List Monomial) → IsTerm t → IsPolynomial us → WithTerm t us
unfolding own
with_term t [] h k = record { poly = t ∷ []; is = record { ordered = (h, tt, tt); same = λ e. refl; first = λ e p q. p } }
with_term t (u ∷ us) h k = placed (slice_cmp nat_cmp u.powers t.powers) t u us refl h k (with_term t us h k.2)

-- each term has 32 exponents
abbrev pub EachPlaced : List Monomial → Type 0
EachPlaced [] = Unit {0}
EachPlaced (t ∷ ts) = (length t.powers ≡ 32) × EachPlaced ts

-- the polynomial of a sum of terms
pub record HasPolynomial (ts : List Monomial) : Type 0 where
  pub poly : List Monomial
  pub is : IsPolynomialOf ts poly

-- a term with the coefficient 0 is left out
left_out : (t : Monomial) (ts : List Monomial) → t.coefficient ≡ pos 0 → HasPolynomial ts → HasPolynomial (t ∷ ts)
left_out t ts h rest = record {
  poly = rest.poly;
  is = record {
    ordered = rest.is.ordered;
    same = record {
      at = λ e.
          rest.is.same.at e
          ∙ nothing_first (if bytes_eq t.powers e then t.coefficient else pos 0) (coefficient_at ts e) (own_zero (bytes_eq t.powers e) t.coefficient h);
    };
  };
}

taken_in : (t : Monomial) (ts : List Monomial) → IsTerm t → HasPolynomial ts → HasPolynomial (t ∷ ts)
unfolding own
taken_in t ts h rest =
    let with = with_term t rest.poly h rest.is.ordered in
    record {
      poly = with.poly;
      is = record {
        ordered = with.is.ordered;
        same = record { at = λ e. with.is.same e ∙ ap (λ z. own t e +ℤ z) (rest.is.same.at e) };
      };
    }

pub has_polynomial : (ts : List Monomial) → EachPlaced ts → HasPolynomial ts
has_polynomial [] h = record { poly = []; is = record { ordered = tt; same = record { at = λ e. refl } } }
has_polynomial (t ∷ ts) h =
    elim (cases_Bool (int_eq t.coefficient (pos 0))) [
      | inl none ↦ left_out t ts (eq_means t.coefficient (pos 0) none) (has_polynomial ts h.1)
      | inr some ↦ taken_in t ts (record { nonzero = not_eq_means t.coefficient (pos 0) some; places = h.0 }) (has_polynomial ts h.1)
    ]

-- the terms of a polynomial, of a sum, of a multiple and of products
pub placed_polynomial : (ts : List Monomial) → IsPolynomial ts → EachPlaced ts
placed_polynomial [] h = tt
placed_polynomial (t ∷ ts) h = (h.0.places, placed_polynomial ts h.2)

placed_append : (ts us : List Monomial) → EachPlaced ts → EachPlaced us → EachPlaced (ts ++ us)
placed_append [] us h k = k
placed_append (t ∷ ts) us h k = (h.0, placed_append ts us h.1 k)

placed_scaled : (n : ℤ) (ts : List Monomial) → EachPlaced ts → EachPlaced (scaled n ts)
placed_scaled n [] h = tt
placed_scaled n (t ∷ ts) h = (h.0, placed_scaled n ts h.1)

powers_length : (p e : List ℕ) → length p ≡ length e → length (powers_of_product p e) ≡ length e
powers_length [] e h = refl
powers_length (m ∷ p) [] h = absurd (omega arith)
powers_length (m ∷ p) (x ∷ e) h = let r = powers_length p e (omega arith) in omega (arith, r)

placed_multiple : (t : Monomial) (us : List Monomial) → length t.powers ≡ 32 → EachPlaced us → EachPlaced (multiple_of t us)
placed_multiple t [] h k = tt
placed_multiple t (u ∷ us) h k = (powers_length t.powers u.powers (h ∙ sym k.0) ∙ k.0, placed_multiple t us h k.1)

placed_product : (ts us : List Monomial) → EachPlaced ts → EachPlaced us → EachPlaced (product_of ts us)
placed_product [] us h k = tt
placed_product (t ∷ ts) us h k =
    placed_append (multiple_of t us) (product_of ts us) (placed_multiple t us h.0 k) (placed_product ts us h.1 k)

-- the polynomial of a difference of products
placed_cross : (a b c d : List Monomial) → IsPolynomial a → IsPolynomial b → IsPolynomial c → IsPolynomial d → EachPlaced (cross_of a b c d)
placed_cross a b c d h k l m =
    placed_append (product_of a b) (scaled (negsuc 0) (product_of c d))
    (placed_product a b (placed_polynomial a h) (placed_polynomial b k))
    (placed_scaled (negsuc 0) (product_of c d) (placed_product c d (placed_polynomial c l) (placed_polynomial d m)))

pub cross_has_polynomial : (a b c d : List Monomial) → IsPolynomial a → IsPolynomial b → IsPolynomial c → IsPolynomial d → HasPolynomial (cross_of a b c d)
cross_has_polynomial a b c d h k l m = has_polynomial (cross_of a b c d) (placed_cross a b c d h k l m)
