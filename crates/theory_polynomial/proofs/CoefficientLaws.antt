-- The coefficients of sums of terms: of a sum, a multiple and a difference; sameness is kept by them.
use Rattle.std.proofs.Common.{◌≡◌, ℕ, ℤ, pos, negsuc, ◌+ℤ◌, ◌*ℤ◌, neg_ℤ, Bool, true, false, List, [], ◌∷◌, ◌++◌, refl, sym, ap, ap₂, ◌∙◌, arith}
use Rattle.std.specs.Prelude.{if◌then◌else◌}
use Rattle.std.specs.Str.{bytes_eq}
use Rattle.std.proofs.lemmas.Slice.Eq.{bytes_eq-Decides}
use Rattle.std.proofs.lemmas.Int.{ints}
use Rattle.std.proofs.Math.IntN.{*ℤ_comm}
use Rattle.theory_meaning.proofs.WholeLaws.{up-times, down-times, sum-times}
use borrow.Author.Differences.{same_in}
use Rattle.theory_polynomial.specs.Polynomial.{Monomial, coefficient_at, AreSame, scaled, sum_of, difference_of}

-- whole numbers: sums in another order, and products of sums
pub plus_assoc : (a b c : ℤ) → a +ℤ b +ℤ c ≡ a +ℤ (b +ℤ c)
plus_assoc a b c = omega (arith, ints)

pub times_sum : (n a b : ℤ) → n *ℤ (a +ℤ b) ≡ n *ℤ a +ℤ n *ℤ b
times_sum n a b = *ℤ_comm n (a +ℤ b) ∙ sum-times a b n ∙ ap₂ ◌+ℤ◌ (*ℤ_comm a n) (*ℤ_comm b n)

pub times_zero : (n : ℤ) → n *ℤ pos 0 ≡ pos 0
times_zero n = omega (arith, ints)

pub times_times : (m n a : ℤ) → m *ℤ (n *ℤ a) ≡ (m *ℤ n) *ℤ a
times_times m n a = same_in _ _ (simp (up-times, down-times) (omega arith))

-- an exponent list is itself
pub bytes_eq_itself : (e : List ℕ) → bytes_eq e e ≡ true
bytes_eq_itself e = (bytes_eq-Decides e e).1 refl

-- the coefficients of a sum
pub coefficient_at-append : (ts us : List Monomial) (e : List ℕ) → coefficient_at (ts ++ us) e ≡ coefficient_at ts e +ℤ coefficient_at us e
coefficient_at-append [] us e = omega (arith, ints)
coefficient_at-append (t ∷ ts) us e =
    let own : ℤ = if bytes_eq t.powers e then t.coefficient else pos 0 in
    ap (λ z. own +ℤ z) (coefficient_at-append ts us e) ∙ sym (plus_assoc own (coefficient_at ts e) (coefficient_at us e))

times_chosen : (n c : ℤ) (b : Bool) → (if b then n *ℤ c else pos 0) ≡ n *ℤ (if b then c else pos 0)
times_chosen n c true = refl
times_chosen n c false = sym (times_zero n)

-- the coefficients of a multiple
pub coefficient_at-scaled : (n : ℤ) (ts : List Monomial) (e : List ℕ) → coefficient_at (scaled n ts) e ≡ n *ℤ coefficient_at ts e
coefficient_at-scaled n [] e = sym (times_zero n)
coefficient_at-scaled n (t ∷ ts) e =
    ap₂ ◌+ℤ◌ (times_chosen n t.coefficient (bytes_eq t.powers e)) (coefficient_at-scaled n ts e)
    ∙ sym (times_sum n (if bytes_eq t.powers e then t.coefficient else pos 0) (coefficient_at ts e))

-- the coefficients of a difference
pub coefficient_at-difference : (ts us : List Monomial) (e : List ℕ)
    → coefficient_at (difference_of ts us) e ≡ coefficient_at ts e +ℤ neg_ℤ (coefficient_at us e)
coefficient_at-difference ts us e =
    let turned = coefficient_at-scaled (negsuc 0) us e in
    let both = coefficient_at-append ts (scaled (negsuc 0) us) e in
    omega (arith, ints, turned, both)

-- sameness is an equivalence
pub same_itself : (ts : List Monomial) → AreSame ts ts
same_itself ts = record { at = λ e. refl }

pub same_turned : (ts us : List Monomial) → AreSame ts us → AreSame us ts
same_turned ts us h = record { at = λ e. sym (h.at e) }

pub same_trans : (ts us vs : List Monomial) → AreSame ts us → AreSame us vs → AreSame ts vs
same_trans ts us vs h k = record { at = λ e. h.at e ∙ k.at e }

-- sums, multiples and differences of the same are the same
pub sum_same : (ts us vs ws : List Monomial) → AreSame ts vs → AreSame us ws → AreSame (sum_of ts us) (sum_of vs ws)
sum_same ts us vs ws h k =
    record { at = λ e. coefficient_at-append ts us e ∙ ap₂ ◌+ℤ◌ (h.at e) (k.at e) ∙ sym (coefficient_at-append vs ws e) }

pub scaled_same : (n : ℤ) (ts us : List Monomial) → AreSame ts us → AreSame (scaled n ts) (scaled n us)
scaled_same n ts us h =
    record { at = λ e. coefficient_at-scaled n ts e ∙ ap (λ z. n *ℤ z) (h.at e) ∙ sym (coefficient_at-scaled n us e) }

pub difference_same : (ts us vs ws : List Monomial) → AreSame ts vs → AreSame us ws → AreSame (difference_of ts us) (difference_of vs ws)
difference_same ts us vs ws h k =
    sum_same ts (scaled (negsuc 0) us) vs (scaled (negsuc 0) ws) h (scaled_same (negsuc 0) us ws k)

-- summands change places, and multiples of multiples are multiples
pub sum_swapped : (ts us : List Monomial) → AreSame (sum_of ts us) (sum_of us ts)
sum_swapped ts us = record {
  at = λ e.
      let left = coefficient_at-append ts us e in
      let right = coefficient_at-append us ts e in
      omega (arith, ints, left, right);
}

pub scaled_twice : (m n : ℤ) (ts : List Monomial) → AreSame (scaled m (scaled n ts)) (scaled (m *ℤ n) ts)
scaled_twice m n ts = record {
  at = λ e.
      coefficient_at-scaled m (scaled n ts) e ∙ ap (λ z. m *ℤ z) (coefficient_at-scaled n ts e)
      ∙ times_times m n (coefficient_at ts e) ∙ sym (coefficient_at-scaled (m *ℤ n) ts e);
}

pub scaled_sum : (n : ℤ) (ts us : List Monomial) → AreSame (scaled n (sum_of ts us)) (sum_of (scaled n ts) (scaled n us))
scaled_sum n ts us = record {
  at = λ e.
      coefficient_at-scaled n (ts ++ us) e ∙ ap (λ z. n *ℤ z) (coefficient_at-append ts us e)
      ∙ times_sum n (coefficient_at ts e) (coefficient_at us e)
      ∙ sym (coefficient_at-append (scaled n ts) (scaled n us) e
      ∙ ap₂ ◌+ℤ◌ (coefficient_at-scaled n ts e) (coefficient_at-scaled n us e));
}

-- once the terms
pub scaled_once : (ts : List Monomial) → AreSame (scaled (pos 1) ts) ts
scaled_once ts = record { at = λ e. let once = coefficient_at-scaled (pos 1) ts e in omega (arith, ints, once) }
