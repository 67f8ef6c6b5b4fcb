-- Two families of numbers in a fixed ratio have a common part.
use Rattle.std.proofs.Common.{◌≡◌, ℕ, zero, suc, ◌+◌, ◌-◌, ◌*◌, ◌<◌, ◌≤◌, le_antisymm, List, sym, ap, ◌∙◌, subst, arith, inl, inr}
use Rattle.std.proofs.Math.Nat.{le_of_mul-le-mul_left}
use Rattle.std.proofs.lemmas.Bool.{cases_lt}

-- two numbers in the ratio of two families of numbers: multiples of one number and of one family
pub record HaveCommonPart (m n : ℕ) (a b : List ℕ → ℕ) : Type 0 where
  pub part : ℕ
  pub family : List ℕ → ℕ
  pub first : ℕ
  pub second : ℕ
  pub first_is : m ≡ first * part
  pub second_is : n ≡ second * part
  pub firsts_are : (e : List ℕ) → a e ≡ first * family e
  pub seconds_are : (e : List ℕ) → b e ≡ second * family e

abbrev pub InRatio : ℕ → ℕ → (List ℕ → ℕ) → (List ℕ → ℕ) → Type 0
InRatio m n a b = (e : List ℕ) → n * a e ≡ m * b e

swapped_part : (m n : ℕ) (a b : List ℕ → ℕ) → HaveCommonPart n m b a → HaveCommonPart m n a b
swapped_part m n a b h = record {
  part = h.part;
  family = h.family;
  first = h.second;
  second = h.first;
  first_is = h.second_is;
  second_is = h.first_is;
  firsts_are = h.seconds_are;
  seconds_are = h.firsts_are;
}

same_factor : (m a b : ℕ) → 0 < m → m * a ≡ m * b → a ≡ b
same_factor m a b some h =
    le_antisymm (le_of_mul-le-mul_left {k = m} (omega (arith, h)) some) (le_of_mul-le-mul_left {k = m} (omega (arith, h)) some)

equal_part : (m n : ℕ) (a b : List ℕ → ℕ) → 0 < m → m ≡ n → InRatio m n a b → HaveCommonPart m n a b
equal_part m n a b some same h = record {
  part = m;
  family = a;
  first = 1;
  second = 1;
  first_is = omega arith;
  second_is = omega (arith, same);
  firsts_are = λ e. omega arith;
  seconds_are = λ e.
      let over : m * b e ≡ m * a e = sym (h e) ∙ ap (λ (k : ℕ). k * a e) (sym same) in
      let is = same_factor m (b e) (a e) some over in
      omega (arith, is);
}

less_part : (m n a b : ℕ) → 0 < m → m < n → n * a ≡ m * b → a ≤ b
less_part m n a b some less h =
    let more : m * a ≤ n * a = grind (arith, less) in
    le_of_mul-le-mul_left {k = m} (omega (arith, h, more)) some

left_over : (m n a b : ℕ) → m ≤ n → a ≤ b → n * a ≡ m * b → (n - m) * a ≡ m * (b - a)
left_over m n a b less small h =
    let first : n ≡ (n - m) + m = omega (arith, less) in
    let second : b ≡ (b - a) + a = omega (arith, small) in
    let whole : ((n - m) + m) * a ≡ m * ((b - a) + a) =
    subst (λ k. ((n - m) + m) * a ≡ m * k) second (subst (λ k. k * a ≡ m * b) first h) in
    omega (arith, whole)

put_back : (m n : ℕ) (a b : List ℕ → ℕ) → m ≤ n → ((e : List ℕ) → a e ≤ b e) → HaveCommonPart m (n - m) a (λ e. b e - a e) → HaveCommonPart m n a b
put_back m n a b less small h = record {
  part = h.part;
  family = h.family;
  first = h.first;
  second = h.first + h.second;
  first_is = h.first_is;
  second_is = let p = h.first_is in
      let q = h.second_is in omega (arith, less, p, q);
  firsts_are = h.firsts_are;
  seconds_are = λ e.
      let p = h.firsts_are e in
      let q = h.seconds_are e in
      let l = small e in omega (arith, l, p, q);
}

pub part_within : (k m n : ℕ) (a b : List ℕ → ℕ) → m + n ≤ k → 0 < m → 0 < n → InRatio m n a b → HaveCommonPart m n a b
part_within zero m n a b le some other h = absurd (omega (arith, le, some, other))
part_within (suc k) m n a b le some other h =
    elim (cases_lt m n) [
      | inl less ↦
          let small = λ (e : List ℕ). less_part m n (a e) (b e) some less (h e) in
          put_back m n a b (omega (arith, less)) small
          (part_within k m (n - m) a (λ e. b e - a e) (omega (arith, le, some, less)) some (omega (arith, less))
          (λ e. left_over m n (a e) (b e) (omega (arith, less)) (small e) (h e)))
      | inr above ↦ elim (cases_lt n m) [
        | inl less ↦
            let small = λ (e : List ℕ). less_part n m (b e) (a e) other less (sym (h e)) in
            swapped_part m n a b (put_back n m b a (omega (arith, less)) small
            (part_within k n (m - n) b (λ e. a e - b e) (omega (arith, le, other, less)) other (omega (arith, less))
            (λ e. left_over n m (b e) (a e) (omega (arith, less)) (small e) (sym (h e)))))
        | inr below ↦ equal_part m n a b some (omega (arith, above, below)) h
      ]
    ]
