-- Equal quotients of numbers without a common divisor. Source: textbook, Euclid's lemma.
use Rattle.std.proofs.Common.{◌≡◌, ℕ, zero, suc, ◌+◌, ◌-◌, ◌*◌, ◌/◌, ◌<◌, ◌≤◌, refl, subst, sym, arith, ⊎_elim, mul-one}
use Prim.Native.Nat.{◌∣◌}
use Rattle.std.proofs.Math.Nat.{dvd_refl, dvd-zero, dvd-add, pos_of_dvd_of_pos, mul-div_cancel', mul-dvd-mul_left, le_of_mul-le-mul_left, dvd_of_mul-dvd-mul_left, eq-one_of_dvd-one}
use Rattle.std.proofs.lemmas.Bool.{cases_lt}
use Rattle.std.specs.Int.{IsGcd}
use Rattle.theory_points.specs.Parts.{AreCoprime}

-- m over k has parts so many times as great as b over a
pub record AreMultiples (a b m k : ℕ) : Type 0 where
  pub times : ℕ
  pub first : m ≡ b * times
  pub second : k ≡ a * times

-- what divides c and b divides their sum
AreCoprime-less : (c b a : ℕ) → a ≡ c + b → AreCoprime a b → AreCoprime c b
AreCoprime-less c b a sum coprime d p q = coprime d (subst (λ x. d ∣ x) (sym sum) (dvd-add d p q)) q

-- the order of two coprime numbers is free
AreCoprime-swap : (a b : ℕ) → AreCoprime a b → AreCoprime b a
AreCoprime-swap a b coprime d p q = coprime d q p

-- the same for the numbers and their multiples
AreMultiples-swap : (a b m k : ℕ) → AreMultiples b a k m → AreMultiples a b m k
AreMultiples-swap a b m k r = record { times = r.times; first = r.second; second = r.first }

-- m is at most k where a is at least b
ordered : (a b m k : ℕ) → b ≤ a → 0 < b → a * m ≡ b * k → m ≤ k
ordered a b m k le some h =
    let below : b * m ≤ a * m = grind arith in
    le_of_mul-le-mul_left (omega (arith, below)) some

-- what is left of the equation where b is taken from a
taken : (c b m k : ℕ) → (c + b) * m ≡ b * k → m ≤ k → c * m ≡ b * (k - m)
taken c b m k h le =
    let parts : k ≡ (k - m) + m = omega arith in
    let whole : (c + b) * m ≡ b * ((k - m) + m) = subst (λ x. (c + b) * m ≡ b * x) parts h in
    omega arith

-- and what follows for a where b is given back
given_back : (a b m k : ℕ) → b ≤ a → m ≤ k → AreMultiples (a - b) b m (k - m) → AreMultiples a b m k
given_back a b m k le_a le_k r =
    let parts : a ≡ (a - b) + b = omega arith in
    let product : a * r.times ≡ ((a - b) + b) * r.times = subst (λ x. a * r.times ≡ x * r.times) parts refl in
    record {
      times = r.times;
      first = r.first;
      second = omega (arith, r.first, r.second, product);
    }

-- one step: from the numbers with b taken from a
step : (a b m k : ℕ) → b ≤ a → 0 < b → AreCoprime a b → a * m ≡ b * k
    → (AreCoprime (a - b) b → (a - b) * m ≡ b * (k - m) → AreMultiples (a - b) b m (k - m)) → AreMultiples a b m k
step a b m k le some coprime h rest =
    let parts : a ≡ (a - b) + b = omega arith in
    let le_k = ordered a b m k le some h in
    let whole : ((a - b) + b) * m ≡ b * k = subst (λ x. x * m ≡ b * k) parts h in
    given_back a b m k le le_k (rest (AreCoprime-less (a - b) b a parts coprime) (taken (a - b) b m k whole le_k))

-- only 1 and 0 have no common divisor but 1
multiples_of_zero : (b m k : ℕ) → AreCoprime 0 b → 0 * m ≡ b * k → AreMultiples 0 b m k
multiples_of_zero b m k coprime h =
    let one : b ≡ 1 = coprime b (dvd-zero b) (dvd_refl b) in
    let over_one : 0 * m ≡ 1 * k = subst (λ x. 0 * m ≡ x * k) one h in
    subst (λ x. AreMultiples 0 x m k) (sym one) (record { times = m; first = omega arith; second = omega arith })

-- the same for numbers whose sum is at most n
multiples_within : (n a b m k : ℕ) → a + b ≤ n → AreCoprime a b → a * m ≡ b * k → AreMultiples a b m k
multiples_within n zero b m k le coprime h = multiples_of_zero b m k coprime h
multiples_within n (suc a) zero m k le coprime h =
    AreMultiples-swap (suc a) zero m k (multiples_of_zero (suc a) k m (AreCoprime-swap (suc a) zero coprime) (sym h))
multiples_within zero (suc a) (suc b) m k le coprime h = absurd (omega arith)
multiples_within (suc n) (suc a) (suc b) m k le coprime h =
    ⊎_elim
    (λ (less : suc a < suc b). AreMultiples-swap (suc a) (suc b) m k
    (step (suc b) (suc a) k m (omega arith) (omega arith) (AreCoprime-swap (suc a) (suc b) coprime) (sym h)
    (λ coprime' h'. AreMultiples-swap (suc b - suc a) (suc a) k (m - k)
    (multiples_within n (suc a) (suc b - suc a) (m - k) k (omega arith) (AreCoprime-swap _ _ coprime') (sym h')))))
    (λ (le_a : suc b ≤ suc a). step (suc a) (suc b) m k le_a (omega arith) coprime h
    (λ coprime' h'. multiples_within n (suc a - suc b) (suc b) m (k - m) (omega arith) coprime' h'))
    (cases_lt (suc a) (suc b))

-- where a over b is in lowest terms, the parts of an equal quotient are a multiple of them
pub multiples : (a b m k : ℕ) → AreCoprime a b → a * m ≡ b * k → AreMultiples a b m k
multiples a b m k coprime h = multiples_within (a + b) a b m k (omega arith) coprime h

-- no common divisor is left after a division by the greatest
pub AreCoprime-by_gcd : (a b g : ℕ) → 0 < b → IsGcd a b g → AreCoprime (a / g) (b / g)
AreCoprime-by_gcd a b g some gcd d p q =
    let in_a : g * d ∣ a = subst (λ x. g * d ∣ x) (mul-div_cancel' g gcd.0) (mul-dvd-mul_left d g p) in
    let in_b : g * d ∣ b = subst (λ x. g * d ∣ x) (mul-div_cancel' g gcd.1) (mul-dvd-mul_left d g q) in
    let in_g : g * d ∣ g * 1 = subst (λ x. g * d ∣ x) (sym (mul-one g)) (gcd.2 (g * d) in_a in_b) in
    eq-one_of_dvd-one (dvd_of_mul-dvd-mul_left d (pos_of_dvd_of_pos gcd.1 some) in_g)
