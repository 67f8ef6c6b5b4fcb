-- Euclid's steps give the greatest common divisor, and what it leaves is in lowest terms. Source: textbook.
use Rattle.std.specs.Prelude.{pos}
use Rattle.std.proofs.Common.{◌≡◌, ℕ, zero, suc, ◌+◌, ◌-◌, ◌*◌, ◌/◌, ◌%◌, ◌<◌, refl, sym, ap, subst, ◌∙◌, arith, mul-one}
use Prim.Native.Nat.{◌∣◌}
use Rattle.std.proofs.Math.Nat.{mul-div_cancel', mul-dvd-mul_left, dvd_of_mul-dvd-mul_left, eq-one_of_dvd-one, pos_of_dvd_of_pos}
use Rattle.std.proofs.lemmas.Nat.Gcd.{IsGcd-from_zero, IsGcd-from_mod}
use Rattle.std.specs.Int.{IsGcd}
use Rattle.theory_grammar.specs.Spelled.{euclid, common_divisor, lowest, IsLowest}

-- enough steps give the greatest common divisor
euclid_is_gcd : (steps a b : ℕ) → b < steps → IsGcd a b (euclid steps a b)
euclid_is_gcd zero a b h = absurd (omega arith)
euclid_is_gcd (suc steps) a zero h = IsGcd-from_zero a zero refl
euclid_is_gcd (suc steps) a (suc b) h = IsGcd-from_mod a (suc b) (euclid steps (suc b) (a % suc b)) (euclid_is_gcd steps (suc b) (a % suc b) (omega arith))

pub is_gcd : (a b : ℕ) → IsGcd a b (common_divisor a b)
is_gcd a b = euclid_is_gcd (suc b) a b (omega arith)

-- what is left has no common divisor but 1
coprime : (a b g d : ℕ) → 0 < b → IsGcd a b g → d ∣ (a / g) → d ∣ (b / g) → d ≡ 1
coprime a b g d some gcd p q =
    let in_a : g * d ∣ a = subst (λ x. g * d ∣ x) (mul-div_cancel' g gcd.0) (mul-dvd-mul_left d g p) in
    let in_b : g * d ∣ b = subst (λ x. g * d ∣ x) (mul-div_cancel' g gcd.1) (mul-dvd-mul_left d g q) in
    let in_g : g * d ∣ g * 1 = subst (λ x. g * d ∣ x) (sym (mul-one g)) (gcd.2 (g * d) in_a in_b) in
    eq-one_of_dvd-one (dvd_of_mul-dvd-mul_left d (pos_of_dvd_of_pos gcd.1 some) in_g)

positive : (g x b : ℕ) → 0 < b → g * x ≡ b → 0 < x
positive g zero b some e = absurd (omega (arith, e))
positive g (suc x) b some e = omega arith

-- both parts over a divisor g, with the lower part above 0
parts : (a b g : ℕ) → 0 < b → IsGcd a b g → ((a / g) * b ≡ a * (b / g)) × (0 < b / g)
parts a b g some gcd =
    let in_a : g * (a / g) ≡ a = mul-div_cancel' g gcd.0 in
    let in_b : g * (b / g) ≡ b = mul-div_cancel' g gcd.1 in
    let left : (a / g) * b ≡ (a / g) * (g * (b / g)) = ap (λ (x : ℕ). (a / g) * x) (sym in_b) in
    let right : a * (b / g) ≡ (g * (a / g)) * (b / g) = ap (λ (x : ℕ). x * (b / g)) (sym in_a) in
    (omega (arith, left, right), positive g (b / g) b some in_b)

pub lowest_terms : (n d : ℕ) → 0 < d → IsLowest n d (lowest n d)
unfolding lowest
lowest_terms n d some =
    let p = parts n d (common_divisor n d) some (is_gcd n d) in
    let lower : (d / common_divisor n d - 1) + 1 ≡ d / common_divisor n d = omega (arith, p.1) in
    record {
      same = ap pos (p.0 ∙ ap (λ (x : ℕ). n * x) (sym lower));
      reduced = λ k h h'. coprime n d (common_divisor n d) k some (is_gcd n d) h (subst (λ x. k ∣ x) lower h');
    }
