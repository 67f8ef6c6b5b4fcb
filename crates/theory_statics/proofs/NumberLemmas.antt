-- Small whole numbers as fractions in lowest terms, and derivatives of powers from 2 on.
use Rattle.std.proofs.Common.{◌≡◌, ℕ, suc, zero, ◌-◌, ◌<◌, ◌≤◌, ◌*ℤ◌, ℤ, pos, sym, ap, ◌∙◌, arith}
use Rattle.std.proofs.lemmas.Int.{ints}
use Rattle.std.proofs.Math.Nat.{eq-one_of_dvd-one}
use Rattle.theory_meaning.specs.Fraction.{Fraction, den, whole}
use Rattle.theory_meaning.specs.Limits.{bound}
use Rattle.theory_meaning.specs.Tree.{Expr}
use Rattle.theory_derivative.specs.Derivative.{counted, times, raised, of_power}
use Rattle.theory_points.specs.Parts.{IsKept, IsQuotient, IsWideQuotient}
use Rattle.theory_points.proofs.KeptLemmas.{same_parts}

-- a whole number within the bound is in lowest terms
whole_is_kept : (n : ℕ) → n ≤ bound → IsKept (whole (pos n))
whole_is_kept n h = record {
  within = record { top = omega arith; bottom = omega arith };
  reduced = λ d first second. eq-one_of_dvd-one second;
}

-- so what is found for it is it, and it is found
pub whole_found : (n : ℕ) (m : ℤ) (q : Fraction) → n ≤ bound → m ≡ pos n → IsQuotient m (pos 1) q → IsKept q → q ≡ whole (pos n)
whole_found n m q h is quotient kept =
    same_parts q (whole (pos n)) kept (whole_is_kept n h) (quotient.equal ∙ ap (λ z. z *ℤ pos (den q)) is)

pub whole_is_not_wide : (n : ℕ) (m : ℤ) → n ≤ bound → m ≡ pos n → ¬ IsWideQuotient m (pos 1)
whole_is_not_wide n m h is wide =
    wide (whole (pos n)) (whole_is_kept n h).within
    (record { divides = λ e. absurd (omega (arith, ints, e)); equal = ap (λ z. z *ℤ pos 1) (sym is) })

-- the derivative of a power from 2 on
pub high_power : (u du : Expr) (k : ℕ) → 1 < k → of_power u k du ≡ times (times (counted k) (raised u (k - 1 - 1))) du
high_power u du zero h = absurd (omega (arith, h))
high_power u du (suc zero) h = absurd (omega (arith, h))
high_power u du (suc (suc n)) h =
    let e : n ≡ suc (suc n) - 1 - 1 = omega arith in
    ap (λ (m : ℕ). times (times (counted (suc (suc n))) (raised u m)) du) e
