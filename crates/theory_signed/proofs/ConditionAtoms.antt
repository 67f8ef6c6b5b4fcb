-- The condition on a canonical polynomial, or on 1, is its atom.
use Rattle.std.proofs.Common.{◌≡◌, ℕ, ◌<◌, Bool, true, false, List, [], pos, refl, sym, ap, ◌∙◌, arith, inl, inr}
use Rattle.std.specs.Prelude.{nat_eq, if◌then◌else◌}
use Rattle.theory_formula.specs.declared.signs.Signs.{Signs}
use Rattle.theory_formula.specs.Signs.{has, sign_of_whole}
use Rattle.theory_polynomial.specs.Polynomial.{Monomial, coefficient_at, no_powers, scaled, greatest_exponent_of, IsCanonical}
use Rattle.theory_formula.specs.Formula.{atom, sign_at, truth_at}
use Rattle.theory_formula.specs.SignCondition.{decided, IsAtomOf}
use Rattle.theory_polynomial.proofs.CoefficientLaws.{same_turned, scaled_once}
use Rattle.theory_formula.proofs.ConditionLaws.{condition_truth}
use Rattle.theory_signed.specs.Split.{condition_on}

equal_zero : (n : ℕ) → nat_eq n 0 ≡ true → n ≡ 0
equal_zero n h = grind (arith, h)

has_some : (n : ℕ) → nat_eq n 0 ≡ false → 0 < n
has_some n h = grind (arith, h)

decided_truth : (b : Bool) → truth_at (decided b) [] ≡ b
decided_truth true = refl
decided_truth false = refl

constant_sign : (P : List Monomial) (S : Signs) → IsCanonical P → greatest_exponent_of P ≡ 0
    → has S (sign_at P []) ≡ has S (sign_of_whole (coefficient_at P no_powers))
constant_sign P S h e =
    let b : Bool = has S (sign_of_whole (coefficient_at P no_powers)) in
    sym (condition_truth P S (decided b) [] h.ordered (inl (record { constant = e; written = refl }))) ∙ decided_truth b

pub condition_is_atom : (P : List Monomial) (S : Signs) → IsCanonical P → IsAtomOf P S (condition_on P S)
condition_is_atom P S h =
    elim (nat_eq (greatest_exponent_of P) 0) as (λ b. nat_eq (greatest_exponent_of P) 0 ≡ b
    → IsAtomOf P S (if b then decided (has S (sign_at P [])) else atom P S)) [
      | true ↦ λ e.
          let none : greatest_exponent_of P ≡ 0 = equal_zero (greatest_exponent_of P) e in
          inl (record { constant = none; written = ap decided (constant_sign P S h none) })
      | false ↦ λ e.
          inr (record {
            symbol = has_some (greatest_exponent_of P) e;
            turned = false;
            poly = P;
            canonical = record { canonical = h; content = 1; is_content = h.primitive; same = same_turned (scaled (pos 1) P) P (scaled_once P) };
            written = refl;
          })
    ] refl
