-- Polynomials with different hashes are different, and a comparison says whether two are the same.
use Rattle.std.proofs.Common.{◌≡◌, ℕ, true, false, nat_eq, List, MatchBool, refl, sym, ap, ◌∙◌}
use Rattle.std.proofs.lemmas.Bool.{eqb-true}
use Rattle.theory_polynomial.specs.Terms.{Monomial}
use Rattle.theory_poly.specs.Hashes.{hash_of, is_same, same_polynomials}

pub other_hash : (P Q : List Monomial) (h k : ℕ) → h ≡ hash_of P → k ≡ hash_of Q → (h ≡ k → ⊥) → nat_eq h k ≡ is_same P Q
other_hash P Q h k of_P of_Q differ =
    elim (is_same P Q) as (λ b. is_same P Q ≡ b → nat_eq h k ≡ b) [
      | true ↦ λ same. absurd (differ (of_P ∙ ap hash_of ((same_polynomials P Q).0 same) ∙ sym of_Q))
      | false ↦ λ same. elim (nat_eq h k) as (λ b. nat_eq h k ≡ b → b ≡ false) [
        | true ↦ λ equal. absurd (differ (eqb-true h k equal))
        | false ↦ λ equal. refl
      ] refl
    ] refl

-- the comparison says whether they are the same
pub told_apart : (P Q : List Monomial) → MatchBool (is_same P Q) (P ≡ Q) (P ≡ Q → ⊥)
told_apart P Q =
    elim (is_same P Q) as (λ b. is_same P Q ≡ b → MatchBool b (P ≡ Q) (P ≡ Q → ⊥)) [
      | true ↦ λ same. (same_polynomials P Q).0 same
      | false ↦ λ other equal. absurd (let e : true ≡ false = sym ((same_polynomials P Q).1 equal) ∙ other in cc)
    ] refl
