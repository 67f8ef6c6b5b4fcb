-- When two polynomials are the same list of terms, and the number by which others are told apart at once.
use Rattle.std.specs.Prelude.{◌≡◌, ℕ, List, [], ◌∷◌, ◌++◌, ◌&&◌, Bool, true}
use Rattle.std.specs.List.{fold}
use Rattle.std.specs.Ordering.{int_eq}
use Rattle.std.specs.Str.{bytes_eq}
use Rattle.std.specs.Bool.{Decides}
use Rattle.std.specs.Cmp.{IsEquivalence, signed_Decides, int_eq_equiv, on_equiv, and_equiv, first_so, second_so}
use Rattle.std.specs.Cmp.Lexicographic.{pointwise, pointwise_decides, bytes_decides, lists_equiv, nat_list_eq_equiv}
use Rattle.std.proofs.Common.{refl, sym, ap, ap₂, ◌∙◌}
use Rattle.std.specs.Hash as hashed
use Rattle.std.specs.Hash.FoldHasher as folding
use Rattle.std.specs.declared.hash.FoldHasher.{FoldHasher}
use Rattle.theory_polynomial.specs.Terms.{Monomial, monomial}

-- the same number with the same exponents
abbrev pub are_same_terms : Monomial → Monomial → Bool
are_same_terms t u = int_eq t.coefficient u.coefficient && bytes_eq t.powers u.powers

-- the same terms in the same order
abbrev pub is_same : List Monomial → List Monomial → Bool
is_same = pointwise are_same_terms

-- a hasher that was fed a term: its coefficient, then its powers
abbrev pub with_term : FoldHasher → Monomial → FoldHasher
with_term hasher t = fold folding.write hasher (hashed.i64 t.coefficient ++ t.powers ∷ [])

-- the hash of a polynomial: its terms in order
abbrev pub hash_of : List Monomial → ℕ
hash_of P = folding.finish (fold with_term folding.initial P)

-- two terms are found the same exactly where they are
pub same_terms : (t u : Monomial) → Decides (are_same_terms t u) (t ≡ u)
same_terms t u = (
  λ h. ap₂ monomial ((signed_Decides t.coefficient u.coefficient).0 (first_so (int_eq t.coefficient u.coefficient) (bytes_eq t.powers u.powers) h))
      ((bytes_decides t.powers u.powers).0 (second_so (int_eq t.coefficient u.coefficient) (bytes_eq t.powers u.powers) h)),
  λ h. ap (are_same_terms t) (sym h) ∙ ap₂ ◌&&◌ ((signed_Decides t.coefficient t.coefficient).1 refl) ((bytes_decides t.powers t.powers).1 refl),
)

-- and so are two polynomials
pub same_polynomials : (P Q : List Monomial) → Decides (is_same P Q) (P ≡ Q)
same_polynomials = pointwise_decides same_terms

-- it is an equality
pub same_equivalence : IsEquivalence is_same
same_equivalence =
    lists_equiv (and_equiv (on_equiv (λ (t : Monomial). t.coefficient) int_eq_equiv) (on_equiv (λ (t : Monomial). t.powers) nat_list_eq_equiv))

-- and the same polynomials have one hash
pub same_hashes : (P Q : List Monomial) → is_same P Q ≡ true → hashed.u64 (hash_of P) ≡ hashed.u64 (hash_of Q)
same_hashes P Q h = ap (λ R. hashed.u64 (hash_of R)) ((same_polynomials P Q).0 h)
