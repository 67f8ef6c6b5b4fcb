-- When the sign of the top of a rational function tells.
use Rattle.std.proofs.Common.{◌≡◌, ◌≢◌, Bool, true, false, List, sym, ◌∙◌, inl, inr, ⊎_elim, ◌⊎◌, MatchBool}
use Rattle.std.proofs.lemmas.Bool.{both_ways}
use Rattle.theory_polynomial.specs.Polynomial.{Monomial, IsPolynomialOf}
use Rattle.theory_formula.specs.declared.signs.Signs.{Signs}
use Rattle.theory_formula.specs.declared.signs.Signs.TheVariants as set
use Rattle.theory_lowering.specs.RationalFunction.{RationalFunction, one}
use Rattle.theory_lowering.specs.Lowered.{IsByTop}
use Rattle.theory_poly.specs.Hashes.{is_same, same_polynomials}
use Rattle.theory_lower.proofs.FunctionLaws.{one_is}

-- a set that tells minus from plus
abbrev pub IsSided : Signs → Type 0
IsSided S = (S ≡ set.Neg) ⊎ ((S ≡ set.Pos) ⊎ ((S ≡ set.NotPos) ⊎ (S ≡ set.NotNeg)))

no_zero : (S : Signs) → IsSided S → S ≢ set.Zero
no_zero S (inl is) e = let other : set.Neg ≡ set.Zero = sym is ∙ e in cc
no_zero S (inr (inl is)) e = let other : set.Pos ≡ set.Zero = sym is ∙ e in cc
no_zero S (inr (inr (inl is))) e = let other : set.NotPos ≡ set.Zero = sym is ∙ e in cc
no_zero S (inr (inr (inr is))) e = let other : set.NotNeg ≡ set.Zero = sym is ∙ e in cc

no_other : (S : Signs) → IsSided S → S ≢ set.NonZero
no_other S (inl is) e = let other : set.Neg ≡ set.NonZero = sym is ∙ e in cc
no_other S (inr (inl is)) e = let other : set.Pos ≡ set.NonZero = sym is ∙ e in cc
no_other S (inr (inr (inl is))) e = let other : set.NotPos ≡ set.NonZero = sym is ∙ e in cc
no_other S (inr (inr (inr is))) e = let other : set.NotNeg ≡ set.NonZero = sym is ∙ e in cc

-- then the bottom decides
pub by_bottom : (q : RationalFunction) (S : Signs) (P Q : List Monomial) (b : Bool) → b ≡ is_same P Q → P ≡ q.bottom → IsPolynomialOf one Q → IsSided S
    → MatchBool b (IsByTop q S) (¬ IsByTop q S)
by_bottom q S P Q true e h k sided = inl (sym h ∙ (same_polynomials P Q).0 (sym e) ∙ one_is Q k)
by_bottom q S P Q false e h k sided =
    λ top.
    ⊎_elim
    (λ (is : q.bottom ≡ one). absurd (both_ways (is_same P Q) (sym e) ((same_polynomials P Q).1 (h ∙ is ∙ sym (one_is Q k)))))
    (λ rest. ⊎_elim (no_zero S sided) (no_other S sided) rest) top
