-- What a call answers, from what its last step does.
use Rattle.std.proofs.Common.{◌≡◌, ℕ, ◌<◌, List, sym, ◌∙◌, subst, Result, Ok, Err, IfOk, length, get_or, ◌⊎◌, inl, inr, arith, unsigned_abs}
use Rattle.theory_meaning.specs.Limits.{bound}
use Rattle.theory_points.specs.declared.limit.Limit.{Limit}
use Rattle.theory_points.specs.declared.limit.Limit.TheVariants.{Wide, Memory}
use Rattle.theory_polynomial.specs.Polynomial.{Monomial, AreSame, IsPolynomial, IsPolynomialOf, PassesLimit, IsBeyond, IsBeyondDivided, IsPrimitiveOf, greatest_of}
use Rattle.theory_polynomial.specs.PolynomialValue.{HaveSameSign}
use Rattle.theory_polynomial.proofs.PrimitiveLaws.{primitive_of_same, primitive_unique, primitive_has_same_sign}
use Rattle.theory_polynomial.proofs.CoefficientLaws.{same_itself, same_trans, same_turned}
use Rattle.theory_polynomial.proofs.FixedOrder.{polynomial_unique}
use Rattle.theory_poly.specs.Answers.{WideWhere}
use Rattle.theory_poly.specs.Kept.{IsPrimitiveForm}
use Rattle.theory_poly.proofs.HeightLaws.{height_at, exponent_at}
use Rattle.theory_poly.proofs.ContentLaws.{form_is_primitive}

-- a term past its limit
pub passes_at : (ts : List Monomial) (i : ℕ) (d : Monomial) → i < length ts
    → (15 < greatest_of (get_or ts i d).powers) ⊎ (bound < unsigned_abs (get_or ts i d).coefficient) → PassesLimit ts
passes_at ts i d h (inl k) = let r = exponent_at ts i d h in inr (inl (omega (arith, r, k)))
passes_at ts i d h (inr k) = let r = height_at ts i d h in inr (inr (omega (arith, r, k)))

-- the polynomial of a sum of terms is the one that there is
pub the_polynomial : (ts q r : List Monomial) → IsPolynomialOf ts q → IsPolynomialOf ts r → q ≡ r
the_polynomial ts q r h k = polynomial_unique q r h.ordered k.ordered (same_trans q ts r h.same (same_turned r ts k.same))

-- it is answered, and Wide where it passes a limit
pub answers_value : (ts r x : List Monomial) (result : Result (List Monomial) Limit) → IsPolynomialOf ts r → x ≡ r → IfOk result (λ p. p ≡ x)
    → IfOk result (IsPolynomialOf ts)
answers_value ts r x (Ok p) h is same = subst (IsPolynomialOf ts) (sym (same ∙ is)) h
answers_value ts r x (Err e) h is same = tt

pub answers_wide : (ts r x : List Monomial) (result : Result (List Monomial) Limit) → IsPolynomialOf ts r → x ≡ r → WideWhere (PassesLimit x) result
    → WideWhere (IsBeyond ts) result
answers_wide ts r x (Ok p) h is within = λ b. within (subst PassesLimit (the_polynomial ts b.0 r b.1 h ∙ sym is) b.2)
answers_wide ts r x (Err Wide) h is passes = (r, h, subst PassesLimit is passes)
answers_wide ts r x (Err Memory) h is passes = tt

-- what is left after the division by the content
pub divided_of : (ts least y : List Monomial) → IsPolynomial ts → IsPrimitiveForm ts least → y ≡ least → IsPrimitiveOf ts y
divided_of ts least y h form last = subst (IsPrimitiveOf ts) (sym last) (form_is_primitive ts least h form)

pub answers_divided : (ts y : List Monomial) (result : Result (List Monomial) Limit) → IsPrimitiveOf ts y → IfOk result (λ p. p ≡ y) →
    IfOk result (IsPrimitiveOf ts)
answers_divided ts y (Ok p) h same = subst (IsPrimitiveOf ts) (sym same) h
answers_divided ts y (Err e) h same = tt

itself : (ts : List Monomial) → IsPolynomial ts → IsPolynomialOf ts ts
itself ts h = record { ordered = h; same = same_itself ts }

pub answers_divided_wide : (ts y : List Monomial) (result : Result (List Monomial) Limit) → IsPolynomial ts → IsPrimitiveOf ts y
    → WideWhere (PassesLimit y) result → WideWhere (IsBeyondDivided ts) result
answers_divided_wide ts y (Ok p) h left within = λ b. within (subst PassesLimit (primitive_unique ts ts b.0 y (itself ts h) b.1 left) b.2)
answers_divided_wide ts y (Err Wide) h left passes = (y, left, passes)
answers_divided_wide ts y (Err Memory) h left passes = tt

-- the same of the sum of terms that was gathered
same_as : (ts all x : List Monomial) → IsPolynomialOf ts all → x ≡ all → AreSame x ts
same_as ts all x h is = subst (λ z. AreSame z ts) (sym is) h.same

pub carries_divided : (ts all x : List Monomial) (result : Result (List Monomial) Limit) → IsPolynomialOf ts all → x ≡ all → IfOk result (IsPrimitiveOf x)
    → IfOk result (IsPrimitiveOf ts)
carries_divided ts all x (Ok p) h is left = primitive_of_same x ts p (same_as ts all x h is) left
carries_divided ts all x (Err e) h is left = tt

pub carries_sign : (ts all x : List Monomial) (result : Result (List Monomial) Limit) → IsPolynomialOf ts all → x ≡ all → IfOk result (IsPrimitiveOf x)
    → IfOk result (λ r. HaveSameSign r ts)
carries_sign ts all x (Ok p) h is left = primitive_has_same_sign ts p (primitive_of_same x ts p (same_as ts all x h is) left)
carries_sign ts all x (Err e) h is left = tt

pub carries_wide : (ts all x : List Monomial) (result : Result (List Monomial) Limit) → IsPolynomialOf ts all → x ≡ all → WideWhere (IsBeyondDivided x) result
    → WideWhere (IsBeyondDivided ts) result
carries_wide ts all x (Ok p) h is within = λ b. within (b.0, primitive_of_same ts x b.0 (same_turned x ts (same_as ts all x h is)) b.1, b.2)
carries_wide ts all x (Err Wide) h is passes = (passes.0, primitive_of_same x ts passes.0 (same_as ts all x h is) passes.1, passes.2)
carries_wide ts all x (Err Memory) h is passes = tt
