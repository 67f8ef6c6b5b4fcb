-- Polynomials and test points that are the same, term by term.
use Rattle.std.proofs.Common.{◌≡◌, ℕ, zero, suc, ◌+◌, ◌≤◌, ◌<◌, Bool, true, false, List, [], ◌∷◌, length, get_or, drop, refl, sym, ap, ap₂, ◌∙◌, arith}
use Rattle.std.specs.Prelude.{◌&&◌}
use Rattle.std.specs.Ordering.{int_eq}
use Rattle.std.specs.Str.{bytes_eq}
use Rattle.std.proofs.lemmas.List.{drop_all}
use Rattle.theory_polynomial.specs.Polynomial.{Monomial}
use Rattle.theory_elimination.specs.SameFormula.{is_same_poly}

none_of_three : (i j : Bool) → (i && j && false) ≡ false
none_of_three true true = refl
none_of_three true false = refl
none_of_three false j = refl

pub other_lengths : (a b : List Monomial) → (length a ≡ length b → ⊥) → false ≡ is_same_poly a b
other_lengths [] [] h = absurd (h refl)
other_lengths [] (u ∷ b) h = refl
other_lengths (t ∷ a) [] h = refl
other_lengths (t ∷ a) (u ∷ b) h =
    let rest : false ≡ is_same_poly a b = other_lengths a b (λ e. h (ap suc e)) in
    sym (none_of_three (int_eq t.coefficient u.coefficient) (bytes_eq t.powers u.powers))
    ∙ ap (λ r. int_eq t.coefficient u.coefficient && bytes_eq t.powers u.powers && r) rest

-- the same coefficient and exponents
abbrev pub is_same_term : Monomial → Monomial → Bool
is_same_term t u = int_eq t.coefficient u.coefficient && bytes_eq t.powers u.powers

regrouped : (i j k : Bool) → (i && j && k) ≡ ((i && j) && k)
regrouped true j k = refl
regrouped false j k = refl

same_step_at : (k : ℕ) (a b : List Monomial) (d e : Monomial) → k < length a → k < length b
    → is_same_poly (drop k a) (drop k b) ≡ (is_same_term (get_or a k d) (get_or b k e) && is_same_poly (drop (suc k) a) (drop (suc k) b))
same_step_at k [] b d e h l = absurd (omega (arith, h))
same_step_at k (t ∷ a) [] d e h l = absurd (omega (arith, l))
same_step_at zero (t ∷ a) (u ∷ b) d e h l = regrouped (int_eq t.coefficient u.coefficient) (bytes_eq t.powers u.powers) (is_same_poly a b)
same_step_at (suc k) (t ∷ a) (u ∷ b) d e h l = same_step_at k a b d e (omega (arith, h)) (omega (arith, l))

pub same_step : (k : ℕ) (a b : List Monomial) (d e : Monomial) → k < length a → length a ≡ length b
    → is_same_term (get_or a k d) (get_or b k e) ≡ true → is_same_poly (drop k a) (drop k b) ≡ is_same_poly (drop (k + 1) a) (drop (k + 1) b)
same_step k a b d e h l same =
    let next : suc k ≡ k + 1 = omega arith in
    same_step_at k a b d e h (omega (arith, h, l)) ∙ ap (λ r. r && is_same_poly (drop (suc k) a) (drop (suc k) b)) same
    ∙ ap (λ n. is_same_poly (drop n a) (drop n b)) next

pub other_term : (k : ℕ) (a b : List Monomial) (d e : Monomial) → k < length a → length a ≡ length b
    → is_same_term (get_or a k d) (get_or b k e) ≡ false → is_same_poly (drop k a) (drop k b) ≡ false
other_term k a b d e h l other =
    same_step_at k a b d e h (omega (arith, h, l)) ∙ ap (λ r. r && is_same_poly (drop (suc k) a) (drop (suc k) b)) other

pub same_at_end : (k : ℕ) (a b : List Monomial) → length a ≤ k → length a ≡ length b → is_same_poly (drop k a) (drop k b) ≡ true
same_at_end k a b h l = ap₂ is_same_poly (drop_all k a h) (drop_all k b (omega (arith, h, l)))
