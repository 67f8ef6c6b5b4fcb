-- What is built of an atom is its split form.
use Rattle.std.proofs.Common.{◌≡◌, ℕ, ◌+◌, ◌<◌, Bool, true, false, List, [], ◌∷◌, ◌++◌, map, pos, negsuc, refl, sym, ap, ◌∙◌, subst, arith, if◌then◌else◌}
use Rattle.std.specs.Prelude.{◌==◌, ◌*ℤ◌, ℤ, neg_ℤ}
use Rattle.std.proofs.Common.{inl, inr}
use Rattle.std.proofs.lemmas.Int.{ints}
use Rattle.theory_formula.specs.declared.signs.Signs.{Signs}
use Rattle.theory_formula.specs.declared.signs.Signs.TheVariants as set_of
use Rattle.theory_formula.specs.Signs.{has, mirror, sign_of_whole}
use Rattle.theory_meaning.specs.declared.words.Sign.TheVariants.{Zero}
use Rattle.theory_polynomial.specs.Polynomial.{Monomial, coefficient_at, no_powers, scaled, symbol_of, greatest_exponent_of, IsCanonical, IsCanonicalOf, HasPositiveFirst, AreSame}
use Rattle.theory_polynomial.proofs.FixedOrder.{polynomial_unique}
use Rattle.theory_polynomial.proofs.CoefficientLaws.{same_trans, scaled_once}
use Rattle.theory_polynomial.proofs.PrimitiveLaws.{content_unique}
use Rattle.theory_poly.proofs.ScaleLaws.{scaled_ordered}
use Rattle.theory_formula.specs.Formula.{Formula, atom, conjunction, disjunction, more, formulas_from, sign_at, truth_at}
use Rattle.theory_formula.specs.SignCondition.{decided, IsAtomOf}
use Rattle.theory_signed.specs.Split.{condition_on, symbol_is, with_squares, split, split_all}
use Rattle.theory_signed.proofs.SplitCanonical.{symbol_canonical}

-- the atom that is made of a canonical polynomial
has_some : (n : ℕ) → 0 < n → n == 0 ≡ false
has_some n h = grind (arith, h)

decided_truth : (b : Bool) → truth_at (decided b) [] ≡ b
decided_truth true = refl
decided_truth false = refl

same_content : (P : List Monomial) (g : ℕ) (Q : List Monomial) → g ≡ 1 → AreSame P (scaled (pos g) Q) → AreSame P Q
same_content P g Q one h =
    let k : AreSame P (scaled (pos 1) Q) = subst (λ (n : ℕ). AreSame P (scaled (pos n) Q)) one h in
    same_trans P (scaled (pos 1) Q) Q k (scaled_once Q)

not_below : (n m : ℕ) (c d : ℤ) → c ≡ negsuc 0 *ℤ d → c ≡ pos (n + 1) → d ≡ pos (m + 1) → ⊥
not_below n m c d e h k = omega (arith, ints, e, h, k)

abbrev first_of_all : List Monomial → ℤ
first_of_all [] = pos 0
first_of_all (t ∷ ts) = t.coefficient

not_turned : (P Q : List Monomial) → HasPositiveFirst P → HasPositiveFirst Q → P ≡ scaled (negsuc 0) Q → ⊥
not_turned [] Q h k e = h
not_turned (t ∷ ts) [] h k e = k
not_turned (t ∷ ts) (u ∷ us) h k e = not_below h.0 k.0 t.coefficient u.coefficient (ap first_of_all e) h.1 k.1

-- a canonical polynomial is its own canonical form
own_form : (P : List Monomial) (turned : Bool) (Q : List Monomial) (S : Signs) → IsCanonical P → IsCanonicalOf P turned Q
    → atom Q (if turned then mirror S else S) ≡ atom P S
own_form P false Q S h k =
    let one : k.content ≡ 1 = content_unique P k.content 1 h.ordered k.is_content h.primitive in
    let same : P ≡ Q = polynomial_unique P Q h.ordered (k.canonical).ordered (same_content P k.content Q one k.same) in
    ap (λ (R : List Monomial). atom R S) (sym same)
own_form P true Q S h k =
    let one : k.content ≡ 1 = content_unique P k.content 1 h.ordered k.is_content h.primitive in
    let turned : AreSame P (scaled (neg_ℤ (pos 1)) Q) = subst (λ (n : ℕ). AreSame P (scaled (neg_ℤ (pos n)) Q)) one k.same in
    let same : P ≡ scaled (negsuc 0) Q =
    polynomial_unique P (scaled (negsuc 0) Q) h.ordered (scaled_ordered (negsuc 0) Q (λ e. absurd cc) (k.canonical).ordered) turned in
    absurd (not_turned P Q h.first (k.canonical).first same)

on_constant : (P : List Monomial) (S : Signs) → greatest_exponent_of P ≡ 0 → condition_on P S ≡ decided (has S (sign_at P []))
on_constant P S h = ap (λ (n : ℕ). if n == 0 then decided (has S (sign_at P [])) else atom P S) h

on_symbols : (P : List Monomial) (S : Signs) → 0 < greatest_exponent_of P → condition_on P S ≡ atom P S
on_symbols P S h = ap (λ (b : Bool). if b then decided (has S (sign_at P [])) else atom P S) (has_some (greatest_exponent_of P) h)

pub atom_is_condition : (P : List Monomial) (S : Signs) (F : Formula) → IsCanonical P → IsAtomOf P S F → truth_at F [] ≡ has S (sign_at P [])
    → F ≡ condition_on P S
atom_is_condition P S F h (inl d) truth =
    let b : Bool = has S (sign_of_whole (coefficient_at P no_powers)) in
    let same : b ≡ has S (sign_at P []) = sym (decided_truth b) ∙ ap (λ (G : Formula). truth_at G []) (sym d.written) ∙ truth in
    d.written ∙ ap decided same ∙ sym (on_constant P S d.constant)
atom_is_condition P S F h (inr a) truth = a.written ∙ own_form P a.turned a.poly S h a.canonical ∙ sym (on_symbols P S a.symbol)

pub symbol_condition : (x : ℕ) (S : Signs) → x < 32 → condition_on (symbol_of x) S ≡ symbol_is S x
symbol_condition x S h = on_symbols (symbol_of x) S ((symbol_canonical x h).symbol)

-- conditions on squares
pub no_squares : (xs : List ℕ) (S T : Signs) (F : Formula) → map (symbol_is T) xs ≡ [] → F ≡ with_squares xs S F
no_squares [] S T F h = refl
no_squares (x ∷ xs) S T F h = absurd (let e : symbol_is T x ∷ map (symbol_is T) xs ≡ [] = h in cc)

pub some_squares : (xs : List ℕ) (S : Signs) (F : Formula) (Gs : List Formula)
    → Gs ≡ map (symbol_is (if has S Zero then set_of.Zero else set_of.NonZero)) xs → (Gs ≡ [] → ⊥)
    → (if has S Zero then disjunction (formulas_from (Gs ++ F ∷ [])) else conjunction (formulas_from (Gs ++ F ∷ []))) ≡ with_squares xs S F
some_squares [] S F Gs h some = absurd (some h)
some_squares (x ∷ xs) S F Gs h some =
    elim (has S Zero) as (λ b. Gs ≡ map (symbol_is (if b then set_of.Zero else set_of.NonZero)) (x ∷ xs)
    → (if b then disjunction (formulas_from (Gs ++ F ∷ [])) else conjunction (formulas_from (Gs ++ F ∷ [])))
    ≡ (if b then disjunction (formulas_from (map (symbol_is set_of.Zero) (x ∷ xs) ++ F ∷ []))
    else conjunction (formulas_from (map (symbol_is set_of.NonZero) (x ∷ xs) ++ F ∷ [])))) [
      | true ↦ λ e. ap (λ (Hs : List Formula). disjunction (formulas_from (Hs ++ F ∷ []))) e
      | false ↦ λ e. ap (λ (Hs : List Formula). conjunction (formulas_from (Hs ++ F ∷ []))) e
    ] h

-- the members of a list, each split
pub all_split : (Fs : List Formula) → split_all (formulas_from Fs) ≡ formulas_from (map split Fs)
all_split [] = refl
all_split (F ∷ Fs) = ap (more (split F)) (all_split Fs)
