-- What the tests find the same is the same.
use Rattle.std.proofs.Common.{◌≡◌, Bool, true, false, List, [], ◌∷◌, refl, ap, ap₂, ◌∙◌}
use Rattle.std.specs.Prelude.{◌&&◌, ◌||◌}
use Rattle.std.specs.Bool.{beq}
use Rattle.std.specs.Ordering.{int_eq}
use Rattle.std.specs.Str.{bytes_eq}
use Rattle.std.proofs.lemmas.Bool.Decides.{Decides-int_eq}
use Rattle.std.proofs.lemmas.Slice.Eq.{bytes_eq-Decides}
use Rattle.theory_meaning.specs.declared.words.Sign.{Sign}
use Rattle.theory_meaning.specs.declared.words.Sign.TheVariants.{Minus, Zero, Plus}
use Rattle.theory_formula.specs.declared.signs.Signs.{Signs}
use Rattle.theory_formula.specs.Signs.{has}
use Rattle.theory_polynomial.specs.Terms.{Monomial, monomial}
use Rattle.theory_polynomial.specs.PolynomialValue.{Values}
use Rattle.theory_formula.specs.Formula.{Formula, Formulas, always, never, atom, conjunction, disjunction, none, more, sign_at, truth_at, all_by, some_by, reading_at}
use Rattle.theory_elimination.specs.SameFormula.{is_same_poly, is_same_set, is_same, are_same}

pub first_true : (a b : Bool) → a && b ≡ true → a ≡ true
first_true true b e = refl
first_true false b e = absurd cc

pub second_true : (a b : Bool) → a && b ≡ true → b ≡ true
second_true true b e = e
second_true false b e = absurd cc

beq_same : (a b : Bool) → beq a b ≡ true → a ≡ b
beq_same true true e = refl
beq_same false false e = refl
beq_same true false e = absurd cc
beq_same false true e = absurd cc

same_term : (t u : Monomial) → t.coefficient ≡ u.coefficient → t.powers ≡ u.powers → t ≡ u
same_term t u e e' = ap₂ monomial e e'

pub same_poly : (P Q : List Monomial) → is_same_poly P Q ≡ true → P ≡ Q
same_poly [] [] e = refl
same_poly (t ∷ ts) (u ∷ us) e =
    let numbers = int_eq t.coefficient u.coefficient in
    let powers = bytes_eq t.powers u.powers in
    let both = first_true (numbers && powers) (is_same_poly ts us) e in
    ap₂ (λ (v : Monomial) (vs : List Monomial). v ∷ vs)
    (same_term t u ((Decides-int_eq t.coefficient u.coefficient).0 (first_true numbers powers both))
    ((bytes_eq-Decides t.powers u.powers).0 (second_true numbers powers both)))
    (same_poly ts us (second_true (numbers && powers) (is_same_poly ts us) e))
same_poly [] (u ∷ us) e = absurd cc
same_poly (t ∷ ts) [] e = absurd cc

pub same_set : (S T : Signs) (s : Sign) → is_same_set S T ≡ true → has S s ≡ has T s
same_set S T Minus e =
    let minus = beq (has S Minus) (has T Minus) in
    let zero = beq (has S Zero) (has T Zero) in
    beq_same (has S Minus) (has T Minus) (first_true minus zero (first_true (minus && zero) (beq (has S Plus) (has T Plus)) e))
same_set S T Zero e =
    let minus = beq (has S Minus) (has T Minus) in
    let zero = beq (has S Zero) (has T Zero) in
    beq_same (has S Zero) (has T Zero) (second_true minus zero (first_true (minus && zero) (beq (has S Plus) (has T Plus)) e))
same_set S T Plus e =
    beq_same (has S Plus) (has T Plus) (second_true (beq (has S Minus) (has T Minus) && beq (has S Zero) (has T Zero)) (beq (has S Plus) (has T Plus)) e)

-- the same trees have the same truth
module _ (p : Values) where
  mutual
    pub same_truth : (F G : Formula) → is_same F G ≡ true → truth_at F p ≡ truth_at G p
    same_truth always always e = refl
    same_truth never never e = refl
    same_truth (atom P S) (atom Q T) e =
        let poly = same_poly P Q (first_true (is_same_poly P Q) _ e) in
        same_set S T (sign_at P p) (second_true (is_same_poly P Q) _ e) ∙ ap (λ (R : List Monomial). has T (sign_at R p)) poly
    same_truth (conjunction Fs) (conjunction Gs) e = same_all Fs Gs e
    same_truth (disjunction Fs) (disjunction Gs) e = same_some Fs Gs e
    same_truth always never e = absurd cc
    same_truth always (atom Q T) e = absurd cc
    same_truth always (conjunction Gs) e = absurd cc
    same_truth always (disjunction Gs) e = absurd cc
    same_truth never always e = absurd cc
    same_truth never (atom Q T) e = absurd cc
    same_truth never (conjunction Gs) e = absurd cc
    same_truth never (disjunction Gs) e = absurd cc
    same_truth (atom P S) always e = absurd cc
    same_truth (atom P S) never e = absurd cc
    same_truth (atom P S) (conjunction Gs) e = absurd cc
    same_truth (atom P S) (disjunction Gs) e = absurd cc
    same_truth (conjunction Fs) always e = absurd cc
    same_truth (conjunction Fs) never e = absurd cc
    same_truth (conjunction Fs) (atom Q T) e = absurd cc
    same_truth (conjunction Fs) (disjunction Gs) e = absurd cc
    same_truth (disjunction Fs) always e = absurd cc
    same_truth (disjunction Fs) never e = absurd cc
    same_truth (disjunction Fs) (atom Q T) e = absurd cc
    same_truth (disjunction Fs) (conjunction Gs) e = absurd cc

    same_all : (Fs Gs : Formulas) → are_same Fs Gs ≡ true → all_by (reading_at p) Fs ≡ all_by (reading_at p) Gs
    same_all none none e = refl
    same_all (more F Fs) (more G Gs) e =
        ap₂ ◌&&◌ (same_truth F G (first_true (is_same F G) _ e)) (same_all Fs Gs (second_true (is_same F G) _ e))
    same_all none (more G Gs) e = absurd cc
    same_all (more F Fs) none e = absurd cc

    same_some : (Fs Gs : Formulas) → are_same Fs Gs ≡ true → some_by (reading_at p) Fs ≡ some_by (reading_at p) Gs
    same_some none none e = refl
    same_some (more F Fs) (more G Gs) e =
        ap₂ ◌||◌ (same_truth F G (first_true (is_same F G) _ e)) (same_some Fs Gs (second_true (is_same F G) _ e))
    same_some none (more G Gs) e = absurd cc
    same_some (more F Fs) none e = absurd cc
