-- What true facts say of conditions.
use Rattle.std.proofs.Common.{◌≡◌, Bool, true, false, List, [], ◌∷◌, None, Some, refl, sym, ap₂, ◌∙◌, subst, arith}
use Rattle.std.specs.Prelude.{◌&&◌, MatchOption, if◌then◌else◌}
use Rattle.std.specs.Option.{unwrap_or}
use Rattle.theory_meaning.specs.declared.words.Sign.{Sign}
use Rattle.theory_meaning.specs.declared.words.Sign.TheVariants.{Minus, Zero, Plus}
use Rattle.theory_formula.specs.declared.signs.Signs.{Signs}
use Rattle.theory_formula.specs.Signs.{has, meet}
use Rattle.theory_polynomial.specs.Terms.{Monomial}
use Rattle.theory_polynomial.specs.PolynomialValue.{Values}
use Rattle.theory_formula.specs.Formula.{sign_at}
use Rattle.theory_elimination.specs.SameFormula.{is_same_poly}
use Rattle.theory_elimination.specs.Facts.{Facts, known_set, is_within, are_apart, judged_by, judged, with_fact, AreTrueAt}
use Rattle.theory_elimination.proofs.SetTruth.{put_together_has}
use Rattle.theory_elimination.proofs.SameLaws.{same_poly}

within_has : (T S : Signs) (s : Sign) → is_within T S ≡ true → has T s ≡ true → has S s ≡ true
within_has T S Minus e h = grind (arith, e, h)
within_has T S Zero e h = grind (arith, e, h)
within_has T S Plus e h = grind (arith, e, h)

apart_has : (T S : Signs) (s : Sign) → are_apart (meet T S) ≡ true → has T s ≡ true → has S s ≡ false
apart_has T S s e h =
    elim (meet T S) as (λ m. MatchOption m (has T s && has S s ≡ false) (λ R. has R s ≡ has T s && has S s) → are_apart m ≡ true → has S s ≡ false) [
      | None ↦ λ k e'. grind (arith, k, h)
      | Some R ↦ λ k e'. absurd cc
    ] (put_together_has true T S s) e

-- the set of a fact on the polynomial has its sign
pub known_has : (p : Values) (P : List Monomial) (K : Facts) (T : Signs) → AreTrueAt p K → known_set P K ≡ Some T → has T (sign_at P p) ≡ true
known_has p P [] T h e = absurd cc
known_has p P (f ∷ K) T h e =
    elim (is_same_poly f.poly P) as (λ b. is_same_poly f.poly P ≡ b → (if b then Some f.signs else known_set P K) ≡ Some T → has T (sign_at P p) ≡ true) [
      | true ↦ λ same e'.
          let set : f.signs ≡ T = cc in
          subst (λ (Q : List Monomial). has T (sign_at Q p) ≡ true) (same_poly f.poly P same) (subst (λ (S : Signs). has S (sign_at f.poly p) ≡ true) set h.0)
      | false ↦ λ differ e'. known_has p P K T h.1 e'
    ] refl e

-- a condition that facts decide is as they say
pub judged_as : (S T : Signs) (s : Sign) (b : Bool) → has T s ≡ true → judged_by S (Some T) ≡ Some b → has S s ≡ b
judged_as S T s b h e =
    elim (are_apart (meet T S)) as (λ a. are_apart (meet T S) ≡ a →
    (if a then Some false else (if is_within T S then Some true else None)) ≡ Some b → has S s ≡ b) [
      | true ↦ λ apart e'. let same : false ≡ b = cc in apart_has T S s apart h ∙ same
      | false ↦ λ touch e'.
          elim (is_within T S) as (λ w. is_within T S ≡ w → (if w then Some true else None) ≡ Some b → has S s ≡ b) [
            | true ↦ λ within e''. let same : true ≡ b = cc in within_has T S s within h ∙ same
            | false ↦ λ open_ e''. absurd cc
          ] refl e'
    ] refl e

pub judged_has : (p : Values) (P : List Monomial) (S : Signs) (K : Facts) (b : Bool) → AreTrueAt p K → judged K P S ≡ Some b → has S (sign_at P p) ≡ b
judged_has p P S K b h e =
    elim (known_set P K) as (λ m. known_set P K ≡ m → judged_by S m ≡ Some b → has S (sign_at P p) ≡ b) [
      | None ↦ λ k e'. absurd cc
      | Some T ↦ λ k e'. judged_as S T (sign_at P p) b (known_has p P K T h k) e'
    ] refl e

-- a true fact that is met with a true condition stays true
met_has : (T S : Signs) (s : Sign) → has T s ≡ true → has S s ≡ true → has (unwrap_or (meet T S) T) s ≡ true
met_has T S s h k =
    elim (meet T S) as (λ m. MatchOption m (has T s && has S s ≡ false) (λ R. has R s ≡ has T s && has S s) → has (unwrap_or m T) s ≡ true) [
      | None ↦ λ e. h
      | Some R ↦ λ e. e ∙ ap₂ ◌&&◌ h k
    ] (put_together_has true T S s)

-- true facts with a true condition are true facts
pub one_more_fact : (p : Values) (P : List Monomial) (S : Signs) (K : Facts) → AreTrueAt p K → has S (sign_at P p) ≡ true → AreTrueAt p (with_fact P S K)
one_more_fact p P S [] h k = (k, tt)
one_more_fact p P S (f ∷ K) h k =
    elim (is_same_poly f.poly P) as (λ b. is_same_poly f.poly P ≡ b →
    AreTrueAt p (if b then record { poly = f.poly; signs = unwrap_or (meet f.signs S) f.signs } ∷ K else f ∷ with_fact P S K)) [
      | true ↦ λ same.
          let there : has S (sign_at f.poly p) ≡ true = subst (λ (Q : List Monomial). has S (sign_at Q p) ≡ true) (sym (same_poly f.poly P same)) k in
          (met_has f.signs S (sign_at f.poly p) h.0 there, h.1)
      | false ↦ λ differ. (h.0, one_more_fact p P S K h.1 k)
    ] refl
