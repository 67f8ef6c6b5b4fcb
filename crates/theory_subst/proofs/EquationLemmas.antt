-- The first equation of a list, and the others.
use Rattle.std.proofs.Common.{◌≡◌, ℕ, zero, suc, ◌+◌, ◌<◌, Bool, true, false, List, [], ◌∷◌, ◌++◌, length, get_or, take, drop, not, refl, sym, ap, ap₂, ◌∙◌, subst, arith, Option, None, Some}
use Rattle.std.specs.Prelude.{◌||◌}
use Rattle.std.proofs.Math.Seq.{take-suc, drop-cons}
use Rattle.theory_polynomial.specs.Polynomial.{Monomial}
use Rattle.theory_formula.specs.Formula.{Formula}
use Rattle.theory_elimination.specs.TestPoint.{is_constant}
use Rattle.theory_polynomial.specs.PolynomialValue.{slope_in}
use Rattle.theory_elimination.specs.Branches.{Taken, equation_if, equation_of, if_plain, taken_behind, taken_at, or_else}
use Rattle.theory_subst.specs.Equations.{equation_with, without, IsLine, ArePartsOf, IsFirst}
use Rattle.theory_subst.specs.declared.top_equation.TopEquation.{TopEquation}

pub wanted_parts : (plain : Bool) (x : ℕ) (P a b : List Monomial) (F : Formula) → equation_of x F ≡ equation_if true P → IsLine x P a b
    → true ≡ (not plain || is_constant a) → ArePartsOf x (equation_with plain x F) (Some (a, b))
wanted_parts true x P a b F h line constant =
    let known : true ≡ is_constant (slope_in x P) = constant ∙ ap is_constant line.slope_is in
    subst (λ e. ArePartsOf x (if_plain x e) (Some (a, b))) (sym h) (subst (λ k. ArePartsOf x (equation_if k P) (Some (a, b))) known line)
wanted_parts false x P a b F h line constant = subst (λ e. ArePartsOf x e (Some (a, b))) (sym h) line

pub unwanted_parts : (plain : Bool) (x : ℕ) (P a b : List Monomial) (F : Formula) → equation_of x F ≡ equation_if true P → IsLine x P a b
    → false ≡ (not plain || is_constant a) → ArePartsOf x (equation_with plain x F) None
unwanted_parts true x P a b F h line symbolic =
    let known : false ≡ is_constant (slope_in x P) = symbolic ∙ ap is_constant line.slope_is in
    subst (λ e. ArePartsOf x (if_plain x e) None) (sym h) (subst (λ k. ArePartsOf x (equation_if k P) None) known tt)
unwanted_parts false x P a b F h line symbolic = absurd cc

-- a list that grows by one, without the one at a place
pub without-kept : (k : ℕ) (Fs : List Formula) (F : Formula) → (length Fs ≡ k → ⊥) → without k (Fs ++ F ∷ []) ≡ without k Fs ++ F ∷ []
without-kept zero [] F h = absurd (h refl)
without-kept (suc k) [] F h = refl
without-kept zero (G ∷ Fs) F h = refl
without-kept (suc k) (G ∷ Fs) F h = ap (λ Gs. G ∷ Gs) (without-kept k Fs F (λ e. h (ap suc e)))

pub without-left : (k : ℕ) (Fs : List Formula) (F : Formula) → length Fs ≡ k → without k (Fs ++ F ∷ []) ≡ without k Fs
without-left zero [] F h = refl
without-left (suc k) [] F h = absurd (omega (arith, h))
without-left zero (G ∷ Fs) F h = absurd (omega (arith, h))
without-left (suc k) (G ∷ Fs) F h = ap (λ Gs. G ∷ Gs) (without-left k Fs F (omega (arith, h)))

without_is : (k : ℕ) (Fs : List Formula) → without k Fs ≡ take k Fs ++ drop (suc k) Fs
without_is zero [] = refl
without_is (suc k) [] = refl
without_is zero (F ∷ Fs) = refl
without_is (suc k) (F ∷ Fs) = ap (λ Gs. F ∷ Gs) (without_is k Fs)

-- the search for the first equation, from a place on
pub record IsSought (is_one : Formula → Option (List Monomial)) (Fs : List Formula) (i : ℕ) : Type 0 where
  pub rest : taken_behind is_one (take i Fs) (drop i Fs) ≡ taken_behind is_one [] Fs

from_place : (is_one : Formula → Option (List Monomial)) (Fs : List Formula) (i : ℕ) (F : Formula) → i < length Fs → F ≡ get_or Fs i F
    → taken_behind is_one (take i Fs) (drop i Fs)
    ≡ taken_at (is_one F) (without i Fs) (taken_behind is_one (take (i + 1) Fs) (drop (i + 1) Fs))
from_place is_one Fs i F h is =
    let next : suc i ≡ i + 1 = omega arith in
    let cut : drop i Fs ≡ F ∷ drop (suc i) Fs = drop-cons Fs i F h ∙ ap (λ G. G ∷ drop (suc i) Fs) (sym is) in
    let grown : take i Fs ++ F ∷ [] ≡ take (suc i) Fs = ap (λ G. take i Fs ++ G ∷ []) is ∙ sym (take-suc Fs i F h) in
    ap (taken_behind is_one (take i Fs)) cut
    ∙ ap₂ (λ others seen. taken_at (is_one F) others (taken_behind is_one seen (drop (suc i) Fs))) (sym (without_is i Fs)) grown
    ∙ ap (λ n. taken_at (is_one F) (without i Fs) (taken_behind is_one (take n Fs) (drop n Fs))) next

no_parts : (x : ℕ) (e : Option (List Monomial)) → ArePartsOf x e None → e ≡ None
no_parts x None h = refl
no_parts x (Some P) h = absurd h

pub sought_on : (plain : Bool) (x : ℕ) (Fs : List Formula) (i : ℕ) (F : Formula) → i < length Fs → F ≡ get_or Fs i F
    → IsSought (equation_with plain x) Fs i → ArePartsOf x (equation_with plain x F) None → IsSought (equation_with plain x) Fs (i + 1)
sought_on plain x Fs i F h is before none =
    let is_one = equation_with plain x in
    let isnt : is_one F ≡ None = no_parts x (is_one F) none in
    record {
      rest =
          sym (from_place is_one Fs i F h is ∙ ap (λ e. taken_at e (without i Fs) (taken_behind is_one (take (i + 1) Fs) (drop (i + 1) Fs))) isnt)
          ∙ before.rest;
    }

found_parts : (x : ℕ) (Fs : List Formula) (f : TopEquation) (e : Option (List Monomial)) (next : Option Taken) → f.place < length Fs
    → ArePartsOf x e (Some (f.slope, f.base)) → IsFirst x Fs (taken_at e (without f.place Fs) next) (Some f)
found_parts x Fs f None next h parts = absurd parts
found_parts x Fs f (Some P) next h parts = record { within = h; line = parts; others = refl }

pub found_at : (plain : Bool) (x : ℕ) (Fs : List Formula) (f : TopEquation) (F : Formula) → f.place < length Fs → F ≡ get_or Fs f.place F
    → IsSought (equation_with plain x) Fs f.place → ArePartsOf x (equation_with plain x F) (Some (f.slope, f.base))
    → IsFirst x Fs (taken_behind (equation_with plain x) [] Fs) (Some f)
found_at plain x Fs f F h is before parts =
    let is_one = equation_with plain x in
    let next = taken_behind is_one (take (f.place + 1) Fs) (drop (f.place + 1) Fs) in
    subst (λ t. IsFirst x Fs t (Some f)) (sym (from_place is_one Fs f.place F h is) ∙ before.rest) (found_parts x Fs f (is_one F) next h parts)

-- a formula alone is taken where it is an equation
lone_if : (b : Bool) (P : List Monomial)
    → or_else (taken_at (equation_if b P) [] None) (Some (record { poly = P; others = [] })) ≡ Some (record { poly = P; others = [] })
lone_if true P = refl
lone_if false P = refl

lone_of : (x : ℕ) (e : Option (List Monomial)) → or_else (taken_at (if_plain x e) [] None) (taken_at e [] None) ≡ taken_at e [] None
lone_of x None = refl
lone_of x (Some P) = lone_if (is_constant (slope_in x P)) P

pub lone_is : (x : ℕ) (F : Formula)
    → or_else (taken_behind (equation_with true x) [] (F ∷ [])) (taken_behind (equation_with false x) [] (F ∷ [])) ≡ taken_behind
    (equation_with false x) [] (F ∷ [])
lone_is x F = lone_of x (equation_of x F)
