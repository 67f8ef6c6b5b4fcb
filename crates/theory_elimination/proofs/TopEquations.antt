-- A formula with a top equation is that equation and the other members.
use Rattle.std.proofs.Common.{◌≡◌, ℕ, Bool, true, false, List, [], ◌∷◌, ◌++◌, Option, None, Some, refl, sym, ap, ◌∙◌, subst, append_assoc, ◌⊎◌, inl, inr}
use Rattle.std.specs.Prelude.{◌&&◌}
use Rattle.theory_formula.specs.declared.signs.Signs.{Signs}
use Rattle.theory_formula.specs.declared.signs.Signs.TheVariants as set
use Rattle.theory_polynomial.specs.Polynomial.{Monomial}
use Rattle.theory_formula.specs.Formula.{Formula, Formulas, always, never, atom, conjunction, disjunction, none, more, Reading, truth_by, all_by, formulas_list, formulas_from, EachAtom, EachAtomOfAll}
use Rattle.theory_elimination.specs.TestPoint.{holds_symbol, is_constant}
use Rattle.theory_polynomial.specs.PolynomialValue.{slope_in}
use Rattle.theory_elimination.specs.Branches.{equation_if, equation_of, if_plain, plain_equation_of, Taken, taken_at, taken_behind, or_else, members_of, top_equation, others_of}

-- all formulas of a list are true
abbrev all_true : Reading → List Formula → Bool
all_true r [] = true
all_true r (F ∷ Fs) = truth_by r F && all_true r Fs

abbrev EachIn : (List Monomial → Signs → Type 0) → List Formula → Type 0
EachIn Q [] = Unit {0}
EachIn Q (F ∷ Fs) = EachAtom Q F × EachIn Q Fs

and_assoc : (a b c : Bool) → a && b && c ≡ a && (b && c)
and_assoc true b c = refl
and_assoc false b c = refl

and_swap : (a b c : Bool) → a && (b && c) ≡ b && (a && c)
and_swap true true c = refl
and_swap true false c = refl
and_swap false true c = refl
and_swap false false c = refl

and_end : (a : Bool) → a && true ≡ a
and_end true = refl
and_end false = refl

true_append : (r : Reading) (Fs Gs : List Formula) → all_true r (Fs ++ Gs) ≡ all_true r Fs && all_true r Gs
true_append r [] Gs = refl
true_append r (F ∷ Fs) Gs = ap (λ (b : Bool). truth_by r F && b) (true_append r Fs Gs) ∙ sym (and_assoc (truth_by r F) (all_true r Fs) (all_true r Gs))

module _ (Q : List Monomial → Signs → Type 0) where
  in_append : (Fs Gs : List Formula) → EachIn Q Fs → EachIn Q Gs → EachIn Q (Fs ++ Gs)
  in_append [] Gs h k = k
  in_append (F ∷ Fs) Gs h k = (h.0, in_append Fs Gs h.1 k)

  in_list : (Fs : Formulas) → EachAtomOfAll Q Fs → EachIn Q (formulas_list Fs)
  in_list none h = tt
  in_list (more F Fs) h = (h.0, in_list Fs h.1)

  in_members : (F : Formula) → EachAtom Q F → EachIn Q (members_of F)
  in_members always h = (h, tt)
  in_members never h = (h, tt)
  in_members (atom P S) h = (h, tt)
  in_members (conjunction Fs) h = in_list Fs h
  in_members (disjunction Fs) h = (h, tt)

  from_list : (Fs : List Formula) → EachIn Q Fs → EachAtomOfAll Q (formulas_from Fs)
  from_list [] h = tt
  from_list (F ∷ Fs) h = (h.0, from_list Fs h.1)

  in_others : (Fs : List Formula) → EachIn Q Fs → EachAtom Q (others_of Fs)
  in_others [] h = tt
  in_others (F ∷ Fs) h = from_list (F ∷ Fs) h

all_listed : (r : Reading) (Fs : Formulas) → all_by r Fs ≡ all_true r (formulas_list Fs)
all_listed r none = refl
all_listed r (more F Fs) = ap (λ (b : Bool). truth_by r F && b) (all_listed r Fs)

members_true : (r : Reading) (F : Formula) → truth_by r F ≡ all_true r (members_of F)
members_true r always = refl
members_true r never = refl
members_true r (atom P S) = sym (and_end (r P S))
members_true r (conjunction Fs) = all_listed r Fs
members_true r (disjunction Fs) = sym (and_end (truth_by r (disjunction Fs)))

from_true : (r : Reading) (Fs : List Formula) → all_by r (formulas_from Fs) ≡ all_true r Fs
from_true r [] = refl
from_true r (F ∷ Fs) = ap (λ (b : Bool). truth_by r F && b) (from_true r Fs)

others_true : (r : Reading) (Fs : List Formula) → truth_by r (others_of Fs) ≡ all_true r Fs
others_true r [] = refl
others_true r (F ∷ Fs) = from_true r (F ∷ Fs)

-- the formula is an equation in which the symbol occurs
record IsEquation (x : ℕ) (F : Formula) (P : List Monomial) : Type 0 where
  is : F ≡ atom P set.Zero
  holds : holds_symbol x P ≡ true

if_holds : (b : Bool) (P R : List Monomial) → equation_if b P ≡ Some R → (b ≡ true) × (P ≡ R)
if_holds true P R e = (refl, cc)
if_holds false P R e = absurd cc

equation : (x : ℕ) (F : Formula) (P : List Monomial) → equation_of x F ≡ Some P → IsEquation x F P
equation x (atom R set.Zero) P e =
    let h = if_holds (holds_symbol x R) R P e in
    record { is = ap (λ (T : List Monomial). atom T set.Zero) h.1; holds = sym (ap (holds_symbol x) h.1) ∙ h.0 }
equation x (atom R set.Neg) P e = absurd cc
equation x (atom R set.Pos) P e = absurd cc
equation x (atom R set.NotPos) P e = absurd cc
equation x (atom R set.NonZero) P e = absurd cc
equation x (atom R set.NotNeg) P e = absurd cc
equation x always P e = absurd cc
equation x never P e = absurd cc
equation x (conjunction Fs) P e = absurd cc
equation x (disjunction Fs) P e = absurd cc

plain_is_one : (x : ℕ) (o : Option (List Monomial)) (P : List Monomial) → if_plain x o ≡ Some P → o ≡ Some P
plain_is_one x None P e = absurd cc
plain_is_one x (Some R) P e = ap Some (if_holds (is_constant (slope_in x R)) R P e).1

plain_equation : (x : ℕ) (F : Formula) (P : List Monomial) → plain_equation_of x F ≡ Some P → IsEquation x F P
plain_equation x F P e = equation x F P (plain_is_one x (equation_of x F) P e)

-- an equation that is taken, and what the whole is
pub record Splits (Q : List Monomial → Signs → Type 0) (x : ℕ) (Fs : List Formula) (e : Taken) : Type 0 where
  pub holds : holds_symbol x e.poly ≡ true
  pub truth : (r : Reading) → all_true r Fs ≡ r e.poly set.Zero && truth_by r (others_of e.others)
  pub each : EachIn Q Fs → Q e.poly set.Zero × EachAtom Q (others_of e.others)

-- the parts of a list with one member taken out
taken_parts : (Q : List Monomial → Signs → Type 0) (passed : List Formula) (F : Formula) (Fs : List Formula) → EachIn Q (passed ++ F ∷ Fs)
    → EachIn Q passed × EachAtom Q F × EachIn Q Fs
taken_parts Q [] F Fs h = (tt, h.0, h.1)
taken_parts Q (G ∷ passed) F Fs h = let k = taken_parts Q passed F Fs h.1 in ((h.0, k.0), k.1, k.2)

same_some : {A : Type 0} {a b : A} → Some a ≡ Some b → a ≡ b
same_some e = cc

taken_here : (Q : List Monomial → Signs → Type 0) (x : ℕ) (F : Formula) (P : List Monomial) (passed Fs : List Formula) → IsEquation x F P
    → Splits Q x (passed ++ F ∷ Fs) (record { poly = P; others = passed ++ Fs })
taken_here Q x F P passed Fs h = record {
  holds = h.holds;
  truth = λ r.
      true_append r passed (F ∷ Fs) ∙ ap (λ (G : Formula). all_true r passed && (truth_by r G && all_true r Fs)) h.is
      ∙ and_swap (all_true r passed) (r P set.Zero) (all_true r Fs)
      ∙ ap (λ (b : Bool). r P set.Zero && b) (sym (true_append r passed Fs) ∙ sym (others_true r (passed ++ Fs)));
  each = λ k.
      let parts = taken_parts Q passed F Fs k in
      (subst (EachAtom Q) h.is parts.1, in_others Q (passed ++ Fs) (in_append Q passed Fs parts.0 parts.2));
}

taken : (Q : List Monomial → Signs → Type 0) (x : ℕ) (is_one : Formula → Option (List Monomial)) →
    ((F : Formula) (P : List Monomial) → is_one F ≡ Some P → IsEquation x F P)
    → (passed Fs : List Formula) (e : Taken) → taken_behind is_one passed Fs ≡ Some e → Splits Q x (passed ++ Fs) e
taken Q x is_one sound passed [] e h = absurd cc
taken Q x is_one sound passed (F ∷ Fs) e h =
    elim (is_one F) as (λ o. is_one F ≡ o → taken_at o (passed ++ Fs) (taken_behind is_one (passed ++ F ∷ []) Fs) ≡ Some e → Splits Q x (passed ++ F ∷ Fs) e) [
      | None ↦ λ k h'.
          subst (λ (Gs : List Formula). Splits Q x Gs e) (append_assoc passed (F ∷ []) Fs) (taken Q x is_one sound (passed ++ F ∷ []) Fs e h')
      | Some P ↦ λ k h'.
          subst (λ (d : Taken). Splits Q x (passed ++ F ∷ Fs) d) (same_some h') (taken_here Q x F P passed Fs (sound F P k))
    ] refl h

either_taken : (first second : Option Taken) (e : Taken) → or_else first second ≡ Some e → (first ≡ Some e) ⊎ (second ≡ Some e)
either_taken None second e h = inr h
either_taken (Some d) second e h = inl h

pub top_splits : (Q : List Monomial → Signs → Type 0) (x : ℕ) (F : Formula) (e : Taken) → top_equation x F ≡ Some e → Splits Q x (members_of F) e
top_splits Q x F e h =
    elim (either_taken (taken_behind (plain_equation_of x) [] (members_of F)) (taken_behind (equation_of x) [] (members_of F)) e h) [
      | inl k ↦ taken Q x (plain_equation_of x) (plain_equation x) [] (members_of F) e k
      | inr k ↦ taken Q x (equation_of x) (equation x) [] (members_of F) e k
    ]

-- what a top equation says of the formula
pub equation_and_others : (x : ℕ) (F : Formula) (e : Taken) (r : Reading) → top_equation x F ≡ Some e
    → truth_by r F ≡ r e.poly set.Zero && truth_by r (others_of e.others)
equation_and_others x F e r h = members_true r F ∙ (top_splits (λ P S. Unit {0}) x F e h).truth r

pub equation_holds : (x : ℕ) (F : Formula) (e : Taken) → top_equation x F ≡ Some e → holds_symbol x e.poly ≡ true
equation_holds x F e h = (top_splits (λ P S. Unit {0}) x F e h).holds

pub equation_each : (x : ℕ) (F : Formula) (e : Taken) (Q : List Monomial → Signs → Type 0) → top_equation x F ≡ Some e → EachAtom Q F
    → Q e.poly set.Zero × EachAtom Q (others_of e.others)
equation_each x F e Q h k = (top_splits Q x F e h).each (in_members Q F k)
