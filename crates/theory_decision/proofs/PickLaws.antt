-- A formula that is linear in a symbol, and in no other, is true at some value exactly where a value is picked.
use Rattle.std.proofs.Common.{◌≡◌, ℕ, zero, suc, ◌<◌, length, ℤ, pos, neg_ℤ, ◌+ℤ◌, Bool, true, false, List, [], ◌∷◌, None, Some, refl, sym, ap, ◌∙◌, subst, arith, inl, inr}
use Rattle.std.specs.Prelude.{◌<ℤ◌, int_lt, slice_index_or}
use Rattle.std.proofs.lemmas.Bool.{cases_Bool}
use Rattle.std.proofs.lemmas.Int.{ints}
use Rattle.theory_meaning.specs.declared.words.Sign.{Sign}
use Rattle.theory_meaning.specs.declared.words.Sign.TheVariants.{Minus, Zero, Plus}
use Rattle.theory_meaning.specs.Fraction.{Fraction, cross, below}
use Rattle.theory_meaning.proofs.OrderLaws.{below_left, below_right}
use Rattle.theory_formula.specs.declared.signs.Signs.{Signs}
use Rattle.theory_formula.specs.Signs.{sign_of_whole}
use Rattle.theory_decision.specs.Candidates.{LiesAlike, IsSteady}
use Rattle.theory_polynomial.specs.Polynomial.{Monomial}
use Rattle.theory_formula.specs.Formula.{Formula, Formulas, always, never, atom, conjunction, disjunction, none, more, sign_at, truth_at, EachAtom, EachAtomOfAll, IsTrueAt}
use Rattle.theory_decision.proofs.CandidateLaws.{some_candidate_passes, find-passes, find-nothing}
use Rattle.theory_elimination.specs.Elimination.{IsLinear, IsLinearAtom}
use Rattle.theory_formula.specs.Symbols.{SomeAtom, SomeAtomAmong}
use Rattle.theory_elimination.proofs.SignSums.{positive, negative, none as no_sign, times, CanSum}
use Rattle.theory_elimination.proofs.Lines.{Line, sign_on, slope_sign, way, sign_along, flat, root_of, zero_at_root}
use Rattle.theory_elimination.proofs.LineSigns.{line_of, sign_with_value}
use Rattle.theory_decision.specs.Witness.{only_at, IsRoot, AreRoots, IsPick}
use Rattle.theory_decision.proofs.AtomFacts.{each_of_two, same_signs}

-- the way from one fraction to another is known by their order
from_lt : (a b : ℤ) → int_lt a b ≡ true → a <ℤ b
from_lt a b h = grind (arith, ints)

above_zero : (m n : ℤ) → int_lt n m ≡ true → pos 0 <ℤ (m +ℤ neg_ℤ n)
above_zero m n h = let l = from_lt n m h in omega (arith, ints, l)

under_zero : (m n : ℤ) → int_lt m n ≡ true → (m +ℤ neg_ℤ n) <ℤ pos 0
under_zero m n h = let l = from_lt m n h in omega (arith, ints, l)

at_zero : (m n : ℤ) → int_lt n m ≡ false → int_lt m n ≡ false → m +ℤ neg_ℤ n ≡ pos 0
at_zero m n h k = grind (arith, ints)

by_order : (m n k l : ℤ) → int_lt n m ≡ int_lt l k → int_lt m n ≡ int_lt k l → sign_of_whole (m +ℤ neg_ℤ n) ≡ sign_of_whole (k +ℤ neg_ℤ l)
by_order m n k l e f =
    elim (cases_Bool (int_lt n m)) [
      | inl h ↦ positive (m +ℤ neg_ℤ n) (above_zero m n h) ∙ sym (positive (k +ℤ neg_ℤ l) (above_zero k l (sym e ∙ h)))
      | inr h ↦ elim (cases_Bool (int_lt m n)) [
        | inl g ↦ negative (m +ℤ neg_ℤ n) (under_zero m n g) ∙ sym (negative (k +ℤ neg_ℤ l) (under_zero k l (sym f ∙ g)))
        | inr g ↦ no_sign (m +ℤ neg_ℤ n) (at_zero m n h g) ∙ sym (no_sign (k +ℤ neg_ℤ l) (at_zero k l (sym e ∙ h) (sym f ∙ g)))
      ]
    ]

alike_at : (bs : List Fraction) (q r b : Fraction) (k : ℕ) → LiesAlike bs q r → k < length bs → slice_index_or bs k b ≡ b
    → (below q b ≡ below r b) × (below b q ≡ below b r)
alike_at [] q r b k h l e = absurd (omega (arith, l))
alike_at (c ∷ bs) q r b zero h l e = subst (λ (a : Fraction). (below q a ≡ below r a) × (below a q ≡ below a r)) e (h.0, h.1)
alike_at (c ∷ bs) q r b (suc k) h l e = alike_at bs q r b k h.2 (omega (arith, l)) e

-- values that lie alike towards a root give a line the same sign
alike_signs : (l : Line) (b q r : Fraction) → sign_on l b ≡ Zero → below q b ≡ below r b → below b q ≡ below b r → sign_on l q ≡ sign_on l r
alike_signs l b q r z e f =
    let there : (v : Fraction) → sign_on l v ≡ times (slope_sign l) (way b v) =
    λ v. subst (λ (s : Sign). CanSum s (times (slope_sign l) (way b v)) (sign_on l v)) z (sign_along l b v) in
    there q ∙ ap (times (slope_sign l)) (by_order (cross q b) (cross b q) (cross r b) (cross b r) f e) ∙ sym (there r)

-- what holds of some atom, seen from each
module _ (Q : Fraction → List Monomial → Signs → Type 0) where
  mutual
    each_some : (T : Fraction → Type 0) (F : Formula) → ((b : Fraction) → SomeAtom (Q b) F → T b) → EachAtom (λ P S. (b : Fraction) → Q b P S → T b) F
    each_some T always k = tt
    each_some T never k = tt
    each_some T (atom P S) k = k
    each_some T (conjunction Fs) k = all_some T Fs k
    each_some T (disjunction Fs) k = all_some T Fs k

    all_some : (T : Fraction → Type 0) (Fs : Formulas) → ((b : Fraction) → SomeAtomAmong (Q b) Fs → T b)
        → EachAtomOfAll (λ P S. (b : Fraction) → Q b P S → T b) Fs
    all_some T none k = tt
    all_some T (more F Fs) k = (each_some T F (λ b h. k b (inl h)), all_some T Fs (λ b h. k b (inr h)))

minus_sloped : ◌≡◌ {A = Sign} Minus Zero → ⊥
minus_sloped e = cc

plus_sloped : ◌≡◌ {A = Sign} Plus Zero → ⊥
plus_sloped e = cc

module _ (x : ℕ) (F : Formula) (bs : List Fraction) (roots : AreRoots x F bs) where
  -- the root of an atom is among them
  abbrev RootsOf : List Monomial → Signs → Type 0
  RootsOf P S = (b : Fraction) → sign_at P (only_at x b) ≡ Zero → IsRoot x F b

  sloped_steady : (q r : Fraction) → LiesAlike bs q r → (P : List Monomial) (S : Signs) → IsLinearAtom x P S → RootsOf P S
      → (slope_sign (line_of x [] P) ≡ Zero → ⊥) → sign_on (line_of x [] P) q ≡ sign_on (line_of x [] P) r
  sloped_steady q r alike P S h k n =
      let l = line_of x [] P in
      let z = root_of l in
      let b = roots.all_roots z (k z (sign_with_value x z P [] h.linear ∙ zero_at_root l n)) in
      let a = alike_at bs q r b.0 b.1.0 alike b.1.1 b.1.2 in
      alike_signs l z q r (zero_at_root l n) (sym (below_right b.0 z q b.2) ∙ a.0 ∙ below_right b.0 z r b.2)
      (sym (below_left b.0 z q b.2) ∙ a.1 ∙ below_left b.0 z r b.2)

  line_steady : (q r : Fraction) → LiesAlike bs q r → (P : List Monomial) (S : Signs) → IsLinearAtom x P S → RootsOf P S
      → sign_on (line_of x [] P) q ≡ sign_on (line_of x [] P) r
  line_steady q r alike P S h k =
      let l = line_of x [] P in
      elim (slope_sign l) as (λ s. slope_sign l ≡ s → sign_on l q ≡ sign_on l r) [
        | Zero ↦ λ e. flat l q e ∙ sym (flat l r e)
        | Plus ↦ λ e. sloped_steady q r alike P S h k (λ z. plus_sloped (sym e ∙ z))
        | Minus ↦ λ e. sloped_steady q r alike P S h k (λ z. minus_sloped (sym e ∙ z))
      ] refl

  atom_steady : (q r : Fraction) → LiesAlike bs q r → (P : List Monomial) (S : Signs) → IsLinearAtom x P S → RootsOf P S
      → sign_at P (only_at x q) ≡ sign_at P (only_at x r)
  atom_steady q r alike P S h k =
      sign_with_value x q P [] h.linear ∙ line_steady q r alike P S h k ∙ sym (sign_with_value x r P [] h.linear)

  steady : IsLinear x F → IsSteady bs (λ q. truth_at F (only_at x q))
  steady l q r alike =
      same_signs (only_at x q) (only_at x r) F
      (each_of_two (IsLinearAtom x) RootsOf (λ P S. sign_at P (only_at x q) ≡ sign_at P (only_at x r)) (atom_steady q r alike) F l
      (each_some (λ b P S. sign_at P (only_at x b) ≡ Zero) (IsRoot x F) F (λ b h. h)))

not_both : (a : Bool) → a ≡ true → a ≡ false → ⊥
not_both true e f = cc
not_both false e f = cc

-- where nothing is picked the formula is true at no value
pub none_picked : (x : ℕ) (F : Formula) → IsLinear x F → IsPick x F None → (v : Fraction) → IsTrueAt F (only_at x v) → ⊥
none_picked x F l w v t =
    let c = some_candidate_passes w.0 w.1 (λ q. truth_at F (only_at x q)) w.2.ascending w.3 (steady x F w.0 w.2 l) v t in
    not_both (truth_at F (only_at x c.0)) c.2 (find-nothing (λ q. truth_at F (only_at x q)) w.1 (sym w.4) c.0 c.1)

-- and what is picked makes it true
pub picked_is_right : (x : ℕ) (F : Formula) (v : Fraction) → IsPick x F (Some v) → IsTrueAt F (only_at x v)
picked_is_right x F v w = find-passes (λ q. truth_at F (only_at x q)) w.1 v (sym w.4)
