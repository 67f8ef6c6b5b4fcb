-- Sets of signs are known by their signs, and what readings and negation do to the truth of formulas.
use Rattle.std.proofs.Common.{◌≡◌, ℤ, zero, suc, pos, negsuc, neg_ℤ, ◌+ℤ◌, Bool, true, false, not, Some, List, refl, ap₂, ◌∙◌, arith}
use Rattle.std.specs.Prelude.{◌&&◌, ◌||◌, IsTrue, int_lt}
use Rattle.std.specs.Ordering.{int_eq}
use Rattle.std.proofs.lemmas.Int.{ints}
use Rattle.theory_meaning.specs.declared.words.Rel.{Rel}
use Rattle.theory_meaning.specs.declared.words.Rel.TheVariants.{Eq, Ne, Lt, Le, Gt, Ge}
use Rattle.theory_meaning.specs.declared.words.Sign.{Sign}
use Rattle.theory_meaning.specs.declared.words.Sign.TheVariants.{Minus, Zero, Plus}
use Rattle.theory_meaning.specs.Fraction.{Fraction, cross, difference_of}
use Rattle.theory_meaning.specs.Truth.{holds}
use Rattle.theory_formula.specs.declared.signs.Signs.{Signs}
use Rattle.theory_formula.specs.declared.signs.Signs.TheVariants as set
use Rattle.theory_polynomial.specs.Polynomial.{Monomial}
use Rattle.theory_polynomial.specs.PolynomialValue.{Values}
use Rattle.theory_formula.specs.Signs.{has, complement, set_of, signs_of, sign_of, sign_of_whole}
use Rattle.theory_formula.specs.Formula.{Formula, Formulas, always, never, atom, conjunction, disjunction, none, more, Reading, reading_at, sign_at, truth_at, truth_by, all_by, some_by, EachAtom, EachAtomOfAll, StaysTrue, negated, negated_all}

-- a set is the set of its signs
set_of_own : (S : Signs) → set_of (has S Minus) (has S Zero) (has S Plus) ≡ Some S
set_of_own set.Neg = refl
set_of_own set.Zero = refl
set_of_own set.Pos = refl
set_of_own set.NotPos = refl
set_of_own set.NonZero = refl
set_of_own set.NotNeg = refl

pub known_by_signs : (S T : Signs) → ((s : Sign) → has S s ≡ has T s) → S ≡ T
known_by_signs S T h =
    let own = set_of_own S in
    let other = set_of_own T in
    let minus = h Minus in
    let zero = h Zero in
    let plus = h Plus in
    cc

-- the complement has the other signs
pub complement_has : (S : Signs) (s : Sign) → has (complement S) s ≡ not (has S s)
complement_has set.Neg Minus = refl
complement_has set.Neg Zero = refl
complement_has set.Neg Plus = refl
complement_has set.Zero Minus = refl
complement_has set.Zero Zero = refl
complement_has set.Zero Plus = refl
complement_has set.Pos Minus = refl
complement_has set.Pos Zero = refl
complement_has set.Pos Plus = refl
complement_has set.NotPos Minus = refl
complement_has set.NotPos Zero = refl
complement_has set.NotPos Plus = refl
complement_has set.NonZero Minus = refl
complement_has set.NonZero Zero = refl
complement_has set.NonZero Plus = refl
complement_has set.NotNeg Minus = refl
complement_has set.NotNeg Zero = refl
complement_has set.NotNeg Plus = refl

-- the sign of a difference decides each relation
abbrev test : Rel → ℤ → ℤ → Bool
test Eq a b = int_eq a b
test Ne a b = not (int_eq a b)
test Lt a b = int_lt a b
test Le a b = not (int_lt b a)
test Gt a b = int_lt b a
test Ge a b = not (int_lt a b)

sign_decides : (rel : Rel) (d a b : ℤ) → d ≡ a +ℤ neg_ℤ b → has (signs_of rel) (sign_of_whole d) ≡ test rel a b
sign_decides Eq (pos zero) a b h = grind (arith, ints, h)
sign_decides Eq (pos (suc n)) a b h = grind (arith, ints, h)
sign_decides Eq (negsuc n) a b h = grind (arith, ints, h)
sign_decides Ne (pos zero) a b h = grind (arith, ints, h)
sign_decides Ne (pos (suc n)) a b h = grind (arith, ints, h)
sign_decides Ne (negsuc n) a b h = grind (arith, ints, h)
sign_decides Lt (pos zero) a b h = grind (arith, ints, h)
sign_decides Lt (pos (suc n)) a b h = grind (arith, ints, h)
sign_decides Lt (negsuc n) a b h = grind (arith, ints, h)
sign_decides Le (pos zero) a b h = grind (arith, ints, h)
sign_decides Le (pos (suc n)) a b h = grind (arith, ints, h)
sign_decides Le (negsuc n) a b h = grind (arith, ints, h)
sign_decides Gt (pos zero) a b h = grind (arith, ints, h)
sign_decides Gt (pos (suc n)) a b h = grind (arith, ints, h)
sign_decides Gt (negsuc n) a b h = grind (arith, ints, h)
sign_decides Ge (pos zero) a b h = grind (arith, ints, h)
sign_decides Ge (pos (suc n)) a b h = grind (arith, ints, h)
sign_decides Ge (negsuc n) a b h = grind (arith, ints, h)

test_is : (rel : Rel) (q r : Fraction) → test rel (cross q r) (cross r q) ≡ holds rel q r
test_is Eq q r = refl
test_is Ne q r = refl
test_is Lt q r = refl
test_is Le q r = refl
test_is Gt q r = refl
test_is Ge q r = refl

pub sign_of_difference : (rel : Rel) (q r : Fraction) → has (signs_of rel) (sign_of (difference_of q r)) ≡ holds rel q r
sign_of_difference rel q r = sign_decides rel (cross q r +ℤ neg_ℤ (cross r q)) (cross q r) (cross r q) refl ∙ test_is rel q r

-- what both or either of two tests become
both_stay : (a b c d : Bool) → (IsTrue a → IsTrue c) → (IsTrue b → IsTrue d) → IsTrue (a && b) → IsTrue (c && d)
both_stay true true c d h k e = let x = h refl in let y = k refl in cc
both_stay true false c d h k e = cc
both_stay false b c d h k e = cc

either_stays : (a b c d : Bool) → (IsTrue a → IsTrue c) → (IsTrue b → IsTrue d) → IsTrue (a || b) → IsTrue (c || d)
either_stays true b true d h k e = refl
either_stays true b false d h k e = let x = h refl in cc
either_stays false true true d h k e = refl
either_stays false true false d h k e = k refl
either_stays false false c d h k e = cc

not_both : (a b : Bool) → not a || not b ≡ not (a && b)
not_both true b = refl
not_both false b = refl

not_either : (a b : Bool) → not a && not b ≡ not (a || b)
not_either true b = refl
not_either false b = refl

-- true atoms that stay true keep a formula true
mutual
  pub kept : (F : Formula) (r s : Reading) → EachAtom (StaysTrue r s) F → IsTrue (truth_by r F) → IsTrue (truth_by s F)
  kept always r s h e = e
  kept never r s h e = e
  kept (atom P S) r s h e = h e
  kept (conjunction Fs) r s h e = kept_all Fs r s h e
  kept (disjunction Fs) r s h e = kept_some Fs r s h e

  kept_all : (Fs : Formulas) (r s : Reading) → EachAtomOfAll (StaysTrue r s) Fs → IsTrue (all_by r Fs) → IsTrue (all_by s Fs)
  kept_all none r s h e = e
  kept_all (more F Fs) r s h e = both_stay (truth_by r F) (all_by r Fs) (truth_by s F) (all_by s Fs) (kept F r s h.0) (kept_all Fs r s h.1) e

  kept_some : (Fs : Formulas) (r s : Reading) → EachAtomOfAll (StaysTrue r s) Fs → IsTrue (some_by r Fs) → IsTrue (some_by s Fs)
  kept_some none r s h e = e
  kept_some (more F Fs) r s h e = either_stays (truth_by r F) (some_by r Fs) (truth_by s F) (some_by s Fs) (kept F r s h.0) (kept_some Fs r s h.1) e

-- a reading under which complements are opposite
pub record TurnsComplements (r : Reading) : Type 0 where
  pub turned : (P : List Monomial) (S : Signs) → r P (complement S) ≡ not (r P S)

mutual
  pub negated_turns : (F : Formula) (r : Reading) → TurnsComplements r → truth_by r (negated F) ≡ not (truth_by r F)
  negated_turns always r h = refl
  negated_turns never r h = refl
  negated_turns (atom P S) r h = h.turned P S
  negated_turns (conjunction Fs) r h = some_negated Fs r h
  negated_turns (disjunction Fs) r h = all_negated Fs r h

  some_negated : (Fs : Formulas) (r : Reading) → TurnsComplements r → some_by r (negated_all Fs) ≡ not (all_by r Fs)
  some_negated none r h = refl
  some_negated (more F Fs) r h = ap₂ ◌||◌ (negated_turns F r h) (some_negated Fs r h) ∙ not_both (truth_by r F) (all_by r Fs)

  all_negated : (Fs : Formulas) (r : Reading) → TurnsComplements r → all_by r (negated_all Fs) ≡ not (some_by r Fs)
  all_negated none r h = refl
  all_negated (more F Fs) r h = ap₂ ◌&&◌ (negated_turns F r h) (all_negated Fs r h) ∙ not_either (truth_by r F) (some_by r Fs)

-- negation turns truth
pub negation_turns : (F : Formula) (p : Values) → truth_at (negated F) p ≡ not (truth_at F p)
negation_turns F p = negated_turns F (reading_at p) (record { turned = λ P S. complement_has S (sign_at P p) })
