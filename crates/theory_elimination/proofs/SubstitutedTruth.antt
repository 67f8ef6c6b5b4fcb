-- A formula at a test point has the truth that its atoms have at the cut of that point.
use Rattle.std.proofs.Common.{◌≡◌, ℕ, ◌+◌, ◌*◌, ℤ, pos, neg_ℤ, ◌+ℤ◌, ◌*ℤ◌, Bool, true, false, not, List, None, Some, refl, sym, ap, ap₂, ◌∙◌, arith}
use Rattle.std.specs.Prelude.{◌&&◌, ◌||◌}
use Rattle.std.proofs.Math.IntN.{*ℤ_comm}
use Rattle.theory_meaning.specs.declared.words.Sign.{Sign}
use Rattle.theory_meaning.specs.declared.words.Sign.TheVariants.{Minus, Zero, Plus}
use Rattle.theory_meaning.specs.Fraction.{Fraction, den, difference_of as fraction_difference, product_of as fraction_product, opposite_sign}
use Rattle.theory_meaning.proofs.WholeLaws.{times-swap, flattened}
use Rattle.theory_meaning.proofs.OrderLaws.{same_itself}
use Rattle.theory_formula.specs.declared.signs.Signs.{Signs}
use Rattle.theory_formula.specs.declared.signs.Signs.TheVariants as set
use Rattle.theory_formula.specs.Signs.{has, is_zero, mirror, without_zero, sign_of, sign_of_whole}
use Rattle.theory_polynomial.specs.Polynomial.{Monomial, IsPolynomial}
use Rattle.theory_polynomial.specs.PolynomialValue.{Values, symbol_at, polynomial_at, slope_in, base_in}
use Rattle.theory_formula.specs.Formula.{Formula, Formulas, always, never, atom, conjunction, disjunction, none, more, Reading, sign_at, truth_at, truth_by, all_by, some_by, reading_at, EachAtom, EachAtomOfAll, both, either}
use Rattle.theory_formula.proofs.ConditionLaws.{sign_of_own, sign_of_only, condition_truth, mirror_has_opposite}
use Rattle.theory_polynomial.proofs.SignLaws.{cross_sign}
use Rattle.theory_elimination.specs.TestPoint.{TestPoint, infinity, root, before, holds_symbol}
use Rattle.theory_elimination.specs.Substituted.{IsConditionOn, along_slope, IsCrossOf, IsAtInfinity, IsAtRoot, IsJustBefore, IsLineAt, IsAtomWhere, IsAtomAt, IsFormulaAt, AreFormulasAt}
use Rattle.theory_elimination.specs.Elimination.{IsLinearAtom}
use Rattle.theory_elimination.proofs.SetTruth.{picked, made_of, none_made}
use Rattle.theory_elimination.proofs.SignSums.{times}
use Rattle.theory_elimination.proofs.Lines.{sign_on, slope_sign, root_of, other_at_root}
use Rattle.theory_elimination.proofs.Cuts.{Cut, top, on, just_before, leading, sign_at_cut, flat_at_cut}
use Rattle.theory_elimination.proofs.Ends.{along_has}
use Rattle.theory_elimination.proofs.PartLaws.{part_is_polynomial, no_slope}
use Rattle.theory_elimination.proofs.LineSigns.{line_at, line_of, slope_sign_is, base_sign_is, sign_is_on_line}

-- the cut of a test point at a point of the other symbols
abbrev pub cut_of : Values → TestPoint → Cut
cut_of p infinity = top
cut_of p (root a b s) = on (root_of (line_at p a b))
cut_of p (before a b s) = just_before (root_of (line_at p a b))

-- the slope of the test point's line has the sign that it is said to have, and it isn't zero
abbrev pub HasGuard : Values → TestPoint → Type 0
HasGuard p infinity = Unit {0}
HasGuard p (root a b s) = (sign_at a p ≡ s) × (s ≡ Zero → ⊥)
HasGuard p (before a b s) = (sign_at a p ≡ s) × (s ≡ Zero → ⊥)

-- the atoms at a cut
abbrev pub reading_cut : ℕ → Values → Cut → Reading
reading_cut x p c P S = has S (sign_at_cut (line_of x p P) c)

and_true : (b : Bool) → b && true ≡ b
and_true true = refl
and_true false = refl

and_false : (b : Bool) → b && false ≡ false
and_false true = refl
and_false false = refl

or_false : (b : Bool) → b || false ≡ b
or_false true = refl
or_false false = refl

-- a set without zero
picked_nonzero : (S : Signs) (s : Sign) → picked (has S Minus) false (has S Plus) s ≡ has S s && not (is_zero s)
picked_nonzero S Minus = sym (and_true (has S Minus))
picked_nonzero S Zero = sym (and_false (has S Zero))
picked_nonzero S Plus = sym (and_true (has S Plus))

nonzero_truth : (P : List Monomial) (S : Signs) (F : Formula) (p : Values) → IsPolynomial P → IsConditionOn P (without_zero S) F
    → truth_at F p ≡ has S (sign_at P p) && not (is_zero (sign_at P p))
nonzero_truth P S F p h w =
    elim (without_zero S) as (λ m. without_zero S ≡ m → IsConditionOn P m F → truth_at F p ≡ has S (sign_at P p) && not (is_zero (sign_at P p))) [
      | None ↦ λ e w'.
          ap (λ (G : Formula). truth_at G p) w' ∙ none_made (has S Minus) false (has S Plus) Zero (sign_at P p) e ∙ picked_nonzero S (sign_at P p)
      | Some R ↦ λ e w'.
          condition_truth P R F p h w' ∙ made_of (has S Minus) false (has S Plus) R (sign_at P p) e ∙ picked_nonzero S (sign_at P p)
    ] refl w

pub zero_has : (s : Sign) → has set.Zero s ≡ is_zero s
zero_has Minus = refl
zero_has Zero = refl
zero_has Plus = refl

-- the truth of the two lists
lists : (f g h : Bool) → f || (g && (h && true) || false) ≡ f || g && h
lists f true true = refl
lists f true false = refl
lists f false h = refl

either_truth : (F G H : Formula) (p : Values) (f g h : Bool) → truth_at F p ≡ f → truth_at G p ≡ g → truth_at H p ≡ h
    → truth_at (either F (both G H)) p ≡ f || g && h
either_truth F G H p f g h e k l =
    ap₂ (λ (a b : Bool). a || b) e (ap (λ (b : Bool). b || false) (ap₂ (λ (a b : Bool). a && b) k (ap (λ (b : Bool). b && true) l)))
    ∙ lists f g h

-- by the first sign, and where that is zero by the second
by_leading : (S : Signs) (s t : Sign) → has S s && not (is_zero s) || is_zero s && has S t ≡ has S (leading s t)
by_leading S Minus t = or_false (has S Minus && true) ∙ and_true (has S Minus)
by_leading S Zero t = ap (λ (b : Bool). b || true && has S t) (and_false (has S Zero))
by_leading S Plus t = or_false (has S Plus && true) ∙ and_true (has S Plus)

infinity_truth : (p : Values) (slope base : List Monomial) (S : Signs) (F : Formula) → IsPolynomial slope → IsPolynomial base
    → IsAtInfinity slope base S F → truth_at F p ≡ has S (sign_at_cut (line_at p slope base) top)
infinity_truth p slope base S F h k w =
    ap (λ (G : Formula). truth_at G p) w.written
    ∙ either_truth w.by_slope w.flat w.by_base p (has S (sign_at slope p) && not (is_zero (sign_at slope p))) (is_zero (sign_at slope p))
    (has S (sign_at base p))
    (nonzero_truth slope S w.by_slope p h w.slope_is) (condition_truth slope set.Zero w.flat p h w.flat_is ∙ zero_has (sign_at slope p))
    (condition_truth base S w.by_base p k w.base_is)
    ∙ by_leading S (sign_at slope p) (sign_at base p)
    ∙ ap₂ (λ (s t : Sign). has S (leading s t)) (sym (slope_sign_is p slope base)) (sym (base_sign_is p slope base))

-- the sign of a cross product is that of the integers
denominators : (A B : Fraction) → A.less * (B.less + 1) + B.less + 1 ≡ (A.less + 1) * (B.less + 1)
denominators A B = omega arith

associated : (a b c : ℤ) → a *ℤ b *ℤ c ≡ a *ℤ (b *ℤ c)
associated a b c = ap (λ (z : ℤ). z *ℤ c) (*ℤ_comm a b) ∙ times-swap b a c ∙ *ℤ_comm (b *ℤ c) a

regroup : (a b : ℤ) (k l : ℕ) → a *ℤ b *ℤ pos (k * l) ≡ a *ℤ pos l *ℤ (b *ℤ pos k)
regroup a b k l =
    sym (flattened (a *ℤ b) k l) ∙ ap (λ (z : ℤ). z *ℤ pos l) (associated a b (pos k)) ∙ times-swap a (b *ℤ pos k) (pos l)

cross_whole : (A B C D : Fraction) → sign_of (fraction_difference (fraction_product A D) (fraction_product C B))
    ≡ sign_of_whole (A.num *ℤ pos (den B) *ℤ (D.num *ℤ pos (den C)) +ℤ neg_ℤ (C.num *ℤ pos (den D) *ℤ (B.num *ℤ pos (den A))))
cross_whole A B C D =
    ap₂ (λ (k l : ℕ). sign_of_whole (A.num *ℤ D.num *ℤ pos k +ℤ neg_ℤ (C.num *ℤ B.num *ℤ pos l))) (denominators C B) (denominators A D)
    ∙ ap₂ (λ (y z : ℤ). sign_of_whole (y +ℤ neg_ℤ z)) (regroup A.num D.num (den C) (den B)) (regroup C.num B.num (den A) (den D))

-- what is left of a cross product has, with the slope's sign, the sign of the other line at the root
cross_sign_is : (a b slope base q : List Monomial) (p : Values) → IsCrossOf a b slope base q
    → sign_at q p ≡ sign_of_whole ((line_at p a b).slope *ℤ (line_at p slope base).base +ℤ neg_ℤ ((line_at p slope base).slope *ℤ (line_at p a b).base))
cross_sign_is a b slope base q p w =
    let A = polynomial_at a p in
    let B = polynomial_at b p in
    let C = polynomial_at slope p in
    let D = polynomial_at base p in
    let f = fraction_difference (fraction_product A D) (fraction_product C B) in
    sign_of_only (polynomial_at q p) (sign_of f) ((cross_sign a base slope b q p (sign_of f) w).1 (sign_of_own f)) ∙ cross_whole A B C D

sloped_of : (p : Values) (a b : List Monomial) (s : Sign) → sign_at a p ≡ s → (s ≡ Zero → ⊥) → slope_sign (line_at p a b) ≡ Zero → ⊥
sloped_of p a b s e h z = h (sym e ∙ sym (slope_sign_is p a b) ∙ z)

sign_at_root : (p : Values) (a b slope base q : List Monomial) (s : Sign) → sign_at a p ≡ s → (s ≡ Zero → ⊥) → IsCrossOf a b slope base q
    → sign_on (line_at p slope base) (root_of (line_at p a b)) ≡ times s (sign_at q p)
sign_at_root p a b slope base q s e h w =
    let l = line_at p a b in
    let m = line_at p slope base in
    other_at_root l.slope l.base m.slope m.base (sloped_of p a b s e h)
    ∙ ap₂ times (slope_sign_is p a b ∙ e) (sym (cross_sign_is a b slope base q p w))

opposite_twice : (s : Sign) → opposite_sign (opposite_sign s) ≡ s
opposite_twice Minus = refl
opposite_twice Zero = refl
opposite_twice Plus = refl

mirror_turned : (S : Signs) (r : Sign) → has (mirror S) r ≡ has S (opposite_sign r)
mirror_turned S r = ap (has (mirror S)) (sym (opposite_twice r)) ∙ mirror_has_opposite S (opposite_sign r)

times_twice : (s t : Sign) → (s ≡ Zero → ⊥) → times s (times s t) ≡ t
times_twice Zero t h = absurd (h refl)
times_twice Plus t h = refl
times_twice Minus Minus h = refl
times_twice Minus Zero h = refl
times_twice Minus Plus h = refl

along_times : (s : Sign) (S : Signs) (t : Sign) → (s ≡ Zero → ⊥) → has (along_slope s S) t ≡ has S (times s t)
along_times s S t h = sym (along_has s S (times s t) h ∙ ap (has (along_slope s S)) (times_twice s t h))

root_truth : (p : Values) (a b : List Monomial) (s : Sign) (slope base : List Monomial) (S : Signs) (F : Formula) → sign_at a p ≡ s → (s ≡ Zero → ⊥)
    → IsAtRoot a b s slope base S F → truth_at F p ≡ has S (sign_at_cut (line_at p slope base) (on (root_of (line_at p a b))))
root_truth p a b s slope base S F e h w =
    condition_truth w.q (along_slope s S) F p w.cross.2 w.written ∙ along_times s S (sign_at w.q p) h
    ∙ ap (has S) (sym (sign_at_root p a b slope base w.q s e h w.cross))

-- by the sign there, and where that is zero by the opposite of the slope's
by_falling : (s : Sign) (S : Signs) (t r : Sign) → (s ≡ Zero → ⊥) → has (along_slope s S) t && not (is_zero t) || is_zero t && has (mirror S) r
    ≡ has S (leading (times s t) (opposite_sign r))
by_falling Zero S t r h = absurd (h refl)
by_falling Plus S Minus r h = or_false (has S Minus && true) ∙ and_true (has S Minus)
by_falling Plus S Zero r h = ap (λ (b : Bool). b || true && has (mirror S) r) (and_false (has S Zero)) ∙ mirror_turned S r
by_falling Plus S Plus r h = or_false (has S Plus && true) ∙ and_true (has S Plus)
by_falling Minus S Minus r h = or_false (has (mirror S) Minus && true) ∙ and_true (has (mirror S) Minus) ∙ mirror_turned S Minus
by_falling Minus S Zero r h = ap (λ (b : Bool). b || true && has (mirror S) r) (and_false (has (mirror S) Zero)) ∙ mirror_turned S r
by_falling Minus S Plus r h = or_false (has (mirror S) Plus && true) ∙ and_true (has (mirror S) Plus) ∙ mirror_turned S Plus

before_truth : (p : Values) (a b : List Monomial) (s : Sign) (slope base : List Monomial) (S : Signs) (F : Formula) → IsPolynomial slope → sign_at a p ≡ s
    → (s ≡ Zero → ⊥) → IsJustBefore a b s slope base S F → truth_at F p ≡ has S (sign_at_cut (line_at p slope base) (just_before (root_of (line_at p a b))))
before_truth p a b s slope base S F k e h w =
    ap (λ (G : Formula). truth_at G p) w.written
    ∙ either_truth w.there w.zero w.falling p (has (along_slope s S) (sign_at w.q p) && not (is_zero (sign_at w.q p))) (is_zero (sign_at w.q p))
    (has (mirror S) (sign_at slope p))
    (nonzero_truth w.q (along_slope s S) w.there p w.cross.2 w.there_is) (condition_truth w.q set.Zero w.zero p w.cross.2 w.zero_is ∙ zero_has (sign_at w.q p))
    (condition_truth slope (mirror S) w.falling p k w.falling_is)
    ∙ by_falling s S (sign_at w.q p) (sign_at slope p) h
    ∙ ap₂ (λ (t r : Sign). has S (leading t (opposite_sign r))) (sym (sign_at_root p a b slope base w.q s e h w.cross)) (sym (slope_sign_is p slope base))

line_truth : (p : Values) (point : TestPoint) (slope base : List Monomial) (S : Signs) (F : Formula) → HasGuard p point → IsPolynomial slope → IsPolynomial base
    → IsLineAt point slope base S F → truth_at F p ≡ has S (sign_at_cut (line_at p slope base) (cut_of p point))
line_truth p infinity slope base S F g h k w = infinity_truth p slope base S F h k w
line_truth p (root a b s) slope base S F g h k w = root_truth p a b s slope base S F g.0 g.1 w
line_truth p (before a b s) slope base S F g h k w = before_truth p a b s slope base S F h g.0 g.1 w

-- an atom without the symbol has one truth at every cut
pub free_truth : (x : ℕ) (p : Values) (c : Cut) (P : List Monomial) (S : Signs) → IsLinearAtom x P S → holds_symbol x P ≡ false
    → has S (sign_at P p) ≡ reading_cut x p c P S
free_truth x p c P S h e =
    let l = line_of x p P in
    let level : slope_sign l ≡ Zero = slope_sign_is p (slope_in x P) (base_in x P) ∙ ap (λ (a : List Monomial). sign_at a p) (no_slope x P e) in
    let v = symbol_at x p in
    ap (has S) (sign_is_on_line x v P p h.linear (same_itself v) ∙ flat_at_cut l (on v) level ∙ sym (flat_at_cut l c level))

atom_truth : (x : ℕ) (p : Values) (point : TestPoint) (P : List Monomial) (S : Signs) (F : Formula) → HasGuard p point → IsLinearAtom x P S
    → IsAtomAt x point P S F → truth_at F p ≡ reading_cut x p (cut_of p point) P S
atom_truth x p point P S F g h w =
    let ordered = h.poly.canonical.ordered in
    elim (holds_symbol x P) as (λ b. holds_symbol x P ≡ b → IsAtomWhere b x point P S F → truth_at F p ≡ reading_cut x p (cut_of p point) P S) [
      | true ↦ λ e w'.
          line_truth p point (slope_in x P) (base_in x P) S F g (part_is_polynomial x 1 P ordered) (part_is_polynomial x 0 P ordered) w'
      | false ↦ λ e w'. ap (λ (G : Formula). truth_at G p) w' ∙ free_truth x p (cut_of p point) P S h e
    ] refl w

module _ (x : ℕ) (p : Values) (point : TestPoint) (g : HasGuard p point) where
  mutual
    pub formula_truth : (F G : Formula) → EachAtom (IsLinearAtom x) F → IsFormulaAt x point F G → truth_at G p ≡ truth_by (reading_cut x p (cut_of p point)) F
    formula_truth always G h w = ap (λ (H : Formula). truth_at H p) w
    formula_truth never G h w = ap (λ (H : Formula). truth_at H p) w
    formula_truth (atom P S) G h w = atom_truth x p point P S G g h w
    formula_truth (conjunction Fs) G h w = ap (λ (H : Formula). truth_at H p) w.2 ∙ all_truth Fs w.0 h w.1
    formula_truth (disjunction Fs) G h w = ap (λ (H : Formula). truth_at H p) w.2 ∙ some_truth Fs w.0 h w.1

    all_truth : (Fs Gs : Formulas) → EachAtomOfAll (IsLinearAtom x) Fs → AreFormulasAt x point Fs Gs
        → all_by (reading_at p) Gs ≡ all_by (reading_cut x p (cut_of p point)) Fs
    all_truth none Gs h w = ap (all_by (reading_at p)) w
    all_truth (more F Fs) Gs h w =
        ap (all_by (reading_at p)) w.4 ∙ ap₂ ◌&&◌ (formula_truth F w.0 h.0 w.2) (all_truth Fs w.1 h.1 w.3)

    some_truth : (Fs Gs : Formulas) → EachAtomOfAll (IsLinearAtom x) Fs → AreFormulasAt x point Fs Gs
        → some_by (reading_at p) Gs ≡ some_by (reading_cut x p (cut_of p point)) Fs
    some_truth none Gs h w = ap (some_by (reading_at p)) w
    some_truth (more F Fs) Gs h w =
        ap (some_by (reading_at p)) w.4 ∙ ap₂ ◌||◌ (formula_truth F w.0 h.0 w.2) (some_truth Fs w.1 h.1 w.3)
