-- A line at a test point by its slope and base, and an atom by its line.
use Rattle.std.proofs.Common.{◌≡◌, ℕ, ◌<◌, arith, true, List, sym, ap, subst, subst₂, ◌∙◌, Result, Ok, Err, IfOk}
use Rattle.std.specs.Prelude.{nat_lt}
use Rattle.theory_points.specs.declared.limit.Limit.{Limit}
use Rattle.theory_points.specs.declared.limit.Limit.TheVariants.{Wide, Memory}
use Rattle.theory_formula.specs.declared.signs.Signs.{Signs}
use Rattle.theory_polynomial.specs.Polynomial.{Monomial, IsPolynomial, IsLinearIn, IsSplit, degree_in}
use Rattle.theory_formula.specs.Formula as plain
use Rattle.theory_elimination.specs.TestPoint.{TestPoint, infinity, root, before, holds_symbol}
use Rattle.theory_polynomial.specs.PolynomialValue.{slope_in, base_in}
use Rattle.theory_elimination.specs.Substituted.{IsLineAt}
use Rattle.theory_elimination.specs.Widths.{IsWideAt}
use Rattle.theory_poly.specs.Answers.{WideWhere}
use Rattle.theory_signs.specs.declared.formula.Formula.{Formula, Formula-F, fold-roll-Formula}
use Rattle.theory_signs.specs.declared.formula.Formula.TheVariants.{Atom, rolls-Atom}
use Rattle.theory_signs.specs.Condition.{Condition}
use Rattle.theory_signs.specs.Plain.{formula_of, formula_step}
use Rattle.theory_subst.specs.Lines.{IsWideLine}
use Rattle.theory_subst.proofs.SplitLemmas.{split_is}

-- a line by the parts that were found is the one by slope and base
pub line_by_parts : (x : ℕ) (p : TestPoint) (P a b : List Monomial) (S : Signs) (result : Result Formula Limit)
    → x < 32 → IsPolynomial P → IsLinearIn x P → IsPolynomial a → IsPolynomial b → IsSplit x P a b
    → IfOk result (λ F. IsLineAt p a b S (formula_of F)) → IfOk result (λ F. IsLineAt p (slope_in x P) (base_in x P) S (formula_of F))
line_by_parts x p P a b S result l h linear ha hb split found =
    let both = split_is x P a b l h linear ha hb split in
    subst₂ (λ u v. IfOk result (λ F. IsLineAt p u v S (formula_of F))) both.0 both.1 found

pub wide_by_parts : {T : Type 0} (x : ℕ) (p : TestPoint) (P a b : List Monomial) (result : Result T Limit)
    → x < 32 → IsPolynomial P → IsLinearIn x P → IsPolynomial a → IsPolynomial b → IsSplit x P a b
    → WideWhere (IsWideLine p a b) result → WideWhere (IsWideLine p (slope_in x P) (base_in x P)) result
wide_by_parts x p P a b result l h linear ha hb split found =
    let both = split_is x P a b l h linear ha hb split in
    subst₂ (λ u v. WideWhere (IsWideLine p u v) result) both.0 both.1 found

-- an atom that holds the symbol is wide where its line is
wide_line : (x : ℕ) (p : TestPoint) (P : List Monomial) (S : Signs) → holds_symbol x P ≡ true → IsWideLine p (slope_in x P) (base_in x P)
    → IsWideAt x p (plain.atom P S)
wide_line x infinity P S holds h = h
wide_line x (root a b s) P S holds h = (holds, h)
wide_line x (before a b s) P S holds h = (holds, h)

line_of_wide : (x : ℕ) (p : TestPoint) (P : List Monomial) (S : Signs) → IsWideAt x p (plain.atom P S) → IsWideLine p (slope_in x P) (base_in x P)
line_of_wide x infinity P S h = h
line_of_wide x (root a b s) P S h = h.1
line_of_wide x (before a b s) P S h = h.1

wide_atom : {T : Type 0} (x : ℕ) (p : TestPoint) (P : List Monomial) (S : Signs) (result : Result T Limit) → holds_symbol x P ≡ true
    → WideWhere (IsWideLine p (slope_in x P) (base_in x P)) result → WideWhere (IsWideAt x p (plain.atom P S)) result
wide_atom x p P S (Ok F) holds h = λ w. h (line_of_wide x p P S w)
wide_atom x p P S (Err Wide) holds h = wide_line x p P S holds h
wide_atom x p P S (Err Memory) holds h = tt

-- the tree of an atom
pub tree-Atom : (F : Formula) (a : Condition) → F ≡ Atom a → plain.atom a.poly a.signs ≡ formula_of F
tree-Atom F a is = sym (ap formula_of is ∙ ap formula_of (sym (rolls-Atom a)) ∙ fold-roll-Formula plain.Formula formula_step (Formula-F.Atom a))

pub atom_is_wide : {T : Type 0} (x : ℕ) (p : TestPoint) (F : Formula) (a : Condition) (result : Result T Limit) → F ≡ Atom a → holds_symbol x a.poly ≡ true
    → WideWhere (IsWideLine p (slope_in x a.poly) (base_in x a.poly)) result → WideWhere (IsWideAt x p (formula_of F)) result
atom_is_wide x p F a result is holds h =
    subst (λ G. WideWhere (IsWideAt x p G) result) (tree-Atom F a is) (wide_atom x p a.poly a.signs result holds h)

-- the degree says that the symbol occurs
pub holds_by_degree : (x n : ℕ) (P Q : List Monomial) → n ≡ degree_in x Q → Q ≡ P → ¬ n ≡ 0 → holds_symbol x P ≡ true
holds_by_degree x n P Q is same some =
    let above : nat_lt 0 n ≡ true = grind (arith, some) in
    ap (λ R. nat_lt 0 (degree_in x R)) (sym same) ∙ ap (nat_lt 0) (sym is) ∙ above

pub wide_as_asked : {T : Type 0} (x : ℕ) (p : TestPoint) (P Q : List Monomial) (result : Result T Limit) → Q ≡ P
    → WideWhere (IsWideLine p (slope_in x Q) (base_in x Q)) result → WideWhere (IsWideLine p (slope_in x P) (base_in x P)) result
wide_as_asked x p P Q result is h = subst (λ R. WideWhere (IsWideLine p (slope_in x R) (base_in x R)) result) is h
