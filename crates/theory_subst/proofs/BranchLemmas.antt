-- The branches by a top equation and by test points, and what a written branch says.
use Rattle.std.proofs.Common.{◌≡◌, ℕ, zero, suc, ◌<◌, ◌≤◌, List, [], ◌∷◌, length, map, Vec, Global, refl, sym, ap, ◌∙◌, subst, arith, Result, Ok, Err, Option, Some, None, IfOk, IfSome, IfNone}
use Rattle.theory_meaning.specs.Fraction.{Fraction}
use Rattle.theory_points.specs.declared.limit.Limit.{Limit}
use Rattle.theory_points.specs.declared.limit.NoMemory.{NoMemory}
use Rattle.theory_polynomial.specs.PolynomialValue.{Values, slope_in, base_in}
use Rattle.theory_formula.specs.Formula.{IsTrueAt, formulas_list, formulas_from}
use Rattle.theory_formula.specs.Formula as tree
use Rattle.theory_elimination.specs.TestPoint.{is_constant, test_points}
use Rattle.theory_elimination.specs.Branches.{Taken, Plan, plan_at, plans_by, root_plans, branch_plans, top_equation, equation_of, plain_equation_of, taken_behind, or_else, members_of, others_of}
use Rattle.theory_elimination.specs.Elimination.{with_value, IsLinear, IsLevelBranch, BranchIsTrueAt}
use Rattle.theory_formula.specs.Symbols.{IsFree}
use Rattle.theory_elimination.proofs.FreeBranches.{branch_free}
use Rattle.theory_elimination.proofs.BranchLaws.{branch_has_value, some_branch_is_true}
use Rattle.theory_elimination.specs.Widths.{IsWideBranch}
use Rattle.theory_poly.specs.Answers.{WideWhere}
use Rattle.theory_signs.specs.declared.atom.Atom.{Atom}
use Rattle.theory_signs.specs.declared.formula.Formula.{Formula}
use Rattle.theory_signs.specs.declared.formula.Formula.TheVariants as made
use Rattle.theory_signs.specs.Plain.{formula_of}
use Rattle.theory_signs.proofs.PlainLemmas.{formula_of-And}
use Rattle.theory_subst.specs.declared.top_equation.TopEquation.{TopEquation}
use Rattle.theory_subst.specs.declared.test_point.TestPoint.{TestPoint}
use Rattle.theory_subst.specs.declared.planning.Plan as source
use Rattle.theory_subst.specs.declared.planning.Plans.TheVariants.{AtPoints, ByEquation}
use Rattle.theory_subst.specs.Points.{points_of}
use Rattle.theory_subst.specs.Plans.{plan_of, left_of, ArePlansOf}
use Rattle.theory_subst.specs.Equations.{IsFirst, without}
use Rattle.theory_subst.specs.Answers.{IsWrittenByKth, IsKthBranch, IsWideKth}
use Rattle.theory_subst.proofs.MemberLemmas.{formula_of-Atom}
use Rattle.theory_subst.proofs.EquationLemmas.{lone_is}
use Rattle.theory_subst.proofs.OthersLemmas.{listed_from}

-- the equation that is taken
pub first_of_members : (x : ℕ) (F : Formula) (Fs : Vec Formula Global) (xs : List Formula) (result : Result (Option TopEquation) NoMemory)
    → F ≡ made.And Fs → xs ≡ Fs.items
    → IfOk result (IsFirst x (map formula_of xs) (or_else (taken_behind (plain_equation_of x) [] (map formula_of xs))
    (taken_behind (equation_of x) [] (map formula_of xs))))
    → IfOk result (IsFirst x (members_of (formula_of F)) (top_equation x (formula_of F)))
first_of_members x F Fs xs result is same found =
    let members : map formula_of xs ≡ members_of (formula_of F) =
    ap (map formula_of) same ∙ sym (listed_from (map formula_of Fs.items)) ∙ ap members_of (sym (ap formula_of is ∙ formula_of-And Fs))
    in
    subst (λ ms. IfOk result (IsFirst x ms (or_else (taken_behind (plain_equation_of x) [] ms) (taken_behind (equation_of x) [] ms)))) members found

pub first_of_atom : (x : ℕ) (F : Formula) (a : Atom) (result : Result (Option TopEquation) NoMemory) → F ≡ made.Atom a
    → IfOk result (IsFirst x (formula_of F ∷ []) (taken_behind (equation_of x) [] (formula_of F ∷ [])))
    → IfOk result (IsFirst x (members_of (formula_of F)) (top_equation x (formula_of F)))
first_of_atom x F a result is found =
    let tree_is = formula_of-Atom F a is in
    subst (λ G. IfOk result (IsFirst x (members_of G) (top_equation x G))) (sym tree_is)
    (subst (λ t. IfOk result (IsFirst x (tree.atom a.poly a.signs ∷ []) t)) (sym (lone_is x (tree.atom a.poly a.signs)))
    (subst (λ G. IfOk result (IsFirst x (G ∷ []) (taken_behind (equation_of x) [] (G ∷ [])))) tree_is found))

-- what is left of a formula without the equation that is taken
left_is : (place : ℕ) (F : tree.Formula) → place < length (members_of F) → left_of place F ≡ others_of (without place (members_of F))
left_is place (tree.conjunction Fs) h = refl
left_is zero tree.always h = refl
left_is zero tree.never h = refl
left_is zero (tree.atom P S) h = refl
left_is zero (tree.disjunction Fs) h = refl
left_is (suc k) tree.always h = absurd (omega (arith, h))
left_is (suc k) tree.never h = absurd (omega (arith, h))
left_is (suc k) (tree.atom P S) h = absurd (omega (arith, h))
left_is (suc k) (tree.disjunction Fs) h = absurd (omega (arith, h))

-- the plans by an equation, and by test points where there is none
equation_plans : (x : ℕ) (F : tree.Formula) (t : Option Taken) (e : TopEquation) → IsFirst x (members_of F) t (Some e)
    → root_plans (is_constant e.slope) e.slope e.base (left_of e.place F) ≡ plans_by x F t
equation_plans x F None e h = absurd h
equation_plans x F (Some t) e h =
    ap (λ a. root_plans (is_constant a) a e.base (left_of e.place F)) h.line.slope_is
    ∙ ap (λ b. root_plans (is_constant (slope_in x t.poly)) (slope_in x t.poly) b (left_of e.place F)) h.line.base_is
    ∙ ap (root_plans (is_constant (slope_in x t.poly)) (slope_in x t.poly) (base_in x t.poly))
    (left_is e.place F h.within ∙ ap others_of (sym h.others))

point_plans : (x : ℕ) (F : tree.Formula) (t : Option Taken) → IsFirst x (members_of F) t None → map (plan_at F) (test_points x F) ≡ plans_by x F t
point_plans x F None h = refl
point_plans x F (Some t) h = absurd h

pub plans_by_equation : (x : ℕ) (F : tree.Formula) (e : TopEquation) (roots : Vec source.Plan Global) → IsFirst x (members_of F) (top_equation x F) (Some e)
    → ((G : tree.Formula) → map (plan_of G) roots.items ≡ root_plans (is_constant e.slope) e.slope e.base G)
    → ArePlansOf x F (ByEquation e.place roots)
plans_by_equation x F e roots h are = are (left_of e.place F) ∙ equation_plans x F (top_equation x F) e h

pub plans_at_points : (x : ℕ) (F : tree.Formula) (points : Vec TestPoint Global) → IsFirst x (members_of F) (top_equation x F) None
    → points_of points.items ≡ test_points x F → ArePlansOf x F (AtPoints points)
plans_at_points x F points h are = ap (map (plan_at F)) are ∙ point_plans x F (top_equation x F) h

pub kth_branch : (x k : ℕ) (F : tree.Formula) (plans : List Plan) (result : Result (Option Formula) Limit) → plans ≡ branch_plans x F
    → IfOk result (IsWrittenByKth x plans k) → IfOk result (IsKthBranch x F k)
kth_branch x k F plans (Ok (Some G)) are h = subst (λ ps. IsWrittenByKth x ps k (Some G)) are h
kth_branch x k F plans (Ok None) are h = subst (λ ps. length ps ≤ k) are h
kth_branch x k F plans (Err e) are h = tt

pub kth_wide_branch : (x k : ℕ) (F : tree.Formula) (plans : List Plan) (result : Result (Option Formula) Limit) → plans ≡ branch_plans x F
    → WideWhere (IsWideKth x plans k) result → WideWhere (IsWideBranch x F k) result
kth_wide_branch x k F plans result are h = subst (λ ps. WideWhere (IsWideKth x ps k) result) are h

-- a branch is true only where some value makes the formula true
pub branch_sound : (x k : ℕ) (F : tree.Formula) (result : Result (Option Formula) Limit) → IsLinear x F → IfOk result (IsKthBranch x F k)
    → IfOk result (λ found. IfSome found (λ G. (p : Values) → IsTrueAt (formula_of G) p → (v : Fraction) × IsTrueAt F (with_value x v p)))
branch_sound x k F (Ok (Some G)) linear h = λ p t. branch_has_value x p F k (formula_of G) linear h t
branch_sound x k F (Ok None) linear h = tt
branch_sound x k F (Err e) linear h = tt

earlier : (j n k : ℕ) → j < n → n ≤ k → j < k
earlier j n k h l = omega (arith, h, l)

-- and past the last, one before is true where the formula is
pub branch_complete : (x k : ℕ) (F : tree.Formula) (result : Result (Option Formula) Limit) → IsLinear x F → IfOk result (IsKthBranch x F k)
    → IfOk result (λ found. IfNone found ((p : Values) → IsTrueAt F p → (j : ℕ) × (j < k) × BranchIsTrueAt x F p j))
branch_complete x k F (Ok (Some G)) linear h = tt
branch_complete x k F (Ok None) linear h =
    λ p t. let found = some_branch_is_true x p F linear t in (found.0, earlier found.0 (length (branch_plans x F)) k found.1 h, found.2)
branch_complete x k F (Err e) linear h = tt

-- the symbol is in none but the third of an equation
pub branch_is_free : (x k : ℕ) (F : tree.Formula) (result : Result (Option Formula) Limit) → IfOk result (IsKthBranch x F k)
    → IfOk result (λ found. IfSome found (λ G. (IsLevelBranch x F k → ⊥) → IsFree x (formula_of G)))
branch_is_free x k F (Ok (Some G)) h = λ n. branch_free x F k (formula_of G) h n
branch_is_free x k F (Ok None) h = tt
branch_is_free x k F (Err e) h = tt
