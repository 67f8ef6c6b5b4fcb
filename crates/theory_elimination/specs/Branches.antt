-- The branches of a formula in a symbol: formulas one of which is true exactly where some value of the symbol makes it true.
-- Source: Loos and Weispfenning, Applying Linear Quantifier Elimination, 1993; the equation rule before other test points is this project's own.
use Rattle.std.specs.Prelude.{◌≡◌, ℕ, Bool, true, false, List, [], ◌∷◌, map, Option, None, Some, slice_get}
use Rattle.theory_meaning.specs.declared.words.Sign.{Sign}
use Rattle.theory_meaning.specs.declared.words.Sign.TheVariants.{Minus, Zero, Plus}
use Rattle.theory_formula.specs.declared.signs.Signs.{Signs}
use Rattle.theory_formula.specs.declared.signs.Signs.TheVariants as set
use Rattle.theory_polynomial.specs.Polynomial.{Monomial}
use Rattle.theory_formula.specs.Formula.{Formula, conjunction, none, more, both}
use Rattle.theory_formula.specs.SignCondition.{IsAtomOf}
use Rattle.theory_elimination.specs.TestPoint.{TestPoint, infinity, root, before, is_constant, constant_sign, test_points}
use Rattle.theory_polynomial.specs.PolynomialValue.{slope_in, base_in}
use Rattle.theory_elimination.specs.Substituted.{IsFormulaAt}
pub use Rattle.theory_elimination.specs.TopEquation.{equation_if, equation_of, if_plain, plain_equation_of, Taken, taken_at, taken_behind, or_else, members_of, top_equation, others_of}

-- the set of one sign
abbrev pub only : Sign → Signs
only Minus = set.Neg
only Zero = set.Zero
only Plus = set.Pos

-- how a branch is written
pub data Plan : Type 0 where
  -- the formula at the test point
  plain : TestPoint → Formula → Plan
  -- a guard, which says that the slope has this sign, and the formula at the test point
  guarded : TestPoint → List Monomial → Sign → Formula → Plan
  -- slope and base are zero, and the formula as it stands
  level : List Monomial → List Monomial → Formula → Plan

-- the plan of a test point
abbrev pub plan_at : Formula → TestPoint → Plan
plan_at F infinity = plain infinity F
plan_at F (root a b s) = guarded (root a b s) a s F
plan_at F (before a b s) = guarded (before a b s) a s F

-- the root where the slope is positive, where it is negative, and the others as they stand where slope and base are zero;
-- one of the first two alone, and without its guard, where the sign of the slope is known
abbrev pub root_plans : Bool → List Monomial → List Monomial → Formula → List Plan
root_plans true a b G = plain (root a b (constant_sign a)) G ∷ []
root_plans false a b G = guarded (root a b Plus) a Plus G ∷ guarded (root a b Minus) a Minus G ∷ level a b G ∷ []

-- the plans by the equation that is taken, or by the test points where there is none
abbrev pub plans_by : ℕ → Formula → Option Taken → List Plan
plans_by x F None = map (plan_at F) (test_points x F)
plans_by x F (Some e) = root_plans (is_constant (slope_in x e.poly)) (slope_in x e.poly) (base_in x e.poly) (others_of e.others)

-- the branches in their order: by a top equation where there is one, and else at each test point
abbrev pub branch_plans : ℕ → Formula → List Plan
branch_plans x F = plans_by x F (top_equation x F)

-- a guarded formula at a test point
pub record IsGuarded (x : ℕ) (point : TestPoint) (a : List Monomial) (s : Sign) (F G : Formula) : Type 0 where
  pub guard : Formula
  pub there : Formula
  pub guard_is : IsAtomOf a (only s) guard
  pub there_is : IsFormulaAt x point F there
  pub written : G ≡ both guard there

-- a formula where slope and base are zero
pub record IsLevel (a b : List Monomial) (F G : Formula) : Type 0 where
  pub flat : Formula
  pub zero : Formula
  pub flat_is : IsAtomOf a set.Zero flat
  pub zero_is : IsAtomOf b set.Zero zero
  pub written : G ≡ conjunction (more flat (more zero (more F none)))

-- the branch is written by this plan
abbrev pub IsWrittenBy : ℕ → Plan → Formula → Type 0
IsWrittenBy x (plain point F) G = IsFormulaAt x point F G
IsWrittenBy x (guarded point a s F) G = IsGuarded x point a s F G
IsWrittenBy x (level a b F) G = IsLevel a b F G

-- the k-th branch, counted from 0
abbrev pub IsBranch : ℕ → Formula → ℕ → Formula → Type 0
IsBranch x F k G = (plan : Plan) × (slice_get (branch_plans x F) k ≡ Some plan) × IsWrittenBy x plan G
