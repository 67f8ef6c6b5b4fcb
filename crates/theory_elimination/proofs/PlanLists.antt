-- Lists of plans: each of them, and some one at its place.
use Rattle.std.proofs.Common.{◌≡◌, ℕ, zero, suc, ◌<◌, length, List, [], ◌∷◌, Some, subst, arith, ◌⊎◌, inl, inr}
use Rattle.std.specs.Prelude.{slice_get, map}
use Rattle.theory_elimination.specs.TestPoint.{TestPoint}
use Rattle.theory_elimination.specs.Branches.{Plan}
use Rattle.theory_elimination.proofs.PointLists.{SomePoint, EachPoint}

module _ (Q : Plan → Type 0) where
  abbrev pub EachPlan : List Plan → Type 0
  EachPlan [] = Unit {0}
  EachPlan (plan ∷ plans) = Q plan × EachPlan plans

  abbrev pub SomePlan : List Plan → Type 0
  SomePlan [] = ⊥
  SomePlan (plan ∷ plans) = Q plan ⊎ SomePlan plans

  same_plan : {a b : Plan} → Some a ≡ Some b → a ≡ b
  same_plan e = cc

  -- the one at a place
  pub each_at : (plans : List Plan) (k : ℕ) (plan : Plan) → EachPlan plans → slice_get plans k ≡ Some plan → Q plan
  each_at [] k plan h e = absurd cc
  each_at (first ∷ plans) zero plan h e = subst Q (same_plan e) h.0
  each_at (first ∷ plans) (suc k) plan h e = each_at plans k plan h.1 e

  -- a place of some one
  pub record IsAtPlace (plans : List Plan) : Type 0 where
    pub place : ℕ
    pub within : place < length plans
    pub there : (plan : Plan) → slice_get plans place ≡ Some plan → Q plan

  pub some_at : (plans : List Plan) → SomePlan plans → IsAtPlace plans
  some_at [] h = absurd h
  some_at (first ∷ plans) (inl h) = record { place = zero; within = omega arith; there = λ plan e. subst Q (same_plan e) h }
  some_at (first ∷ plans) (inr h) =
      let later = some_at plans h in
      let within = later.within in
      record { place = suc later.place; within = omega (arith, within); there = later.there }

  -- plans of test points
  pub each_planned : (P : TestPoint → Type 0) (make : TestPoint → Plan) (points : List TestPoint) → ((point : TestPoint) → P point → Q (make point))
      → EachPoint P points → EachPlan (map make points)
  each_planned P make [] f h = tt
  each_planned P make (point ∷ points) f h = (f point h.0, each_planned P make points f h.1)

  pub some_planned : (P : TestPoint → Type 0) (make : TestPoint → Plan) (points : List TestPoint) → ((point : TestPoint) → P point → Q (make point))
      → SomePoint P points → SomePlan (map make points)
  some_planned P make [] f h = absurd h
  some_planned P make (point ∷ points) f (inl h) = inl (f point h)
  some_planned P make (point ∷ points) f (inr h) = inr (some_planned P make points f h)
