-- Worked searches and leaves, candidates, and visits at the limits.
use Rattle.std.proofs.Common.{◌≡◌, true, false, [], ◌∷◌, None, Some, refl, sym, subst, arith, inl, inr}
use Rattle.theory_formula.specs.Formula.{Formula, always, never, both, either}
use Rattle.theory_elimination.specs.TestPoint.{infinity}
use Rattle.theory_elimination.specs.Branches.{plain, IsBranch}
use Rattle.theory_elimination.specs.Widths.{IsWidePlan, IsWideBranch}
use Rattle.theory_meaning.specs.declared.words.Kind.TheVariants.{Listed as listed_kind, Rare as rare_kind, Unit as unit_kind}
use Rattle.theory_decision.specs.Choice.{others, candidates}
use Rattle.theory_decision.specs.Finding.{reached, too_wide, nowhere, everywhere, fails, stuck, wide, large, budget, leaf, eliminates, finding}
use Rattle.theory_decision.specs.Search.{Visit, spent, closed, found, failed, kept, branched, hits, start, counted, met, with_leaf, AreTooMany, Visits, goes_on, hit, over}
use Rattle.theory_decision.specs.Outcomes.{IsSearch, hits_by, empty, failed_by, AreLeaves, all_of, true_everywhere}
use Rattle.theory_decision.specs.WorkedSearches.{positive, negative, path_of_positive, curved, curved_atoms, hyperbola, level, two, visits}

first_branch : Formula
first_branch = either always (both never never)

same_some : {A : Type 0} {a b : A} → Some a ≡ Some b → a ≡ b
same_some e = cc

is_branch : IsBranch 0 positive 0 first_branch
unfolding first_branch
is_branch = (
  plain infinity positive,
  refl,
  record {
    by_slope = always;
    flat = never;
    by_base = never;
    slope_is = inl (record { constant = refl; written = refl });
    flat_is = inl (record { constant = refl; written = refl });
    base_is = inl (record { constant = refl; written = refl });
    written = refl;
  },
)

is_narrow : IsWideBranch 0 positive 0 → ⊥
is_narrow w = subst (IsWidePlan 0) (sym (same_some w.1)) w.2

eliminates_x : finding [] unit_kind 0 (reached positive) ≡ eliminates 0 positive
unfolding others
eliminates_x = refl

at_infinity : finding [] unit_kind 1 (reached first_branch) ≡ everywhere
unfolding first_branch
at_infinity = refl

pub positive_hits : IsSearch unit_kind positive (hits_by path_of_positive)
positive_hits =
    let below : Visits [] unit_kind 1 0 positive 0 (counted start) (hit []) =
    hits {N = reached first_branch} (is_branch, is_narrow) (found (omega arith) at_infinity) in
    (hit path_of_positive, branched (omega arith) eliminates_x below, refl)

-- x > 0 and x < 0 is never true
nothing_there : finding [] rare_kind 0 (reached (both positive negative)) ≡ nowhere
nothing_there = refl

pub none_is_empty : IsSearch rare_kind (both positive negative) empty
none_is_empty = (goes_on (counted start), closed (omega arith) nothing_there, (refl, refl))

-- no symbol of the curved one can be eliminated
stuck_there : finding [] listed_kind 0 (reached curved) ≡ fails (stuck curved_atoms)
unfolding others
stuck_there = refl

pub curved_is_stuck : IsSearch listed_kind curved (failed_by (stuck curved_atoms))
curved_is_stuck = (goes_on (met (stuck curved_atoms) start), failed (omega arith) stuck_there, refl)

-- candidates
pub top_candidates : candidates [] (both hyperbola level) ≡ two true
unfolding others
top_candidates = refl

pub inner_candidates : candidates [] (either hyperbola level) ≡ two false
unfolding others
inner_candidates = refl

-- a kept symbol alone is a leaf
leaf_there : finding (1 ∷ []) unit_kind 0 (reached level) ≡ leaf level
unfolding others
leaf_there = refl

is_few : AreTooMany (level ∷ []) → ⊥
is_few (inl h) = absurd (omega (arith, h))
is_few (inr h) = absurd (omega (arith, h))

pub y_is_a_leaf : AreLeaves (1 ∷ []) unit_kind level (all_of (level ∷ []))
y_is_a_leaf = (goes_on (with_leaf level start), kept (omega arith) leaf_there is_few, refl)

-- and one that isn't kept is eliminated
kept_eliminates_x : finding (1 ∷ []) unit_kind 0 (reached positive) ≡ eliminates 0 positive
unfolding others
kept_eliminates_x = refl

kept_at_infinity : finding (1 ∷ []) unit_kind 1 (reached first_branch) ≡ everywhere
unfolding first_branch
kept_at_infinity = refl

pub positive_is_everywhere : AreLeaves (1 ∷ []) unit_kind positive true_everywhere
positive_is_everywhere =
    let below : Visits (1 ∷ []) unit_kind 1 0 positive 0 (counted start) (hit []) =
    hits {N = reached first_branch} (is_branch, is_narrow) (found (omega arith) kept_at_infinity) in
    (hit path_of_positive, branched (omega arith) kept_eliminates_x below, refl)

-- limits
pub decided_below : Visit [] unit_kind 65 (reached always) (visits 0 None) (hit [])
decided_below = found (omega arith) refl

pub large_below : Visit [] unit_kind 65 (reached positive) (visits 0 None) (goes_on (visits 1 (Some large)))
large_below = failed (omega arith) refl

pub last_visit : Visit [] unit_kind 0 (reached never) (visits 19999 None) (goes_on (visits 20000 None))
last_visit = closed (omega arith) refl

pub no_visit : Visit [] unit_kind 0 (reached always) (visits 20000 None) (over budget)
no_visit = spent (omega arith)

pub earlier_failure : Visit [] unit_kind 0 (reached always) (visits 20000 (Some wide)) (over wide)
earlier_failure = spent (omega arith)

pub wide_visit : Visit [] unit_kind 0 too_wide (visits 3 None) (goes_on (visits 4 (Some wide)))
wide_visit = failed (omega arith) refl
