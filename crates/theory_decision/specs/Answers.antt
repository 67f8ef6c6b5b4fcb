-- The half of a list of claims and the condition on some names, as they are written. Source: this project's own.
use Rattle.std.specs.Prelude.{◌≡◌, ◌⊎◌, List, [], ◌∷◌, map, length, slice_index_or}
use Rattle.theory_meaning.specs.declared.words.Kind.{Kind}
use Rattle.theory_meaning.specs.Point.{Name, Point}
use Rattle.theory_meaning.specs.Region.{Region, known, unknown}
use Rattle.theory_meaning.specs.Tree.{Claim, never}
use Rattle.theory_meaning.specs.Half as half
use Rattle.theory_meaning.specs.Half.{Half, Cause}
use Rattle.theory_polynomial.specs.PolynomialValue.{Values, first_of, rest_of}
use Rattle.theory_formula.specs.Formula.{Formula, atom, disjunction, formulas_from, negated}
use Rattle.theory_lowering.specs.NormalForm.{IsLarge}
use Rattle.theory_lowering.specs.Lowered.{place_of, IsLowered}
use Rattle.theory_lowering.specs.LoweringLimits.{AreWide}
use Rattle.theory_lowering.specs.WrittenClaim.{written_claim}
use Rattle.theory_signed.specs.ByKind.{simplified_for}
use Rattle.theory_decision.specs.Choice.{Symbols}
use Rattle.theory_decision.specs.Finding.{StuckAtom, Failure, stuck, wide, large, budget, many_leaves}
use Rattle.theory_decision.specs.Outcomes.{Outcome, hits_by, empty, failed_by, IsSearch, Leaves, all_of, true_everywhere, failed_before, AreLeaves}
use Rattle.theory_decision.specs.Witness.{IsWitness, IsWideWitness}

-- the point that gives each listed name the value of its symbol
abbrev pub named : List Name → Values → Point
named [] p = []
named (n ∷ ns) p = (n, first_of p) ∷ named ns (rest_of p)

-- the name of a stuck symbol, and the claim of its atom
abbrev pub stuck_name : List Name → StuckAtom → Name × Claim
stuck_name ns a = (slice_index_or ns a.symbol [], written_claim ns (atom a.poly a.signs))

-- a failure over the listed names
abbrev pub cause_of : List Name → Failure → Cause
cause_of ns (stuck atoms) = half.stuck (map (stuck_name ns) atoms)
cause_of ns wide = half.wide
cause_of ns large = half.large
cause_of ns budget = half.budget
cause_of ns many_leaves = half.many_leaves

-- why claims have no lowered formula, or the formula
pub data Lowering : Type 0 where
  refused : Cause → Lowering
  lowered : Formula → Lowering

-- claims that are too large are refused first
abbrev pub IsLowering : List Name → List Claim → Lowering → Type 0
IsLowering ns cs (refused c) = (IsLarge cs × (c ≡ half.large)) ⊎ (¬ IsLarge cs × AreWide ns cs × (c ≡ half.wide))
IsLowering ns cs (lowered F) = ¬ IsLarge cs × ¬ AreWide ns cs × IsLowered ns cs F

-- the half by the outcome of the search: where it hits, the written witness, or that it passes a limit
abbrev pub IsHalfBy : List Name → Outcome → Half → Type 0
IsHalfBy ns (failed_by f) h = h ≡ half.left (cause_of ns f)
IsHalfBy ns empty h = h ≡ half.absent
IsHalfBy ns (hits_by path) h =
    ((given : Symbols) × (p : Values) × IsWitness (length ns) path given p × (h ≡ half.found (named ns p)))
    ⊎ (IsWideWitness (length ns) path × (h ≡ half.found_wide))

-- the half by the lowered formula
abbrev pub IsHalfOf : Kind → List Name → Lowering → Half → Type 0
IsHalfOf kind ns (refused c) h = h ≡ half.left c
IsHalfOf kind ns (lowered F) h = (o : Outcome) × IsSearch kind F o × IsHalfBy ns o h

-- the written half
abbrev pub IsWrittenHalf : Kind → List Name → List Claim → Half → Type 0
IsWrittenHalf kind ns cs h = (l : Lowering) × IsLowering ns cs l × IsHalfOf kind ns l h

-- the condition under which no leaf is true
abbrev pub condition_of : Kind → List Name → List Formula → Claim
condition_of kind ns leaves = written_claim ns (negated (simplified_for kind (disjunction (formulas_from leaves))))

-- the condition by the leaves
abbrev pub region_by : Kind → List Name → Leaves → Region
region_by kind ns (all_of leaves) = known (condition_of kind ns leaves)
region_by kind ns true_everywhere = known never
region_by kind ns (failed_before f) = unknown (cause_of ns f)

-- the symbols of some of the listed names
abbrev pub symbols_of : List Name → List Name → Symbols
symbols_of ns on = map (λ n. place_of n ns) on

-- the condition by the lowered formula
abbrev pub IsRegionOf : Kind → List Name → List Name → Lowering → Region → Type 0
IsRegionOf kind ns on (refused c) r = r ≡ unknown c
IsRegionOf kind ns on (lowered F) r = (l : Leaves) × AreLeaves (symbols_of ns on) kind F l × (r ≡ region_by kind ns l)

-- the written condition on names, of the claims of a counterexample
abbrev pub IsWrittenRegion : Kind → List Name → List Claim → List Name → Region → Type 0
IsWrittenRegion kind ns cs on r = (l : Lowering) × IsLowering ns cs l × IsRegionOf kind ns on l r
