-- What an engine may answer: the written half and the written condition, why a half is left or a condition stays unknown,
-- and when a point stays unprinted. Source: this project's own.
use Rattle.std.specs.Prelude.{◌≡◌, List, length}
use Rattle.theory_meaning.specs.declared.words.Kind.{Kind}
use Rattle.theory_meaning.specs.Deciding.{Meanings}
use Rattle.theory_meaning.specs.Half.{Cause}
use Rattle.theory_meaning.specs.Point.{Name}
use Rattle.theory_meaning.specs.Tree.{Claim}
use Rattle.theory_formula.specs.Formula.{Formula}
use Rattle.theory_decision.specs.Finding.{Failure}
use Rattle.theory_decision.specs.Search.{Step}
use Rattle.theory_decision.specs.Outcomes.{hits_by, failed_by, IsSearch, failed_before, AreLeaves}
use Rattle.theory_decision.specs.Witness.{IsWideWitness}
use Rattle.theory_decision.specs.Answers.{cause_of, Lowering, refused, lowered, IsLowering, IsWrittenHalf, symbols_of, IsWrittenRegion}

-- that the claims are refused, or the first failure of the search
abbrev pub IsCauseOf : Kind → List Name → Lowering → Cause → Type 0
IsCauseOf kind ns (refused c) d = d ≡ c
IsCauseOf kind ns (lowered F) d = (f : Failure) × IsSearch kind F (failed_by f) × (d ≡ cause_of ns f)

-- why the half of the claims is left
abbrev pub IsWrittenCause : Kind → List Name → List Claim → Cause → Type 0
IsWrittenCause kind ns cs d = (l : Lowering) × IsLowering ns cs l × IsCauseOf kind ns l d

-- the search hits, and the witness of its path passes a limit
abbrev pub HasWideWitness : Kind → List Name → List Claim → Type 0
HasWideWitness kind ns cs =
    (F : Formula) × (path : List Step) × IsLowering ns cs (lowered F) × IsSearch kind F (hits_by path) × IsWideWitness (length ns) path

-- that the claims are refused, or the first failure of the search for leaves
abbrev pub IsRegionCauseOf : Kind → List Name → List Name → Lowering → Cause → Type 0
IsRegionCauseOf kind ns on (refused c) d = d ≡ c
IsRegionCauseOf kind ns on (lowered F) d = (f : Failure) × AreLeaves (symbols_of ns on) kind F (failed_before f) × (d ≡ cause_of ns f)

-- why the condition on names of the claims stays unknown
abbrev pub IsWrittenRegionCause : Kind → List Name → List Claim → List Name → Cause → Type 0
IsWrittenRegionCause kind ns cs on d = (l : Lowering) × IsLowering ns cs l × IsRegionCauseOf kind ns on l d

-- what an engine may answer
abbrev pub engine : Meanings
engine = record {
  allows = λ ns cs kind h. IsWrittenHalf kind ns cs h;
  may_leave = λ ns cs kind c. IsWrittenCause kind ns cs c;
  may_hide = λ ns cs kind. HasWideWitness kind ns cs;
  allows_region = λ ns cs on kind r. IsWrittenRegion kind ns cs on r;
  may_not_know = λ ns cs on kind c. IsWrittenRegionCause kind ns cs on c;
}
