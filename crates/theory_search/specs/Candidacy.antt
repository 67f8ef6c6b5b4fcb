-- A symbol of a formula as a candidate.
use Rattle.std.specs.Prelude.{ℕ, ◌&&◌, not, if◌then◌else◌, Option, None, Some}
use Rattle.theory_formula.specs.Formula.{Formula}
use Rattle.theory_decision.specs.declared.candidate.Candidate.{Candidate}
use Rattle.theory_decision.specs.Choice.{Symbols, is_one_of, occurs, is_curved, candidate_in}

-- it occurs, isn't kept, and is linear in every atom
abbrev pub candidate_at : Symbols → Formula → ℕ → Option Candidate
candidate_at keep F x = if (not (is_one_of keep x) && occurs F x) && not (is_curved F x) then Some (candidate_in F x) else None
