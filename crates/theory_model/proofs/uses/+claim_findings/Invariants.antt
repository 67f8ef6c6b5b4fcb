use Rattle.std.proofs.Common.{◌≡◌, drop}
use Rattle.theory_meaning.specs.Declarations.{symbols_of_claims}
use Rattle.theory_syntax.specs.Plain.{members_of, lines_of}
use Rattle.theory_model.specs.Findings.{found_in, found_of_both}
use Rattle.theory_model.proofs.uses.+claim_findings.Given as goal

abbrev pub invariant-all_findings-loop-claim : goal.invariant-all_findings-loop-claim
invariant-all_findings-loop-claim l =
    found_of_both l.all (found_in (lines_of l.keys.lines.now) (symbols_of_claims (members_of (drop l.claim-index l.claims)))) ≡ found_in
    (lines_of l.keys.lines.now) (symbols_of_claims (members_of l.claims))
