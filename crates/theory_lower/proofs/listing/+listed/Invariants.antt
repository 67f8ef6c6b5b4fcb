use Rattle.std.proofs.Common.{drop}
use Rattle.theory_meaning.specs.Tree.{claims_from}
use Rattle.theory_lowering.specs.LoweringLimits.{AreListedClaims}
use Rattle.theory_syntax.specs.Plain.{claims_of}
use Rattle.theory_lower.proofs.listing.+listed.Given as goal

abbrev pub invariant-claims_are_listed-loop-claim : goal.invariant-claims_are_listed-loop-claim
invariant-claims_are_listed-loop-claim l = record {
  up : AreListedClaims l.names (claims_from (claims_of (drop l.claim-index l.claims))) → AreListedClaims l.names (claims_from (claims_of l.claims));
  down : AreListedClaims l.names (claims_from (claims_of l.claims)) → AreListedClaims l.names (claims_from (claims_of (drop l.claim-index l.claims)));
}
