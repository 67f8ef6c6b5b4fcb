use Rattle.std.proofs.Common.{◌≡◌, ◌+◌, ◌≤◌, min, drop, length}
use Rattle.theory_meaning.specs.Divisors.{divisors_of_claims}
use Rattle.theory_meaning.specs.Tree.{claims_from}
use Rattle.theory_syntax.specs.Plain.{claims_of}
use Rattle.theory_lower.proofs.counting.+count.Given as goal

abbrev pub invariant-all_divisors-loop-claim : goal.invariant-all_divisors-loop-claim
invariant-all_divisors-loop-claim l = record {
  small : l.all ≤ 513;
  counted : min 513 (l.all + length (divisors_of_claims (claims_from (claims_of (drop l.claim-index l.claims)))))
      ≡ min 513 (length (divisors_of_claims (claims_from (claims_of l.claims))));
}
