use Rattle.std.proofs.Common.{◌≡◌, ◌+◌, ◌≤◌, min, drop}
use Rattle.theory_meaning.specs.Tree.{claims_from}
use Rattle.theory_lowering.specs.NormalForm.{normal_forms, atom_count_of_all}
use Rattle.theory_syntax.specs.Plain.{claims_of}
use Rattle.theory_lower.proofs.counting.+size.Given as goal

abbrev pub invariant-all_sizes-loop-claim : goal.invariant-all_sizes-loop-claim
invariant-all_sizes-loop-claim l = record {
  small : l.all ≤ 513;
  counted : min 513 (l.all + atom_count_of_all (normal_forms (claims_from (claims_of (drop l.claim-index l.claims)))))
      ≡ min 513 (atom_count_of_all (normal_forms (claims_from (claims_of l.claims))));
}
