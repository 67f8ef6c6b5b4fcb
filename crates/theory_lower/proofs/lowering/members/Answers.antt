use Rattle.std.proofs.Common.{map, subst}
use Rattle.theory_meaning.specs.Divisors.{divisors_of_claims}
use Rattle.theory_meaning.specs.Tree.{claims_from}
use Rattle.theory_syntax.specs.Plain.{claims_of}
use Rattle.theory_signs.specs.Plain.{formula_of}
use Rattle.theory_lower.specs.Lowering.{AddsNonzero}
use Rattle.theory_lower.proofs.DivisorLemmas.{lowered_members}
use Rattle.theory_lower.proofs.lowering.members.Goals as goal

pub returns-in_ok-both_lists-in-Ok-all_lowered-clause-written : goal.returns-in_ok-both_lists-in-Ok-all_lowered-clause-written
returns-in_ok-both_lists-in-Ok-all_lowered-clause-written c =
    let ns = c.args.names.now in
    let cs = claims_of c.args.conjuncts.now in
    let added = c.add_of_claims.new.members.items in
    lowered_members ns cs added c.in-Ok-all_lowered.formulas.items c.in_ok-both_lists-in-Ok-all_lowered.field-0.items
    (subst (λ xs. AddsNonzero ns (divisors_of_claims (claims_from cs)) (map formula_of xs) (map formula_of added)) c.new-all.ensures.items
    c.in-Ok.ensures.written) c.in-Ok-all_lowered.ensures.written c.in_ok-both_lists-in-Ok-all_lowered.ensures
