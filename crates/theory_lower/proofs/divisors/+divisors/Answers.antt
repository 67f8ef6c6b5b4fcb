use Rattle.std.proofs.Common.{List, ◌+◌, map, drop, ap, arith}
use Rattle.std.proofs.lemmas.List.{at_drop_all}
use Rattle.theory_meaning.specs.Divisors.{divisors_of_expr, divisors_of_claim}
use Rattle.theory_syntax.specs.declared.claim.Claim.{Claim}
use Rattle.theory_syntax.specs.Plain.{expr_of, claim_of, claims_of}
use Rattle.theory_signs.specs.Plain.{formula_of}
use Rattle.theory_lower.proofs.DivisorLemmas.{adds_on, parts_of_claim, reached_by_more, reached_by_end}
use Rattle.theory_lower.proofs.LoweringLemmas.{tree-Atom, drop_step}
use Rattle.theory_lower.proofs.divisors.+divisors.Goals as goal

pub add_of_claim-returns-in-Ok-clause-written : goal.add_of_claim-returns-in-Ok-clause-written
add_of_claim-returns-in-Ok-clause-written t c =
    adds_on c.args.names.now (divisors_of_expr (expr_of c.in-Atom.u)) (divisors_of_expr (expr_of c.in-Atom.v)) (divisors_of_claim (claim_of c.args.claim.now))
    (map formula_of c.args.members.now.items) (map formula_of c.add_of_expr.new.members.items) (map formula_of c.add_of_expr-in-Ok.new.members.items)
    c.add_of_expr-in-Ok.result (ap divisors_of_claim (tree-Atom c.args.claim.now c.in-Atom.u c.in-Atom.field-1 c.in-Atom.v c.in-Atom.is))
    c.in-Ok.ensures.written c.add_of_expr-in-Ok.ensures.written

pub add_of_claim-returns-in-Ok-add_of_claim-clause-written : goal.add_of_claim-returns-in-Ok-add_of_claim-clause-written
add_of_claim-returns-in-Ok-add_of_claim-clause-written t c =
    let x = c.deref-in-Implies.result.now in
    let y = c.deref-in-Ok-add_of_claim.result.now in
    adds_on c.args.names.now (divisors_of_claim (claim_of x)) (divisors_of_claim (claim_of y)) (divisors_of_claim (claim_of c.args.claim.now))
    (map formula_of c.args.members.now.items) (map formula_of c.add_of_claim-in-Implies.new.members.items)
    (map formula_of c.add_of_claim-in-Ok-add_of_claim.new.members.items) c.add_of_claim-in-Ok-add_of_claim.result
    (parts_of_claim c.args.claim.now c.in-Implies.a c.in-Implies.b x y c.in-Implies.is c.deref-in-Implies.ensures c.deref-in-Ok-add_of_claim.ensures)
    c.in-Ok-add_of_claim.ensures.written c.add_of_claim-in-Ok-add_of_claim.ensures.written

pub add_of_claims-loop-claim-preserved : goal.add_of_claims-loop-claim-preserved
add_of_claims-loop-claim-preserved t c =
    let i = c.loop-claim.claim-index in
    let all = c.args.claims.now in
    reached_by_more c.args.names.now (claims_of all) (claims_of (drop i all)) (claims_of (drop (i + 1) all)) (map formula_of c.args.members.now.items) (map
    formula_of c.loop-claim.members.items) (map formula_of c.add_of_claim.new.members.items) _ (drop_step all i _ c.loop-claim-test.true c.claim-item.is)
    c.loop-claim.invariant c.in-Ok.ensures.written

pub add_of_claims-returns-clause-written : goal.add_of_claims-returns-clause-written
add_of_claims-returns-clause-written t c =
    let i = c.loop-claim.claim-index in
    let all = c.args.claims.now in
    reached_by_end c.args.names.now (claims_of all) (claims_of (drop i all)) (map formula_of c.args.members.now.items) (map formula_of
    c.loop-claim.members.items) (at_drop_all (λ (cs : List Claim). claims_of cs) all i (omega (arith, c.loop-claim-test.false))) c.loop-claim.invariant
