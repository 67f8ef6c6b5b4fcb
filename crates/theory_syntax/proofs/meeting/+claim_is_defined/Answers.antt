use Rattle.std.proofs.Common.{◌+◌, drop, ap, subst}
use Rattle.theory_meaning.specs.Divisors.{divisors_of_expr, divisors_of_claim}
use Rattle.theory_syntax.specs.Plain.{expr_of, claim_of, members_of}
use Rattle.theory_syntax.proofs.DivisorLemmas.{IsLeftDefined, nonzero_of_parts, members_ahead, left_defined}
use Rattle.theory_syntax.proofs.TreeLemmas.{tree-Atom, tree-Implies, tree-Iff}
use Rattle.theory_syntax.proofs.meeting.+claim_is_defined.Goals as goal

pub claim_is_defined-returns-in_ok-expr_is_defined-in-Atom-2 : goal.claim_is_defined-returns-in_ok-expr_is_defined-in-Atom-2
claim_is_defined-returns-in_ok-expr_is_defined-in-Atom-2 t c =
    let u = c.in-Atom.u in
    let v = c.in-Atom.v in
    let d = c.args.claim.now in
    nonzero_of_parts (divisors_of_expr (expr_of u)) (divisors_of_expr (expr_of v)) (divisors_of_claim (claim_of d)) c.args.point.now
    c.in_ok-expr_is_defined-in-Atom.field-0 c.in_ok-expr_is_defined-in-Atom-2.field-0
    (ap divisors_of_claim (tree-Atom d u v c.in-Atom.field-1 c.in-Atom.is))
    c.in_ok-expr_is_defined-in-Atom.ensures c.in_ok-expr_is_defined-in-Atom-2.ensures

pub claim_is_defined-returns-in_ok-claim_is_defined-in-Implies-2 : goal.claim_is_defined-returns-in_ok-claim_is_defined-in-Implies-2
claim_is_defined-returns-in_ok-claim_is_defined-in-Implies-2 t c =
    let a = c.deref-in-Implies.result.now in
    let b = c.deref-in-Implies-2.result.now in
    let d = c.args.claim.now in
    nonzero_of_parts (divisors_of_claim (claim_of a)) (divisors_of_claim (claim_of b)) (divisors_of_claim (claim_of d)) c.args.point.now
    c.in_ok-claim_is_defined-in-Implies.field-0 c.in_ok-claim_is_defined-in-Implies-2.field-0
    (ap divisors_of_claim (tree-Implies d c.in-Implies.a c.in-Implies.b a b c.in-Implies.is c.deref-in-Implies.ensures c.deref-in-Implies-2.ensures))
    c.in_ok-claim_is_defined-in-Implies.ensures c.in_ok-claim_is_defined-in-Implies-2.ensures

pub claim_is_defined-returns-in_ok-claim_is_defined-in-Iff-2 : goal.claim_is_defined-returns-in_ok-claim_is_defined-in-Iff-2
claim_is_defined-returns-in_ok-claim_is_defined-in-Iff-2 t c =
    let a = c.deref-in-Iff.result.now in
    let b = c.deref-in-Iff-2.result.now in
    let d = c.args.claim.now in
    nonzero_of_parts (divisors_of_claim (claim_of a)) (divisors_of_claim (claim_of b)) (divisors_of_claim (claim_of d)) c.args.point.now
    c.in_ok-claim_is_defined-in-Iff.field-0 c.in_ok-claim_is_defined-in-Iff-2.field-0
    (ap divisors_of_claim (tree-Iff d c.in-Iff.a c.in-Iff.b a b c.in-Iff.is c.deref-in-Iff.ensures c.deref-in-Iff-2.ensures))
    c.in_ok-claim_is_defined-in-Iff.ensures c.in_ok-claim_is_defined-in-Iff-2.ensures

pub all_are_defined-loop-claim-preserved : goal.all_are_defined-loop-claim-preserved
all_are_defined-loop-claim-preserved t c =
    let claims = c.args.claims.now in
    let i = c.loop-claim.claim-index in
    let item = c.claim-item.result in
    let p = c.args.point.now in
    let ahead = members_ahead claims i item c.loop-claim-test.true c.claim-item.is in
    left_defined c.loop-claim.all c.in_ok-all.field-0 (claim_of item) (members_of (drop (i + 1) claims)) (members_of claims) p
    (subst (λ rest. IsLeftDefined c.loop-claim.all rest (members_of claims) p) ahead c.loop-claim.invariant) c.in_ok-all.ensures
