use Rattle.std.proofs.Common.{refl, ap}
use Rattle.theory_meaning.specs.Divisors.{divisors_of_expr, divisors_of_claim}
use Rattle.theory_syntax.specs.Plain.{expr_of, claim_of}
use Rattle.theory_syntax.proofs.DivisorLemmas.{divides_on_the_left, divides_from, left_undivided}
use Rattle.theory_syntax.proofs.TreeLemmas.{tree-Atom, tree-Implies, tree-Iff}
use Rattle.theory_syntax.proofs.dividing.+claim_divides.Goals as goal

pub claim_divides-returns-then-expr_divides : goal.claim_divides-returns-then-expr_divides
claim_divides-returns-then-expr_divides t c =
    let u = c.in-Atom.u in
    let v = c.in-Atom.v in
    let d = c.args.claim.now in
    divides_on_the_left (divisors_of_expr (expr_of u)) (divisors_of_expr (expr_of v)) (divisors_of_claim (claim_of d)) c.expr_divides.result
    (ap divisors_of_claim (tree-Atom d u v c.in-Atom.field-1 c.in-Atom.is)) c.if-expr_divides.true c.expr_divides.ensures

pub claim_divides-returns-then-claim_divides : goal.claim_divides-returns-then-claim_divides
claim_divides-returns-then-claim_divides t c =
    let a = c.deref-in-Implies.result.now in
    let b = c.in-Implies.b.value in
    let d = c.args.claim.now in
    divides_on_the_left (divisors_of_claim (claim_of a)) (divisors_of_claim (claim_of b)) (divisors_of_claim (claim_of d)) c.claim_divides-in-Implies.result
    (ap divisors_of_claim (tree-Implies d c.in-Implies.a c.in-Implies.b a b c.in-Implies.is c.deref-in-Implies.ensures refl)) c.if-claim_divides.true
    c.claim_divides-in-Implies.ensures

pub claim_divides-returns-then-claim_divides-2 : goal.claim_divides-returns-then-claim_divides-2
claim_divides-returns-then-claim_divides-2 t c =
    let a = c.deref-in-Iff.result.now in
    let b = c.in-Iff.b.value in
    let d = c.args.claim.now in
    divides_on_the_left (divisors_of_claim (claim_of a)) (divisors_of_claim (claim_of b)) (divisors_of_claim (claim_of d)) c.claim_divides-in-Iff.result
    (ap divisors_of_claim (tree-Iff d c.in-Iff.a c.in-Iff.b a b c.in-Iff.is c.deref-in-Iff.ensures refl)) c.if-claim_divides-2.true
    c.claim_divides-in-Iff.ensures

pub some_divides-returns-then-claim_divides : goal.some_divides-returns-then-claim_divides
some_divides-returns-then-claim_divides t c =
    divides_from c.args.claims.now c.loop-claim.claim-index c.claim-item.result c.claim_divides.result c.loop-claim-test.true c.claim-item.is
    c.loop-claim.invariant c.if-claim_divides.true c.claim_divides.ensures

pub some_divides-loop-claim-preserved : goal.some_divides-loop-claim-preserved
some_divides-loop-claim-preserved t c =
    left_undivided c.args.claims.now c.loop-claim.claim-index c.claim-item.result c.claim_divides.result c.loop-claim-test.true c.claim-item.is
    c.loop-claim.invariant c.if-claim_divides.false c.claim_divides.ensures
