use Rattle.std.proofs.Common.{sym, subst}
use Rattle.theory_polynomial.specs.Polynomial.{degree_in, IsPolynomialOf}
use Rattle.theory_polynomial.specs.PolynomialValue.{restriction_step, IsRestriction}
use Rattle.theory_poly.specs.Kept.{IsKept}
use Rattle.theory_poly.proofs.StepLaws.{unturned_is_primitive}
use Rattle.theory_polynomial.proofs.SignLaws.{restriction_free, restriction_sign}
use Rattle.theory_poly.proofs.poly.Poly.restrict.Goals as goal

-- what is left is the restriction
written : (c : goal.After-drop-last-inside-2) → IsRestriction c.args.x c.args.value.now c.args.self.now c.in_ok-least.least
written c =
    unturned_is_primitive (restriction_step c.args.x c.args.value.now c.args.self.now (degree_in c.args.x c.args.self.now)) c.in-Ok.last
    c.as_slice-2.result.now c.in_ok-least.least
    (subst (λ z. IsPolynomialOf (restriction_step c.args.x c.args.value.now z (degree_in c.args.x z)) c.in-Ok.last) c.as_slice.ensures.value
    c.in-Ok.ensures.value)
    c.as_slice-2.ensures.value (subst IsKept (sym c.as_slice-2.ensures.value) c.as_slice-2.ensures.kept) c.in_ok-least.ensures

pub returns-clause-written : goal.returns-clause-written
returns-clause-written c = written c

pub returns-clause-free : goal.returns-clause-free
returns-clause-free c = restriction_free c.args.x c.args.value.now c.args.self.now c.in_ok-least.least (written c)

pub returns-clause-sign : goal.returns-clause-sign
returns-clause-sign c p s = restriction_sign c.args.x c.args.value.now c.args.self.now c.in_ok-least.least p s (written c)
