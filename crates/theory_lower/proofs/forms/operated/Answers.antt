use Rattle.std.proofs.Common.{sym, subst}
use Rattle.theory_poly.specs.Answers.{WideWhere}
use Rattle.theory_lower.specs.Combined.{IsBeyondBy}
use Rattle.theory_lower.proofs.forms.operated.Goals as goal

pub returns-in-Quotient-clause-wide : goal.returns-in-Quotient-clause-wide
returns-in-Quotient-clause-wide c =
    subst (λ o. WideWhere (IsBeyondBy o c.args.a.now c.args.b.now) c.div.result) (sym c.in-Quotient.is) c.div.ensures.wide
