use Rattle.theory_signs.proofs.PlainLemmas.{negated-And, negated-Or}
use Rattle.theory_signs.proofs.negation.+opposite.Goals as goal

pub opposite-returns-in_ok-opposites-in-And : goal.opposite-returns-in_ok-opposites-in-And
opposite-returns-in_ok-opposites-in-And t c =
    negated-And c.args.formula.now c.in-And.members c.in_ok-opposites-in-And.field-0 c.deref.result.now c.in-And.is c.deref.ensures.value
    c.in_ok-opposites-in-And.ensures

pub opposite-returns-in_ok-opposites-in-Or : goal.opposite-returns-in_ok-opposites-in-Or
opposite-returns-in_ok-opposites-in-Or t c =
    negated-Or c.args.formula.now c.in-Or.members c.in_ok-opposites-in-Or.field-0 c.deref-in-Or.result.now c.in-Or.is c.deref-in-Or.ensures.value
    c.in_ok-opposites-in-Or.ensures
