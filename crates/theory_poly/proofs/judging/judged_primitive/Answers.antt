use Rattle.theory_poly.proofs.AnswerLaws.{divided_of, answers_divided, answers_divided_wide}
use Rattle.theory_poly.proofs.judging.judged_primitive.Goals as goal

pub judged-requires : goal.judged-requires
judged-requires c = (divided_of c.args.terms.now c.in_ok-least.least.items c.deref.result.now c.requires.ordered c.in_ok-least.ensures c.deref.ensures.value).2

pub returns-clause-value : goal.returns-clause-value
returns-clause-value c =
    answers_divided c.args.terms.now c.deref.result.now c.judged.result
    (divided_of c.args.terms.now c.in_ok-least.least.items c.deref.result.now c.requires.ordered c.in_ok-least.ensures c.deref.ensures.value)
    c.judged.ensures.value

pub returns-clause-wide : goal.returns-clause-wide
returns-clause-wide c =
    answers_divided_wide c.args.terms.now c.deref.result.now c.judged.result c.requires.ordered
    (divided_of c.args.terms.now c.in_ok-least.least.items c.deref.result.now c.requires.ordered c.in_ok-least.ensures c.deref.ensures.value)
    c.judged.ensures.wide
