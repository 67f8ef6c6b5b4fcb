use Rattle.theory_poly.proofs.HeightLaws.{height_more, exponents_more, nothing}
use Rattle.theory_poly.proofs.AnswerLaws.{passes_at}
use Rattle.theory_poly.proofs.judging.passes_limit.Goals as goal
use Rattle.theory_meaning.specs.Limits.{bound}

pub returns-then-term_passes : goal.returns-then-term_passes
returns-then-term_passes c = passes_at c.args.terms.now c.loop-t.t-index nothing c.loop-t-test.true c.if-term_passes.ensures

pub loop-t-preserved : goal.loop-t-preserved
loop-t-preserved c = record {
  exponents = exponents_more c.args.terms.now c.loop-t.t-index 15 nothing c.loop-t-test.true c.loop-t.invariant.exponents c.if-term_passes.ensures.0;
  coefficients = height_more c.args.terms.now c.loop-t.t-index bound nothing c.loop-t-test.true c.loop-t.invariant.coefficients c.if-term_passes.ensures.1;
}
