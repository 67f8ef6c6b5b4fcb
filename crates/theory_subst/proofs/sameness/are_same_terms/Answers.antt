use Rattle.std.proofs.Common.{◌∙◌, sym, [], arith}
use Rattle.std.specs.Prelude.{pos}
use Rattle.theory_polynomial.specs.Polynomial.{Monomial, monomial}
use Rattle.theory_subst.proofs.SameLemmas.{other_lengths, same_step, other_term, same_at_end}
use Rattle.theory_subst.proofs.sameness.are_same_terms.Goals as goal

abbrev none : Monomial
none = monomial (pos 0) []

pub returns-then-a-b : goal.returns-then-a-b
returns-then-a-b c = other_lengths c.args.a.now c.args.b.now c.if-a-b.true

pub returns-then-not-is_same_term : goal.returns-then-not-is_same_term
returns-then-not-is_same_term c =
    sym (c.loop-k.invariant ∙ other_term c.loop-k.k c.args.a.now c.args.b.now none none c.loop-k-test.true c.if-a-b.false
    (sym c.is_same_term.ensures ∙ c.if-not-is_same_term.true))

pub loop-k-preserved : goal.loop-k-preserved
loop-k-preserved c =
    c.loop-k.invariant ∙ same_step c.loop-k.k c.args.a.now c.args.b.now none none c.loop-k-test.true c.if-a-b.false
    (sym c.is_same_term.ensures ∙ c.if-not-is_same_term.false)

pub returns : goal.returns
returns c = sym (c.loop-k.invariant ∙ same_at_end c.loop-k.k c.args.a.now c.args.b.now (omega arith) c.if-a-b.false)
