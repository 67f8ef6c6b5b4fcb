use Rattle.std.proofs.Common.{◌+◌, ◌*◌, length}
use Rattle.theory_syntax.specs.Plain.{expr_of}
use Rattle.theory_line.proofs.ExprLemmas.{IsSummed, IsMultiplied}
use Rattle.theory_line.proofs.exprs.+expr.Given as goal

abbrev pub decreases-bracketed : goal.decreases-bracketed
decreases-bracketed l = 6 * length l.tokens.now + 6

abbrev pub decreases-expr : goal.decreases-expr
decreases-expr l = 6 * length l.tokens.now + 5

abbrev pub decreases-term : goal.decreases-term
decreases-term l = 6 * length l.tokens.now + 4

abbrev pub decreases-factor : goal.decreases-factor
decreases-factor l = 6 * length l.tokens.now + 3

abbrev pub decreases-next_factor : goal.decreases-next_factor
decreases-next_factor l = 6 * length l.tokens.now + 4

abbrev pub decreases-negated : goal.decreases-negated
decreases-negated l = 6 * length l.tokens.now + 4

abbrev pub decreases-divisor : goal.decreases-divisor
decreases-divisor l = 6 * length l.tokens.now + 2

abbrev pub decreases-primary : goal.decreases-primary
decreases-primary l = 6 * length l.tokens.now + 1

abbrev pub invariant-expr-loop-how : goal.invariant-expr-loop-how
invariant-expr-loop-how l = IsSummed l.tokens l.rest l.depth (expr_of l.all)

abbrev pub decreases-expr-loop-how : goal.decreases-expr-loop-how
decreases-expr-loop-how l = length l.rest

abbrev pub invariant-term-loop-how : goal.invariant-term-loop-how
invariant-term-loop-how l = IsMultiplied l.tokens l.rest l.depth (expr_of l.all)

abbrev pub decreases-term-loop-how : goal.decreases-term-loop-how
decreases-term-loop-how l = length l.rest
