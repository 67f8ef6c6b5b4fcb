use Rattle.std.proofs.Common.{arith, sym}
use Rattle.theory_simplify.proofs.SignLemmas.{is_not_this_symbol}
use Rattle.theory_simplify.proofs.symbols.is_the_symbol.Goals as goal

pub returns-then-terms-ne1 : goal.returns-then-terms-ne1
returns-then-terms-ne1 c = sym (is_not_this_symbol c.args.terms.now c.args.x (λ e. omega (arith, e, c.if-terms-ne1.true)))
