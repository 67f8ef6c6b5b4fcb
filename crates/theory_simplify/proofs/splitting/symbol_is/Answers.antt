use Rattle.std.proofs.Common.{sym, subst}
use Rattle.theory_polynomial.specs.Polynomial.{IsCanonical}
use Rattle.theory_signed.proofs.SplitCanonical.{symbol_canonical}
use Rattle.theory_simplify.proofs.SplitTrees.{symbol_made}
use Rattle.theory_simplify.proofs.splitting.symbol_is.Goals as goal

pub condition_on-requires : goal.condition_on-requires
condition_on-requires c = subst IsCanonical (sym c.in_ok-symbol.ensures) ((symbol_canonical c.args.x c.requires).canonical)

pub returns : goal.returns
returns c = symbol_made c.args.x c.in_ok-symbol.symbol c.args.signs c.condition_on.result c.requires c.in_ok-symbol.ensures c.condition_on.ensures
