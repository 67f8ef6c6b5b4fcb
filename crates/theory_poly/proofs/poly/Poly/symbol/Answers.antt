use Rattle.std.proofs.Common.{◌++◌, ap, ◌∙◌}
use Rattle.theory_polynomial.specs.Polynomial.{symbol_of}
use Rattle.theory_poly.proofs.CanonicalLaws.{kept_symbol}
use Rattle.theory_poly.proofs.poly.Poly.symbol.Goals as goal

pub from_kept-requires : goal.from_kept-requires
from_kept-requires c =
    kept_symbol c.args.x c.push.new.self.items (c.in_ok-push.ensures.items ∙ ap (λ first. first ++ symbol_of c.args.x) c.new-terms.ensures.items)
