use Rattle.std.proofs.Common.{length}
use Rattle.theory_poly.proofs.product.+multiplied_out.Given as goal

abbrev pub decreases-multiplied_out : goal.decreases-multiplied_out
decreases-multiplied_out l = length l.a.now
