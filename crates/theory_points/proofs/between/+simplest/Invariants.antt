use Rattle.std.proofs.Common.{◌+◌}
use Rattle.theory_points.proofs.between.+simplest.Given as goal

abbrev pub decreases-simplest : goal.decreases-simplest
decreases-simplest l = l.lo.bottom + l.hi.bottom
