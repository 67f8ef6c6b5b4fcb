use Rattle.std.proofs.Common.{◌≡◌, drop}
use Rattle.theory_signed.specs.CommonPowers.{crossing_from}
use Rattle.theory_simplify.proofs.splitting.crossing.Given as goal

abbrev pub invariant-loop-x : goal.invariant-loop-x
invariant-loop-x l = crossing_from l.x (drop l.x l.common) l.poly ≡ crossing_from 0 l.common l.poly
