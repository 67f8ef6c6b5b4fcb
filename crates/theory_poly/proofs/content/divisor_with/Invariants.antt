use Rattle.std.proofs.Common.{◌<◌, take}
use Rattle.theory_poly.specs.Kept.{IsGreatestWith}
use Rattle.theory_poly.proofs.content.divisor_with.Given as goal

abbrev pub invariant-loop-t : goal.invariant-loop-t
invariant-loop-t l = record {
  divisor : IsGreatestWith l.start (take l.t-index l.terms) l.common;
  positive : 0 < l.common;
}
