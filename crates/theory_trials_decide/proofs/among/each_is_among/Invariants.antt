use Rattle.std.proofs.Common.{drop}
use Rattle.theory_meaning.specs.Region.{AreAmong}
use Rattle.theory_trials_decide.proofs.among.each_is_among.Given as goal

abbrev pub invariant-loop-name : goal.invariant-loop-name
invariant-loop-name l = AreAmong (drop l.name-index l.some) l.names → AreAmong l.some l.names
