use Rattle.std.proofs.Common.{drop}
use Rattle.theory_syntax.specs.Plain.{lines_of}
use Rattle.theory_versions.specs.Beginning.{NothingDividesIn}
use Rattle.theory_versions.proofs.beginning.nothing_divides.Given as goal

-- where nothing divides in the lines that are left, nothing does in all, and the other way round
abbrev pub invariant-loop-numbered : goal.invariant-loop-numbered
invariant-loop-numbered l = record {
  up : NothingDividesIn (lines_of (drop l.numbered-index l.lines)) → NothingDividesIn (lines_of l.lines);
  down : NothingDividesIn (lines_of l.lines) → NothingDividesIn (lines_of (drop l.numbered-index l.lines));
}
