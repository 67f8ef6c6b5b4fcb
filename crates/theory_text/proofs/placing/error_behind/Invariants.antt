use Rattle.std.proofs.Common.{take, drop}
use Rattle.theory_text.proofs.PlaceLemmas.{IsPlaced}
use Rattle.theory_text.proofs.placing.error_behind.Given as goal

abbrev pub invariant-loop-byte : goal.invariant-loop-byte
invariant-loop-byte l =
    let front = take l.fn.before l.fn.bytes in
    IsPlaced l.byte-index l.line l.column (drop l.byte-index front) front
