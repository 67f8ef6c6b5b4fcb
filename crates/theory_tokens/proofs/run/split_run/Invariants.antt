use Rattle.std.proofs.Common.{◌≡◌, true, take}
use Rattle.std.specs.List.{list_all}
use Rattle.theory_tokens.specs.Next.{kind_test}
use Rattle.theory_tokens.proofs.run.split_run.Given as goal

abbrev pub invariant-loop-i : goal.invariant-loop-i
invariant-loop-i l = list_all (kind_test l.kind) (take l.i l.bytes) ≡ true
