use Rattle.std.proofs.Common.{◌≡◌, ◌++◌, drop}
use Rattle.theory_session.specs.Printed.{further_text}
use Rattle.theory_cli.proofs.printing.add_further.Given as goal

abbrev pub invariant-loop-symbol : goal.invariant-loop-symbol
invariant-loop-symbol l = l.text ++ further_text l.point (drop l.symbol-index l.symbols) ≡ l.initial.text ++ further_text l.point l.symbols
