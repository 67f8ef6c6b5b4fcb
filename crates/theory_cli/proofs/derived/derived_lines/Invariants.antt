use Rattle.std.proofs.Common.{◌≡◌, ◌++◌, drop, map}
use Rattle.theory_session.specs.Printed.{derived_text}
use Rattle.theory_statics.specs.Plain.{differentiated_of}
use Rattle.theory_cli.proofs.derived.derived_lines.Given as goal

abbrev pub invariant-loop-equation : goal.invariant-loop-equation
invariant-loop-equation l =
    l.text ++ derived_text (map differentiated_of (drop l.equation-index l.equations)) ≡ derived_text (map differentiated_of l.equations)
