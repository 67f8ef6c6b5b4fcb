use Rattle.std.proofs.Common.{◌≡◌, take, drop}
use Rattle.theory_meaning.specs.ModelFault.{first_that, has_fault, line_with}
use Rattle.theory_meaning.specs.declared.words.ModelKind.TheVariants.{KeyTwice}
use Rattle.theory_syntax.specs.Plain.{lines_of}
use Rattle.theory_model.specs.Keyed.{HoldsPlaces}
use Rattle.theory_model.proofs.keys.Keys.new.Given as goal

abbrev pub invariant-loop-k : goal.invariant-loop-k
invariant-loop-k l =
    let lines = lines_of l.lines in
    let above = lines_of (take l.k l.lines) in
    let below = lines_of (drop l.k l.lines) in
    record {
      held : HoldsPlaces l.places above;
      left : line_with KeyTwice lines ≡ first_that (has_fault KeyTwice lines) above below;
    }
