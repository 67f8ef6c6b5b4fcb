use Rattle.std.proofs.Common.{◌≡◌, drop}
use Rattle.std.specs.Prelude.{find}
use Rattle.theory_formula.specs.Formula.{truth_at}
use Rattle.theory_signs.specs.Plain.{formula_of}
use Rattle.theory_decision.specs.Witness.{only_at}
use Rattle.theory_witness.proofs.picking.first_that_fits.Given as goal

abbrev pub invariant-loop-at : goal.invariant-loop-at
invariant-loop-at l =
    find (λ q. truth_at (formula_of l.formula) (only_at l.x q)) (drop l.at-index l.tried)
    ≡ find (λ q. truth_at (formula_of l.formula) (only_at l.x q)) l.tried
