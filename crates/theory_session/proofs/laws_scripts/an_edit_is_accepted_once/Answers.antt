use Rattle.std.proofs.Common.{[], ◌∷◌, refl}
use Rattle.theory_derivative.specs.WorkedModels.{tax_model}
use Rattle.theory_session.specs.WorkedDesk.{tax_creation, steep_edit, tax_1, tax_2}
use Rattle.theory_session.proofs.ScriptLaws.{created_step, edited_step}
use Rattle.theory_session.proofs.WorkedLaws.{tax_spelled, tax_1_fits, steep_ops, steep_spelled, tax_2_fits, tax_1_printed, edit_print}
use Rattle.theory_session.proofs.laws_scripts.an_edit_is_accepted_once.Goals as goal

pub returns-clause-run : goal.returns-clause-run
returns-clause-run g c =
    let m = g.D.Meant.meanings in
    let both = tax_1 ∷ tax_2 ∷ [] in (
      tax_1 ∷ [],
      created_step m [] tax_creation tax_model tax_1 tax_spelled refl tax_1_fits,
      (
        both,
        edited_step m (tax_1 ∷ []) steep_edit steep_ops tax_2 steep_spelled refl refl tax_2_fits,
        (both, (refl, refl), (both, (refl, refl), (both, (refl, refl), refl))),
      ),
    )

pub returns-clause-text : goal.returns-clause-text
returns-clause-text g c = tax_1_printed

pub returns-clause-print : goal.returns-clause-print
returns-clause-print g c = edit_print
