use Rattle.std.proofs.Common.{[], ◌∷◌, refl, sym, ap, codes}
use Rattle.theory_session.specs.Run.{shown}
use Rattle.theory_session.specs.WorkedDesk.{loose_creation, loose_model, loose_1}
use Rattle.theory_session.proofs.ScriptLaws.{created_step}
use Rattle.theory_session.proofs.WorkedLaws.{loose_spelled, loose_1_fits, loose_1_printed, show_print}
use Rattle.theory_session.proofs.laws_scripts.a_version_is_shown_as_printed.Goals as goal

pub returns-clause-run : goal.returns-clause-run
returns-clause-run g c =
    let m = g.D.Meant.meanings in
    let one = loose_1 ∷ [] in (
      one,
      created_step m [] loose_creation loose_model loose_1 loose_spelled refl loose_1_fits,
      (
        one,
        (ap (shown (codes "m") 1) (sym loose_1_printed), refl),
        (one, (refl, refl), (one, (refl, refl), (one, (refl, refl), (one, (refl, refl), refl)))),
      ),
    )

pub returns-clause-print : goal.returns-clause-print
returns-clause-print g c = show_print
