use Rattle.std.proofs.Common.{[], ◌∷◌, refl, arith}
use Rattle.theory_session.specs.WorkedDesk.{bare_creation, bare_edit, bare_1, bare_2}
use Rattle.theory_session.proofs.ScriptLaws.{created_step, edited_step, failed_step}
use Rattle.theory_session.proofs.WorkedLaws.{bare_spelled, bare_ops, bare_edit_spelled, keeper_print}
use Rattle.theory_session.proofs.laws_scripts.a_failed_edit_is_sent_again.Goals as goal

pub returns-clause-keeper : goal.returns-clause-keeper
returns-clause-keeper g c =
    let m = g.D.Meant.meanings in
    let one = bare_1 ∷ [] in (
      one,
      created_step m [] bare_creation bare_1.lines bare_1 bare_spelled refl (omega arith),
      (
        one,
        failed_step m one bare_edit bare_ops bare_2 bare_edit_spelled refl refl (omega arith),
        (bare_1 ∷ bare_2 ∷ [], edited_step m one bare_edit bare_ops bare_2 bare_edit_spelled refl refl (omega arith), refl),
      ),
    )

pub returns-clause-memory : goal.returns-clause-memory
returns-clause-memory g c =
    let m = g.D.Meant.meanings in
    let one = bare_1 ∷ [] in (
      one,
      created_step m [] bare_creation bare_1.lines bare_1 bare_spelled refl (omega arith),
      (one, refl, (bare_1 ∷ bare_2 ∷ [], edited_step m one bare_edit bare_ops bare_2 bare_edit_spelled refl refl (omega arith), refl)),
    )

pub returns-clause-print : goal.returns-clause-print
returns-clause-print g c = keeper_print
