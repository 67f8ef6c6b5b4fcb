use Rattle.std.proofs.Common.{[], ◌∷◌, refl}
use Rattle.theory_session.specs.Reading.{spelled}
use Rattle.theory_session.specs.WorkedDesk.{bare_1, bare_2}
use Rattle.theory_session.proofs.WorkedLaws.{bare_spelled, longer_lines, longer_spelled}
use Rattle.theory_session.proofs.laws_scripts.ids_are_used_once_in_a_model.Goals as goal

pub returns : goal.returns
returns g c =
    let both = bare_1 ∷ bare_2 ∷ [] in (
      both,
      (spelled bare_1.lines, bare_spelled, (refl, refl)),
      (
        both,
        (refl, refl),
        (
          both,
          (spelled longer_lines, longer_spelled, (refl, refl)),
          (
            both,
            (refl, refl),
            (both, (spelled bare_1.lines, bare_spelled, (refl, refl)), refl),
          ),
        ),
      ),
    )
