-- What is found of the uses of names in a formula.
use Rattle.std.specs.Prelude.{◌≡◌, ℕ, ◌+◌, ◌<◌, ◌||◌, false, List, length, take, drop, Some}
use Rattle.std.specs.List.{list_any}
use Rattle.theory_meaning.specs.Declarations.{Use, parts_of}
use Rattle.theory_meaning.specs.ModelFault.{is_unknown, is_unfit, is_derivative, is_slope, is_unknown_use, is_unfit_use, is_derivative_use, is_slope_use}
use Rattle.theory_meaning.specs.Point.{Name}
use Rattle.theory_meaning.specs.Text as text
use Rattle.theory_model.specs.declared.uses.Findings.{Findings as Found}

-- what is found of some symbols in a text
abbrev pub found_in : List text.Numbered → List Name → Found
found_in lines symbols =
    record {
      unknown = list_any (is_unknown lines) symbols;
      unfit = list_any (is_unfit lines) symbols;
      derivative = list_any is_derivative symbols;
      slope = list_any is_slope symbols;
    }

-- nothing is found
abbrev pub nothing_found : Found
nothing_found = record { unknown = false; unfit = false; derivative = false; slope = false }

-- what is found of one use
abbrev pub found_of_use : List text.Numbered → Use → Found
found_of_use lines u =
    record { unknown = is_unknown_use lines u; unfit = is_unfit_use lines u; derivative = is_derivative_use u; slope = is_slope_use u }

-- what is found of either
abbrev pub found_of_both : Found → Found → Found
found_of_both f g =
    record { unknown = f.unknown || g.unknown; unfit = f.unfit || g.unfit; derivative = f.derivative || g.derivative; slope = f.slope || g.slope }

-- the first dot of a name stands at this place
pub record IsDotAt (k : ℕ) (name : Name) : Type 0 where
  pub within : k < length name
  pub parts : parts_of name ≡ Some (take k name, drop (k + 1) name)
