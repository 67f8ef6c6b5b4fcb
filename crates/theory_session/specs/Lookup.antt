-- What is looked up among the versions of a desk, which stand in the order in which they were accepted.
use Rattle.std.specs.Prelude.{ℕ, zero, suc, ◌==◌, List, length, map, filter, slice_get, Option, None, Some, if◌then◌else◌}
use Rattle.std.specs.Str.{bytes_eq}
use Rattle.theory_meaning.specs.Point.{Name}
use Rattle.theory_session.specs.Row.{Entry}

-- the versions of a model, version 1 first
abbrev pub versions_of : Name → List Entry → List Entry
versions_of model = filter (λ e. bytes_eq model e.row.model)

-- the number of the last version of a model, or 0 where there is no such model
abbrev pub last_version : Name → List Entry → ℕ
last_version model es = length (versions_of model es)

-- what stands at the place of this number, from 1
abbrev pub at_number : {T : Type 0} → ℕ → List T → Option T
at_number zero xs = None
at_number (suc k) xs = slice_get xs k

-- the version of this number
abbrev pub version_at : Name → ℕ → List Entry → Option Entry
version_at model version es = at_number version (versions_of model es)

-- the names of the models in the order of their creation
abbrev pub models_in : List Entry → List Name
models_in es = map (λ e. e.row.model) (filter (λ e. e.row.version == 1) es)

-- each model with the number of its last version
abbrev pub listed_in : List Entry → List (Name × ℕ)
listed_in es = map (λ model. (model, last_version model es)) (models_in es)

-- what is found of a version that is asked for; where the model has no such version, the number of its last one
pub data Found : Type 0 where
  unknown_model : Found
  unknown_version : ℕ → Found
  found : Entry → Found

-- the version of this number, the last where none is named
abbrev pub named_version : Name → Option ℕ → List Entry → Option Entry
named_version model None es = version_at model (last_version model es) es
named_version model (Some version) es = version_at model version es

-- the version that is there, or the number of the last one
abbrev pub found_or : ℕ → Option Entry → Found
found_or last None = unknown_version last
found_or last (Some e) = found e

-- what is found of the version of a model
abbrev pub find_version : Name → Option ℕ → List Entry → Found
find_version model version es =
    if last_version model es == 0 then unknown_model else found_or (last_version model es) (named_version model version es)
