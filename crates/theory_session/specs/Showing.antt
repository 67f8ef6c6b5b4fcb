-- Why a version isn't shown.
use Rattle.std.specs.Prelude.{ℕ}

-- in the order of the checks; where the model has no such version, with the number of its last one
pub data ShowRefusal : Type 0 where
  no_model : ShowRefusal
  no_version : ℕ → ShowRefusal
