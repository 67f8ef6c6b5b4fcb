-- What a sink tells.
use Rattle.std.specs.Prelude.{ℕ, List, Option}

-- what a sink tells: the bytes taken so far, where they are told, and how often a write failed
pub record SinkTold : Type 0 where
  pub held : Option (List ℕ)
  pub faults : ℕ
