-- Counts that stand still at the greatest number of 64 bits.
use Rattle.std.specs.Prelude.{ℕ, ◌-◌, ◌^◌, min}

-- the count of this many
abbrev pub counted : ℕ → ℕ
counted n = min n (2 ^ 64 - 1)
