-- The place of a byte, found by going over the bytes before it.
use Rattle.std.proofs.Common.{◌≡◌, ℕ, ◌+◌, ◌≤◌, ◌==◌, List}
use Rattle.std.specs.Prelude.{count_by}
use Rattle.theory_grammar.specs.TextFault.{column_from}

-- line and column of the first byte of the rest
pub record IsPlaced (i line column : ℕ) (rest bytes : List ℕ) : Type 0 where
  pub lines : line + count_by (λ b. b == 10) rest ≡ count_by (λ b. b == 10) bytes + 1
  pub columns : column_from column rest ≡ column_from 1 bytes
  pub line_bound : line ≤ i + 1
  pub column_bound : column ≤ i + 1
