-- A scanned line as the reading that it stands for.
use Rattle.std.specs.Prelude.{◌≡◌, ℕ, ◌+◌, ◌-◌, ◌≤◌, false, List, [], ◌∷◌, length, All}
use Rattle.theory_grammar.specs.Runs.{first_passes}
use Rattle.theory_grammar.specs.Scan as plain
use Rattle.theory_grammar.specs.Scan.{is_blank, Placed, ReadsLine, Reads, IsFit}
use Rattle.theory_tokens.specs.declared.token.Token.{Token}
use Rattle.theory_tokens.specs.declared.line.End.{End}
use Rattle.theory_tokens.specs.declared.line.End.TheVariants.{Complete, Broken}
use Rattle.theory_tokens.specs.declared.line.Scanned.{Scanned}
use Rattle.theory_tokens.specs.Plain.{plain_token, plain_tokens}

-- tokens with their columns beside them
abbrev pub placed_of : List Token → List ℕ → List Placed
placed_of [] cs = []
placed_of (t ∷ ts) [] = []
placed_of (t ∷ ts) (c ∷ cs) = record { column = c; token = plain_token t } ∷ placed_of ts cs

-- how the line ends: behind its tokens, or at bytes that are none
abbrev pub end_of : End → plain.End
end_of (Complete c) = plain.complete c
end_of (Broken why c) = plain.broken why c

-- each token has a column, and the bytes of the line are read so
pub record IsScan (line : List ℕ) (s : Scanned) : Type 0 where
  pub even : length s.tokens.items ≡ length s.columns.items
  pub reads : ReadsLine line (placed_of s.tokens.items s.columns.items) (end_of s.end)

-- each of its names is an identifier, and each number within the bound of literals
abbrev pub HasFitTokens : Scanned → Type 0
HasFitTokens s = All IsFit (plain_tokens s.tokens.items)

-- what stands behind blanks at the front, where no further blank does
pub record IsBehindBlanks (rest bytes : List ℕ) : Type 0 where
  pub ends : first_passes is_blank rest ≡ false
  pub within : length rest ≤ length bytes
  pub reads : (c : ℕ) (ts : List Placed) (e : plain.End) → Reads (c + (length bytes - length rest)) rest ts e → Reads c bytes ts e
