-- Bytes of a kind that stand first in a row.
use Rattle.std.specs.Prelude.{◌≡◌, ℕ, Bool, false, ◌&&◌, ◌==◌, List, [], ◌∷◌, ◌++◌, IsTrue}
use Rattle.std.specs.List.{list_all}
use Rattle.theory_meaning.specs.Identifier.{is_letter}

-- the first byte, if any, passes the test
abbrev pub first_passes : (ℕ → Bool) → List ℕ → Bool
first_passes test [] = false
first_passes test (b ∷ bs) = test b

-- the bytes that pass a test, as far as they go on, and the bytes behind them
pub record IsRun (test : ℕ → Bool) (run rest bytes : List ℕ) : Type 0 where
  pub whole : bytes ≡ run ++ rest
  pub pass : IsTrue (list_all test run)
  pub ends : first_passes test rest ≡ false

-- a dot and then a letter, which would make a dotted name of the word before
abbrev pub begins_a_dotted_part : List ℕ → Bool
begins_a_dotted_part [] = false
begins_a_dotted_part (b ∷ bs) = (b == 46) && first_passes is_letter bs
