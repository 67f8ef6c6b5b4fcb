-- Bytes cut into lines, for the clauses of private functions.
use Rattle.std.specs.Prelude.{◌≡◌, ℕ, ◌+◌, ◌<◌, not, ◌==◌, List, ◌∷◌, ◌++◌, length, IsTrue, Result, Ok, Err}
use Rattle.theory_grammar.specs.declared.text_kind.TextKind.TheVariants.{BadToken}
use Rattle.theory_grammar.specs.OneLine.{has_no_feed, in_line_1}
use Rattle.theory_grammar.specs.Runs.{IsRun}
use Rattle.theory_grammar.specs.TextFault.{cut_lines}
use Rattle.theory_text.specs.declared.error.TextError.{TextError}
use Rattle.theory_text.specs.Answers.{fault_of}

-- the bytes before the first line feed, and those from it on
abbrev pub IsBeforeFeed : List ℕ → List ℕ → List ℕ → Type 0
IsBeforeFeed = IsRun (λ b. not (b == 10))

-- the first line, and bytes whose lines are the others
pub record CutsFirst (line behind bytes : List ℕ) : Type 0 where
  pub lines : cut_lines bytes ≡ line ∷ cut_lines behind
  pub shorter : length behind < length bytes

-- the error tells the first line feed
pub record TellsFeed (bytes : List ℕ) (e : TextError) : Type 0 where
  pub before : List ℕ
  pub behind : List ℕ
  pub split : bytes ≡ before ++ 10 ∷ behind
  pub none : IsTrue (has_no_feed before)
  pub told : fault_of e ≡ in_line_1 BadToken (length before + 1)

-- no line feed stands among the bytes, or the error tells the first
abbrev pub IsWithoutFeed : {V : Type 0} → List ℕ → V → Result V TextError → Type 0
IsWithoutFeed bytes read (Ok v) = (v ≡ read) × IsTrue (has_no_feed bytes)
IsWithoutFeed bytes read (Err e) = TellsFeed bytes e
