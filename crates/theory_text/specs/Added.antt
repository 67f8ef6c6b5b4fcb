-- What one line adds to what was read, for the clauses of private functions.
use Rattle.std.specs.Prelude.{◌≡◌, ℕ, List, [], ◌∷◌, ◌++◌, Option, None, Some, Result, Ok, Err}
use Rattle.theory_grammar.specs.LineFault.{Grammar}
use Rattle.theory_grammar.specs.OneLine.{IsLineAs}
use Rattle.theory_text.specs.declared.error.TextError.{TextError}
use Rattle.theory_text.specs.LineRead.{TellsLineFault}

-- what is kept of the line of this number
abbrev pub kept : {T A : Type 0} → (ℕ → T → A) → ℕ → Option T → List A
kept keep n None = []
kept keep n (Some tree) = keep n tree ∷ []

-- the line is fine, and what is kept of it stands behind the rest
pub record AddsLine {T A : Type 0} (Spells : Grammar T) (keep : ℕ → T → A) (n : ℕ) (bytes : List ℕ) (before after : List A) : Type 0 where
  pub tree : Option T
  pub line : IsLineAs Spells bytes tree
  pub added : after ≡ before ++ kept keep n tree

-- the line is added, or the error tells its first fault
abbrev pub IsAdded : {T A : Type 0} → Grammar T → (ℕ → T → A) → ℕ → List ℕ → List A → List A → Result (Unit {0}) TextError → Type 0
IsAdded Spells keep n bytes before after (Ok _) = AddsLine Spells keep n bytes before after
IsAdded Spells keep n bytes before after (Err e) = TellsLineFault Spells n bytes e
