-- The first fault of the tokens of a line. docs/MODEL_TEXT.md has the kinds in words.
use Rattle.std.specs.Prelude.{◌≡◌, ◌⊎◌, ℕ, false, List, [], ◌∷◌, ◌++◌, length}
use Rattle.theory_grammar.specs.declared.words.LineFaultKind.{LineFaultKind}
use Rattle.theory_grammar.specs.declared.words.LineFaultKind.TheVariants.{Unexpected, ZeroBelow, Exponent, Deep}
use Rattle.theory_grammar.specs.Token.{Token}
use Rattle.theory_grammar.specs.Spelled.{Limits, every, unlimited}

-- which tokens spell which lines, or which edits
abbrev pub Grammar : Type 0 → Type 1
Grammar T = Limits → List Token → T → Type 0

-- the tokens begin something that is spelled within these limits
pub record CanGoOn {T : Type 0} (Spells : Grammar T) (limits : Limits) (tokens : List Token) : Type 0 where
  pub more : List Token
  pub tree : T
  pub spelled : Spells limits (tokens ++ more) tree

-- they still do with the next token, and where there is none they are whole
abbrev pub TakesNext : {T : Type 0} → Grammar T → Limits → List Token → List Token → Type 0
TakesNext {T = T} Spells limits before [] = (tree : T) × Spells limits before tree
TakesNext Spells limits before (t ∷ rest) = CanGoOn Spells limits (before ++ t ∷ [])

-- what is wrong with the next token: without all limits it isn't taken either, or without one limit it would be
abbrev pub IsKind : {T : Type 0} → Grammar T → LineFaultKind → List Token → List Token → Type 0
IsKind Spells Unexpected before rest = ¬ (TakesNext Spells unlimited before rest)
IsKind Spells ZeroBelow before rest = TakesNext Spells (record every { below = false }) before rest
IsKind Spells Exponent before rest = TakesNext Spells (record every { exponent = false }) before rest
IsKind Spells Deep before rest = TakesNext Spells (record every { depth = false }) before rest

-- so many tokens can go on and the next one can't, and why; the end of the list plays a last token
pub record FirstFault {T : Type 0} (Spells : Grammar T) (tokens : List Token) (kind : LineFaultKind) (place : ℕ) : Type 0 where
  pub before : List Token
  pub rest : List Token
  pub parts : tokens ≡ before ++ rest
  pub counted : place ≡ length before
  pub so_far : CanGoOn Spells every before
  pub stops : ¬ (TakesNext Spells every before rest)
  pub why : IsKind Spells kind before rest

-- tokens spell at most one tree
abbrev pub IsUnambiguous : {T : Type 0} → Grammar T → Type 0
IsUnambiguous {T = T} Spells = (tokens : List Token) (x y : T) → Spells every tokens x → Spells every tokens y → x ≡ y

-- tokens spell a tree or have a first fault
abbrev pub SpellsOrFails : {T : Type 0} → Grammar T → Type 0
SpellsOrFails {T = T} Spells =
    (tokens : List Token) → ((x : T) × Spells every tokens x) ⊎ ((kind : LineFaultKind) × (place : ℕ) × FirstFault Spells tokens kind place)

-- never both
abbrev pub NeverBoth : {T : Type 0} → Grammar T → Type 0
NeverBoth {T = T} Spells = (tokens : List Token) (x : T) (kind : LineFaultKind) (place : ℕ) → Spells every tokens x → ¬ (FirstFault Spells tokens kind place)

-- and they have at most one first fault
abbrev pub HasOneFault : {T : Type 0} → Grammar T → Type 0
HasOneFault Spells =
    (tokens : List Token) (kind other : LineFaultKind) (place elsewhere : ℕ) → FirstFault Spells tokens kind place →
    FirstFault Spells tokens other elsewhere → (kind ≡ other) × (place ≡ elsewhere)
