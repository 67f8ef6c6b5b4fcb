-- What tokens were read as, and why they weren't.
use Rattle.std.specs.Prelude.{◌≡◌, ℕ, ◌+◌, List, length, Result, Ok, Err}
use Rattle.theory_grammar.specs.declared.words.LineFaultKind.{LineFaultKind}
use Rattle.theory_grammar.specs.Token.{Token}
use Rattle.theory_grammar.specs.Spelled.{every}
use Rattle.theory_grammar.specs.LineFault.{Grammar, FirstFault}
use Rattle.theory_line.specs.declared.fault.ParseFault.{ParseFault}
use Rattle.theory_line.specs.declared.fault.ParseFault.TheVariants.{At, Memory}

-- the first fault, given by the number of tokens from the one at fault on
pub record FaultLeaves {T : Type 0} (Spells : Grammar T) (tokens : List Token) (kind : LineFaultKind) (left : ℕ) : Type 0 where
  pub place : ℕ
  pub counted : place + left ≡ length tokens
  pub first : FirstFault Spells tokens kind place

-- the tokens spell the tree, or this is their first fault, or memory ran out
abbrev pub IsParsed : {V T : Type 0} → Grammar T → (V → T) → List Token → Result V ParseFault → Type 0
IsParsed Spells tree tokens (Ok v) = Spells every tokens (tree v)
IsParsed Spells tree tokens (Err (At kind left)) = FaultLeaves Spells tokens kind left
IsParsed Spells tree tokens (Err Memory) = Unit {0}
