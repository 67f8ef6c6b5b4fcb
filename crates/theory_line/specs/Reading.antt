-- What the machine of the grammar's laws makes of tokens from a state on, for the clauses of private functions.
use Rattle.std.specs.Prelude.{◌≡◌, ℕ, suc, All, ◌<◌, List, [], ◌∷◌, length, Option, None, Some, Result, Ok, Err}
use Rattle.std.specs.Borrow.{Bor}
use Rattle.theory_meaning.specs.Tree.{Line}
use Rattle.theory_grammar.specs.declared.words.LineFaultKind.{LineFaultKind}
use Rattle.theory_grammar.specs.declared.words.LineFaultKind.TheVariants.{Unexpected}
use Rattle.theory_grammar.specs.Scan.{IsFit}
use Rattle.theory_grammar.specs.Token.{Token}
use Rattle.theory_grammar.specs.Spelled.{every}
use Rattle.theory_grammar.specs.Machine.{State, Move, step, ended, and_then}
use Rattle.theory_line.specs.declared.fault.ParseFault.{ParseFault}
use Rattle.theory_line.specs.declared.fault.ParseFault.TheVariants.{At, Memory}
use Rattle.theory_tokens.specs.declared.token.Token as source
use Rattle.theory_tokens.specs.Plain.{plain_tokens}

-- a line, or a fault with so many tokens from the one at fault on
pub data Reading : Type 0 where
  whole : Line → Reading
  stopped : LineFaultKind → ℕ → Reading

-- the end of the tokens
abbrev pub at_end : Option Line → Reading
at_end (Some line) = whole line
at_end None = stopped Unexpected 0

-- a state goes on with the tokens, and a refused token is at fault
abbrev pub reading : State → List Token → Reading
reading st [] = at_end (ended st)
reading st (t ∷ ts) = and_then (step every st t) (λ st'. reading st' ts) (λ kind. stopped kind (suc (length ts)))

-- the tokens behind one that was tried
abbrev pub reading_on : Move → List Token → Reading
reading_on move ts = and_then move (λ st. reading st ts) (λ kind. stopped kind (suc (length ts)))

-- behind a part: the whole is read as what stands behind it, or stops as told
abbrev pub Parses : {V T : Type 0} → (V → T) → Reading → (T → List Token → Reading) → List source.Token
    → Result (V × Bor (List source.Token)) ParseFault → Type 0
Parses tree from_here behind tokens (Ok (v, rest)) = (from_here ≡ behind (tree v) (plain_tokens rest.now)) × (length rest.now < length tokens)
Parses tree from_here behind tokens (Err (At kind left)) = from_here ≡ stopped kind left
Parses tree from_here behind tokens (Err Memory) = Unit {0}

-- the tokens that are left are fit
abbrev pub LeavesFit : {V : Type 0} → Result (V × Bor (List source.Token)) ParseFault → Type 0
LeavesFit (Ok (v, rest)) = All IsFit (plain_tokens rest.now)
LeavesFit (Err fault) = Unit {0}
