-- What is read of the parts of a line, for the clauses of private functions.
use Rattle.std.specs.Prelude.{◌≡◌, List, [], ◌∷◌, None, Result, Ok, Err}
use Rattle.std.specs.Borrow.{Bor}
use Rattle.theory_meaning.specs.Point.{Name}
use Rattle.theory_meaning.specs.Tree.{Line, function}
use Rattle.theory_grammar.specs.declared.words.Mark.TheVariants as sign
use Rattle.theory_grammar.specs.Token.{Token, mark}
use Rattle.theory_grammar.specs.Spelled.{every}
use Rattle.theory_grammar.specs.Machine.{State, Move, Heading, step, ended, at_name, at_colon, finished, first_argument, claim_of_line, line_with}
use Rattle.theory_syntax.specs.declared.claim.Claim as node
use Rattle.theory_syntax.specs.Plain.{claim_of}
use Rattle.theory_tokens.specs.declared.token.Token as source
use Rattle.theory_tokens.specs.Plain.{plain_tokens}
use Rattle.theory_line.specs.declared.fault.ParseFault.{ParseFault}
use Rattle.theory_line.specs.declared.fault.ParseFault.TheVariants.{At, Memory}
use Rattle.theory_line.specs.Reading.{Reading, whole, stopped, reading, Parses}

-- this is the line that is read, or reading stops as told
abbrev pub IsReadAs : {V : Type 0} → (V → Line) → Reading → Result V ParseFault → Type 0
IsReadAs tree from (Ok v) = from ≡ whole (tree v)
IsReadAs tree from (Err (At kind left)) = from ≡ stopped kind left
IsReadAs tree from (Err Memory) = Unit {0}

-- at these tokens the state moves so, and no line ends there
pub record Moves (st : State) (move : Token → Move) (ts : List Token) : Type 0 where
  pub first : (t : Token) (us : List Token) → ts ≡ t ∷ us → step every st t ≡ move t
  pub unfinished : ts ≡ [] → ended st ≡ None

-- a name that is wanted, and the tokens behind it
abbrev pub ParsesName : List source.Token → Result (Name × Bor (List source.Token)) ParseFault → Type 0
ParsesName ts r = (st : State) (next : Name → State) → Moves st (at_name next) (plain_tokens ts) →
    Parses (λ x. x) (reading st (plain_tokens ts)) (λ x rest. reading (next x) rest) ts r

-- a name that is wanted with nothing behind it
abbrev pub ParsesLoneName : List source.Token → Result Name ParseFault → Type 0
ParsesLoneName ts r = (st : State) (make : Name → Line) → Moves st (at_name (λ x. finished (make x))) (plain_tokens ts) →
    IsReadAs make (reading st (plain_tokens ts)) r

-- the arguments of a function
abbrev pub ParsesArguments : List source.Token → Result (List Name) ParseFault → Type 0
ParsesArguments ts r = (f : Name) → IsReadAs (function f) (reading (first_argument f) (plain_tokens ts)) r

-- the tokens behind a colon that is wanted
abbrev pub PassesColon : List source.Token → Result (Bor (List source.Token)) ParseFault → Type 0
PassesColon ts (Ok rest) = plain_tokens ts ≡ mark sign.Colon ∷ plain_tokens rest.now
PassesColon ts (Err (At kind left)) = (st next : State) → Moves st (at_colon next) (plain_tokens ts) → reading st (plain_tokens ts) ≡ stopped kind left
PassesColon ts (Err Memory) = Unit {0}

-- nothing is left behind a whole line
abbrev pub Ends : List source.Token → Result Unit ParseFault → Type 0
Ends ts (Ok done) = ts ≡ []
Ends ts (Err (At kind left)) = (line : Line) → reading (finished line) (plain_tokens ts) ≡ stopped kind left
Ends ts (Err Memory) = Unit {0}

-- a claim behind a colon that is wanted, with nothing behind it
abbrev pub ParsesWhole : List source.Token → Result node.Claim ParseFault → Type 0
ParsesWhole ts r = (st : State) (h : Heading) → Moves st (at_colon (claim_of_line h)) (plain_tokens ts) →
    IsReadAs (λ c. line_with h (claim_of c)) (reading st (plain_tokens ts)) r
