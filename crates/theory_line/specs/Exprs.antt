-- What is read of each level of an expression, and which tokens stand first, for the clauses of private functions.
use Rattle.std.specs.Prelude.{◌≡◌, ◌≢◌, ℕ, suc, ◌+◌, ◌<◌, List, [], ◌∷◌, length, Result, Ok, Err}
use Rattle.std.specs.Borrow.{Bor}
use Rattle.theory_meaning.specs.Tree.{Expr}
use Rattle.theory_meaning.specs.Tree as plain
use Rattle.theory_grammar.specs.declared.words.Mark.{Mark}
use Rattle.theory_grammar.specs.declared.words.Mark.TheVariants as sign
use Rattle.theory_grammar.specs.declared.words.LineFaultKind.TheVariants.{Unexpected, ZeroBelow}
use Rattle.theory_grammar.specs.Spelled.{lowest}
use Rattle.theory_grammar.specs.Token.{Token, number, mark}
use Rattle.theory_grammar.specs.Machine.{State, Left, Place, Context, fresh, opposed, times, over, joined, operand, closed, exponent, divisor, term, factored}
use Rattle.theory_line.specs.declared.fault.ParseFault.{ParseFault}
use Rattle.theory_line.specs.declared.fault.ParseFault.TheVariants.{At, Memory}
use Rattle.theory_line.specs.declared.front.Addition.{Addition}
use Rattle.theory_line.specs.declared.front.Addition.TheVariants.{Plus, Minus}
use Rattle.theory_line.specs.declared.front.Multiplication.{Multiplication}
use Rattle.theory_line.specs.declared.front.Multiplication.TheVariants.{Times, Over}
use Rattle.theory_line.specs.Reading.{Parses, reading}
use Rattle.theory_line.specs.Behind.{in_sum, behind_term}
use Rattle.theory_syntax.specs.declared.expr.Expr as node
use Rattle.theory_syntax.specs.Plain.{expr_of}
use Rattle.theory_tokens.specs.declared.token.Token as source
use Rattle.theory_tokens.specs.Plain.{plain_tokens}

-- the mark of an addition
abbrev pub addition_mark : Addition → Mark
addition_mark Plus = sign.Plus
addition_mark Minus = sign.Minus

-- the mark of a multiplication
abbrev pub multiplication_mark : Multiplication → Mark
multiplication_mark Times = sign.Times
multiplication_mark Over = sign.Over

-- the mark between the numbers of a fraction literal
abbrev pub over_mark : Token
over_mark = mark sign.Over

-- this mark doesn't stand first
abbrev pub NotMark : Mark → List Token → Type 0
NotMark m [] = Unit {0}
NotMark m (mark k ∷ ts) = k ≢ m
NotMark m (t ∷ ts) = Unit {0}

-- neither a plus nor a minus stands first
abbrev pub NotSummed : List Token → Type 0
NotSummed ts = NotMark sign.Plus ts × NotMark sign.Minus ts

-- neither the sign of a product nor that of a quotient stands first
abbrev pub NotMultiplied : List Token → Type 0
NotMultiplied ts = NotMark sign.Times ts × NotMark sign.Over ts

-- no number stands first
abbrev pub NotNumber : List Token → Type 0
NotNumber (number n ∷ ts) = ⊥
NotNumber _ = Unit {0}

-- no mark of a fraction literal with a number behind it stands first
abbrev pub NotLower : List Token → Type 0
NotLower (mark sign.Over ∷ ts) = NotNumber ts
NotLower _ = Unit {0}

-- no fraction literal stands first
abbrev pub NotLiteral : List Token → Type 0
NotLiteral (number n ∷ ts) = NotLower ts
NotLiteral _ = Unit {0}

-- the sum or the difference
abbrev pub summed : Addition → Expr → Expr → Expr
summed Plus x y = plain.sum x y
summed Minus x y = plain.difference x y

-- the product or the quotient
abbrev pub multiplied : Multiplication → Expr → Expr → Expr
multiplied Times x y = plain.product x y
multiplied Over x y = plain.quotient x y

-- the state in which the factor or the divisor is wanted
abbrev pub wanted : Multiplication → Expr → Place → List Place → Context → State
wanted Times x p o ctx = operand (times x p) o ctx
wanted Over x p o ctx = divisor (over x p) o ctx

-- an expression and the tokens behind it, or a fault
abbrev pub Answer : Type 0
Answer = Result (node.Expr × Bor (List source.Token)) ParseFault

-- whatever stands before it, a term is read as what stands behind it, or stops as told
abbrev pub ParsesTerm : ℕ → List source.Token → Answer → Type 0
ParsesTerm d ts r = (s : Left) (o : List Place) (ctx : Context) →
    Parses expr_of (reading (operand (in_sum s d) o ctx) (plain_tokens ts)) (λ x rest. behind_term (joined s x) d o ctx rest) ts r

-- likewise a factor
abbrev pub ParsesFactor : ℕ → List source.Token → Answer → Type 0
ParsesFactor d ts r = (p : Place) (o : List Place) (ctx : Context) → p.depth ≡ d →
    Parses expr_of (reading (operand p o ctx) (plain_tokens ts)) (λ x rest. reading (factored x p o ctx) rest) ts r

-- likewise a factor behind a prefix minus
abbrev pub ParsesOpposite : ℕ → List source.Token → Answer → Type 0
ParsesOpposite d ts r = (p : Place) (o : List Place) (ctx : Context) → suc p.depth ≡ d →
    Parses expr_of (reading (operand (opposed p) o ctx) (plain_tokens ts)) (λ x rest. reading (factored x p o ctx) rest) ts r

-- likewise a factor behind `*` or a divisor behind `/`
abbrev pub ParsesNext : ℕ → Multiplication → List source.Token → Answer → Type 0
ParsesNext d how ts r = (x : Expr) (s : Left) (o : List Place) (ctx : Context) →
    Parses expr_of (reading (wanted how x (in_sum s d) o ctx) (plain_tokens ts)) (λ y rest. reading (term (multiplied how x y) (in_sum s d) o ctx) rest) ts r

-- likewise a divisor, which is a primary, perhaps with an exponent
abbrev pub ParsesDivisor : ℕ → List source.Token → Answer → Type 0
ParsesDivisor d ts r = (p : Place) (o : List Place) (ctx : Context) → p.depth ≡ d →
    Parses expr_of (reading (divisor p o ctx) (plain_tokens ts)) (λ x rest. reading (factored x p o ctx) rest) ts r

-- likewise a primary where a divisor may stand
abbrev pub ParsesPrimary : ℕ → List source.Token → Answer → Type 0
ParsesPrimary d ts r = (p : Place) (o : List Place) (ctx : Context) → p.depth ≡ d →
    Parses expr_of (reading (divisor p o ctx) (plain_tokens ts)) (λ x rest. reading (closed x p o ctx) rest) ts r

-- likewise an expression behind an open bracket
abbrev pub ParsesBracketed : ℕ → List source.Token → Answer → Type 0
ParsesBracketed d ts r = (p : Place) (o : List Place) (ctx : Context) →
    Parses expr_of (reading (operand (fresh d) (p ∷ o) ctx) (plain_tokens ts)) (λ x rest. reading (closed x p o ctx) rest) ts r

-- the fraction literal of these numbers with nothing of the tokens behind it, or a 0 below
abbrev pub ParsesLiteral : ℕ → ℕ → List source.Token → Answer → Type 0
ParsesLiteral m n ts (Ok (x, rest)) = (0 < n) × (expr_of x ≡ plain.number (lowest m n)) × (rest.now ≡ ts)
ParsesLiteral m n ts (Err fault) = (n ≡ 0) × (fault ≡ At ZeroBelow (length ts + 1))

-- likewise an exponent of this base
abbrev pub ParsesExponent : Expr → List source.Token → Answer → Type 0
ParsesExponent base ts r = (p : Place) (o : List Place) (ctx : Context) →
    Parses expr_of (reading (exponent base p o ctx) (plain_tokens ts)) (λ x rest. reading (factored x p o ctx) rest) ts r

-- the next part is put to what was read, or its fault is passed on
abbrev pub PutTogether : (Expr → Expr) → Answer → Answer → Type 0
PutTogether f (Ok (y, behind)) (Ok (z, rest)) = (expr_of z ≡ f (expr_of y)) × (rest ≡ behind)
PutTogether f (Ok (y, behind)) (Err fault) = fault ≡ Memory
PutTogether f (Err fault) (Ok (z, rest)) = ⊥
PutTogether f (Err fault) (Err passed) = passed ≡ fault

-- the next part ends with a closing bracket, or another token is at fault there, or the fault of the part is passed on
abbrev pub Closes : Answer → Answer → Type 0
Closes (Ok (y, behind)) (Ok (z, rest)) = (expr_of z ≡ expr_of y) × (plain_tokens behind.now ≡ mark sign.Close ∷ plain_tokens rest.now)
Closes (Ok (y, behind)) (Err fault) = NotMark sign.Close (plain_tokens behind.now) × (fault ≡ At Unexpected (length behind.now))
Closes (Err fault) (Ok (z, rest)) = ⊥
Closes (Err fault) (Err passed) = passed ≡ fault
