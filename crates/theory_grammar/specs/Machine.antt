-- A machine that reads the tokens of a line one by one. The laws of the grammar are proved by it, and functions that no other
-- crate calls are told by it; no public clause rests on it.
use Rattle.std.specs.Prelude.{ℕ, suc, pos, Bool, true, false, List, [], ◌∷◌, ◌++◌, Option, None, Some, Result, Ok, Err}
use Rattle.theory_meaning.specs.declared.words.Rel.{Rel}
use Rattle.theory_meaning.specs.declared.words.Rel.TheVariants as rel
use Rattle.theory_meaning.specs.Fraction.{whole}
use Rattle.theory_meaning.specs.Point.{Name}
use Rattle.theory_meaning.specs.Tree.{Expr, Claim, Line}
use Rattle.theory_meaning.specs.Tree as plain
use Rattle.theory_grammar.specs.declared.words.Keyword.TheVariants as word
use Rattle.theory_grammar.specs.declared.words.Mark.TheVariants as sign
use Rattle.theory_grammar.specs.declared.words.LineFaultKind.{LineFaultKind}
use Rattle.theory_grammar.specs.declared.words.LineFaultKind.TheVariants.{Unexpected, ZeroBelow, Exponent, Deep}
use Rattle.theory_grammar.specs.Token.{Token, keyword, name, dotted, number, mark, relation}
use Rattle.theory_grammar.specs.Spelled.{Limits, has_room, is_exponent, is_below, lowest}
pub use Rattle.theory_grammar.specs.Places.{Left, alone, plus, minus, Product, leading, to_multiply, to_divide, Place, fresh, opposed, reset, times, over, behind, opposites, multiplied, joined, settled}
pub use Rattle.theory_grammar.specs.ClaimPlaces.{ClaimPlace, fresh_claim, denied, negations, all_conjuncts, all_disjuncts, premise, implied, side, paired, whole_claim, behind_and, behind_or, behind_implies, behind_iff}

-- the line that a claim is a part of
pub data Heading : Type 0 where
  assumption : Name → Heading
  assertion : Name → Option Name → Heading

-- what an expression is a part of
pub data Context : Type 0 where
  left_of_equation : Name → Context
  right_of_equation : Name → Expr → Context
  left_of_atom : Heading → ClaimPlace → List ClaimPlace → Context
  right_of_atom : Expr → Rel → Heading → ClaimPlace → List ClaimPlace → Context

-- how far a line was read
pub data State : Type 0 where
  start : State
  name_of_model : State
  name_of_var : State
  name_of_param : State
  name_of_function : State
  word_of : Name → State
  first_argument : Name → State
  arguments : Name → List Name → State
  label_of_equation : State
  colon_of_equation : Name → State
  label_of_assumption : State
  label_of_claim : State
  by_or_colon : Name → State
  name_of_shift : Name → State
  colon : Heading → State
  finished : Line → State
  want_claim : Heading → ClaimPlace → List ClaimPlace → State
  have_claim : Claim → Heading → ClaimPlace → List ClaimPlace → State
  operand : Place → List Place → Context → State
  integer : ℕ → Place → List Place → Context → State
  closed : Expr → Place → List Place → Context → State
  exponent : Expr → Place → List Place → Context → State
  below : ℕ → Place → List Place → Context → State
  divisor : Place → List Place → Context → State
  term : Expr → Place → List Place → Context → State

-- a state, or why there is none
abbrev pub Move : Type 0
Move = Result State LineFaultKind

-- the state where the test holds
abbrev pub gate : Bool → LineFaultKind → State → Move
gate true kind st = Ok st
gate false kind st = Err kind

-- no line goes on so
abbrev pub unexpected : Move
unexpected = Err Unexpected

-- a claim in brackets goes on where there is one place more
abbrev pub close_claim : Claim → Heading → List ClaimPlace → Move
close_claim c h [] = unexpected
close_claim c h (q ∷ qs) = Ok (have_claim c h q qs)

-- an `iff` goes on where there was none
abbrev pub second_side : Option Claim → State → Move
second_side None st = Ok st
second_side (Some b) st = unexpected

-- what follows a claim
abbrev pub after_claim : Claim → Heading → ClaimPlace → List ClaimPlace → Token → Move
after_claim c h q qs (keyword word.And) = Ok (want_claim h (behind_and q c) qs)
after_claim c h q qs (keyword word.Or) = Ok (want_claim h (behind_or q c) qs)
after_claim c h q qs (keyword word.Implies) = Ok (want_claim h (behind_implies q c) qs)
after_claim c h q qs (keyword word.Iff) = second_side q.other (want_claim h (behind_iff q c) qs)
after_claim c h q qs (mark sign.CloseSquare) = close_claim (whole_claim q c) h qs
after_claim c h q qs _ = unexpected

-- the sign between the sides of an equation
abbrev pub equation_sign : Name → Expr → Rel → Move
equation_sign label x rel.Eq = Ok (operand (fresh 0) [] (right_of_equation label x))
equation_sign label x _ = unexpected

-- what follows the left side of an equation
abbrev pub after_left : Name → Expr → Token → Move
after_left label x (relation r) = equation_sign label x r
after_left label x _ = unexpected

-- what follows the left side of a comparison
abbrev pub after_compared : Expr → Heading → ClaimPlace → List ClaimPlace → Token → Move
after_compared x h q qs (relation r) = Ok (operand (fresh q.depth) [] (right_of_atom x r h q qs))
after_compared x h q qs _ = unexpected

-- what follows a whole expression
abbrev pub after_expr : Expr → Context → Token → Move
after_expr x (left_of_equation label) t = after_left label x t
after_expr y (right_of_equation label x) t = unexpected
after_expr x (left_of_atom h q qs) t = after_compared x h q qs t
after_expr y (right_of_atom x r h q qs) t = after_claim (plain.atom x r y) h q qs t

-- a closing bracket
abbrev pub close_expr : Expr → Token → List Place → Context → Move
close_expr x t [] ctx = after_expr x ctx t
close_expr x (mark sign.Close) (p ∷ o) ctx = Ok (closed x p o ctx)
close_expr x _ (p ∷ o) ctx = unexpected

-- what follows a term
abbrev pub after_term : Expr → Place → List Place → Context → Token → Move
after_term x p o ctx (mark sign.Times) = Ok (operand (times x p) o ctx)
after_term x p o ctx (mark sign.Over) = Ok (divisor (over x p) o ctx)
after_term x p o ctx (mark sign.Plus) = Ok (operand (behind (plus (joined p.sum x)) p) o ctx)
after_term x p o ctx (mark sign.Minus) = Ok (operand (behind (minus (joined p.sum x)) p) o ctx)
after_term x p o ctx t = close_expr (joined p.sum x) t o ctx

-- the state behind a factor
abbrev pub factored : Expr → Place → List Place → Context → State
factored x p o ctx = term (settled p x) (reset p) o ctx

-- what follows a primary
abbrev pub after_closed : Expr → Place → List Place → Context → Token → Move
after_closed x p o ctx (mark sign.Power) = Ok (exponent x p o ctx)
after_closed x p o ctx t = after_term (settled p x) (reset p) o ctx t

-- what follows a number where a factor may begin
abbrev pub after_integer : ℕ → Place → List Place → Context → Token → Move
after_integer n p o ctx (mark sign.Over) = Ok (below n p o ctx)
after_integer n p o ctx t = after_closed (plain.number (whole (pos n))) p o ctx t

-- what follows `^`
abbrev pub at_exponent : Limits → Expr → Place → List Place → Context → Token → Move
at_exponent limits x p o ctx (number k) = gate (is_exponent limits k) Exponent (factored (plain.power x k) p o ctx)
at_exponent limits x p o ctx _ = unexpected

-- the first token of a divisor, a number also where it ends no literal
abbrev pub at_divisor : Limits → Place → List Place → Context → Token → Move
at_divisor limits p o ctx (mark sign.Open) = gate (has_room limits p.depth) Deep (operand (fresh (suc p.depth)) (p ∷ o) ctx)
at_divisor limits p o ctx (number n) = Ok (closed (plain.number (whole (pos n))) p o ctx)
at_divisor limits p o ctx (name x) = Ok (closed (plain.symbol x) p o ctx)
at_divisor limits p o ctx (dotted x) = Ok (closed (plain.symbol x) p o ctx)
at_divisor limits p o ctx _ = unexpected

-- behind a number and `/`: the second number of a literal, or a divisor of the term that ends with the number
abbrev pub at_below : Limits → ℕ → Place → List Place → Context → Token → Move
at_below limits m p o ctx (number n) = gate (is_below limits n) ZeroBelow (factored (plain.number (lowest m n)) p o ctx)
at_below limits m p o ctx t = at_divisor limits (over (settled p (plain.number (whole (pos m)))) p) o ctx t

-- the first token of a factor
abbrev pub at_operand : Limits → Place → List Place → Context → Token → Move
at_operand limits p o ctx (mark sign.Minus) = gate (has_room limits p.depth) Deep (operand (opposed p) o ctx)
at_operand limits p o ctx (mark sign.Open) = gate (has_room limits p.depth) Deep (operand (fresh (suc p.depth)) (p ∷ o) ctx)
at_operand limits p o ctx (number n) = Ok (integer n p o ctx)
at_operand limits p o ctx (name x) = Ok (closed (plain.symbol x) p o ctx)
at_operand limits p o ctx (dotted x) = Ok (closed (plain.symbol x) p o ctx)
at_operand limits p o ctx _ = unexpected

-- where a claim is to begin
abbrev pub at_claim : Limits → Heading → ClaimPlace → List ClaimPlace → Token → Move
at_claim limits h q qs (keyword word.True) = Ok (have_claim plain.always h q qs)
at_claim limits h q qs (keyword word.False) = Ok (have_claim plain.never h q qs)
at_claim limits h q qs (keyword word.Not) = gate (has_room limits q.depth) Deep (want_claim h (denied q) qs)
at_claim limits h q qs (mark sign.OpenSquare) = gate (has_room limits q.depth) Deep (want_claim h (fresh_claim (suc q.depth)) (q ∷ qs))
at_claim limits h q qs t = at_operand limits (fresh q.depth) [] (left_of_atom h q qs) t

-- the first word of a line
abbrev pub at_start : Token → Move
at_start (keyword word.Model) = Ok name_of_model
at_start (keyword word.Var) = Ok name_of_var
at_start (keyword word.Param) = Ok name_of_param
at_start (keyword word.Fun) = Ok name_of_function
at_start (keyword word.Eq) = Ok label_of_equation
at_start (keyword word.Assume) = Ok label_of_assumption
at_start (keyword word.Claim) = Ok label_of_claim
at_start _ = unexpected

-- a name that is wanted
abbrev pub at_name : (Name → State) → Token → Move
at_name next (name x) = Ok (next x)
at_name next _ = unexpected

-- a colon that is wanted
abbrev pub at_colon : State → Token → Move
at_colon next (mark sign.Colon) = Ok next
at_colon next _ = unexpected

-- the word behind the name of a function
abbrev pub at_of : Name → Token → Move
at_of f (keyword word.Of) = Ok (first_argument f)
at_of f _ = unexpected

-- the claim of a line is to begin
abbrev pub claim_of_line : Heading → State
claim_of_line h = want_claim h (fresh_claim 0) []

-- what follows the label of a claim
abbrev pub at_by : Name → Token → Move
at_by label (keyword word.By) = Ok (name_of_shift label)
at_by label t = at_colon (claim_of_line (assertion label None)) t

-- the state behind the next token
abbrev pub step : Limits → State → Token → Move
step limits start t = at_start t
step limits name_of_model t = at_name (λ x. finished (plain.model x)) t
step limits name_of_var t = at_name (λ x. finished (plain.var x)) t
step limits name_of_param t = at_name (λ x. finished (plain.param x)) t
step limits name_of_function t = at_name word_of t
step limits (word_of f) t = at_of f t
step limits (first_argument f) t = at_name (λ x. arguments f (x ∷ [])) t
step limits (arguments f xs) t = at_name (λ x. arguments f (xs ++ x ∷ [])) t
step limits label_of_equation t = at_name colon_of_equation t
step limits (colon_of_equation label) t = at_colon (operand (fresh 0) [] (left_of_equation label)) t
step limits label_of_assumption t = at_name (λ x. colon (assumption x)) t
step limits label_of_claim t = at_name by_or_colon t
step limits (by_or_colon label) t = at_by label t
step limits (name_of_shift label) t = at_name (λ x. colon (assertion label (Some x))) t
step limits (colon h) t = at_colon (claim_of_line h) t
step limits (finished line) t = unexpected
step limits (want_claim h q qs) t = at_claim limits h q qs t
step limits (have_claim c h q qs) t = after_claim c h q qs t
step limits (operand p o ctx) t = at_operand limits p o ctx t
step limits (integer n p o ctx) t = after_integer n p o ctx t
step limits (closed x p o ctx) t = after_closed x p o ctx t
step limits (exponent x p o ctx) t = at_exponent limits x p o ctx t
step limits (below n p o ctx) t = at_below limits n p o ctx t
step limits (divisor p o ctx) t = at_divisor limits p o ctx t
step limits (term x p o ctx) t = after_term x p o ctx t

-- the line of a claim
abbrev pub line_with : Heading → Claim → Line
line_with (assumption label) c = plain.assume label c
line_with (assertion label shift) c = plain.claim label shift c

-- the line that ends with this claim, if one does
abbrev pub claim_ended : Claim → Heading → List ClaimPlace → Option Line
claim_ended c h [] = Some (line_with h c)
claim_ended c h (q ∷ qs) = None

-- the line that ends with this expression, if one does
abbrev pub expr_ended : Expr → List Place → Context → Option Line
expr_ended y [] (right_of_equation label x) = Some (plain.equation label x y)
expr_ended y [] (right_of_atom x r h q qs) = claim_ended (whole_claim q (plain.atom x r y)) h qs
expr_ended y _ _ = None

-- the line that ends in this state, if one does
abbrev pub ended : State → Option Line
ended (arguments f xs) = Some (plain.function f xs)
ended (finished line) = Some line
ended (have_claim c h q qs) = claim_ended (whole_claim q c) h qs
ended (integer n p o ctx) = expr_ended (joined p.sum (settled p (plain.number (whole (pos n))))) o ctx
ended (closed x p o ctx) = expr_ended (joined p.sum (settled p x)) o ctx
ended (term x p o ctx) = expr_ended (joined p.sum x) o ctx
ended _ = None

-- what becomes of the result of a step
abbrev pub and_then : {S A : Type 0} → Result S LineFaultKind → (S → A) → (LineFaultKind → A) → A
and_then (Ok st) f g = f st
and_then (Err kind) f g = g kind
