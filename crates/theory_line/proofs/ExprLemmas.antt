-- Behind a part of an expression the machine reads on as the code does.
use Rattle.std.proofs.Common.{◌≡◌, ℕ, suc, ◌<◌, Bool, true, List, [], ◌∷◌, length, All, Ok, Err, refl, sym, ap, subst, ◌∙◌, pos, arith, rules, tests}
use Rattle.std.proofs.lemmas.List.{length-map}
use Rattle.theory_meaning.specs.Fraction.{whole}
use Rattle.theory_meaning.specs.Tree.{Expr}
use Rattle.theory_meaning.specs.Tree as plain
use Rattle.theory_grammar.specs.declared.words.Mark.TheVariants as sign
use Rattle.theory_grammar.specs.declared.words.LineFaultKind.{LineFaultKind}
use Rattle.theory_grammar.specs.declared.words.LineFaultKind.TheVariants.{Unexpected, Deep}
use Rattle.theory_grammar.specs.Token.{Token, number, mark}
use Rattle.theory_grammar.specs.Scan.{IsFit}
use Rattle.theory_grammar.specs.Spelled.{every, has_room}
use Rattle.theory_grammar.specs.Machine.{State, Left, plus, minus, Place, Context, gate, and_then}
use Rattle.theory_grammar.specs.Machine as m
use Rattle.theory_line.specs.Reading.{Reading, stopped, reading, Parses, LeavesFit}
use Rattle.theory_line.specs.Behind.{in_sum, behind_term, behind_expr}
use Rattle.theory_line.specs.Exprs.{NotMark, NotNumber, NotLower, NotLiteral, addition_mark, multiplication_mark, summed, multiplied, wanted, Answer, ParsesTerm, ParsesNext, ParsesLiteral, PutTogether, Closes}
use Rattle.theory_line.specs.declared.fault.ParseFault.TheVariants.{At, Memory}
use Rattle.theory_line.specs.declared.front.Addition.{Addition}
use Rattle.theory_line.specs.declared.front.Addition.TheVariants.{Plus, Minus}
use Rattle.theory_line.specs.declared.front.Multiplication.{Multiplication}
use Rattle.theory_line.specs.declared.front.Multiplication.TheVariants.{Times, Over}
use Rattle.theory_syntax.specs.Plain.{expr_of}
use Rattle.theory_tokens.specs.declared.token.Token as source
use Rattle.theory_tokens.specs.Plain.{plain_token, plain_tokens}
use Rattle.theory_line.proofs.FitLemmas.{fit_behind}
use Rattle.theory_line.proofs.ParsesLemmas.{one_fewer, put_together, fault_passed}

-- the terms so far are this sum, and so many tokens are left
pub record IsSummed (tokens rest : List source.Token) (depth : ℕ) (x : Expr) : Type 0 where
  pub read : (o : List Place) (ctx : Context) → reading (m.operand (m.fresh depth) o ctx) (plain_tokens tokens) ≡ behind_term x depth o ctx (plain_tokens rest)
  pub shorter : length rest < length tokens
  pub fit : All IsFit (plain_tokens rest)

-- a fault is what reading stopped by
unexpected_is_read : (n : ℕ) (kind : LineFaultKind) (left : ℕ) → At kind left ≡ At Unexpected n → stopped Unexpected n ≡ stopped kind left
unexpected_is_read n kind left h = cc

-- the factors so far are this product
pub record IsMultiplied (tokens rest : List source.Token) (depth : ℕ) (x : Expr) : Type 0 where
  pub read : (s : Left) (o : List Place) (ctx : Context)
      → reading (m.operand (in_sum s depth) o ctx) (plain_tokens tokens) ≡ reading (m.term x (in_sum s depth) o ctx) (plain_tokens rest)
  pub shorter : length rest < length tokens
  pub fit : All IsFit (plain_tokens rest)

-- where no power follows, a primary is a factor
pub primary_ends : (x : Expr) (p : Place) (o : List Place) (ctx : Context) (ts : List Token) → NotMark sign.Power ts
    → reading (m.closed x p o ctx) ts ≡ reading (m.factored x p o ctx) ts
primary_ends x p o ctx [] h = refl
primary_ends x p o ctx (mark sign.Power ∷ ts) h = absurd (h refl)
primary_ends x p o ctx (t ∷ ts) h = refl

-- the left side of a sum or of a difference
abbrev pub left_of : Addition → Expr → Left
left_of Plus x = plus x
left_of Minus x = minus x

-- behind a sign of a sum a term is read on the right
sum_goes : (how : Addition) (x : Expr) (d : ℕ) (o : List Place) (ctx : Context) (ts : List Token)
    → behind_term x d o ctx (mark (addition_mark how) ∷ ts) ≡ reading (m.operand (in_sum (left_of how x) d) o ctx) ts
sum_goes Plus x d o ctx ts = refl
sum_goes Minus x d o ctx ts = refl

next_term : (how : Addition) (x : Expr) (d : ℕ) (o : List Place) (ctx : Context) (ts : List source.Token) (next : Answer) → ParsesTerm d ts next
    → Parses expr_of (reading (m.operand (in_sum (left_of how x) d) o ctx) (plain_tokens ts)) (λ y rest. behind_term (summed how x y) d o ctx rest) ts next
next_term Plus x d o ctx ts next h = h (plus x) o ctx
next_term Minus x d o ctx ts next h = h (minus x) o ctx

pub sum_step : (how : Addition) (x : Expr) (d : ℕ) (o : List Place) (ctx : Context) (rest behind : List source.Token) (next result : Answer)
    → plain_tokens rest ≡ mark (addition_mark how) ∷ plain_tokens behind → ParsesTerm d behind next → PutTogether (summed how x) next result
    → Parses expr_of (behind_term x d o ctx (plain_tokens rest)) (λ z left. behind_term z d o ctx left) rest result
sum_step how x d o ctx rest behind next result is told put =
    let fewer = one_fewer _ behind rest is in
    put_together (summed how x) _ _ (λ z left. behind_term z d o ctx left) rest behind next result
    (ap (behind_term x d o ctx) is ∙ sum_goes how x d o ctx (plain_tokens behind)) (omega (arith, fewer))
    (next_term how x d o ctx behind next told) put

-- behind a sign of a product a factor or a divisor is read on the right
product_goes : (how : Multiplication) (x : Expr) (s : Left) (d : ℕ) (o : List Place) (ctx : Context) (ts : List Token)
    → reading (m.term x (in_sum s d) o ctx) (mark (multiplication_mark how) ∷ ts) ≡ reading (wanted how x (in_sum s d) o ctx) ts
product_goes Times x s d o ctx ts = refl
product_goes Over x s d o ctx ts = refl

pub product_step : (how : Multiplication) (x : Expr) (s : Left) (d : ℕ) (o : List Place) (ctx : Context) (rest behind : List source.Token)
    (next result : Answer) → plain_tokens rest ≡ mark (multiplication_mark how) ∷ plain_tokens behind → ParsesNext d how behind next → PutTogether (multiplied how x) next result
    → Parses expr_of (reading (m.term x (in_sum s d) o ctx) (plain_tokens rest)) (λ z left. reading (m.term z (in_sum s d) o ctx) left) rest result
product_step how x s d o ctx rest behind next result is told put =
    let fewer = one_fewer _ behind rest is in
    put_together (multiplied how x) _ _ (λ z left. reading (m.term z (in_sum s d) o ctx) left) rest behind next result
    (ap (reading (m.term x (in_sum s d) o ctx)) is ∙ product_goes how x s d o ctx (plain_tokens behind)) (omega (arith, fewer)) (told x s o ctx) put

-- a factor that is no literal and has no minus is read as a divisor
whole_over : (n : ℕ) (p : Place) (o : List Place) (ctx : Context) (ts : List Token) → NotNumber ts
    → reading (m.below n p o ctx) ts ≡ reading (m.divisor (m.over (m.settled p (plain.number (whole (pos n)))) p) o ctx) ts
whole_over n p o ctx [] h = refl
whole_over n p o ctx (number k ∷ ts) h = absurd h
whole_over n p o ctx (t ∷ ts) h = refl

whole_closes : (n : ℕ) (p : Place) (o : List Place) (ctx : Context) (ts : List Token) → NotLower ts
    → reading (m.integer n p o ctx) ts ≡ reading (m.closed (plain.number (whole (pos n))) p o ctx) ts
whole_closes n p o ctx [] h = refl
whole_closes n p o ctx (mark sign.Over ∷ ts) h = whole_over n p o ctx ts h
whole_closes n p o ctx (t ∷ ts) h = refl

pub as_divisor : (p : Place) (o : List Place) (ctx : Context) (ts : List Token) → NotMark sign.Minus ts → NotLiteral ts
    → reading (m.operand p o ctx) ts ≡ reading (m.divisor p o ctx) ts
as_divisor p o ctx [] h k = refl
as_divisor p o ctx (mark sign.Minus ∷ ts) h k = absurd (h refl)
as_divisor p o ctx (number n ∷ ts) h k = whole_closes n p o ctx ts k
as_divisor p o ctx (t ∷ ts) h k = refl

-- one more sign may open behind less than 32
has_room-true : (d : ℕ) → d < 32 → has_room every d ≡ true
has_room-true d h = search (rules, tests)

-- where a gate is open the machine goes on, and else the token is at fault
opens : (b : Bool) (st : State) (ts : List Token) → b ≡ true
    → and_then (gate b Deep st) (λ st'. reading st' ts) (λ kind. stopped kind (suc (length ts))) ≡ reading st ts
opens b st ts h = ap (λ (x : Bool). and_then (gate x Deep st) (λ st'. reading st' ts) (λ kind. stopped kind (suc (length ts)))) h

pub minus_opens : (p : Place) (o : List Place) (ctx : Context) (ts : List Token) → p.depth < 32
    → reading (m.operand p o ctx) (mark sign.Minus ∷ ts) ≡ reading (m.operand (m.opposed p) o ctx) ts
minus_opens p o ctx ts h = opens (has_room every p.depth) (m.operand (m.opposed p) o ctx) ts (has_room-true p.depth h)

pub bracket_opens : (p : Place) (o : List Place) (ctx : Context) (ts : List Token) → p.depth < 32
    → reading (m.divisor p o ctx) (mark sign.Open ∷ ts) ≡ reading (m.operand (m.fresh (suc p.depth)) (p ∷ o) ctx) ts
bracket_opens p o ctx ts h =
    opens (has_room every p.depth) (m.operand (m.fresh (suc p.depth)) (p ∷ o) ctx) ts (has_room-true p.depth h)

-- behind a fraction literal the tokens are fit
pub literal_fit : (n k : ℕ) (ts : List source.Token) (result : Answer) → ParsesLiteral n k ts result → All IsFit (plain_tokens ts) → LeavesFit result
literal_fit n k ts (Ok (x, rest)) h fit = subst (λ (us : List source.Token). All IsFit (plain_tokens us)) (sym h.2) fit
literal_fit n k ts (Err fault) h fit = tt

-- an expression up to its closing bracket
unclosed : (x : Expr) (p : Place) (o : List Place) (ctx : Context) (ts : List Token) → NotMark sign.Close ts
    → behind_expr x (p ∷ o) ctx ts ≡ stopped Unexpected (length ts)
unclosed x p o ctx [] h = refl
unclosed x p o ctx (mark sign.Close ∷ ts) h = absurd (h refl)
unclosed x p o ctx (t ∷ ts) h = refl

pub bracket_closes : (from : Reading) (p : Place) (o : List Place) (ctx : Context) (tokens : List source.Token) (next result : Answer)
    → Parses expr_of from (λ x rest. behind_expr x (p ∷ o) ctx rest) tokens next → Closes next result
    → Parses expr_of from (λ x rest. reading (m.closed x p o ctx) rest) tokens result
bracket_closes from p o ctx tokens (Ok (y, behind)) (Ok (z, rest)) told h =
    let fewer = one_fewer _ rest.now behind.now h.1 in (
      told.0 ∙ ap (behind_expr (expr_of y) (p ∷ o) ctx) h.1 ∙ ap (λ x. reading (m.closed x p o ctx) (plain_tokens rest.now)) (sym h.0),
      omega (arith, fewer, told.1),
    )
bracket_closes from p o ctx tokens (Ok (y, behind)) (Err (At kind left)) told h =
    told.0 ∙ unclosed (expr_of y) p o ctx (plain_tokens behind.now) h.0 ∙ ap (stopped Unexpected) (length-map behind.now plain_token)
    ∙ unexpected_is_read (length behind.now) kind left h.1
bracket_closes from p o ctx tokens (Ok (y, behind)) (Err Memory) told h = tt
bracket_closes from p o ctx tokens (Err fault) (Ok (z, rest)) told h = absurd h
bracket_closes from p o ctx tokens (Err fault) (Err passed) told h =
    fault_passed expr_of from from (λ x rest. reading (m.closed x p o ctx) rest) tokens fault (Err passed) h refl told

pub closes_fit : (next result : Answer) → Closes next result → LeavesFit next → LeavesFit result
closes_fit (Ok (y, behind)) (Ok (z, rest)) h fit = fit_behind _ _ _ h.1 fit
closes_fit next (Err fault) h fit = tt
closes_fit (Err fault) (Ok (z, rest)) h fit = absurd h
