-- Which steps of the machine depend on which limits.
use Rattle.std.specs.Prelude.{◌||◌, ◌&&◌, nat_le, nat_lt, pos}
use Rattle.std.proofs.Common.{◌≡◌, ℕ, Bool, true, false, List, [], ◌∷◌, Option, None, Some, Ok, Err, refl}
use Rattle.theory_meaning.specs.declared.words.Rel.{Rel}
use Rattle.theory_meaning.specs.declared.words.Rel.TheVariants as rel
use Rattle.theory_meaning.specs.Fraction.{whole}
use Rattle.theory_meaning.specs.Point.{Name}
use Rattle.theory_meaning.specs.Tree.{Expr, Claim}
use Rattle.theory_meaning.specs.Tree as plain
use Rattle.theory_grammar.specs.declared.words.Keyword.TheVariants as word
use Rattle.theory_grammar.specs.declared.words.Mark.TheVariants as sign
use Rattle.theory_grammar.specs.declared.words.LineFaultKind.{LineFaultKind}
use Rattle.theory_grammar.specs.declared.words.LineFaultKind.TheVariants.{Unexpected, ZeroBelow, Exponent, Deep}
use Rattle.theory_grammar.specs.Token.{Token, keyword, name, dotted, number, mark, relation}
use Rattle.theory_grammar.specs.Spelled.{every}
use Rattle.theory_grammar.specs.Machine.{State, start, Place, ClaimPlace, Heading, Context, left_of_equation, right_of_equation, left_of_atom, right_of_atom, Move, gate, step}
use Rattle.theory_grammar.specs.Machine as m
use Rattle.theory_grammar.proofs.Following.{lets, only_if, Agrees}

-- a step that no limit bounds
abbrev IsPlain : Move → Type 0
IsPlain (Ok st) = Unit {0}
IsPlain (Err Unexpected) = Unit {0}
IsPlain (Err _) = ⊥

agrees_plain : (move : Move) → IsPlain move → Agrees move (λ limits. move)
agrees_plain (Ok st) h = λ limits. refl
agrees_plain (Err Unexpected) h = (start, λ limits. refl)
agrees_plain (Err ZeroBelow) h = elim h [ ]
agrees_plain (Err Exponent) h = elim h [ ]
agrees_plain (Err Deep) h = elim h [ ]

plain_name : (next : Name → State) (t : Token) → IsPlain (m.at_name next t)
plain_name next (name x) = tt
plain_name next _ = tt

plain_colon : (next : State) (t : Token) → IsPlain (m.at_colon next t)
plain_colon next (mark sign.Colon) = tt
plain_colon next _ = tt

plain_of : (f : Name) (t : Token) → IsPlain (m.at_of f t)
plain_of f (keyword word.Of) = tt
plain_of f _ = tt

plain_by : (label : Name) (t : Token) → IsPlain (m.at_by label t)
plain_by label (keyword word.By) = tt
plain_by label (mark sign.Colon) = tt
plain_by label _ = tt

plain_start : (t : Token) → IsPlain (m.at_start t)
plain_start (keyword word.Model) = tt
plain_start _ = tt

plain_second : (other : Option Claim) (st : State) → IsPlain (m.second_side other st)
plain_second None st = tt
plain_second (Some b) st = tt

plain_close : (c : Claim) (h : Heading) (qs : List ClaimPlace) → IsPlain (m.close_claim c h qs)
plain_close c h [] = tt
plain_close c h (q ∷ qs) = tt

plain_claim : (c : Claim) (h : Heading) (q : ClaimPlace) (qs : List ClaimPlace) (t : Token) → IsPlain (m.after_claim c h q qs t)
plain_claim c h q qs (keyword word.Iff) = plain_second q.other (m.want_claim h (m.behind_iff q c) qs)
plain_claim c h q qs (mark sign.CloseSquare) = plain_close (m.whole_claim q c) h qs
plain_claim c h q qs _ = tt

plain_sign : (label : Name) (x : Expr) (r : Rel) → IsPlain (m.equation_sign label x r)
plain_sign label x rel.Eq = tt
plain_sign label x _ = tt

plain_expr : (x : Expr) (ctx : Context) (t : Token) → IsPlain (m.after_expr x ctx t)
plain_expr x (left_of_equation label) (relation r) = plain_sign label x r
plain_expr x (left_of_equation label) _ = tt
plain_expr y (right_of_equation label x) t = tt
plain_expr x (left_of_atom h q qs) (relation r) = tt
plain_expr x (left_of_atom h q qs) _ = tt
plain_expr y (right_of_atom x r h q qs) t = plain_claim (plain.atom x r y) h q qs t

plain_close_expr : (x : Expr) (t : Token) (o : List Place) (ctx : Context) → IsPlain (m.close_expr x t o ctx)
plain_close_expr x t [] ctx = plain_expr x ctx t
plain_close_expr x (mark sign.Close) (p ∷ o) ctx = tt
plain_close_expr x _ (p ∷ o) ctx = tt

plain_term : (x : Expr) (p : Place) (o : List Place) (ctx : Context) (t : Token) → IsPlain (m.after_term x p o ctx t)
plain_term x p o ctx (mark sign.Times) = tt
plain_term x p o ctx (mark sign.Over) = tt
plain_term x p o ctx (mark sign.Plus) = tt
plain_term x p o ctx (mark sign.Minus) = tt
plain_term x p o ctx t = plain_close_expr (m.joined p.sum x) t o ctx

plain_closed : (x : Expr) (p : Place) (o : List Place) (ctx : Context) (t : Token) → IsPlain (m.after_closed x p o ctx t)
plain_closed x p o ctx (mark sign.Power) = tt
plain_closed x p o ctx t = plain_term (m.settled p x) (m.reset p) o ctx t

plain_integer : (n : ℕ) (p : Place) (o : List Place) (ctx : Context) (t : Token) → IsPlain (m.after_integer n p o ctx t)
plain_integer n p o ctx (mark sign.Over) = tt
plain_integer n p o ctx t = plain_closed (plain.number (whole (pos n))) p o ctx t

-- what is open within a limit is open without it
through : (b : Bool) (kind : LineFaultKind) (st : State) → gate (b || true) kind st ≡ Ok st
through true kind st = refl
through false kind st = refl

by_limit : (b : Bool) (kind : LineFaultKind) (st : State) → gate (b || false) kind st ≡ only_if b kind st
by_limit true kind st = refl
by_limit false kind st = refl

agrees_gate : (kind : LineFaultKind) (b : Bool) (st : State) → Agrees (gate b kind st) (λ limits. gate (lets limits kind || b) kind st)
agrees_gate kind true st = λ limits. through (lets limits kind) kind st
agrees_gate kind false st = (st, λ limits. by_limit (lets limits kind) kind st)

agrees_operand : (p : Place) (o : List Place) (ctx : Context) (t : Token) → Agrees (m.at_operand every p o ctx t) (λ limits. m.at_operand limits p o ctx t)
agrees_operand p o ctx (mark sign.Minus) = agrees_gate Deep (nat_lt p.depth 32) (m.operand (m.opposed p) o ctx)
agrees_operand p o ctx (mark sign.Open) = agrees_gate Deep (nat_lt p.depth 32) _
agrees_operand p o ctx (number n) = λ limits. refl
agrees_operand p o ctx (name x) = λ limits. refl
agrees_operand p o ctx (dotted x) = λ limits. refl
agrees_operand p o ctx _ = (start, λ limits. refl)

agrees_claim : (h : Heading) (q : ClaimPlace) (qs : List ClaimPlace) (t : Token) → Agrees (m.at_claim every h q qs t) (λ limits. m.at_claim limits h q qs t)
agrees_claim h q qs (keyword word.True) = λ limits. refl
agrees_claim h q qs (keyword word.False) = λ limits. refl
agrees_claim h q qs (keyword word.Not) = agrees_gate Deep (nat_lt q.depth 32) _
agrees_claim h q qs (mark sign.OpenSquare) = agrees_gate Deep (nat_lt q.depth 32) _
agrees_claim h q qs t = agrees_operand (m.fresh q.depth) [] (left_of_atom h q qs) t

agrees_exponent : (x : Expr) (p : Place) (o : List Place) (ctx : Context) (t : Token)
    → Agrees (m.at_exponent every x p o ctx t) (λ limits. m.at_exponent limits x p o ctx t)
agrees_exponent x p o ctx (number k) = agrees_gate Exponent (nat_le 1 k && nat_le k 8) _
agrees_exponent x p o ctx _ = (start, λ limits. refl)

agrees_divisor : (p : Place) (o : List Place) (ctx : Context) (t : Token) → Agrees (m.at_divisor every p o ctx t) (λ limits. m.at_divisor limits p o ctx t)
agrees_divisor p o ctx (mark sign.Open) = agrees_gate Deep (nat_lt p.depth 32) _
agrees_divisor p o ctx (number n) = λ limits. refl
agrees_divisor p o ctx (name x) = λ limits. refl
agrees_divisor p o ctx (dotted x) = λ limits. refl
agrees_divisor p o ctx _ = (start, λ limits. refl)

agrees_below : (n : ℕ) (p : Place) (o : List Place) (ctx : Context) (t : Token)
    → Agrees (m.at_below every n p o ctx t) (λ limits. m.at_below limits n p o ctx t)
agrees_below n p o ctx (number k) = agrees_gate ZeroBelow (nat_lt 0 k) _
agrees_below n p o ctx t = agrees_divisor (m.over (m.settled p (plain.number (whole (pos n)))) p) o ctx t

-- each step agrees with the steps within fewer limits
pub agrees : (st : State) (t : Token) → Agrees (step every st t) (λ limits. step limits st t)
agrees m.start t = agrees_plain _ (plain_start t)
agrees m.name_of_model t = agrees_plain _ (plain_name (λ x. m.finished (plain.model x)) t)
agrees m.name_of_var t = agrees_plain _ (plain_name (λ x. m.finished (plain.var x)) t)
agrees m.name_of_param t = agrees_plain _ (plain_name (λ x. m.finished (plain.param x)) t)
agrees m.name_of_function t = agrees_plain _ (plain_name m.word_of t)
agrees (m.word_of f) t = agrees_plain _ (plain_of f t)
agrees (m.first_argument f) t = agrees_plain _ (plain_name _ t)
agrees (m.arguments f xs) t = agrees_plain _ (plain_name _ t)
agrees m.label_of_equation t = agrees_plain _ (plain_name m.colon_of_equation t)
agrees (m.colon_of_equation label) t = agrees_plain _ (plain_colon _ t)
agrees m.label_of_assumption t = agrees_plain _ (plain_name _ t)
agrees m.label_of_claim t = agrees_plain _ (plain_name m.by_or_colon t)
agrees (m.by_or_colon label) t = agrees_plain _ (plain_by label t)
agrees (m.name_of_shift label) t = agrees_plain _ (plain_name _ t)
agrees (m.colon h) t = agrees_plain _ (plain_colon _ t)
agrees (m.finished line) t = (start, λ limits. refl)
agrees (m.want_claim h q qs) t = agrees_claim h q qs t
agrees (m.have_claim c h q qs) t = agrees_plain _ (plain_claim c h q qs t)
agrees (m.operand p o ctx) t = agrees_operand p o ctx t
agrees (m.integer n p o ctx) t = agrees_plain _ (plain_integer n p o ctx t)
agrees (m.closed x p o ctx) t = agrees_plain _ (plain_closed x p o ctx t)
agrees (m.exponent x p o ctx) t = agrees_exponent x p o ctx t
agrees (m.below n p o ctx) t = agrees_below n p o ctx t
agrees (m.divisor p o ctx) t = agrees_divisor p o ctx t
agrees (m.term x p o ctx) t = agrees_plain _ (plain_term x p o ctx t)
