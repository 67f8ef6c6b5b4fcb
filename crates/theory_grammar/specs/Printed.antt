-- The printed forms of fractions, expressions, claims, lines and edits. docs/MODEL_TEXT.md has them in words.
use Rattle.std.specs.Prelude.{ℕ, pos, Bool, true, false, not, ◌&&◌, ◌==◌, int_lt, List, [], ◌∷◌, ◌++◌, Option, None, Some, codes, decimal}
use Rattle.theory_meaning.specs.declared.words.Rel.{Rel}
use Rattle.theory_meaning.specs.declared.words.Rel.TheVariants.{Eq}
use Rattle.theory_meaning.specs.Point.{Name}
use Rattle.theory_meaning.specs.Printed.{fraction_text}
use Rattle.theory_meaning.specs.Tree.{Expr, number, symbol, sum, difference, opposite, product, quotient, power, Claim, always, never, atom, negation, conjunction, disjunction, implication, equivalence, Claims, none, more, Line, model, var, param, function, equation, assume, claim}
use Rattle.theory_meaning.specs.Text.{Op, put_line, drop_key}
use Rattle.theory_grammar.specs.Signs.{relation_bytes}

-- a sign that is left out where the test holds
abbrev pub unless : Bool → List ℕ → List ℕ
unless true sign = []
unless false sign = sign

-- round brackets, left out where the test holds
abbrev pub round_unless : Bool → List ℕ → List ℕ
round_unless bare bs = unless bare (codes "(") ++ bs ++ unless bare (codes ")")

-- square brackets, left out where the test holds
abbrev pub square_unless : Bool → List ℕ → List ℕ
square_unless bare bs = unless bare (codes "[") ++ bs ++ unless bare (codes "]")

-- an expression that stands as a term: no sum or difference
abbrev pub is_term : Expr → Bool
is_term (sum u v) = false
is_term (difference u v) = false
is_term _ = true

-- one that stands as a factor: no product either
abbrev pub is_factor : Expr → Bool
is_factor (product u v) = false
is_factor (quotient u v) = false
is_factor e = is_term e

-- one that stands as a primary: a name, or a whole number that isn't negative
abbrev pub is_primary : Expr → Bool
is_primary (number q) = (q.less == 0) && not (int_lt q.num (pos 0))
is_primary (symbol name) = true
is_primary _ = false

-- one that stands as a power: a primary, or a power
abbrev pub is_power : Expr → Bool
is_power (power u k) = true
is_power e = is_primary e

-- whether the printed form of an expression begins with a digit
abbrev pub begins_with_digit : Expr → Bool
begins_with_digit (number q) = not (int_lt q.num (pos 0))
begins_with_digit (symbol name) = false
begins_with_digit (sum u v) = begins_with_digit u
begins_with_digit (difference u v) = begins_with_digit u
begins_with_digit (opposite u) = false
begins_with_digit (product u v) = is_term u && begins_with_digit u
begins_with_digit (quotient u v) = is_term u && begins_with_digit u
begins_with_digit (power u k) = is_primary u && begins_with_digit u

-- one that stands as a divisor: a power that doesn't begin with a digit
abbrev pub is_divisor : Expr → Bool
is_divisor e = is_power e && not (begins_with_digit e)

-- an expression, with brackets only where the grammar needs them for the same tree, and around a divisor that begins with a digit
abbrev pub expr_text : Expr → List ℕ
expr_text (number q) = fraction_text q
expr_text (symbol name) = name
expr_text (sum u v) = expr_text u ++ codes " + " ++ round_unless (is_term v) (expr_text v)
expr_text (difference u v) = expr_text u ++ codes " - " ++ round_unless (is_term v) (expr_text v)
expr_text (opposite u) = codes "-" ++ round_unless (is_factor u) (expr_text u)
expr_text (product u v) = round_unless (is_term u) (expr_text u) ++ codes "*" ++ round_unless (is_factor v) (expr_text v)
expr_text (quotient u v) = round_unless (is_term u) (expr_text u) ++ codes "/" ++ round_unless (is_divisor v) (expr_text v)
expr_text (power u k) = round_unless (is_primary u) (expr_text u) ++ codes "^" ++ decimal k

-- two sides with a relation between them
abbrev pub sides_text : Expr → Rel → Expr → List ℕ
sides_text u rel v = expr_text u ++ codes " " ++ relation_bytes rel ++ codes " " ++ expr_text v

-- a claim that stands as a member of a conjunction, or behind `not`
abbrev pub is_conjunct : Claim → Bool
is_conjunct (conjunction cs) = false
is_conjunct (disjunction cs) = false
is_conjunct (implication a b) = false
is_conjunct (equivalence a b) = false
is_conjunct _ = true

-- one that stands as a member of a disjunction
abbrev pub is_disjunct : Claim → Bool
is_disjunct (conjunction cs) = true
is_disjunct c = is_conjunct c

-- one that stands before `implies`
abbrev pub is_premise : Claim → Bool
is_premise (disjunction cs) = true
is_premise c = is_disjunct c

-- one that stands behind `implies`, or beside `iff`
abbrev pub is_side : Claim → Bool
is_side (equivalence a b) = false
is_side _ = true

-- each part behind the word
abbrev pub further : List ℕ → List (List ℕ) → List ℕ
further word [] = []
further word (part ∷ parts) = word ++ part ++ further word parts

-- the parts with the word between them; a list of none, which no text has, has a form of its own
abbrev pub joined : List ℕ → List ℕ → List (List ℕ) → List ℕ
joined empty word [] = empty
joined empty word (part ∷ parts) = part ++ further word parts

abbrev mutual
  -- a claim, with brackets only where the grammar needs them for the same tree
  pub claim_text : Claim → List ℕ
  claim_text always = codes "true"
  claim_text never = codes "false"
  claim_text (atom u rel v) = sides_text u rel v
  claim_text (negation c) = codes "not " ++ square_unless (is_conjunct c) (claim_text c)
  claim_text (conjunction cs) = joined (codes "true") (codes " and ") (conjuncts cs)
  claim_text (disjunction cs) = joined (codes "false") (codes " or ") (disjuncts cs)
  claim_text (implication a b) = square_unless (is_premise a) (claim_text a) ++ codes " implies " ++ square_unless (is_side b) (claim_text b)
  claim_text (equivalence a b) = square_unless (is_side a) (claim_text a) ++ codes " iff " ++ square_unless (is_side b) (claim_text b)

  -- the members of a conjunction
  pub conjuncts : Claims → List (List ℕ)
  conjuncts none = []
  conjuncts (more c cs) = square_unless (is_conjunct c) (claim_text c) ∷ conjuncts cs

  -- the members of a disjunction
  pub disjuncts : Claims → List (List ℕ)
  disjuncts none = []
  disjuncts (more c cs) = square_unless (is_disjunct c) (claim_text c) ∷ disjuncts cs

-- the parameter that a claim shifts
abbrev pub shift_text : Option Name → List ℕ
shift_text None = []
shift_text (Some p) = codes " by " ++ p

-- a line, without a line feed
abbrev pub line_text : Line → List ℕ
line_text (model name) = codes "model " ++ name
line_text (var x) = codes "var " ++ x
line_text (param p) = codes "param " ++ p
line_text (function f arguments) = codes "fun " ++ f ++ codes " of" ++ further (codes " ") arguments
line_text (equation label u v) = codes "eq " ++ label ++ codes ": " ++ sides_text u Eq v
line_text (assume label c) = codes "assume " ++ label ++ codes ": " ++ claim_text c
line_text (claim label shift c) = codes "claim " ++ label ++ shift_text shift ++ codes ": " ++ claim_text c

-- lines, each ended by a line feed
abbrev pub text_of : List Line → List ℕ
text_of [] = []
text_of (line ∷ lines) = line_text line ++ 10 ∷ text_of lines

-- an edit, without a line feed
abbrev pub op_text : Op → List ℕ
op_text (put_line line) = codes "put " ++ line_text line
op_text (drop_key key) = codes "drop " ++ key
