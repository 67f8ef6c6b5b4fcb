-- How many signs stand open at once in a printed form: `(`, `[`, prefix `-` and `not`, each until its operand ends.
use Rattle.std.specs.Prelude.{ℕ, suc, max, pos, int_lt, Bool, true, false, not}
use Rattle.theory_meaning.specs.Tree.{Expr, number, symbol, sum, difference, opposite, product, quotient, power, Claim, Claims, always, never, atom, negation, conjunction, disjunction, implication, equivalence, none, more, Line, equation, assume, claim}
use Rattle.theory_meaning.specs.Text.{Op, put_line, drop_key}
use Rattle.theory_grammar.specs.Printed.{is_term, is_factor, is_primary, is_divisor, is_conjunct, is_disjunct, is_premise, is_side}

-- one sign more, of the brackets that are left out where the test holds
abbrev pub one_more_unless : Bool → ℕ → ℕ
one_more_unless true n = n
one_more_unless false n = suc n

-- the most signs that stand open at once in an expression
abbrev pub open_in_expr : Expr → ℕ
open_in_expr (number q) = one_more_unless (not (int_lt q.num (pos 0))) 0
open_in_expr (symbol name) = 0
open_in_expr (sum u v) = max (open_in_expr u) (one_more_unless (is_term v) (open_in_expr v))
open_in_expr (difference u v) = max (open_in_expr u) (one_more_unless (is_term v) (open_in_expr v))
open_in_expr (opposite u) = suc (one_more_unless (is_factor u) (open_in_expr u))
open_in_expr (product u v) = max (one_more_unless (is_term u) (open_in_expr u)) (one_more_unless (is_factor v) (open_in_expr v))
open_in_expr (quotient u v) = max (one_more_unless (is_term u) (open_in_expr u)) (one_more_unless (is_divisor v) (open_in_expr v))
open_in_expr (power u k) = one_more_unless (is_primary u) (open_in_expr u)

abbrev mutual
  -- the most that stand open at once in a claim
  pub open_in_claim : Claim → ℕ
  open_in_claim always = 0
  open_in_claim never = 0
  open_in_claim (atom u rel v) = max (open_in_expr u) (open_in_expr v)
  open_in_claim (negation c) = suc (one_more_unless (is_conjunct c) (open_in_claim c))
  open_in_claim (conjunction cs) = open_in_conjuncts cs
  open_in_claim (disjunction cs) = open_in_disjuncts cs
  open_in_claim (implication a b) = max (one_more_unless (is_premise a) (open_in_claim a)) (one_more_unless (is_side b) (open_in_claim b))
  open_in_claim (equivalence a b) = max (one_more_unless (is_side a) (open_in_claim a)) (one_more_unless (is_side b) (open_in_claim b))

  -- in the members of a conjunction
  pub open_in_conjuncts : Claims → ℕ
  open_in_conjuncts none = 0
  open_in_conjuncts (more c cs) = max (one_more_unless (is_conjunct c) (open_in_claim c)) (open_in_conjuncts cs)

  -- in the members of a disjunction
  pub open_in_disjuncts : Claims → ℕ
  open_in_disjuncts none = 0
  open_in_disjuncts (more c cs) = max (one_more_unless (is_disjunct c) (open_in_claim c)) (open_in_disjuncts cs)

-- the most that stand open at once in a line
abbrev pub open_in_line : Line → ℕ
open_in_line (equation label u v) = max (open_in_expr u) (open_in_expr v)
open_in_line (assume label c) = open_in_claim c
open_in_line (claim label shift c) = open_in_claim c
open_in_line _ = 0

-- the most that stand open at once in an edit
abbrev pub open_in_op : Op → ℕ
open_in_op (put_line line) = open_in_line line
open_in_op (drop_key key) = 0
