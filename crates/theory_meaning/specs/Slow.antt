-- The plain trees and points that the slow program's own trees and points stand for.
use Rattle.std.specs.Prelude.{List, map}
use Rattle.theory_meaning.specs.Fraction.{Fraction}
use Rattle.theory_meaning.specs.Point.{Name, Point}
use Rattle.theory_meaning.specs.Tree as plain
use Rattle.theory_meaning.specs.declared.slow.fractions.Number.{Number}
use Rattle.theory_meaning.specs.declared.slow.values.Entry.{Entry}
use Rattle.theory_meaning.specs.declared.slow.values.Expr.{Expr}
use Rattle.theory_meaning.specs.declared.slow.values.Expr.TheOpen.{Expr-F}
use Rattle.theory_meaning.specs.declared.slow.values.Expr.TheFolds.{fold-Expr}
use Rattle.theory_meaning.specs.declared.slow.truths.Claim.{Claim}
use Rattle.theory_meaning.specs.declared.slow.truths.Claim.TheOpen.{Claim-F}
use Rattle.theory_meaning.specs.declared.slow.truths.Claim.TheFolds.{fold-Claim}

-- the fraction of a number
abbrev pub number_of : Number → Fraction
number_of q = record { num = q.num; less = q.less }

-- a name with its fraction
abbrev pub entry_of : Entry → Name × Fraction
entry_of entry = (entry.name.items, number_of entry.value)

-- a point, entry by entry
abbrev pub point_of : List Entry → Point
point_of = map entry_of

-- one node of an expression, with the tree of each child in its place
abbrev pub expr_step : Expr-F plain.Expr → plain.Expr
expr_step (Expr-F.Number q) = plain.number (number_of q)
expr_step (Expr-F.Symbol name) = plain.symbol name.items
expr_step (Expr-F.Sum u v) = plain.sum u.value v.value
expr_step (Expr-F.Difference u v) = plain.difference u.value v.value
expr_step (Expr-F.Opposite u) = plain.opposite u.value
expr_step (Expr-F.Product u v) = plain.product u.value v.value
expr_step (Expr-F.Power u k) = plain.power u.value k

-- an expression
abbrev pub expr_of : Expr → plain.Expr
expr_of = fold-Expr plain.Expr expr_step

-- one node of a claim, with the tree of each child in its place
abbrev pub claim_step : Claim-F plain.Claim → plain.Claim
claim_step Claim-F.Always = plain.always
claim_step Claim-F.Never = plain.never
claim_step (Claim-F.Atom u rel v) = plain.atom (expr_of u) rel (expr_of v)
claim_step (Claim-F.Negation c) = plain.negation c.value
claim_step (Claim-F.Conjunction cs) = plain.conjunction (plain.claims_from cs.items)
claim_step (Claim-F.Disjunction cs) = plain.disjunction (plain.claims_from cs.items)
claim_step (Claim-F.Implication a b) = plain.implication a.value b.value
claim_step (Claim-F.Equivalence a b) = plain.equivalence a.value b.value

-- a claim
abbrev pub claim_of : Claim → plain.Claim
claim_of = fold-Claim plain.Claim claim_step

-- a list of claims
abbrev pub claims_of : List Claim → plain.Claims
claims_of cs = plain.claims_from (map claim_of cs)
