-- The plain trees that expressions, claims, lines and texts stand for.
use Rattle.std.specs.Prelude.{List, map}
use Rattle.theory_meaning.specs.Tree as plain
use Rattle.theory_meaning.specs.Text as text
use Rattle.theory_syntax.specs.declared.expr.Expr.{Expr}
use Rattle.theory_syntax.specs.declared.expr.Expr.TheOpen.{Expr-F}
use Rattle.theory_syntax.specs.declared.expr.Expr.TheFolds.{fold-Expr}
use Rattle.theory_syntax.specs.declared.claim.Claim.{Claim}
use Rattle.theory_syntax.specs.declared.claim.Claim.TheOpen.{Claim-F}
use Rattle.theory_syntax.specs.declared.claim.Claim.TheFolds.{fold-Claim}
use Rattle.theory_syntax.specs.declared.line.Line as source
use Rattle.theory_syntax.specs.declared.text.Numbered.{Numbered}
use Rattle.theory_syntax.specs.declared.text.Op as change

-- one node, with the tree of each child in its place
abbrev pub expr_step : Expr-F plain.Expr → plain.Expr
expr_step (Expr-F.Num q) = plain.number q
expr_step (Expr-F.Sym name) = plain.symbol name
expr_step (Expr-F.Sum u v) = plain.sum u.value v.value
expr_step (Expr-F.Diff u v) = plain.difference u.value v.value
expr_step (Expr-F.Neg u) = plain.opposite u.value
expr_step (Expr-F.Prod u v) = plain.product u.value v.value
expr_step (Expr-F.Pow u k) = plain.power u.value k
expr_step (Expr-F.Quot u v) = plain.quotient u.value v.value

-- an expression
abbrev pub expr_of : Expr → plain.Expr
expr_of = fold-Expr plain.Expr expr_step

-- one node of a claim, with the tree of each child in its place
abbrev pub claim_step : Claim-F plain.Claim → plain.Claim
claim_step Claim-F.True = plain.always
claim_step Claim-F.False = plain.never
claim_step (Claim-F.Atom u rel v) = plain.atom (expr_of u) rel (expr_of v)
claim_step (Claim-F.Not c) = plain.negation c.value
claim_step (Claim-F.And cs) = plain.conjunction (plain.claims_from cs.items)
claim_step (Claim-F.Or cs) = plain.disjunction (plain.claims_from cs.items)
claim_step (Claim-F.Implies a b) = plain.implication a.value b.value
claim_step (Claim-F.Iff a b) = plain.equivalence a.value b.value

-- a claim
abbrev pub claim_of : Claim → plain.Claim
claim_of = fold-Claim plain.Claim claim_step

-- a list of claims
abbrev pub claims_of : List Claim → List plain.Claim
claims_of = map claim_of

-- the members of a conjunction or a disjunction
abbrev pub members_of : List Claim → plain.Claims
members_of cs = plain.claims_from (claims_of cs)

-- a line
abbrev pub line_of : source.Line → plain.Line
line_of (source.TheVariants.Model name) = plain.model name
line_of (source.TheVariants.Var name) = plain.var name
line_of (source.TheVariants.Param name) = plain.param name
line_of (source.TheVariants.Fun name arguments) = plain.function name arguments
line_of (source.TheVariants.Eq label u v) = plain.equation label (expr_of u) (expr_of v)
line_of (source.TheVariants.Assume label c) = plain.assume label (claim_of c)
line_of (source.TheVariants.Claim label shift c) = plain.claim label shift (claim_of c)

-- a line with its number
abbrev pub numbered_of : Numbered → text.Numbered
numbered_of n = record { at = n.at; line = line_of n.line }

-- the lines of a text
abbrev pub lines_of : List Numbered → List text.Numbered
lines_of = map numbered_of

-- a change
abbrev pub op_of : change.Op → text.Op
op_of (change.TheVariants.Put line) = text.put_line (line_of line)
op_of (change.TheVariants.Drop key) = text.drop_key key

-- changes in order
abbrev pub ops_of : List change.Op → List text.Op
ops_of = map op_of
