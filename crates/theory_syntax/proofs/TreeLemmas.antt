-- The plain trees of expressions and claims with two parts, from those of the parts.
use Rattle.std.proofs.Common.{◌≡◌, Box, Global, sym, ap, ap₂, ◌∙◌}
use Rattle.theory_meaning.specs.declared.words.Rel.{Rel}
use Rattle.theory_meaning.specs.Tree as plain
use Rattle.theory_syntax.specs.declared.expr.Expr.{Expr, Expr-F, fold-roll-Expr}
use Rattle.theory_syntax.specs.declared.expr.Expr.TheVariants.{Sum, Diff, Prod, Quot, rolls-Sum, rolls-Diff, rolls-Prod, rolls-Quot}
use Rattle.theory_syntax.specs.declared.claim.Claim.{Claim, Claim-F, fold-roll-Claim}
use Rattle.theory_syntax.specs.declared.claim.Claim.TheVariants.{Atom, Implies, Iff, rolls-Atom, rolls-Implies, rolls-Iff}
use Rattle.theory_syntax.specs.Plain.{expr_of, expr_step, claim_of, claim_step}

-- two parts
two : (make : plain.Expr → plain.Expr → plain.Expr) (u v x y : Expr) → x ≡ u → y ≡ v → make (expr_of x) (expr_of y) ≡ make (expr_of u) (expr_of v)
two make u v x y first second = ap₂ make (ap expr_of first) (ap expr_of second)

pub tree-Sum : (e : Expr) (u v : Box Expr Global) (x y : Expr) → e ≡ Sum u v → x ≡ u.value → y ≡ v.value → plain.sum (expr_of x) (expr_of y) ≡ expr_of e
tree-Sum e u v x y is first second =
    two plain.sum u.value v.value x y first second
    ∙ sym (ap expr_of is ∙ ap expr_of (sym (rolls-Sum u v)) ∙ fold-roll-Expr plain.Expr expr_step (Expr-F.Sum u v))

pub tree-Diff : (e : Expr) (u v : Box Expr Global) (x y : Expr) → e ≡ Diff u v → x ≡ u.value → y ≡ v.value
    → plain.difference (expr_of x) (expr_of y) ≡ expr_of e
tree-Diff e u v x y is first second =
    two plain.difference u.value v.value x y first second
    ∙ sym (ap expr_of is ∙ ap expr_of (sym (rolls-Diff u v)) ∙ fold-roll-Expr plain.Expr expr_step (Expr-F.Diff u v))

pub tree-Prod : (e : Expr) (u v : Box Expr Global) (x y : Expr) → e ≡ Prod u v → x ≡ u.value → y ≡ v.value → plain.product (expr_of x) (expr_of y) ≡ expr_of e
tree-Prod e u v x y is first second =
    two plain.product u.value v.value x y first second
    ∙ sym (ap expr_of is ∙ ap expr_of (sym (rolls-Prod u v)) ∙ fold-roll-Expr plain.Expr expr_step (Expr-F.Prod u v))

pub tree-Quot : (e : Expr) (u v : Box Expr Global) (x y : Expr) → e ≡ Quot u v → x ≡ u.value → y ≡ v.value → plain.quotient (expr_of x) (expr_of y) ≡ expr_of e
tree-Quot e u v x y is first second =
    two plain.quotient u.value v.value x y first second
    ∙ sym (ap expr_of is ∙ ap expr_of (sym (rolls-Quot u v)) ∙ fold-roll-Expr plain.Expr expr_step (Expr-F.Quot u v))

-- claims
pub tree-Atom : (c : Claim) (u v : Expr) (rel : Rel) → c ≡ Atom u rel v → plain.atom (expr_of u) rel (expr_of v) ≡ claim_of c
tree-Atom c u v rel is = sym (ap claim_of is ∙ ap claim_of (sym (rolls-Atom u rel v)) ∙ fold-roll-Claim plain.Claim claim_step (Claim-F.Atom u rel v))

pub tree-Implies : (c : Claim) (a b : Box Claim Global) (x y : Claim) → c ≡ Implies a b → x ≡ a.value → y ≡ b.value
    → plain.implication (claim_of x) (claim_of y) ≡ claim_of c
tree-Implies c a b x y is first second =
    ap₂ (λ (m n : Claim). plain.implication (claim_of m) (claim_of n)) first second
    ∙ sym (ap claim_of is ∙ ap claim_of (sym (rolls-Implies a b)) ∙ fold-roll-Claim plain.Claim claim_step (Claim-F.Implies a b))

pub tree-Iff : (c : Claim) (a b : Box Claim Global) (x y : Claim) → c ≡ Iff a b → x ≡ a.value → y ≡ b.value
    → plain.equivalence (claim_of x) (claim_of y) ≡ claim_of c
tree-Iff c a b x y is first second =
    ap₂ (λ (m n : Claim). plain.equivalence (claim_of m) (claim_of n)) first second
    ∙ sym (ap claim_of is ∙ ap claim_of (sym (rolls-Iff a b)) ∙ fold-roll-Claim plain.Claim claim_step (Claim-F.Iff a b))
