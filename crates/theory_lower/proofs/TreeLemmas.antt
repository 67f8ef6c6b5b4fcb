-- The plain trees of expressions and claims, node by node.
use Rattle.std.proofs.Common.{◌≡◌, ℕ, Box, Vec, Global, List, map, sym, ap, ap₂, ◌∙◌}
use Rattle.theory_meaning.specs.Tree as plain
use Rattle.theory_syntax.specs.declared.expr.Expr.{Expr, Expr-F, fold-roll-Expr}
use Rattle.theory_syntax.specs.declared.expr.Expr.TheVariants.{Sum, Diff, Neg, Prod, Pow, Quot, rolls-Sum, rolls-Diff, rolls-Neg, rolls-Prod, rolls-Pow, rolls-Quot}
use Rattle.theory_syntax.specs.declared.claim.Claim.{Claim, Claim-F, fold-roll-Claim}
use Rattle.theory_syntax.specs.declared.claim.Claim.TheVariants.{Not, Implies, Iff, And, Or, rolls-Not, rolls-Implies, rolls-Iff, rolls-And, rolls-Or}
use Rattle.theory_syntax.specs.Plain.{expr_of, expr_step, claim_of, claim_step}

-- two parts
two : (make : plain.Expr → plain.Expr → plain.Expr) (u v x y : Expr) → x ≡ u → y ≡ v → make (expr_of x) (expr_of y) ≡ make (expr_of u) (expr_of v)
two make u v x y first second = ap₂ make (ap expr_of first) (ap expr_of second)

pub tree-Sum : (e : Expr) (u v : Box Expr Global) (x y : Expr) → e ≡ Sum u v → x ≡ u.value → y ≡ v.value → plain.sum (expr_of x) (expr_of y) ≡ expr_of e
tree-Sum e u v x y is first second =
    two plain.sum u.value v.value x y first second
    ∙ sym (ap expr_of is ∙ ap expr_of (sym (rolls-Sum u v)) ∙ fold-roll-Expr plain.Expr expr_step (Expr-F.Sum u v))

pub tree-Diff : (e : Expr) (u v : Box Expr Global) (x y : Expr) → e ≡ Diff u v → x ≡ u.value → y ≡ v.value
    → plain.difference (expr_of x) (expr_of y) ≡ expr_of e
tree-Diff e u v x y is first second =
    two plain.difference u.value v.value x y first second
    ∙ sym (ap expr_of is ∙ ap expr_of (sym (rolls-Diff u v)) ∙ fold-roll-Expr plain.Expr expr_step (Expr-F.Diff u v))

pub tree-Prod : (e : Expr) (u v : Box Expr Global) (x y : Expr) → e ≡ Prod u v → x ≡ u.value → y ≡ v.value → plain.product (expr_of x) (expr_of y) ≡ expr_of e
tree-Prod e u v x y is first second =
    two plain.product u.value v.value x y first second
    ∙ sym (ap expr_of is ∙ ap expr_of (sym (rolls-Prod u v)) ∙ fold-roll-Expr plain.Expr expr_step (Expr-F.Prod u v))

pub tree-Quot : (e : Expr) (u v : Box Expr Global) (x y : Expr) → e ≡ Quot u v → x ≡ u.value → y ≡ v.value
    → plain.quotient (expr_of x) (expr_of y) ≡ expr_of e
tree-Quot e u v x y is first second =
    two plain.quotient u.value v.value x y first second
    ∙ sym (ap expr_of is ∙ ap expr_of (sym (rolls-Quot u v)) ∙ fold-roll-Expr plain.Expr expr_step (Expr-F.Quot u v))

pub tree-Neg : (e : Expr) (u : Box Expr Global) (x : Expr) → e ≡ Neg u → x ≡ u.value → plain.opposite (expr_of x) ≡ expr_of e
tree-Neg e u x is first =
    ap (λ z. plain.opposite (expr_of z)) first
    ∙ sym (ap expr_of is ∙ ap expr_of (sym (rolls-Neg u)) ∙ fold-roll-Expr plain.Expr expr_step (Expr-F.Neg u))

pub tree-Pow : (e : Expr) (u : Box Expr Global) (k : ℕ) (x : Expr) → e ≡ Pow u k → x ≡ u.value → plain.power (expr_of x) k ≡ expr_of e
tree-Pow e u k x is first =
    ap (λ z. plain.power (expr_of z) k) first
    ∙ sym (ap expr_of is ∙ ap expr_of (sym (rolls-Pow u k)) ∙ fold-roll-Expr plain.Expr expr_step (Expr-F.Pow u k))

-- claims
pub tree-Not : (c : Claim) (a : Box Claim Global) (x : Claim) → c ≡ Not a → x ≡ a.value → plain.negation (claim_of x) ≡ claim_of c
tree-Not c a x is first =
    ap (λ z. plain.negation (claim_of z)) first
    ∙ sym (ap claim_of is ∙ ap claim_of (sym (rolls-Not a)) ∙ fold-roll-Claim plain.Claim claim_step (Claim-F.Not a))

pub tree-Implies : (c : Claim) (a b : Box Claim Global) (x y : Claim) → c ≡ Implies a b → x ≡ a.value → y ≡ b.value
    → plain.implication (claim_of x) (claim_of y) ≡ claim_of c
tree-Implies c a b x y is first second =
    ap₂ (λ (m n : Claim). plain.implication (claim_of m) (claim_of n)) first second
    ∙ sym (ap claim_of is ∙ ap claim_of (sym (rolls-Implies a b)) ∙ fold-roll-Claim plain.Claim claim_step (Claim-F.Implies a b))

pub tree-Iff : (c : Claim) (a b : Box Claim Global) (x y : Claim) → c ≡ Iff a b → x ≡ a.value → y ≡ b.value
    → plain.equivalence (claim_of x) (claim_of y) ≡ claim_of c
tree-Iff c a b x y is first second =
    ap₂ (λ (m n : Claim). plain.equivalence (claim_of m) (claim_of n)) first second
    ∙ sym (ap claim_of is ∙ ap claim_of (sym (rolls-Iff a b)) ∙ fold-roll-Claim plain.Claim claim_step (Claim-F.Iff a b))

pub tree-And : (c : Claim) (cs : Vec Claim Global) (xs : List Claim) → c ≡ And cs → xs ≡ cs.items
    → plain.conjunction (plain.claims_from (map claim_of xs)) ≡ claim_of c
tree-And c cs xs is same =
    ap (λ (ys : List Claim). plain.conjunction (plain.claims_from (map claim_of ys))) same
    ∙ sym (ap claim_of is ∙ ap claim_of (sym (rolls-And cs)) ∙ fold-roll-Claim plain.Claim claim_step (Claim-F.And cs))

pub tree-Or : (c : Claim) (cs : Vec Claim Global) (xs : List Claim) → c ≡ Or cs → xs ≡ cs.items
    → plain.disjunction (plain.claims_from (map claim_of xs)) ≡ claim_of c
tree-Or c cs xs is same =
    ap (λ (ys : List Claim). plain.disjunction (plain.claims_from (map claim_of ys))) same
    ∙ sym (ap claim_of is ∙ ap claim_of (sym (rolls-Or cs)) ∙ fold-roll-Claim plain.Claim claim_step (Claim-F.Or cs))
