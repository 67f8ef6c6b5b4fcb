-- The plain trees of claims that are made without a box.
use Rattle.std.proofs.Common.{◌≡◌, sym, ap, ◌∙◌}
use Rattle.theory_meaning.specs.declared.words.Rel.{Rel}
use Rattle.theory_meaning.specs.Tree as plain
use Rattle.theory_syntax.specs.declared.expr.Expr.{Expr}
use Rattle.theory_syntax.specs.declared.claim.Claim.{Claim-F, fold-roll-Claim}
use Rattle.theory_syntax.specs.declared.claim.Claim.TheVariants.{True, False, Atom, rolls-True, rolls-False, rolls-Atom}
use Rattle.theory_syntax.specs.Plain.{expr_of, claim_of, claim_step}

pub claim_of-True : claim_of True ≡ plain.always
claim_of-True = ap claim_of (sym rolls-True) ∙ fold-roll-Claim plain.Claim claim_step Claim-F.True

pub claim_of-False : claim_of False ≡ plain.never
claim_of-False = ap claim_of (sym rolls-False) ∙ fold-roll-Claim plain.Claim claim_step Claim-F.False

pub claim_of-Atom : (u : Expr) (r : Rel) (v : Expr) → claim_of (Atom u r v) ≡ plain.atom (expr_of u) r (expr_of v)
claim_of-Atom u r v = ap claim_of (sym (rolls-Atom u r v)) ∙ fold-roll-Claim plain.Claim claim_step (Claim-F.Atom u r v)
