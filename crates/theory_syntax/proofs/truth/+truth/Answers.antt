use Rattle.std.proofs.Common.{◌≡◌, sym, ap, ◌∙◌, subst, ⊎_elim}
use Rattle.theory_meaning.specs.Tree as plain
use Rattle.theory_meaning.specs.Truth.{value_of, truth_of}
use Rattle.theory_meaning.specs.Wide.{HasWidePart}
use Rattle.theory_syntax.specs.Plain.{expr_of, claim_of, claim_step}
use Rattle.theory_syntax.proofs.TruthLemmas.{holds_respects}
use Rattle.theory_syntax.specs.declared.claim.Claim.TheOpen.{Claim-F}
use Rattle.theory_syntax.specs.declared.claim.Claim.TheFolds.{fold-roll-Claim}
use Rattle.theory_syntax.specs.declared.claim.Claim.TheVariants.{rolls-Atom}
use Rattle.theory_syntax.proofs.truth.+truth.Goals as goal

pub truth-returns-in_ok-value-in-Atom-2 : goal.truth-returns-in_ok-value-in-Atom-2
truth-returns-in_ok-value-in-Atom-2 t c =
    let p = c.args.point.now in
    let u = c.in-Atom.u in
    let v = c.in-Atom.v in
    let left = c.in_ok-value-in-Atom.ensures in
    let right = c.in_ok-value-in-Atom-2.ensures in
    let layer : claim_of c.args.claim.now ≡ plain.atom (expr_of u) c.in-Atom.rel (expr_of v) =
    ap claim_of (c.in-Atom.is ∙ sym (rolls-Atom u c.in-Atom.rel v)) ∙ fold-roll-Claim plain.Claim claim_step (Claim-F.Atom u c.in-Atom.rel v) in
    subst (λ e. (c.compares.result ≡ truth_of e p) × ¬ HasWidePart e p) (sym layer) (
      c.compares.ensures ∙ holds_respects c.in-Atom.rel c.in_ok-value-in-Atom.field-0 (value_of (expr_of u) p) c.in_ok-value-in-Atom-2.field-0
          (value_of (expr_of v) p) left.same right.same,
      ⊎_elim left.narrow right.narrow,
    )
