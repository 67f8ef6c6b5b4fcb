use Rattle.std.proofs.Common.{◌≡◌, ◌∙◌, ap, subst, IfOk}
use Rattle.std.specs.Prelude.{map}
use Rattle.theory_formula.specs.Formula.{disjunction, formulas_from, negated}
use Rattle.theory_lowering.specs.WrittenClaim.{written_claim}
use Rattle.theory_signed.specs.ByKind.{simplified_for}
use Rattle.theory_signs.specs.Plain.{formula_of}
use Rattle.theory_signs.proofs.PlainLemmas.{formula_of-Or}
use Rattle.theory_syntax.specs.Plain as tree
use Rattle.theory_decide.proofs.regions.condition.Goals as goal

pub returns : goal.returns
returns c =
    let same : formula_of c.in_ok-opposite.opposite ≡ negated (simplified_for c.args.kind (disjunction (formulas_from (map formula_of c.args.leaves.items)))) =
    c.in_ok-opposite.ensures.written
    ∙ ap negated (c.in_ok-simple.ensures ∙ ap (simplified_for c.args.kind) (formula_of-Or c.args.leaves))
    in
    subst (λ F. IfOk c.claim_of.result (λ d. tree.claim_of d ≡ written_claim c.args.symbols.now F)) same c.claim_of.ensures.written
