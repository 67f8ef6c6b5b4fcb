use Rattle.std.proofs.Common.{List, subst, ap, ◌∙◌, rules}
use Rattle.std.proofs.lemmas.Int.{to_z-of_z}
use mir.Syntax.{w64}
use mir.Val.{SFits}
use Rattle.std.specs.Prelude.{slice_get}
use Rattle.theory_polynomial.specs.Polynomial.{Monomial}
use Rattle.theory_poly.specs.Kept.{IsKept}
use Rattle.theory_witness.specs.Lines.{coefficient_of}
use Rattle.theory_witness.proofs.LineLemmas.{line_is, as_line}
use Rattle.theory_witness.proofs.line.line_of.Goals as goal

pub returns : goal.returns
returns c =
    let P = c.args.atom.now.poly in
    let first : SFits w64 c.coefficient.result = search rules in
    let second : SFits w64 c.coefficient-2.result = search rules in
    as_line c.args.x P (coefficient_of (slice_get P 0)) (coefficient_of (slice_get P 1)) _
    (to_z-of_z w64 c.coefficient.result first ∙ c.coefficient.ensures.value ∙ ap (λ (Q : List Monomial). coefficient_of (slice_get Q 0)) c.poly.ensures.value)
    (to_z-of_z w64 c.coefficient-2.result second ∙ c.coefficient-2.ensures.value
    ∙ ap (λ (Q : List Monomial). coefficient_of (slice_get Q 1)) c.poly-2.ensures.value)
    (line_is c.args.x P c.args.atom.now.signs c.requires.symbol c.requires.only (subst IsKept c.poly.ensures.value c.coefficient.ensures.kept))
