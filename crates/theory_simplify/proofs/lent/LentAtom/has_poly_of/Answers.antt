use Rattle.std.proofs.Common.{ap₂, ◌∙◌}
use Rattle.theory_poly.specs.Hashes.{is_same}
use Rattle.theory_simplify.proofs.SameLemmas.{same_by_terms}
use Rattle.theory_simplify.proofs.lent.LentAtom.has_poly_of.Goals as goal

pub returns : goal.returns
returns c =
    c.eq.ensures ∙ ap₂ is_same c.poly.ensures c.poly-2.ensures
    ∙ same_by_terms c.args.self.now.poly c.args.other.now.poly
