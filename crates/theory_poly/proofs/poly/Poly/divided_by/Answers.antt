use Rattle.std.proofs.Common.{pos, sym, ap, ◌∙◌, subst}
use Rattle.theory_poly.specs.Kept.{IsKept}
use Rattle.theory_poly.proofs.ContentLaws.{written_back, as_many, kept_divided}
use Rattle.theory_polynomial.specs.Polynomial.{scaled}
use Rattle.theory_poly.proofs.poly.Poly.divided_by.Goals as goal

pub from_kept-requires : goal.from_kept-requires
from_kept-requires c =
    let times = c.divide_all.ensures ∙ c.as_mut_slice.ensures.value in
    subst IsKept
    (sym (written_back c.divide_all.new.terms c.self.inside.terms.items c.self.inside.terms.len
    (as_many (pos c.args.divisor) c.divide_all.new.terms c.self.inside.terms.items times) c.self.inside.terms.ok.0))
    (kept_divided c.args.divisor c.divide_all.new.terms c.self.inside.terms.items c.requires.positive times c.self.invariant.kept)

pub returns : goal.returns
returns c =
    let times = c.divide_all.ensures ∙ c.as_mut_slice.ensures.value in
    ap (scaled (pos c.args.divisor)) (c.from_kept.ensures ∙ written_back c.divide_all.new.terms c.self.inside.terms.items c.self.inside.terms.len
    (as_many (pos c.args.divisor) c.divide_all.new.terms c.self.inside.terms.items times) c.self.inside.terms.ok.0)
    ∙ times ∙ c.self.view_is
