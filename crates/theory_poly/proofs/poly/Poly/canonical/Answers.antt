use Rattle.std.proofs.Common.{pos, get_or, ap, ◌∙◌, subst}
use Rattle.std.specs.Prelude.{int_lt}
use Rattle.theory_poly.specs.Kept.{IsSignedForm, IsKept}
use Rattle.theory_poly.proofs.HeightLaws.{nothing}
use Rattle.theory_poly.proofs.CanonicalLaws.{canonical_of_form, canonical_has_sign, ordered_form}
use Rattle.theory_poly.proofs.poly.Poly.canonical.Goals as goal

pub returns-clause-value : goal.returns-clause-value
returns-clause-value c =
    let turned = c.starts_below-turned.result in
    let own = c.as_slice-2.ensures.value in
    let form : IsSignedForm turned c.args.self.now c.in_ok-poly.poly = subst (λ z. IsSignedForm turned z c.in_ok-poly.poly) own c.in_ok-poly.ensures in
    let kept : IsKept c.args.self.now = c.as_slice.ensures.kept in
    canonical_of_form turned c.args.self.now c.in_ok-poly.poly kept.ordered c.requires
    (c.starts_below-turned.ensures ∙ ap (λ z. int_lt (get_or z 0 nothing).coefficient (pos 0)) c.as_slice.ensures.value) form
    (ordered_form turned c.args.self.now c.in_ok-poly.poly kept form)

pub returns-clause-sign : goal.returns-clause-sign
returns-clause-sign c =
    let turned = c.starts_below-turned.result in
    canonical_has_sign turned c.args.self.now c.in_ok-poly.poly c.as_slice.ensures.kept
    (subst (λ z. IsSignedForm turned z c.in_ok-poly.poly) c.as_slice-2.ensures.value c.in_ok-poly.ensures)
