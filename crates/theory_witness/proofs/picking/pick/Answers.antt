use Rattle.std.proofs.Common.{List, ap, sym, subst, ◌∙◌}
use Rattle.std.specs.Prelude.{find}
use Rattle.theory_meaning.specs.Fraction.{Fraction}
use Rattle.theory_formula.specs.Formula.{truth_at}
use Rattle.theory_signs.specs.Plain.{formula_of}
use Rattle.theory_decision.specs.Candidates.{IsAscending, AreCandidates}
use Rattle.theory_decision.specs.Witness.{only_at}
use Rattle.theory_witness.proofs.PickLemmas.{first_is_pick, pick_is_right}
use Rattle.theory_witness.proofs.picking.pick.Goals as goal

pub candidates-requires : goal.candidates-requires
candidates-requires c = subst IsAscending (sym c.deref.ensures.value) c.in_ok-roots.ensures.ascending

pub returns-clause-written : goal.returns-clause-written
returns-clause-written c =
    let x = c.args.x in
    let F = formula_of c.args.formula.now in
    first_is_pick x F c.in_ok-roots.roots.items c.in_ok-tried.tried.items c.first_that_fits.result c.answer.result c.in_ok-roots.ensures
    (subst (λ (bs : List Fraction). AreCandidates bs c.in_ok-tried.tried.items) c.deref.ensures.value c.in_ok-tried.ensures)
    (c.first_that_fits.ensures ∙ ap (λ (cs : List Fraction). find (λ q. truth_at F (only_at x q)) cs) c.deref-2.ensures.value) c.answer.ensures

pub returns-clause-right : goal.returns-clause-right
returns-clause-right c =
    pick_is_right c.args.x (formula_of c.args.formula.now) c.answer.result c.requires.only (returns-clause-written c)
