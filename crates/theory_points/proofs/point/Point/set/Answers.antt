use Rattle.std.proofs.Common.{◌≡◌, Some, None, arith, ap, ◌∙◌}
use Rattle.theory_points.specs.Changes.{place_in}
use Rattle.theory_points.proofs.point.Point.set.Goals as goal
use Rattle.theory_points.proofs.PointLemmas.{written_at, within_place, added_at}

pub index_mut-requires : goal.index_mut-requires
index_mut-requires c =
    let found : Some c.in-Some.k ≡ place_in c.self.inside.entries.items c.args.name = c.in-Some.ensures
    ∙ ap (λ es. place_in es c.args.name) c.deref.ensures.value in
    let within = within_place c.self.inside.entries.items c.in-Some.k c.args.name found in
    omega (arith, within, c.self.inside.entries.ok.0)

pub returns-in-Some-clause-ok : goal.returns-in-Some-clause-ok
returns-in-Some-clause-ok c =
    let found : Some c.in-Some.k ≡ place_in c.self.inside.entries.items c.args.name = c.in-Some.ensures
    ∙ ap (λ es. place_in es c.args.name) c.deref.ensures.value in
    (written_at c.self.inside.entries.items c.args.self.now c.in-Some.k c.args.name c.args.value c.index_mut.result.now c.self.view_is found
    c.index_mut.ensures.value).1

pub returns-in_ok-push-in-None-clause-ok : goal.returns-in_ok-push-in-None-clause-ok
returns-in_ok-push-in-None-clause-ok c =
    let not_there : None ≡ place_in c.self.inside.entries.items c.args.name = c.in-None.ensures ∙ ap (λ es. place_in es c.args.name) c.deref.ensures.value in
    rw c.in_ok-push-in-None.ensures.items (added_at c.self.inside.entries.items c.args.self.now c.args.name c.args.value c.self.view_is not_there)
