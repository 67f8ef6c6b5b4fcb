use Rattle.std.proofs.Common.{◌≡◌, length, arith}
use Rattle.std.specs.Prelude.{◌≢◌, []}
use Rattle.std.proofs.lemmas.Grind.{common_steps}
use Rattle.theory_search.specs.Asked.{IsAsked}
use Rattle.theory_search.proofs.FindingLemmas.{some_of, place_within, taken_there, within_there}
use Rattle.theory_search.proofs.finding.taken.Goals as goal

pub index-requires : goal.index-requires
index-requires g c =
    let cs = c.args.all.now.items in
    let some : cs ≢ [] = some_of cs (λ (e : length cs ≡ 0). grind (arith, common_steps, e, c.is_empty.ensures, c.if-is_empty.false, c.args.all.now.ok.0)) in
    let within = place_within c.args.policy.now.kind cs c.place-place.result c.place-place.ensures some in
    omega (arith, within, c.args.all.now.ok.0)

pub returns-clause-value : goal.returns-clause-value
returns-clause-value g c =
    let cs = c.args.all.now.items in
    let some : cs ≢ [] = some_of cs (λ (e : length cs ≡ 0). grind (arith, common_steps, e, c.is_empty.ensures, c.if-is_empty.false, c.args.all.now.ok.0)) in
    let within = place_within c.args.policy.now.kind cs c.place-place.result c.place-place.ensures some in
    taken_there c.args.policy.now.kind cs c.place-place.result c.index.result.now c.place-place.ensures within c.index.ensures

pub returns-clause-small : goal.returns-clause-small
returns-clause-small g c =
    let cs = c.args.all.now.items in
    let some : cs ≢ [] = some_of cs (λ (e : length cs ≡ 0). grind (arith, common_steps, e, c.is_empty.ensures, c.if-is_empty.false, c.args.all.now.ok.0)) in
    let within = place_within c.args.policy.now.kind cs c.place-place.result c.place-place.ensures some in
    let asked : IsAsked cs = c.requires some in
    let here = within_there cs c.place-place.result c.index.result.now asked.within within c.index.ensures in
    here.symbol
