use Rattle.std.proofs.Common.{◌∙◌, ap₂}
use Rattle.theory_decision.specs.Answers.{symbols_of}
use Rattle.theory_syntax.specs.Plain.{claims_of}
use Rattle.theory_signs.specs.Plain.{formula_of}
use Rattle.theory_search.specs.Outcomes.{plain_leaves}
use Rattle.theory_decide.proofs.RegionLemmas.{are_named, by_leaves}
use Rattle.theory_decide.proofs.regions.region_of_formula.Goals as goal

pub region_of_leaves-requires : goal.region_of_leaves-requires
region_of_leaves-requires g c =
    let kept = c.deref.ensures.value ∙ c.in_ok-keep.ensures ∙ ap₂ symbols_of c.as_slice-2.ensures c.as_slice.ensures in
    are_named c.args.policy.now.kind c.args.sentence.now.symbols (claims_of c.args.sentence.now.conjuncts.items) c.args.on.now
    c.requires.few c.requires.listed c.requires.distinct c.requires.chosen (formula_of c.args.formula.now) c.deref.result.now
    (plain_leaves c.in_ok-found.found) c.requires.lowered kept c.in_ok-found.ensures.written

pub returns : goal.returns
returns g c =
    let kept = c.deref.ensures.value ∙ c.in_ok-keep.ensures ∙ ap₂ symbols_of c.as_slice-2.ensures c.as_slice.ensures in
    by_leaves c.args.policy.now.kind c.args.sentence.now.symbols (claims_of c.args.sentence.now.conjuncts.items) c.args.on.now
    c.requires.few c.requires.listed c.requires.distinct c.requires.chosen (formula_of c.args.formula.now) c.deref.result.now
    (plain_leaves c.in_ok-found.found) c.region_of_leaves.result kept c.in_ok-found.ensures.written c.region_of_leaves.ensures
