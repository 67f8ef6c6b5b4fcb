use Rattle.std.proofs.Common.{List, sym, ap, ◌∙◌, subst}
use Rattle.theory_meaning.specs.Deciding.{IsRegion}
use Rattle.theory_meaning.specs.Point.{Name}
use Rattle.theory_meaning.specs.Region.{AreAmong}
use Rattle.theory_decision.specs.Engine.{engine}
use Rattle.theory_decision.proofs.EngineAnswers.{engine_may_answer_region}
use Rattle.theory_session.specs.Names.{each_once}
use Rattle.theory_statics.specs.Asked.{conjuncts_of}
use Rattle.theory_verdict.specs.Plain.{region_of}
use Rattle.theory_cli.proofs.AnswerLemmas.{listed_once}
use Rattle.theory_cli.proofs.ListedSentences.{are_listed}
use Rattle.theory_cli.proofs.answer.told_region.Goals as goal

pub written_region-requires-clause-listed : goal.written_region-requires-clause-listed
written_region-requires-clause-listed g c = are_listed c.args.negated.now.symbols (conjuncts_of c.args.negated.now) c.requires.ready.listed

pub written_region-requires-clause-chosen : goal.written_region-requires-clause-chosen
written_region-requires-clause-chosen g c =
    subst (λ (ns : List Name). AreAmong ns c.args.negated.now.symbols) (sym (c.in_ok-once.ensures ∙ ap each_once c.as_slice-2.ensures))
    (listed_once c.args.negated.now.symbols c.args.on.now c.requires.listed)

pub returns-clause-region : goal.returns-clause-region
returns-clause-region g c =
    let names = c.args.negated.now.symbols in
    let claims = conjuncts_of c.args.negated.now in
    let listed = are_listed names claims c.requires.ready.listed in
    let chosen = subst (λ (ns : List Name). AreAmong ns names) (sym (c.in_ok-once.ensures ∙ ap each_once c.as_slice-2.ensures)) (listed_once names c.args.on.now c.requires.listed) in
    let told = engine_may_answer_region c.args.policy.now.kind names claims c.in_ok-once.once (region_of c.in_ok-written_region.field-0)
    c.requires.ready.few listed c.requires.ready.distinct chosen c.in_ok-written_region.ensures.written in
    subst (λ (ns : List Name). IsRegion engine names claims ns c.args.policy.now.kind (region_of c.in_ok-written_region.field-0))
    (c.in_ok-once.ensures ∙ ap each_once c.as_slice-2.ensures) told
