use Rattle.std.proofs.Common.{List, option_map, refl, ap, ◌∙◌}
use Rattle.theory_meaning.specs.Deciding.{IsRegion}
use Rattle.theory_syntax.specs.declared.text.Numbered.{Numbered}
use Rattle.theory_syntax.specs.Plain.{lines_of}
use Rattle.theory_decision.specs.Engine.{engine}
use Rattle.theory_session.specs.Create.{name_in}
use Rattle.theory_session.specs.Names.{each_once}
use Rattle.theory_statics.specs.Asked.{AreWritten, conjuncts_of}
use Rattle.theory_verdict.specs.Plain.{region_of}
use Rattle.theory_cli.proofs.AnswerLemmas.{has_claim, of_claim, made_is_answer, half_of_parts, region_of_parts, there_too, if_there_too}
use Rattle.theory_cli.proofs.ListedSentences.{are_listed}
use Rattle.theory_cli.proofs.answer.answer.Goals as goal

pub written_half-requires-clause-listed : goal.written_half-requires-clause-listed
written_half-requires-clause-listed g c =
    are_listed c.in_ok-asked.asked.symbols (conjuncts_of c.in_ok-asked.asked) c.in_ok-asked.ensures.ready.0.listed

pub written_half-requires-2-clause-listed : goal.written_half-requires-2-clause-listed
written_half-requires-2-clause-listed g c =
    are_listed c.in_ok-asked.negated.symbols (conjuncts_of c.in_ok-asked.negated) c.in_ok-asked.ensures.ready.1.listed

pub returns : goal.returns
returns g c =
    let lines = lines_of c.args.model.now in
    let label = c.args.label.now in
    let h = has_claim label lines c.requires.claim in
    let written = of_claim lines label h (λ shift claimed. AreWritten lines shift claimed (c.in_ok-asked.asked, c.in_ok-asked.negated))
    c.in_ok-asked.ensures.written in
    let listed = c.in_ok-asked.ensures.symbols.counter ∙ h.listed in
    let told = if_there_too region_of
    (λ r. IsRegion engine c.in_ok-asked.negated.symbols (conjuncts_of c.in_ok-asked.negated) (each_once c.args.on.now) c.args.policy.now.kind r)
    c.in_ok-region.region c.in_ok-region.ensures.region in
    made_is_answer engine lines (name_in lines) label c.args.on.now h.shift h.claimed c.args.policy.now.kind _
    record {
      own = h.found;
      model_is = c.in_ok-model_name.ensures ∙ ap (λ (ls : List Numbered). name_in (lines_of ls)) (c.as_slice-lines.ensures.value ∙ c.text_of.ensures.lines);
      version_is = refl;
      claim_is = c.in_ok-copy.ensures;
      symbols_are = c.in_ok-copy-2.ensures ∙ c.in_ok-asked.ensures.symbols.example ∙ h.listed;
      example = half_of_parts (c.in_ok-asked.ensures.symbols.example ∙ h.listed) written.example c.in_ok-example.ensures;
      counter = half_of_parts listed written.counter c.in_ok-counter.ensures;
      verdict_is = c.verdict_of-verdict.ensures;
      region_there = there_too region_of c.in_ok-region.region ∙ c.in_ok-region.ensures.there;
      region = region_of_parts engine (each_once c.args.on.now) c.args.policy.now.kind (option_map region_of c.in_ok-region.region) listed written.counter told;
    }
