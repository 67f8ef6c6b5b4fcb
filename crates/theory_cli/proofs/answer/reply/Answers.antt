use Rattle.std.proofs.Common.{ap₂, ◌∙◌}
use Rattle.theory_syntax.specs.Plain.{lines_of}
use Rattle.theory_decision.specs.Engine.{engine}
use Rattle.theory_session.specs.Create.{name_in}
use Rattle.theory_session.specs.Names.{first_unlisted}
use Rattle.theory_cli.specs.Plain.{answer_of}
use Rattle.theory_cli.proofs.AnswerLemmas.{refused_is_reply, answered_is_reply}
use Rattle.theory_cli.proofs.answer.reply.Goals as goal

pub returns-in-Some : goal.returns-in-Some
returns-in-Some g c =
    let lines = lines_of c.args.model.now in
    refused_is_reply engine lines (name_in lines) c.args.label.now c.args.on.now c.args.policy.now.kind c.requires c.in_ok-listed.listed c.in_ok-listed.ensures
    c.first_unlisted.result (c.first_unlisted.ensures ∙ ap₂ first_unlisted c.as_slice.ensures c.as_slice-2.ensures) c.in-Some.place c.in-Some.is

pub returns : goal.returns
returns g c =
    let lines = lines_of c.args.model.now in
    answered_is_reply engine lines (name_in lines) c.args.label.now c.args.on.now c.args.policy.now.kind c.requires c.in_ok-listed.listed c.in_ok-listed.ensures
    c.first_unlisted.result (c.first_unlisted.ensures ∙ ap₂ first_unlisted c.as_slice.ensures c.as_slice-2.ensures)
    (answer_of c.in_ok-answer-in-None.field-0) c.in-None.is c.in_ok-answer-in-None.ensures
