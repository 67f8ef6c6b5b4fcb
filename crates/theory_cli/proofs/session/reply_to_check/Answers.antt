use Rattle.std.proofs.Common.{◌≡◌, ◌<◌, length, get_or, List, ◌∙◌, subst}
use Rattle.theory_syntax.specs.declared.text.Numbered.{Numbered}
use Rattle.theory_decision.specs.Engine.{engine}
use Rattle.theory_cli.proofs.SessionLemmas.{passed_over, asks_none, answered_claim, is_own, halted}
use Rattle.theory_cli.proofs.session.reply_to_check.Goals as goal
use Rattle.theory_cli.proofs.session.reply_to_check.Goals.{in-Claim+in_default-tell_reply, in_default-line}

pub tell_reply-requires : goal.tell_reply-requires
tell_reply-requires g c =
    let same = c.deref-numbered-items.ensures.value ∙ c.text_of.ensures.lines in
    let within = subst (λ (ls : List Numbered). c.loop-numbered.numbered-index < length ls) same c.loop-numbered-test.true in
    let is = subst (λ (ls : List Numbered). c.numbered-item.result ≡ get_or ls c.loop-numbered.numbered-index c.numbered-item.result) same c.numbered-item.is in
    is_own engine c.args.model.now c.args.on.now c.args.policy.now.kind c.loop-numbered.numbered-index c.numbered-item.result within is c.in-Claim.label c.in-Claim.field-1
    c.in-Claim.field-2 c.in-Claim.is

pub returns-in-Err-tell_reply : goal.returns-in-Err-tell_reply
returns-in-Err-tell_reply g c =
    let same = c.deref-numbered-items.ensures.value ∙ c.text_of.ensures.lines in
    let within = subst (λ (ls : List Numbered). c.loop-numbered.numbered-index < length ls) same c.loop-numbered-test.true in
    let is = subst (λ (ls : List Numbered). c.numbered-item.result ≡ get_or ls c.loop-numbered.numbered-index c.numbered-item.result) same c.numbered-item.is in
    halted engine c.args.model.now c.args.on.now c.args.policy.now.kind c.loop-numbered.numbered-index c.numbered-item.result within is c.in-Claim.label c.in-Claim.field-1
    c.in-Claim.field-2 c.in-Claim.is c.in-Err-tell_reply.halt _ _ _ _ _ c.in-Err-tell_reply.ensures c.loop-numbered.invariant

pub loop-numbered-preserved : goal.loop-numbered-preserved
loop-numbered-preserved g c =
    let same = c.deref-numbered-items.ensures.value ∙ c.text_of.ensures.lines in
    let within = subst (λ (ls : List Numbered). c.loop-numbered.numbered-index < length ls) same c.loop-numbered-test.true in
    let is = subst (λ (ls : List Numbered). c.numbered-item.result ≡ get_or ls c.loop-numbered.numbered-index c.numbered-item.result) same c.numbered-item.is in
    elim c.match-numbered.branch [
      | in-Claim+in_default-tell_reply w ↦
          rw (w.out-is, w.replies-is) (answered_claim engine c.args.model.now c.args.on.now c.args.policy.now.kind c.loop-numbered.numbered-index c.numbered-item.result within is
          w.in-Claim.label w.in-Claim.field-1 w.in-Claim.field-2 w.in-Claim.is _ _ _ _ _ w.in_default-tell_reply.ensures
          c.loop-numbered.invariant)
      | in_default-line w ↦
          rw (w.out-is, w.replies-is) (passed_over engine c.args.model.now c.args.on.now c.args.policy.now.kind c.loop-numbered.numbered-index c.numbered-item.result within is _ _ _
          (asks_none c.numbered-item.result.line w.in_default-line.not-Claim) c.loop-numbered.invariant)
    ]
