use Rattle.std.proofs.Common.{ap, ◌∙◌}
use Rattle.theory_syntax.specs.Plain.{claim_of, lines_of}
use Rattle.theory_statics.proofs.ReadyLemmas.{both_ready}
use Rattle.theory_statics.proofs.SentenceLemmas.{label_met}
use Rattle.theory_statics.proofs.sentence.sentences.Goals as goal

pub returns-clause-met : goal.returns-clause-met
returns-clause-met c =
    label_met (lines_of c.as_slice-lines.result.now) (lines_of c.args.model.now) c.args.claim.now (c.in-Some.shift.now, claim_of c.in-Some.asked.now) c.both.result
    (ap lines_of (c.as_slice-lines.ensures.value ∙ c.text_of.ensures.lines)) c.in-Some.ensures c.both.ensures.written

pub returns-clause-ready : goal.returns-clause-ready
returns-clause-ready c =
    both_ready (lines_of c.as_slice-lines.result.now) (lines_of c.args.model.now) c.args.claim.now c.in_ok-names.names
    (c.in-Some.shift.now, claim_of c.in-Some.asked.now) c.both.result
    (ap lines_of (c.as_slice-lines.ensures.value ∙ c.text_of.ensures.lines)) c.text_of.ensures.checked c.in-Some.ensures c.in_ok-names.ensures
    c.both.ensures.written c.both.ensures.symbols
