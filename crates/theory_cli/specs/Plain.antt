-- The plain answers and replies that the types of this crate and of those below stand for.
use Rattle.std.specs.Prelude.{List, map, option_map}
use Rattle.theory_session.specs.Ask as ask
use Rattle.theory_session.specs.Run as plain
use Rattle.theory_statics.specs.Plain.{differentiated_of}
use Rattle.theory_verdict.specs.Plain.{half_of, region_of}
use Rattle.theory_verdict.specs.declared.answer.Answer.{Answer}
use Rattle.theory_cli.specs.declared.reply.AskFault.{AskFault}
use Rattle.theory_cli.specs.declared.reply.AskFault.TheVariants.{UnknownName}
use Rattle.theory_cli.specs.declared.reply.Refusal.{Refusal}
use Rattle.theory_cli.specs.declared.reply.Refusal.TheVariants.{Ask}
use Rattle.theory_cli.specs.declared.reply.Reply.{Reply}
use Rattle.theory_cli.specs.declared.reply.Reply.TheVariants.{Created, Answered, Refused, Derived}

-- an answer
abbrev pub answer_of : Answer → ask.Answer
answer_of a =
    record {
      model = a.model;
      version = a.version;
      claim = a.claim;
      symbols = a.symbols;
      example = half_of a.example;
      counter = half_of a.counter;
      verdict = a.verdict;
      region = option_map region_of a.region;
    }

-- why a question is refused
abbrev pub fault_of : AskFault → ask.AskFault
fault_of (UnknownName place) = ask.unknown_name place

-- a refusal
abbrev pub refusal_of : Refusal → plain.Refusal
refusal_of (Ask fault) = plain.of_question (fault_of fault)

-- a reply
abbrev pub reply_of : Reply → plain.Reply
reply_of (Created c) = plain.created c.model c.version
reply_of (Answered a) = plain.answered (answer_of a)
reply_of (Refused r) = plain.refused (refusal_of r)
reply_of (Derived equations) = plain.derived (map differentiated_of equations.items)

-- replies in order
abbrev pub replies_of : List Reply → List plain.Reply
replies_of = map reply_of
