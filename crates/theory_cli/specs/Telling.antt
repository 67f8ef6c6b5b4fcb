-- What it does to the replies and to a sink to tell one reply, and to tell all replies of a command to a model.
use Rattle.std.specs.Prelude.{◌≡◌, List, [], ◌∷◌, ◌++◌, Result, Ok, Err}
use Rattle.theory_meaning.specs.Deciding.{Meanings}
use Rattle.theory_meaning.specs.Text.{Numbered}
use Rattle.theory_edge.specs.Sinks.{SinkTold}
use Rattle.theory_session.specs.Run.{Reply}
use Rattle.theory_session.specs.Printed.{reply_text}
use Rattle.theory_words.specs.Commands.{Command}
use Rattle.theory_cli.specs.declared.session.Halt.{Halt}
use Rattle.theory_cli.specs.declared.session.Halt.TheVariants.{Unwritten, NoMemory}
use Rattle.theory_cli.specs.Session.{AreReplies, AreFirstReplies}
use Rattle.theory_cli.specs.Taking.{IsTold, IsCutOff, TookReplies, CutInLast}

-- one reply: it is kept and its print is written, or neither
abbrev pub Tells : Reply → List Reply → List Reply → SinkTold → SinkTold → Result (Unit {0}) Halt → Type 0
Tells reply old new before now (Ok _) = (new ≡ old ++ reply ∷ []) × IsTold (reply_text reply) before now
Tells reply old new before now (Err Unwritten) = (new ≡ old ++ reply ∷ []) × IsCutOff (reply_text reply) before now
Tells reply old new before now (Err NoMemory) = (new ≡ old) × (now ≡ before)

-- one reply with this fact is told, or none is
abbrev pub TellsOne : (Reply → Type 0) → List Reply → List Reply → SinkTold → SinkTold → Result (Unit {0}) Halt → Type 0
TellsOne IsMet old new before now (Ok _) = (r : Reply) × IsMet r × (new ≡ old ++ r ∷ []) × IsTold (reply_text r) before now
TellsOne IsMet old new before now (Err Unwritten) = (r : Reply) × IsMet r × (new ≡ old ++ r ∷ []) × IsCutOff (reply_text r) before now
TellsOne IsMet old new before now (Err NoMemory) = (new ≡ old) × (now ≡ before)

-- replies of which All is true, or a beginning of them of which First is, are told with their prints
abbrev pub TellsAll : (List Reply → Type 0) → (List Reply → Type 0) → List Reply → SinkTold → SinkTold → Result (Unit {0}) Halt → Type 0
TellsAll All First replies before now (Ok _) = All replies × TookReplies replies before now
TellsAll All First replies before now (Err Unwritten) = First replies × CutInLast replies before now
TellsAll All First replies before now (Err NoMemory) = First replies × TookReplies replies before now

-- the replies of a command to a model of these lines
abbrev pub Answers : Meanings → Command → List Numbered → List Reply → SinkTold → SinkTold → Result (Unit {0}) Halt → Type 0
Answers m c lines = TellsAll (AreReplies m c lines) (AreFirstReplies m c lines)
