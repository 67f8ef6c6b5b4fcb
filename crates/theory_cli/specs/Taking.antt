-- What a sink took: a text, a beginning of one, or the prints of replies.
use Rattle.std.specs.Prelude.{◌≡◌, ℕ, ◌≤◌, List, [], ◌∷◌, ◌++◌}
use Rattle.theory_meaning.specs.Faults.{Rose, Took, TookPart}
use Rattle.theory_edge.specs.Sinks.{SinkTold}
use Rattle.theory_session.specs.Run.{Reply}
use Rattle.theory_session.specs.Printed.{reply_text, replies_text}

-- the sink took the whole text, and its count of faults didn't fall
pub record IsTold (text : List ℕ) (before now : SinkTold) : Type 0 where
  pub took : Took before.held now.held text
  pub later : before.faults ≤ now.faults

-- the sink took a beginning of the text, and its count of faults rose
pub record IsCutOff (text : List ℕ) (before now : SinkTold) : Type 0 where
  pub part : TookPart before.held now.held text
  pub rose : Rose before.faults now.faults

-- the sink took the prints of all these replies, and where there are none it is as it was
abbrev pub TookReplies : List Reply → SinkTold → SinkTold → Type 0
TookReplies [] before now = now ≡ before
TookReplies (r ∷ rs) before now = IsTold (replies_text (r ∷ rs)) before now

-- the sink took the prints of all replies but the last, and then a beginning of that of the last
pub record CutInLast (replies : List Reply) (before now : SinkTold) : Type 0 where
  pub whole : List Reply
  pub last : Reply
  pub between : SinkTold
  pub all : replies ≡ whole ++ last ∷ []
  pub taken : TookReplies whole before between
  pub cut : IsCutOff (reply_text last) between now
