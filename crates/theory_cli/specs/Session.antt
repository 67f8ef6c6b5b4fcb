-- The replies of a command to a model.
use Rattle.std.specs.Prelude.{List}
use Rattle.theory_meaning.specs.Deciding.{Meanings}
use Rattle.theory_meaning.specs.Text.{Numbered}
use Rattle.theory_session.specs.Run.{Reply}
use Rattle.theory_session.specs.Check as check_session
use Rattle.theory_session.specs.Derive.{AreDerived, AreFirstDerived}
use Rattle.theory_words.specs.Commands.{Command, check, derive}

-- the replies of a command to a model of these lines
abbrev pub AreReplies : Meanings → Command → List Numbered → List Reply → Type 0
AreReplies m (check file kind on) lines replies = check_session.AreReplies m lines on kind replies
AreReplies m (derive file) lines replies = AreDerived lines replies

-- a beginning of these replies
abbrev pub AreFirstReplies : Meanings → Command → List Numbered → List Reply → Type 0
AreFirstReplies m (check file kind on) lines replies = check_session.AreFirstReplies m lines on kind replies
AreFirstReplies m (derive file) lines replies = AreFirstDerived lines replies
