-- A check is a run of the desk: its model is created, and each claim is asked about.
use Rattle.std.specs.Prelude.{ℕ, ◌≤◌, List, [], ◌∷◌, map, None, codes}
use Rattle.theory_meaning.specs.declared.words.Kind.{Kind}
use Rattle.theory_meaning.specs.Deciding.{Meanings}
use Rattle.theory_meaning.specs.Edit.{IsModel}
use Rattle.theory_meaning.specs.Point.{Name}
use Rattle.theory_meaning.specs.Text.{Numbered}
use Rattle.theory_grammar.specs.Texts.{SpellsLines}
use Rattle.theory_session.specs.Check.{claim_labels, AreReplies}
use Rattle.theory_session.specs.Create.{name_in}
use Rattle.theory_session.specs.Creation.{CreateRequest, first_entry}
use Rattle.theory_session.specs.Row.{Entry, present_format}
use Rattle.theory_session.specs.Run.{Reply}
use Rattle.theory_session.specs.Sizes.{size_of, most_bytes}
use Rattle.theory_session.specs.Step.{Command, create, ask}
use Rattle.theory_session.specs.Steps.{Run}

-- the creation of the checked model
abbrev pub check_creation : List ℕ → CreateRequest
check_creation body = record { id = codes "check"; body = body }

-- its version
abbrev pub checked_entry : List ℕ → List Numbered → Entry
checked_entry body lines = first_entry present_format (check_creation body) lines

-- the question about one claim of the last version
abbrev pub question_sent : Name → List Name → Kind → Name → Command
question_sent model on kind label = ask (record { model = model; version = None; claim = label; on = on; kind = kind })

-- the commands of a check, on these names by this order
abbrev pub check_commands : List ℕ → List Numbered → List Name → Kind → List Command
check_commands body lines on kind = create (check_creation body) ∷ map (question_sent (name_in lines) on kind) (claim_labels lines)

-- the replies of a check are a run of its commands, where its text is within the limit on bytes
abbrev pub ChecksAreRuns : Meanings → Type 0
ChecksAreRuns m = (body : List ℕ) (lines : List Numbered) (on : List Name) (kind : Kind) (replies : List Reply)
    → SpellsLines body lines → IsModel lines → size_of (checked_entry body lines) ≤ most_bytes → AreReplies m lines on kind replies
    → Run m [] (check_commands body lines on kind) replies (checked_entry body lines ∷ [])
