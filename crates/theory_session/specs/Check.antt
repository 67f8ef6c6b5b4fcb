-- The replies of a check: a model is created, and each of its claims is asked about.
use Rattle.std.specs.Prelude.{◌≡◌, List, [], ◌∷◌, ◌++◌, map, Option, None, Some}
use Rattle.theory_meaning.specs.declared.words.Kind.{Kind}
use Rattle.theory_meaning.specs.Deciding.{Meanings}
use Rattle.theory_meaning.specs.Point.{Name}
use Rattle.theory_meaning.specs.Text.{Numbered}
use Rattle.theory_meaning.specs.Tree as tree
use Rattle.theory_meaning.specs.Tree.{Line}
use Rattle.theory_session.specs.Create.{name_in, first_version}
use Rattle.theory_session.specs.Ask.{Question, Answer, AskFault}
use Rattle.theory_session.specs.Answered.{IsAnswer, fault_in}
use Rattle.theory_session.specs.Run.{Reply, created, answered, refused, of_question}

-- the label of a claim before those of the claims behind it
abbrev pub onto_labels : Line → List Name → List Name
onto_labels (tree.claim label shift c) labels = label ∷ labels
onto_labels _ labels = labels

-- the labels of the claims, in text order
abbrev pub claim_labels : List Numbered → List Name
claim_labels [] = []
claim_labels (n ∷ ns) = onto_labels n.line (claim_labels ns)

-- the question about one claim of the first version: on these names, by this order
abbrev pub question_about : Name → List Name → Kind → Name → Question
question_about model on kind label = record { model = model; version = first_version; claim = label; on = on; kind = kind }

-- the questions of a check, one a claim in text order
abbrev pub questions_of : List Numbered → List Name → Kind → List Question
questions_of lines on kind = map (question_about (name_in lines) on kind) (claim_labels lines)

-- the reply to a question that isn't refused holds its answer
abbrev pub RepliesBy : Meanings → List Numbered → Question → Option AskFault → Reply → Type 0
RepliesBy m lines q None reply = (a : Answer) × IsAnswer m lines q a × (reply ≡ answered a)
RepliesBy m lines q (Some fault) reply = reply ≡ refused (of_question fault)

-- the reply to a question
abbrev pub Replies : Meanings → List Numbered → Question → Reply → Type 0
Replies m lines q reply = RepliesBy m lines q (fault_in lines q) reply

-- one reply a question, in their order
abbrev pub AreRepliesTo : Meanings → List Numbered → List Question → List Reply → Type 0
AreRepliesTo m lines [] replies = replies ≡ []
AreRepliesTo m lines (q ∷ qs) [] = ⊥
AreRepliesTo m lines (q ∷ qs) (reply ∷ replies) = Replies m lines q reply × AreRepliesTo m lines qs replies

-- the reply to the creation of a model of these lines
abbrev pub creation : List Numbered → Reply
creation lines = created (name_in lines) first_version

-- the replies of a check of a model on names by an order: the creation, and one to the question about each claim
abbrev pub AreReplies : Meanings → List Numbered → List Name → Kind → List Reply → Type 0
AreReplies m lines on kind [] = ⊥
AreReplies m lines on kind (first ∷ replies) = (first ≡ creation lines) × AreRepliesTo m lines (questions_of lines on kind) replies

-- a beginning of these replies: the creation and those about the first claims, or nothing
abbrev pub AreFirstReplies : Meanings → List Numbered → List Name → Kind → List Reply → Type 0
AreFirstReplies m lines on kind [] = Unit {0}
AreFirstReplies m lines on kind (first ∷ replies) =
    (first ≡ creation lines)
    × ((asked : List Question) × (more : List Question) × (asked ++ more ≡ questions_of lines on kind) × AreRepliesTo m lines asked replies)
