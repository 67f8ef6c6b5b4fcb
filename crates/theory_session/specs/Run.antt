-- The replies of the desk, and which of them leave something open.
use Rattle.std.specs.Prelude.{ℕ, Bool, true, false, List}
use Rattle.std.specs.List.{list_any}
use Rattle.theory_meaning.specs.declared.words.Verdict.{Verdict}
use Rattle.theory_meaning.specs.declared.words.Verdict.TheVariants.{Holds, Fails, Contradictory, Mixed, Undecided}
use Rattle.theory_meaning.specs.Point.{Name}
use Rattle.theory_derivative.specs.Differentiated.{Differentiated}
use Rattle.theory_session.specs.Ask.{Answer, AskFault}
use Rattle.theory_session.specs.Creation.{CreateRefusal}
use Rattle.theory_session.specs.Editing.{EditRefusal}
use Rattle.theory_session.specs.Showing.{ShowRefusal}

-- why a request is refused: by its checks, by a fault of the keeper, or by want of memory
pub data Refusal : Type 0 where
  of_creation : CreateRefusal → Refusal
  of_edit : EditRefusal → Refusal
  of_question : AskFault → Refusal
  of_show : ShowRefusal → Refusal
  keeper_fault : Refusal
  no_memory : Refusal

-- a reply: a model was created or edited, with its name and version; the answer to a question; the printed text of a version;
-- the models, each with its last version; a refusal; differentiated equations
pub data Reply : Type 0 where
  created : Name → ℕ → Reply
  edited : Name → ℕ → Reply
  answered : Answer → Reply
  shown : Name → ℕ → List ℕ → Reply
  listed : List (Name × ℕ) → Reply
  refused : Refusal → Reply
  derived : List Differentiated → Reply

-- the verdict leaves the claim undecided
abbrev pub is_left : Verdict → Bool
is_left Holds = false
is_left Fails = false
is_left Contradictory = false
is_left Mixed = false
is_left Undecided = true

-- the reply is a refusal, or leaves its claim undecided
abbrev pub is_open : Reply → Bool
is_open (created model version) = false
is_open (edited model version) = false
is_open (answered a) = is_left a.verdict
is_open (shown model version text) = false
is_open (listed models) = false
is_open (refused r) = true
is_open (derived equations) = false

-- some reply is
abbrev pub some_open : List Reply → Bool
some_open replies = list_any is_open replies
