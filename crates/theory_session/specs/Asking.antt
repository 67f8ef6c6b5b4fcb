-- The checks of a question in their order, and the question that is answered.
use Rattle.std.specs.Prelude.{ℕ, List, Option, None, Some, Result, Ok, Err}
use Rattle.theory_meaning.specs.declared.words.Kind.{Kind}
use Rattle.theory_meaning.specs.Point.{Name}
use Rattle.theory_meaning.specs.Tree.{Claim}
use Rattle.theory_derivative.specs.Sentence.{claim_in}
use Rattle.theory_session.specs.Answered.{fault_in}
use Rattle.theory_session.specs.Ask.{Question, AskFault, unknown_model, unknown_version, unknown_claim}
use Rattle.theory_session.specs.Lookup as lookup
use Rattle.theory_session.specs.Lookup.{Found}
use Rattle.theory_session.specs.Row.{Entry}

-- a question as it was sent; without a version it is about the last one
pub record AskRequest : Type 0 where
  pub model : Name
  pub version : Option ℕ
  pub claim : Name
  pub on : List Name
  pub kind : Kind

-- the question about this version
abbrev pub question_about_version : AskRequest → Entry → Question
question_about_version r e = record { model = e.row.model; version = e.row.version; claim = r.claim; on = r.on; kind = r.kind }

-- the version that is asked about, unless this fault comes
abbrev pub unless_refused : Entry → Option AskFault → Result Entry AskFault
unless_refused e None = Ok e
unless_refused e (Some fault) = Err fault

-- the version is there, and has this claim or none under the label
abbrev pub judge_claim : AskRequest → Entry → Option (Option Name × Claim) → Result Entry AskFault
judge_claim r e None = Err unknown_claim
judge_claim r e (Some own) = unless_refused e (fault_in e.lines (question_about_version r e))

-- the version that is asked about, or why the question is refused
abbrev pub judge_ask : AskRequest → Found → Result Entry AskFault
judge_ask r lookup.unknown_model = Err unknown_model
judge_ask r (lookup.unknown_version last) = Err (unknown_version last)
judge_ask r (lookup.found e) = judge_claim r e (claim_in e.lines r.claim)
