-- Rows that are accepted: each is the next of a desk that holds those before it.
use Rattle.std.specs.Prelude.{◌≡◌, ℕ, ◌+◌, List, [], ◌∷◌, ◌++◌, length, None}
use Rattle.theory_meaning.specs.Text.{Numbered, Op}
use Rattle.theory_session.specs.Creation.{CreateRequest, judge_create}
use Rattle.theory_session.specs.Editing.{EditRequest, judge_early, judge_late}
use Rattle.theory_session.specs.Judged.{addition}
use Rattle.theory_session.specs.Reading.{spelled, SpellsLinesBy, SpellsOpsBy}
use Rattle.theory_session.specs.Row.{Row, Entry, rows_of, IsRequestId}

-- the creation that a row was
abbrev pub creation_of : Row → CreateRequest
creation_of row = record { id = row.id; body = row.body }

-- the edit that a row was
abbrev pub edit_of : Row → EditRequest
edit_of row = record { model = row.model; base = row.base; id = row.id; body = row.body }

-- sent to a desk with these versions, the request of the row would add just this version
pub data IsNext (es : List Entry) (e : Entry) : Type 0 where
  by_creation : (lines : List Numbered) → IsRequestId e.row.id → SpellsLinesBy e.row.format e.row.body lines
      → judge_create es e.row.format (creation_of e.row) (spelled lines) ≡ addition e → IsNext es e
  by_edit : (ops : List Op) → IsRequestId e.row.id → SpellsOpsBy e.row.format e.row.body ops
      → judge_early es (edit_of e.row) ≡ None → judge_late es e.row.format (edit_of e.row) (spelled ops) ≡ addition e → IsNext es e

-- each is the next of those before it, which begin with these
abbrev pub AreAcceptedAfter : List Entry → List Entry → Type 0
AreAcceptedAfter before [] = Unit {0}
AreAcceptedAfter before (e ∷ es) = IsNext before e × AreAcceptedAfter (before ++ e ∷ []) es

-- each is the next of those before it
abbrev pub AreAccepted : List Entry → Type 0
AreAccepted = AreAcceptedAfter []

-- a desk whose keeper holds these rows has these versions
pub record IsDeskOf (rows : List Row) (es : List Entry) : Type 0 where
  pub rows_are : rows_of es ≡ rows
  pub accepted : AreAccepted es

-- behind these rows the row isn't accepted next
abbrev pub IsNotNext : List Entry → Row → Type 0
IsNotNext es row = (e : Entry) → e.row ≡ row → ¬ (IsNext es e)

-- the row of this number, from 1, is the first that isn't accepted behind those before it
pub record IsFirstBadRow (rows : List Row) (number : ℕ) : Type 0 where
  pub before : List Entry
  pub row : Row
  pub behind : List Row
  pub parts : rows ≡ rows_of before ++ row ∷ behind
  pub counted : number ≡ length before + 1
  pub accepted : AreAccepted before
  pub bad : IsNotNext before row
