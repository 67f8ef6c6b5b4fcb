-- The checks of an edit in their order, and what comes of them.
use Rattle.std.specs.Prelude.{ℕ, suc, ◌+◌, ◌==◌, ◌&&◌, nat_le, nat_lt, List, [], ◌∷◌, Option, None, Some, Result, Ok, Err, if◌then◌else◌}
use Rattle.std.specs.Str.{bytes_eq}
use Rattle.theory_meaning.specs.Edit.{EditFault, edited}
use Rattle.theory_meaning.specs.Point.{Name}
use Rattle.theory_meaning.specs.Text.{Numbered, Op}
use Rattle.theory_grammar.specs.TextFault.{Fault}
use Rattle.theory_session.specs.Judged.{Judged, refusal, repetition, addition}
use Rattle.theory_session.specs.Lookup.{versions_of, last_version, version_at}
use Rattle.theory_session.specs.Reading.{Read, spelled, faulty}
use Rattle.theory_session.specs.Row.{Entry}
use Rattle.theory_session.specs.Sizes.{size_of, size_in, most_versions, most_bytes}

-- why an edit is refused, in the order of the checks
pub data EditRefusal : Type 0 where
  unknown_model : EditRefusal
  id_reused : ℕ → EditRefusal
  stale : ℕ → EditRefusal
  text : Fault → EditRefusal
  edit : EditFault → EditRefusal
  versions_full : EditRefusal
  text_full : EditRefusal

-- an edit as it was sent
pub record EditRequest : Type 0 where
  pub model : Name
  pub base : ℕ
  pub id : Name
  pub body : List ℕ

-- the version that a request with this id made
abbrev pub with_id : Name → List Entry → Option Entry
with_id id [] = None
with_id id (e ∷ es) = if bytes_eq e.row.id id then Some e else with_id id es

-- the lines of a version, where there is one
abbrev pub lines_in : Option Entry → List Numbered
lines_in None = []
lines_in (Some e) = e.lines

-- the lines of the last version
abbrev pub last_lines : Name → List Entry → List Numbered
last_lines model es = lines_in (version_at model (last_version model es) es)

-- the version with these lines that an edit of this format makes on the last one
abbrev pub next_entry : ℕ → EditRequest → ℕ → List Numbered → Entry
next_entry format r last lines =
    record {
      row = record { format = format; model = r.model; version = suc last; base = last; id = r.id; body = r.body };
      lines = lines;
    }

-- a request with this id made this version
abbrev pub judge_earlier : EditRequest → Entry → Judged EditRefusal
judge_earlier r e =
    if (e.row.base == r.base) && bytes_eq e.row.body r.body then repetition e else refusal (id_reused e.row.version)

-- the model is there; what its id and its base decide
abbrev pub judge_base : EditRequest → ℕ → Option Entry → Option (Judged EditRefusal)
judge_base r last (Some e) = Some (judge_earlier r e)
judge_base r last None = if r.base == last then None else Some (refusal (stale last))

-- the checks before the body is read, where one decides
abbrev pub judge_early : List Entry → EditRequest → Option (Judged EditRefusal)
judge_early es r =
    if last_version r.model es == 0 then Some (refusal unknown_model)
    else judge_base r (last_version r.model es) (with_id r.id (versions_of r.model es))

-- the model would get this version
abbrev pub judge_next : List Entry → Entry → Judged EditRefusal
judge_next es e =
    if nat_le most_versions e.row.base then refusal versions_full else
    if nat_lt most_bytes (size_in es + size_of e) then refusal text_full else addition e

-- the operations leave these lines, or fail
abbrev pub judge_change : List Entry → ℕ → EditRequest → Result (List Numbered) EditFault → Judged EditRefusal
judge_change es format r (Err fault) = refusal (edit fault)
judge_change es format r (Ok lines) = judge_next es (next_entry format r (last_version r.model es) lines)

-- what comes of an edit that isn't decided before, whose body is of this format and is read so
abbrev pub judge_late : List Entry → ℕ → EditRequest → Read (List Op) → Judged EditRefusal
judge_late es format r (faulty fault) = refusal (text fault)
judge_late es format r (spelled ops) = judge_change es format r (edited ops (last_lines r.model es))
