-- The checks of a creation in their order, and what comes of them.
use Rattle.std.specs.Prelude.{ℕ, ◌+◌, nat_le, nat_lt, List, length, Option, None, Some, if◌then◌else◌}
use Rattle.std.specs.Str.{bytes_eq}
use Rattle.theory_meaning.specs.ModelFault.{ModelFault, model_fault}
use Rattle.theory_meaning.specs.Point.{Name}
use Rattle.theory_meaning.specs.Text.{Numbered}
use Rattle.theory_grammar.specs.TextFault.{Fault}
use Rattle.theory_session.specs.Create.{name_in, first_version}
use Rattle.theory_session.specs.Judged.{Judged, refusal, repetition, addition}
use Rattle.theory_session.specs.Lookup.{version_at, models_in}
use Rattle.theory_session.specs.Reading.{Read, spelled, faulty}
use Rattle.theory_session.specs.Row.{Entry}
use Rattle.theory_session.specs.Sizes.{size_of, size_in, most_models, most_bytes}

-- why a creation is refused, in the order of the checks
pub data CreateRefusal : Type 0 where
  text : Fault → CreateRefusal
  model : ModelFault → CreateRefusal
  id_reused : ℕ → CreateRefusal
  name_taken : CreateRefusal
  models_full : CreateRefusal
  text_full : CreateRefusal

-- a creation as it was sent
pub record CreateRequest : Type 0 where
  pub id : Name
  pub body : List ℕ

-- version 1 of a model by this request, whose body is of this format and spells these lines
abbrev pub first_entry : ℕ → CreateRequest → List Numbered → Entry
first_entry format r lines =
    record {
      row = record { format = format; model = name_in lines; version = first_version; base = 0; id = r.id; body = r.body };
      lines = lines;
    }

-- the model is there, with this version 1
abbrev pub judge_again : CreateRequest → Entry → Judged CreateRefusal
judge_again r e =
    if bytes_eq e.row.id r.id then (if bytes_eq e.row.body r.body then repetition e else refusal (id_reused first_version))
    else refusal name_taken

-- the model isn't there, and would get this version 1
abbrev pub judge_new : List Entry → Entry → Judged CreateRefusal
judge_new es e =
    if nat_le most_models (length (models_in es)) then refusal models_full else
    if nat_lt most_bytes (size_in es + size_of e) then refusal text_full else addition e

-- no kind of fault applies to the lines of this version 1
abbrev pub judge_named : List Entry → CreateRequest → Entry → Option Entry → Judged CreateRefusal
judge_named es r e (Some old) = judge_again r old
judge_named es r e None = judge_new es e

-- the body spells the lines of this version 1, with this fault or none
abbrev pub judge_lines : List Entry → CreateRequest → Entry → Option ModelFault → Judged CreateRefusal
judge_lines es r e (Some fault) = refusal (model fault)
judge_lines es r e None = judge_named es r e (version_at e.row.model first_version es)

-- what comes of a creation whose body is of this format and is read so
abbrev pub judge_create : List Entry → ℕ → CreateRequest → Read (List Numbered) → Judged CreateRefusal
judge_create es format r (faulty fault) = refusal (text fault)
judge_create es format r (spelled lines) = judge_lines es r (first_entry format r lines) (model_fault lines)
