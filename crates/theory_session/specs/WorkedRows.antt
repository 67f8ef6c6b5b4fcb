-- Worked rows: a text in which something divides, in each format, and a desk that is full.
use Rattle.std.specs.Prelude.{◌≡◌, ℕ, ◌+◌, ◌≤◌, ◌<◌, List, [], ◌∷◌, ◌++◌, length, None, Ok, codes}
use Rattle.theory_meaning.specs.declared.words.Rel.TheVariants.{Gt}
use Rattle.theory_meaning.specs.Deciding.{Meanings}
use Rattle.theory_meaning.specs.Edit.{edited}
use Rattle.theory_meaning.specs.ModelFault.{model_fault}
use Rattle.theory_meaning.specs.Text.{Numbered, Op}
use Rattle.theory_meaning.specs.Tree.{symbol, quotient, atom, model, var, param, assume, claim}
use Rattle.theory_derivative.specs.Worked.{zero}
use Rattle.theory_grammar.specs.Texts.{SpellsLines, SpellsOps}
use Rattle.theory_session.specs.Create.{name_in, first_version}
use Rattle.theory_session.specs.Creation.{CreateRequest, first_entry, models_full}
use Rattle.theory_session.specs.Editing.{EditRequest, next_entry, last_lines, judge_early, versions_full}
use Rattle.theory_session.specs.Lookup.{version_at, last_version, models_in}
use Rattle.theory_session.specs.Row.{Row, Entry, present_format}
use Rattle.theory_session.specs.Run.{created, refused, of_creation, of_edit}
use Rattle.theory_session.specs.Run as run
use Rattle.theory_session.specs.Sizes.{size_in, size_of, most_bytes}
use Rattle.theory_session.specs.Step.{create, edit, Step}
use Rattle.theory_session.specs.WorkedDesk.{text_from}

-- a creation of a model in which t/x stands
abbrev pub ratio_creation : CreateRequest
ratio_creation = record {
  id = codes "a";
  body = text_from (codes "model v" ∷ codes "var x" ∷ codes "param t" ∷ codes "assume A: x > 0" ∷ codes "claim C: t/x > 0" ∷ []);
}

-- its lines
abbrev pub ratio_model : List Numbered
ratio_model =
    record { at = 1; line = model (codes "v") }
    ∷ record { at = 2; line = var (codes "x") }
    ∷ record { at = 3; line = param (codes "t") }
    ∷ record { at = 4; line = assume (codes "A") (atom (symbol (codes "x")) Gt zero) }
    ∷ record { at = 5; line = claim (codes "C") None (atom (quotient (symbol (codes "t")) (symbol (codes "x"))) Gt zero) }
    ∷ []

-- its version 1 as a row of this format
abbrev pub ratio_entry : ℕ → Entry
ratio_entry format = first_entry format ratio_creation ratio_model

-- a row that would be version 2 of a model of which there is no version 1
abbrev pub second_row : Row
second_row = record { format = 2; model = codes "m"; version = 2; base = 1; id = codes "a"; body = [] }

-- a creation of a new model that passes the checks of its text and the limit on bytes
pub record IsNewModel (es : List Entry) (r : CreateRequest) (lines : List Numbered) : Type 0 where
  pub spelled : SpellsLines r.body lines
  pub faultless : model_fault lines ≡ None
  pub new : version_at (name_in lines) first_version es ≡ None
  pub small : size_in es + size_of (first_entry present_format r lines) ≤ most_bytes

-- below 1,000 models it is created, the 1,000th included; from then on it is refused
abbrev pub ThousandModelsFit : Meanings → Type 0
ThousandModelsFit m = (es : List Entry) (r : CreateRequest) (lines : List Numbered) → IsNewModel es r lines → length (models_in es) < 1000
    → Step m es (create r) (created (name_in lines) 1) (es ++ first_entry present_format r lines ∷ [])

abbrev pub NoModelMoreFits : Meanings → Type 0
NoModelMoreFits m = (es : List Entry) (r : CreateRequest) (lines : List Numbered) → IsNewModel es r lines → length (models_in es) ≡ 1000
    → Step m es (create r) (refused (of_creation models_full)) es

-- an edit that passes all checks but those of limits, and the limit on bytes
pub record IsNewVersion (es : List Entry) (r : EditRequest) (ops : List Op) (lines : List Numbered) : Type 0 where
  pub undecided : judge_early es r ≡ None
  pub spelled : SpellsOps r.body ops
  pub changed : edited ops (last_lines r.model es) ≡ Ok lines
  pub small : size_in es + size_of (next_entry present_format r (last_version r.model es) lines) ≤ most_bytes

-- below 10,000 versions it is accepted, the 10,000th included; from then on it is refused
abbrev pub TenThousandVersionsFit : Meanings → Type 0
TenThousandVersionsFit m = (es : List Entry) (r : EditRequest) (ops : List Op) (lines : List Numbered) → IsNewVersion es r ops lines
    → last_version r.model es < 10000
    → Step m es (edit r) (run.edited r.model (last_version r.model es + 1)) (es ++ next_entry present_format r (last_version r.model es) lines ∷ [])

abbrev pub NoVersionMoreFits : Meanings → Type 0
NoVersionMoreFits m = (es : List Entry) (r : EditRequest) (ops : List Op) (lines : List Numbered) → IsNewVersion es r ops lines
    → last_version r.model es ≡ 10000
    → Step m es (edit r) (refused (of_edit versions_full)) es
