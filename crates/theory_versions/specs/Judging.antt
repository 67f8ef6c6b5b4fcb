-- What the checks of a change come to, in the types of the code.
use Rattle.std.specs.Prelude.{◌≡◌, ◌≢◌, ℕ, suc, List, Option, None, Some, Result, Ok, Err}
use Rattle.theory_meaning.specs.Edit as meaning
use Rattle.theory_meaning.specs.Text.{Numbered, Op}
use Rattle.theory_grammar.specs.Texts.{SpellsLines, IsFirstFault, SpellsOps, IsFirstOpsFault}
use Rattle.theory_session.specs.Creation as creation
use Rattle.theory_session.specs.Creation.{CreateRequest, CreateRefusal, judge_create, judge_new}
use Rattle.theory_session.specs.Editing as editing
use Rattle.theory_session.specs.Editing.{EditRequest, judge_early, judge_late, judge_next}
use Rattle.theory_session.specs.Judged as judged
use Rattle.theory_session.specs.Judged.{addition, repetition}
use Rattle.theory_session.specs.Lookup.{last_version}
use Rattle.theory_session.specs.Reading.{spelled}
use Rattle.theory_session.specs.Row as plain
use Rattle.theory_model.specs.Checked as model
use Rattle.theory_text.specs.Answers as text
use Rattle.theory_versions.specs.declared.created.CreateFault.{CreateFault}
use Rattle.theory_versions.specs.declared.created.CreateFault.TheVariants as fault
use Rattle.theory_versions.specs.declared.edited.EditRefusal.{EditRefusal}
use Rattle.theory_versions.specs.declared.edited.EditRefusal.TheVariants as refusal
use Rattle.theory_versions.specs.declared.entry.Entry.{Entry}
use Rattle.theory_versions.specs.declared.judged.Judged.{Judged}
use Rattle.theory_versions.specs.declared.judged.Judged.TheVariants.{Repetition, Addition}
use Rattle.theory_versions.specs.Book.{IsAddition}
use Rattle.theory_versions.specs.Editing.{IsEditFault}
use Rattle.theory_versions.specs.Entries.{entry_of}
use Rattle.theory_versions.specs.Made.{IsMadeOf}

-- the body of a creation is spelled, and its checks come to this
pub record FirstComesTo (es : List plain.Entry) (format : ℕ) (r : CreateRequest) (j : judged.Judged CreateRefusal) : Type 0 where
  pub lines : List Numbered
  pub read : SpellsLines r.body lines
  pub judged : judge_create es format r (spelled lines) ≡ j

-- what the limits say of a new model's version 1, or want of memory
abbrev pub IsJudgedNew : List plain.Entry → Entry → Result Judged CreateFault → Type 0
IsJudgedNew es e (Ok (Addition f size)) = (f ≡ e) × (judge_new es (entry_of e) ≡ addition (entry_of e)) × IsAddition es e size
IsJudgedNew es e (Err fault.ModelsFull) = judge_new es (entry_of e) ≡ judged.refusal creation.models_full
IsJudgedNew es e (Err fault.TextFull) = judge_new es (entry_of e) ≡ judged.refusal creation.text_full
IsJudgedNew es e (Err fault.Memory) = Unit {0}
IsJudgedNew es e _ = ⊥

-- what the checks of a creation come to, or want of memory
abbrev pub IsFirstJudged : List plain.Entry → ℕ → CreateRequest → Result Judged CreateFault → Type 0
IsFirstJudged es format r (Ok (Addition e size)) = FirstComesTo es format r (addition (entry_of e)) × IsAddition es e size
IsFirstJudged es format r (Ok (Repetition m)) = (old : plain.Entry) × FirstComesTo es format r (repetition old) × IsMadeOf old m
IsFirstJudged es format r (Err (fault.Text e)) = IsFirstFault r.body (text.fault_of e)
IsFirstJudged es format r (Err (fault.Model f)) = FirstComesTo es format r (judged.refusal (creation.model (model.fault_of f)))
IsFirstJudged es format r (Err (fault.IdReused v)) = FirstComesTo es format r (judged.refusal (creation.id_reused v))
IsFirstJudged es format r (Err fault.NameTaken) = FirstComesTo es format r (judged.refusal creation.name_taken)
IsFirstJudged es format r (Err fault.ModelsFull) = FirstComesTo es format r (judged.refusal creation.models_full)
IsFirstJudged es format r (Err fault.TextFull) = FirstComesTo es format r (judged.refusal creation.text_full)
IsFirstJudged es format r (Err fault.KeeperFault) = ⊥
IsFirstJudged es format r (Err fault.Memory) = Unit {0}

-- the body of an edit that nothing decides early is spelled, and its checks come to this
pub record LateComesTo (es : List plain.Entry) (format : ℕ) (r : EditRequest) (j : judged.Judged editing.EditRefusal) : Type 0 where
  pub ops : List Op
  pub read : SpellsOps r.body ops
  pub judged : judge_late es format r (spelled ops) ≡ j

-- what the limits say of a model's next version, or want of memory
abbrev pub IsJudgedNext : List plain.Entry → Entry → Result Judged EditRefusal → Type 0
IsJudgedNext es e (Ok (Addition f size)) = (f ≡ e) × (judge_next es (entry_of e) ≡ addition (entry_of e)) × IsAddition es e size
IsJudgedNext es e (Err refusal.VersionsFull) = judge_next es (entry_of e) ≡ judged.refusal editing.versions_full
IsJudgedNext es e (Err refusal.TextFull) = judge_next es (entry_of e) ≡ judged.refusal editing.text_full
IsJudgedNext es e (Err refusal.Memory) = Unit {0}
IsJudgedNext es e _ = ⊥

-- what the late checks of an edit come to, or want of memory
abbrev pub IsLateJudged : List plain.Entry → ℕ → EditRequest → Result Judged EditRefusal → Type 0
IsLateJudged es format r (Ok (Addition e size)) = LateComesTo es format r (addition (entry_of e)) × IsAddition es e size
IsLateJudged es format r (Err (refusal.Text e)) = IsFirstOpsFault r.body (text.fault_of e)
IsLateJudged es format r (Err (refusal.Edit f)) =
    (g : meaning.EditFault) × IsEditFault f g × LateComesTo es format r (judged.refusal (editing.edit g))
IsLateJudged es format r (Err refusal.VersionsFull) = LateComesTo es format r (judged.refusal editing.versions_full)
IsLateJudged es format r (Err refusal.TextFull) = LateComesTo es format r (judged.refusal editing.text_full)
IsLateJudged es format r (Err refusal.Memory) = Unit {0}
IsLateJudged es format r _ = ⊥

-- the early checks of an edit decide it so
abbrev pub EarlyComesTo : List plain.Entry → EditRequest → judged.Judged editing.EditRefusal → Type 0
EarlyComesTo es r j = judge_early es r ≡ Some j

-- what the checks of an edit come to, or want of memory
abbrev pub IsEditJudged : List plain.Entry → ℕ → EditRequest → Result Judged EditRefusal → Type 0
IsEditJudged es format r (Ok (Repetition m)) = (old : plain.Entry) × EarlyComesTo es r (repetition old) × IsMadeOf old m
IsEditJudged es format r (Err refusal.UnknownModel) = EarlyComesTo es r (judged.refusal editing.unknown_model)
IsEditJudged es format r (Err (refusal.IdReused v)) = EarlyComesTo es r (judged.refusal (editing.id_reused v))
IsEditJudged es format r (Err (refusal.Stale v)) = EarlyComesTo es r (judged.refusal (editing.stale v))
IsEditJudged es format r (Err refusal.Memory) = Unit {0}
IsEditJudged es format r result = (judge_early es r ≡ None) × IsLateJudged es format r result
