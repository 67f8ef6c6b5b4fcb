-- What an earlier request with the same id decides of an edit.
use Rattle.std.proofs.Common.{◌≡◌, ◌≢◌, ℕ, ◌==◌, Bool, true, false, cond, List, Option, Some, Result, Ok, Err, refl, sym, ap, ◌∙◌}
use Rattle.std.proofs.lemmas.Bool.{eqb-true}
use Rattle.theory_session.specs.Editing as editing
use Rattle.theory_session.specs.Editing.{EditRequest, with_id, judge_earlier, judge_base, judge_early}
use Rattle.theory_session.specs.Judged as judged
use Rattle.theory_session.specs.Judged.{refusal}
use Rattle.theory_session.specs.Lookup.{last_version, versions_of}
use Rattle.theory_session.specs.Row as plain
use Rattle.theory_versions.specs.declared.edited.EditRefusal.{EditRefusal}
use Rattle.theory_versions.specs.declared.edited.EditRefusal.TheVariants as why
use Rattle.theory_versions.specs.declared.judged.Judged.{Judged}
use Rattle.theory_versions.specs.declared.judged.Judged.TheVariants.{Repetition, Addition}
use Rattle.theory_versions.specs.Editing.{IsEarlier}
use Rattle.theory_versions.specs.Judging.{IsEditJudged}

-- a model that is there, where a request with this id made a version
decided : (es : List plain.Entry) (r : EditRequest) (old : plain.Entry) → last_version r.model es ≢ 0
    → Some old ≡ with_id r.id (versions_of r.model es) → judge_early es r ≡ Some (judge_earlier r old)
decided es r old there found = by (last_version r.model es == 0) refl
  where
    made : Option (judged.Judged editing.EditRefusal)
    made = judge_base r (last_version r.model es) (with_id r.id (versions_of r.model es))

    by : (b : Bool) → (last_version r.model es == 0) ≡ b → cond b (Some (refusal editing.unknown_model)) made ≡ Some (judge_earlier r old)
    by true is = absurd (there (eqb-true (last_version r.model es) 0 is))
    by false is = ap (λ (o : Option plain.Entry). judge_base r (last_version r.model es) o) (sym found)

-- what is judged of the earlier request is what comes of the edit
pub earlier_decides : (es : List plain.Entry) (format : ℕ) (r : EditRequest) (old : plain.Entry) (result : Result Judged EditRefusal)
    → last_version r.model es ≢ 0 → Some old ≡ with_id r.id (versions_of r.model es) → IsEarlier (judge_earlier r old) old result
    → IsEditJudged es format r result
earlier_decides es format r old (Ok (Repetition m)) there found h = (old, decided es r old there found ∙ ap (λ j. Some j) h.0, h.1)
earlier_decides es format r old (Ok (Addition e size)) there found h = absurd h
earlier_decides es format r old (Err why.UnknownModel) there found h = absurd h
earlier_decides es format r old (Err (why.IdReused v)) there found h = decided es r old there found ∙ ap (λ j. Some j) h
earlier_decides es format r old (Err (why.Stale v)) there found h = absurd h
earlier_decides es format r old (Err (why.Text e)) there found h = absurd h
earlier_decides es format r old (Err (why.Edit f)) there found h = absurd h
earlier_decides es format r old (Err why.VersionsFull) there found h = absurd h
earlier_decides es format r old (Err why.TextFull) there found h = absurd h
earlier_decides es format r old (Err why.KeeperFault) there found h = absurd h
earlier_decides es format r old (Err why.Memory) there found h = tt
