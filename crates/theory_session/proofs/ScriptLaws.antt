-- Steps of worked scripts, from what their bodies spell and what their checks come to.
use Rattle.std.proofs.Common.{◌≡◌, ℕ, ◌+◌, ◌≤◌, Bool, false, cond, nat_lt, List, [], ◌∷◌, ◌++◌, Option, None, inl, inr, refl, sym, ap, subst, ◌∙◌, arith}
use Rattle.std.proofs.lemmas.Bool.Decides.{nat_tests}
use Rattle.theory_meaning.specs.Deciding.{Meanings}
use Rattle.theory_meaning.specs.Text.{Numbered, Op}
use Rattle.theory_grammar.specs.Texts.{SpellsLines, SpellsOps}
use Rattle.theory_session.specs.Creation.{CreateRequest, CreateRefusal, judge_create}
use Rattle.theory_session.specs.Creation as creation
use Rattle.theory_session.specs.Editing.{EditRequest, EditRefusal, judge_early, judge_late}
use Rattle.theory_session.specs.Editing as editing
use Rattle.theory_session.specs.Judged.{Judged, refusal, addition}
use Rattle.theory_session.specs.Reading.{spelled}
use Rattle.theory_session.specs.Row.{Entry, present_format}
use Rattle.theory_session.specs.Run.{created, edited, refused, of_creation, of_edit, keeper_fault}
use Rattle.theory_session.specs.Sizes.{size_in, size_of, most_bytes}
use Rattle.theory_session.specs.Step.{create, edit, Changes, EditsBy, Step}

within : (n : ℕ) → n ≤ most_bytes → nat_lt most_bytes n ≡ false
within n h = grind (arith, nat_tests, h)

-- a creation that is added, where all checks but the last come so far
pub created_step : (m : Meanings) (es : List Entry) (r : CreateRequest) (lines : List Numbered) (e : Entry) → SpellsLines r.body lines
    → judge_create es present_format r (spelled lines) ≡ cond (nat_lt most_bytes (size_in es + size_of e)) (refusal creation.text_full) (addition e)
    → size_in es + size_of e ≤ most_bytes → Step m es (create r) (created e.row.model e.row.version) (es ++ e ∷ [])
created_step m es r lines e spells judged small = (
  spelled lines,
  spells,
  subst (λ (j : Judged CreateRefusal). Changes of_creation created es j (created e.row.model e.row.version) (es ++ e ∷ []))
      (sym (judged ∙ ap (λ (b : Bool). cond b (refusal creation.text_full) (addition e)) (within _ small))) (inl (refl, refl)),
)

late : (es : List Entry) (r : EditRequest) (ops : List Op) (e : Entry)
    → judge_late es present_format r (spelled ops) ≡ cond (nat_lt most_bytes (size_in es + size_of e)) (refusal editing.text_full) (addition e)
    → size_in es + size_of e ≤ most_bytes → addition e ≡ judge_late es present_format r (spelled ops)
late es r ops e judged small = sym (judged ∙ ap (λ (b : Bool). cond b (refusal editing.text_full) (addition e)) (within _ small))

-- an edit that is added
pub edited_step : (m : Meanings) (es : List Entry) (r : EditRequest) (ops : List Op) (e : Entry) → SpellsOps r.body ops → judge_early es r ≡ None
    → judge_late es present_format r (spelled ops) ≡ cond (nat_lt most_bytes (size_in es + size_of e)) (refusal editing.text_full) (addition e)
    → size_in es + size_of e ≤ most_bytes → Step m es (edit r) (edited e.row.model e.row.version) (es ++ e ∷ [])
edited_step m es r ops e spells early judged small =
    subst (λ (o : Option (Judged EditRefusal)). EditsBy es r o (edited e.row.model e.row.version) (es ++ e ∷ [])) (sym early) (
      spelled ops,
      spells,
      subst (λ (j : Judged EditRefusal). Changes of_edit edited es j (edited e.row.model e.row.version) (es ++ e ∷ []))
          (late es r ops e judged small) (inl (refl, refl)),
    )

-- one that the keeper fails at
pub failed_step : (m : Meanings) (es : List Entry) (r : EditRequest) (ops : List Op) (e : Entry) → SpellsOps r.body ops → judge_early es r ≡ None
    → judge_late es present_format r (spelled ops) ≡ cond (nat_lt most_bytes (size_in es + size_of e)) (refusal editing.text_full) (addition e)
    → size_in es + size_of e ≤ most_bytes → Step m es (edit r) (refused keeper_fault) es
failed_step m es r ops e spells early judged small =
    subst (λ (o : Option (Judged EditRefusal)). EditsBy es r o (refused keeper_fault) es) (sym early) (
      spelled ops,
      spells,
      subst (λ (j : Judged EditRefusal). Changes of_edit edited es j (refused keeper_fault) es) (late es r ops e judged small) (inr (refl, refl)),
    )
