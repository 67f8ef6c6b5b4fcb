-- Rows that aren't accepted, and desks at their limits.
use Rattle.std.proofs.Common.{◌≡◌, ◌≢◌, inl, inr, ℕ, suc, ◌+◌, ◌≤◌, ◌<◌, Bool, true, false, cond, nat_le, nat_lt, List, [], ◌∷◌, ◌++◌, Option, None, refl, sym, ap, subst, ◌∙◌, arith}
use Rattle.std.specs.List.{AllByRecursion}
use Rattle.std.proofs.lemmas.Bool.Decides.{nat_tests}
use Rattle.theory_meaning.specs.Deciding.{Meanings}
use Rattle.theory_meaning.specs.Text.{Numbered, Op}
use Rattle.theory_grammar.specs.RoundTrip.{NothingDivides}
use Rattle.theory_grammar.specs.Texts.{SpellsLines, IsOnce}
use Rattle.theory_session.specs.Accepted.{creation_of, edit_of, by_creation, by_edit, IsNotNext, IsFirstBadRow, IsDeskOf}
use Rattle.theory_session.specs.Create.{name_in}
use Rattle.theory_session.specs.Creation.{CreateRequest, CreateRefusal, models_full, text_full, first_entry, judge_new, judge_named, judge_lines, judge_create}
use Rattle.theory_session.specs.Editing.{EditRequest, EditRefusal, next_entry, judge_early, judge_next, judge_change, judge_late, last_lines}
use Rattle.theory_session.specs.Editing as editing
use Rattle.theory_session.specs.Judged.{Judged, refusal, addition}
use Rattle.theory_session.specs.Lookup.{last_version}
use Rattle.theory_session.specs.Reading.{spelled, IsFormat}
use Rattle.theory_session.specs.Row.{Row, Entry, present_format}
use Rattle.theory_session.specs.Run.{refused, of_creation, of_edit}
use Rattle.theory_session.specs.Run as run
use Rattle.theory_session.specs.Sizes.{size_in, size_of, most_models, most_versions, most_bytes}
use Rattle.theory_session.specs.Step.{Changes, EditsBy}
use Rattle.theory_session.specs.WorkedRows.{ratio_creation, ratio_model, ratio_entry, second_row, IsNewModel, IsNewVersion, ThousandModelsFit, NoModelMoreFits, TenThousandVersionsFit, NoVersionMoreFits}
use Rattle.theory_session.proofs.JudgedLaws.{create_adds, undecided}
use Rattle.theory_session.proofs.Spelling.{lines_are}
use Rattle.theory_session.proofs.WorkedLaws.{ratio_fits}

-- the first of one row isn't accepted
pub bad_alone : (row : Row) → IsNotNext [] row → IsFirstBadRow (row ∷ []) 1
bad_alone row bad = record { before = []; row = row; behind = []; parts = refl; counted = refl; accepted = tt; bad = bad }

-- on a desk without versions there is nothing to edit
no_edit : (row : Row) → judge_early [] (edit_of row) ≡ None → ⊥
no_edit row early = (undecided [] (edit_of row) early).there refl

-- so only a version 1 is accepted
pub second_is_bad : IsNotNext [] second_row
second_is_bad e same (by_edit ops id spells early judged) = no_edit e.row early
second_is_bad e same (by_creation lines id spells judged) =
    let first = create_adds [] e.row.format (creation_of e.row) lines e judged in
    let one : 1 ≡ 2 = ap (λ (x : Entry). x.row.version) first.first ∙ ap (λ (r : Row). r.version) same in
    absurd (omega (arith, one))

ratio_spelled : SpellsLines ratio_creation.body ratio_model
ratio_spelled = lines_are ratio_creation.body ratio_model refl refl

ratio_divides : AllByRecursion (λ (n : Numbered). NothingDivides n.line) ratio_model → ⊥
ratio_divides h = cc

-- the row is accepted where its format is 2, or 1 and nothing divides
pub ratio_is_bad : (format : ℕ) → format ≢ 2 → IsOnce SpellsLines → IsNotNext [] (ratio_entry format).row
ratio_is_bad format other once e same (by_edit ops id spells early judged) = no_edit e.row early
ratio_is_bad format other once e same (by_creation lines id spells judged) = by_format spells.written
  where
    lines_are_these : lines ≡ ratio_model
    lines_are_these =
        once e.row.body lines ratio_model spells.spelled (subst (λ (r : Row). SpellsLines r.body ratio_model) (sym same) ratio_spelled)

    by_format : IsFormat e.row.format (AllByRecursion (λ (n : Numbered). NothingDivides n.line) lines) → ⊥
    by_format (inl h) = ratio_divides (subst (AllByRecursion (λ (n : Numbered). NothingDivides n.line)) lines_are_these h.1)
    by_format (inr h) = other (sym (ap (λ (r : Row). r.format) same) ∙ h)

within : (n : ℕ) → n ≤ most_bytes → nat_lt most_bytes n ≡ false
within n h = grind (arith, nat_tests, h)

below : (most n : ℕ) → n < most → nat_le most n ≡ false
below most n h = grind (arith, nat_tests, h)

above : (most n : ℕ) → n ≡ most → nat_le most n ≡ true
above most n h = grind (arith, nat_tests, h)

judged_new : (es : List Entry) (r : CreateRequest) (lines : List Numbered) → IsNewModel es r lines
    → judge_create es present_format r (spelled lines) ≡ judge_new es (first_entry present_format r lines)
judged_new es r lines is =
    ap (judge_lines es r (first_entry present_format r lines)) is.faultless ∙ ap (judge_named es r (first_entry present_format r lines)) is.new

pub models_fit : (m : Meanings) → ThousandModelsFit m
models_fit m es r lines is few = (
  spelled lines,
  is.spelled,
  subst (λ (j : Judged CreateRefusal). Changes of_creation run.created es j (run.created (name_in lines) 1) (es ++ e ∷ []))
      (sym (judged_new es r lines is
      ∙ ap (λ (b : Bool). cond b (refusal models_full) (cond (nat_lt most_bytes (size_in es + size_of e)) (refusal text_full) (addition e))) (below most_models _ few)
      ∙ ap (λ (b : Bool). cond b (refusal text_full) (addition e)) (within _ is.small))) (inl (refl, refl)),
)
  where
    e : Entry
    e = first_entry present_format r lines

pub no_model_fits : (m : Meanings) → NoModelMoreFits m
no_model_fits m es r lines is full = (
  spelled lines,
  is.spelled,
  subst (λ (j : Judged CreateRefusal). Changes of_creation run.created es j (refused (of_creation models_full)) es)
      (sym (judged_new es r lines is
      ∙ ap (λ (b : Bool). cond b (refusal models_full) (cond (nat_lt most_bytes (size_in es + size_of e)) (refusal text_full) (addition e))) (above most_models _ full)))
      (refl, refl),
)
  where
    e : Entry
    e = first_entry present_format r lines

judged_next : (es : List Entry) (r : EditRequest) (ops : List Op) (lines : List Numbered) → IsNewVersion es r ops lines
    → judge_late es present_format r (spelled ops) ≡ judge_next es (next_entry present_format r (last_version r.model es) lines)
judged_next es r ops lines is = ap (judge_change es present_format r) is.changed

pub versions_fit : (m : Meanings) → TenThousandVersionsFit m
versions_fit m es r ops lines is few =
    subst (λ (o : Option (Judged EditRefusal)). EditsBy es r o (run.edited r.model (last_version r.model es + 1)) (es ++ e ∷ [])) (sym is.undecided) (
      spelled ops,
      is.spelled,
      subst (λ (j : Judged EditRefusal). Changes of_edit run.edited es j (run.edited r.model (last_version r.model es + 1)) (es ++ e ∷ []))
          (sym (judged_next es r ops lines is
          ∙ ap (λ (b : Bool). cond b (refusal editing.versions_full) (cond (nat_lt most_bytes (size_in es + size_of e)) (refusal editing.text_full) (addition e))) (below most_versions _ few)
          ∙ ap (λ (b : Bool). cond b (refusal editing.text_full) (addition e)) (within _ is.small))) (inl (ap (run.edited r.model) one_more, refl)),
    )
  where
    e : Entry
    e = next_entry present_format r (last_version r.model es) lines

    one_more : last_version r.model es + 1 ≡ suc (last_version r.model es)
    one_more = omega arith

pub no_version_fits : (m : Meanings) → NoVersionMoreFits m
no_version_fits m es r ops lines is full =
    subst (λ (o : Option (Judged EditRefusal)). EditsBy es r o (refused (of_edit editing.versions_full)) es) (sym is.undecided) (
      spelled ops,
      is.spelled,
      subst (λ (j : Judged EditRefusal). Changes of_edit run.edited es j (refused (of_edit editing.versions_full)) es)
          (sym (judged_next es r ops lines is
          ∙ ap (λ (b : Bool). cond b (refusal editing.versions_full) (cond (nat_lt most_bytes (size_in es + size_of e)) (refusal editing.text_full) (addition e))) (above most_versions _ full)))
          (refl, refl),
    )
  where
    e : Entry
    e = next_entry present_format r (last_version r.model es) lines

-- the row in format 2 is accepted
pub ratio_desk : IsDeskOf ((ratio_entry 2).row ∷ []) (ratio_entry 2 ∷ [])
ratio_desk = record {
  rows_are = refl;
  accepted = (by_creation ratio_model refl (record { spelled = ratio_spelled; written = inr refl }) judged, tt);
}
  where
    small : size_in [] + size_of (ratio_entry 2) ≤ most_bytes
    small = ratio_fits

    judged : judge_create [] 2 ratio_creation (spelled ratio_model) ≡ addition (ratio_entry 2)
    judged = ap (λ (b : Bool). cond b (refusal text_full) (addition (ratio_entry 2))) (within _ small)
