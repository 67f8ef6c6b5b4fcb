-- What the checks of a change come to, and what is then added.
use Rattle.std.proofs.Common.{◌≡◌, ◌≢◌, ℕ, ◌+◌, ◌==◌, ◌&&◌, Bool, true, false, cond, nat_le, nat_lt, List, length, Option, None, Some, Result, Ok, Err, refl, sym, ap, subst, ◌∙◌}
use Rattle.std.proofs.lemmas.Bool.{eqb-true, eqb-false}
use Rattle.std.specs.Str.{bytes_eq}
use Rattle.theory_meaning.specs.Edit.{EditFault}
use Rattle.theory_meaning.specs.ModelFault.{ModelFault, model_fault}
use Rattle.theory_meaning.specs.Text.{Numbered, Op}
use Rattle.theory_session.specs.Create.{name_in, first_version}
use Rattle.theory_session.specs.Creation.{CreateRefusal, CreateRequest, id_reused, name_taken, first_entry, judge_new, judge_named, judge_lines, judge_create}
use Rattle.theory_session.specs.Editing.{EditRequest, EditRefusal, unknown_model, id_reused as id_reused_edit, next_entry, judge_earlier, judge_base, judge_early, judge_next, judge_change, judge_late, with_id}
use Rattle.theory_session.specs.Judged.{Judged, refusal, repetition, addition}
use Rattle.theory_session.specs.Lookup.{versions_of, last_version, version_at, models_in}
use Rattle.theory_session.specs.Reading.{Read, spelled, faulty}
use Rattle.theory_session.specs.Row.{Entry}
use Rattle.theory_session.specs.Sizes.{size_of, size_in, most_models, most_versions, most_bytes}

-- what is added behind a test
past_test : {R : Type 0} (b : Bool) (r : R) (j : Judged R) (e : Entry) → cond b (refusal r) j ≡ addition e → j ≡ addition e
past_test true r j e h = absurd cc
past_test false r j e h = h

-- an addition isn't a repetition
added_repeats : {R : Type 0} (x e : Entry) → ◌≡◌ {A = Judged R} (addition x) (repetition e) → ⊥
added_repeats x e h = cc

-- what is repeated behind a test
past_repeat : {R : Type 0} (b : Bool) (r : R) (j : Judged R) (e : Entry) → cond b (refusal r) j ≡ repetition e → j ≡ repetition e
past_repeat true r j e h = absurd cc
past_repeat false r j e h = h

new_adds : (es : List Entry) (x e : Entry) → judge_new es x ≡ addition e → x ≡ e
new_adds es x e h =
    let inner = past_test (nat_lt most_bytes (size_in es + size_of x)) _ (addition x) e (past_test (nat_le most_models (length (models_in es))) _ _ e h) in cc

new_repeats : (es : List Entry) (x e : Entry) → judge_new es x ≡ repetition e → ⊥
new_repeats es x e h =
    added_repeats {R = CreateRefusal} x e
    (past_repeat (nat_lt most_bytes (size_in es + size_of x)) _ (addition x) e (past_repeat (nat_le most_models (length (models_in es))) _ _ e h))

again_adds : (b c : Bool) (x e : Entry) (r s : CreateRefusal) → cond b (cond c (repetition x) (refusal r)) (refusal s) ≡ addition e → ⊥
again_adds true true x e r s h = cc
again_adds true false x e r s h = cc
again_adds false c x e r s h = cc

-- the version is repeated, and both tests hold
again_repeats : (b c : Bool) (x e : Entry) (r s : CreateRefusal) → cond b (cond c (repetition x) (refusal r)) (refusal s) ≡ repetition e
    → (b ≡ true) × (c ≡ true) × (x ≡ e)
again_repeats true true x e r s h = (refl, refl, cc)
again_repeats true false x e r s h = absurd cc
again_repeats false c x e r s h = absurd cc

-- a creation adds version 1 by its own request, of a model without a fault that isn't there
pub record CreateAdds (es : List Entry) (format : ℕ) (r : CreateRequest) (lines : List Numbered) (e : Entry) : Type 0 where
  pub first : first_entry format r lines ≡ e
  pub faultless : model_fault lines ≡ None
  pub new : version_at (name_in lines) first_version es ≡ None

pub create_adds : (es : List Entry) (format : ℕ) (r : CreateRequest) (lines : List Numbered) (e : Entry)
    → judge_create es format r (spelled lines) ≡ addition e → CreateAdds es format r lines e
create_adds es format r lines e h = by_fault (model_fault lines) refl h
  where
    by_version : (o : Option Entry) → version_at (name_in lines) first_version es ≡ o → model_fault lines ≡ None
        → judge_named es r (first_entry format r lines) o ≡ addition e → CreateAdds es format r lines e
    by_version None is none h = record { first = new_adds es (first_entry format r lines) e h; faultless = none; new = is }
    by_version (Some old) is none h = absurd (again_adds (bytes_eq old.row.id r.id) (bytes_eq old.row.body r.body) old e _ _ h)

    by_fault : (o : Option ModelFault) → model_fault lines ≡ o → judge_lines es r (first_entry format r lines) o ≡ addition e → CreateAdds es format r lines e
    by_fault None is h = by_version _ refl is h
    by_fault (Some f) is h = absurd cc

-- a creation that is repeated: version 1 of its model has its id and its body
pub record CreateRepeats (es : List Entry) (r : CreateRequest) (lines : List Numbered) (e : Entry) : Type 0 where
  pub faultless : model_fault lines ≡ None
  pub there : version_at (name_in lines) first_version es ≡ Some e
  pub same_id : bytes_eq e.row.id r.id ≡ true
  pub same_body : bytes_eq e.row.body r.body ≡ true

pub create_repeats : (es : List Entry) (format : ℕ) (r : CreateRequest) (lines : List Numbered) (e : Entry)
    → judge_create es format r (spelled lines) ≡ repetition e → CreateRepeats es r lines e
create_repeats es format r lines e h = by_fault (model_fault lines) refl h
  where
    by_version : (o : Option Entry) → version_at (name_in lines) first_version es ≡ o → model_fault lines ≡ None
        → judge_named es r (first_entry format r lines) o ≡ repetition e → CreateRepeats es r lines e
    by_version None is none h = absurd (new_repeats es (first_entry format r lines) e h)
    by_version (Some old) is none h =
        let parts = again_repeats (bytes_eq old.row.id r.id) (bytes_eq old.row.body r.body) old e _ _ h in
        record {
          faultless = none;
          there = is ∙ ap Some parts.2;
          same_id = subst (λ (x : Entry). bytes_eq x.row.id r.id ≡ true) parts.2 parts.0;
          same_body = subst (λ (x : Entry). bytes_eq x.row.body r.body ≡ true) parts.2 parts.1;
        }

    by_fault : (o : Option ModelFault) → model_fault lines ≡ o → judge_lines es r (first_entry format r lines) o ≡ repetition e → CreateRepeats es r lines e
    by_fault None is h = by_version _ refl is h
    by_fault (Some f) is h = absurd cc

-- and so it is judged
pub repeated_creation : (es : List Entry) (format : ℕ) (r : CreateRequest) (lines : List Numbered) (e : Entry)
    → CreateRepeats es r lines e → judge_create es format r (spelled lines) ≡ repetition e
repeated_creation es format r lines e is =
    ap (judge_lines es r (first_entry format r lines)) is.faultless
    ∙ ap (judge_named es r (first_entry format r lines)) is.there
    ∙ ap (λ (b : Bool). cond b (cond (bytes_eq e.row.body r.body) (repetition e) (refusal (id_reused first_version))) (refusal name_taken)) is.same_id
    ∙ ap (λ (b : Bool). cond b (repetition e) (refusal (id_reused first_version))) is.same_body

next_adds : (es : List Entry) (x e : Entry) → judge_next es x ≡ addition e → x ≡ e
next_adds es x e h =
    let inner = past_test (nat_lt most_bytes (size_in es + size_of x)) _ (addition x) e (past_test (nat_le most_versions x.row.base) _ _ e h) in cc

next_repeats : (es : List Entry) (x e : Entry) → judge_next es x ≡ repetition e → ⊥
next_repeats es x e h =
    added_repeats {R = EditRefusal} x e
    (past_repeat (nat_lt most_bytes (size_in es + size_of x)) _ (addition x) e (past_repeat (nat_le most_versions x.row.base) _ _ e h))

-- an edit adds the version behind the last one by its own request
pub record EditAdds (es : List Entry) (format : ℕ) (r : EditRequest) (e : Entry) : Type 0 where
  pub lines : List Numbered
  pub next : next_entry format r (last_version r.model es) lines ≡ e

pub change_adds : (es : List Entry) (format : ℕ) (r : EditRequest) (c : Result (List Numbered) EditFault) (e : Entry)
    → judge_change es format r c ≡ addition e → EditAdds es format r e
change_adds es format r (Err f) e h = absurd cc
change_adds es format r (Ok lines) e h = record { lines = lines; next = next_adds es (next_entry format r (last_version r.model es) lines) e h }

-- behind its early checks an edit is never a repetition
change_repeats : (es : List Entry) (format : ℕ) (r : EditRequest) (c : Result (List Numbered) EditFault) (e : Entry)
    → judge_change es format r c ≡ repetition e → ⊥
change_repeats es format r (Err f) e h = cc
change_repeats es format r (Ok lines) e h = next_repeats es (next_entry format r (last_version r.model es) lines) e h

pub late_repeats : (es : List Entry) (format : ℕ) (r : EditRequest) (read : Read (List Op)) (e : Entry)
    → judge_late es format r read ≡ repetition e → ⊥
late_repeats es format r (faulty f) e h = cc
late_repeats es format r (spelled ops) e h = change_repeats es format r _ e h

-- an edit that isn't decided early is of a model that is there, has a new id, and names the last version
pub record IsUndecided (es : List Entry) (r : EditRequest) : Type 0 where
  pub there : last_version r.model es ≢ 0
  pub new_id : with_id r.id (versions_of r.model es) ≡ None
  pub latest : r.base ≡ last_version r.model es

none_by_test : {T : Type 0} (b : Bool) (x : T) → cond b None (Some x) ≡ None → b ≡ true
none_by_test true x h = refl
none_by_test false x h = absurd cc

pub undecided : (es : List Entry) (r : EditRequest) → judge_early es r ≡ None → IsUndecided es r
undecided es r h = by_model (last_version r.model es == 0) refl h
  where
    by_id : last_version r.model es ≢ 0 → (o : Option Entry) → with_id r.id (versions_of r.model es) ≡ o
        → judge_base r (last_version r.model es) o ≡ None → IsUndecided es r
    by_id some (Some e) found h = absurd cc
    by_id some None found h = record {
      there = some;
      new_id = found;
      latest = eqb-true r.base (last_version r.model es) (none_by_test (r.base == last_version r.model es) _ h);
    }

    by_model : (b : Bool) → (last_version r.model es == 0) ≡ b
        → cond b (Some (refusal unknown_model)) (judge_base r (last_version r.model es) (with_id r.id (versions_of r.model es))) ≡ None → IsUndecided es r
    by_model true is h = absurd cc
    by_model false is h = by_id (eqb-false (last_version r.model es) 0 is) _ refl h

-- an edit that is decided early as a repetition: a version of its model has its id, its base and its body
pub record EditRepeats (es : List Entry) (r : EditRequest) (e : Entry) : Type 0 where
  pub there : with_id r.id (versions_of r.model es) ≡ Some e
  pub same : ((e.row.base == r.base) && bytes_eq e.row.body r.body) ≡ true

earlier_repeats : (b : Bool) (x e : Entry) (r : EditRefusal) → cond b (repetition x) (refusal r) ≡ repetition e → (b ≡ true) × (x ≡ e)
earlier_repeats true x e r h = (refl, cc)
earlier_repeats false x e r h = absurd cc

some_judged : {R : Type 0} (j k : Judged R) → Some j ≡ Some k → j ≡ k
some_judged j k h = cc

stale_or_none : (b : Bool) (x : EditRefusal) (j : Judged EditRefusal) → cond b None (Some (refusal x)) ≡ Some j → j ≡ refusal x
stale_or_none true x j h = absurd cc
stale_or_none false x j h = sym (some_judged _ _ h)

refusal_repeats : (x : EditRefusal) (e : Entry) → repetition e ≡ refusal x → ⊥
refusal_repeats x e h = cc

refusal_adds : (x : EditRefusal) (e : Entry) → addition e ≡ refusal x → ⊥
refusal_adds x e h = cc

pub edit_repeats : (es : List Entry) (r : EditRequest) (e : Entry) → judge_early es r ≡ Some (repetition e) → EditRepeats es r e
edit_repeats es r e h = by_model (last_version r.model es == 0) h
  where
    by_id : (o : Option Entry) → with_id r.id (versions_of r.model es) ≡ o → judge_base r (last_version r.model es) o ≡ Some (repetition e) → EditRepeats es r e
    by_id (Some x) found h =
        let parts = earlier_repeats ((x.row.base == r.base) && bytes_eq x.row.body r.body) x e _ (some_judged _ _ h) in
        record {
          there = found ∙ ap Some parts.1;
          same = subst (λ (y : Entry). ((y.row.base == r.base) && bytes_eq y.row.body r.body) ≡ true) parts.1 parts.0;
        }
    by_id None found h = absurd (refusal_repeats _ e (stale_or_none (r.base == last_version r.model es) _ _ h))

    by_model : (b : Bool) → cond b (Some (refusal unknown_model)) (judge_base r (last_version r.model es) (with_id r.id (versions_of r.model es))) ≡ Some (repetition e)
        → EditRepeats es r e
    by_model true h = absurd (refusal_repeats _ e (sym (some_judged _ _ h)))
    by_model false h = by_id _ refl h

earlier_adds : (b : Bool) (x e : Entry) (r : EditRefusal) → cond b (repetition x) (refusal r) ≡ addition e → ⊥
earlier_adds true x e r h = cc
earlier_adds false x e r h = cc

-- an edit that is decided early isn't added
pub early_adds : (es : List Entry) (r : EditRequest) (e : Entry) → judge_early es r ≡ Some (addition e) → ⊥
early_adds es r e h = by_model (last_version r.model es == 0) h
  where
    by_id : (o : Option Entry) → judge_base r (last_version r.model es) o ≡ Some (addition e) → ⊥
    by_id (Some x) h = earlier_adds ((x.row.base == r.base) && bytes_eq x.row.body r.body) x e _ (some_judged _ _ h)
    by_id None h = refusal_adds _ e (stale_or_none (r.base == last_version r.model es) _ _ h)

    by_model : (b : Bool) → cond b (Some (refusal unknown_model)) (judge_base r (last_version r.model es) (with_id r.id (versions_of r.model es))) ≡ Some (addition e) → ⊥
    by_model true h = refusal_adds _ e (sym (some_judged _ _ h))
    by_model false h = by_id (with_id r.id (versions_of r.model es)) h

-- an edit under the id of a version is decided by that version
pub repeated_edit : (es : List Entry) (r : EditRequest) (e : Entry) → last_version r.model es ≢ 0 → EditRepeats es r e
    → judge_early es r ≡ Some (repetition e)
repeated_edit es r e some is = by_model (last_version r.model es == 0) refl
  where
    earlier : judge_earlier r e ≡ repetition e
    earlier = ap (λ (b : Bool). cond b (repetition e) (refusal (id_reused_edit e.row.version))) is.same

    by_model : (b : Bool) → (last_version r.model es == 0) ≡ b
        → cond b (Some (refusal unknown_model)) (judge_base r (last_version r.model es) (with_id r.id (versions_of r.model es))) ≡ Some (repetition e)
    by_model true zero_is = absurd (some (eqb-true (last_version r.model es) 0 zero_is))
    by_model false k = ap (judge_base r (last_version r.model es)) is.there ∙ ap Some earlier
