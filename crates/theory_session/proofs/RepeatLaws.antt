-- A change that was accepted gets its reply again.
use Rattle.std.proofs.Common.{◌≡◌, ◌⊎◌, inl, inr, ⊎_elim, ℕ, ◌==◌, ◌&&◌, Bool, true, List, [], ◌∷◌, ◌++◌, Option, None, Some, Result, Ok, Err, refl, sym, ap, subst, ◌∙◌, arith}
use Rattle.std.specs.Str.{bytes_eq}
use Rattle.std.proofs.lemmas.Bool.Decides.{nat_tests}
use Rattle.std.proofs.lemmas.Slice.Eq.{bytes_eq-Decides}
use Rattle.theory_meaning.specs.Deciding.{Meanings}
use Rattle.theory_meaning.specs.Edit.{edited as edited_lines}
use Rattle.theory_meaning.specs.Point.{Name}
use Rattle.theory_meaning.specs.Text.{Numbered, Op}
use Rattle.theory_grammar.specs.Texts.{SpellsLines, IsFirstFault, IsOnce, IsNeverBoth}
use Rattle.theory_session.specs.Ask.{AskFault}
use Rattle.theory_session.specs.Asking.{AskRequest, judge_ask}
use Rattle.theory_session.specs.Create.{name_in}
use Rattle.theory_session.specs.Creation.{CreateRequest, judge_create}
use Rattle.theory_session.specs.DeskLaws.{IsAcceptance, RepeatsGetTheirReply}
use Rattle.theory_session.specs.Editing.{EditRequest, EditRefusal, judge_early, judge_late, last_lines}
use Rattle.theory_session.specs.Judged.{Judged, refusal, repetition, addition}
use Rattle.theory_session.specs.Lookup.{Found, unknown_model, unknown_version, found, find_version}
use Rattle.theory_session.specs.Reading.{Read, spelled, faulty, IsTextRead}
use Rattle.theory_session.specs.Row.{Entry, present_format}
use Rattle.theory_session.specs.Run.{Refusal, of_creation, of_edit, of_question, no_memory, Reply, created, edited, refused}
use Rattle.theory_session.specs.Step.{create, edit, ask, show, list, Changes, Creates, EditsBy, Edits, Answers, OrNoMemory, showing}
use Rattle.theory_session.proofs.JudgedLaws.{CreateAdds, create_adds, CreateRepeats, create_repeats, repeated_creation, EditAdds, change_adds, undecided, late_repeats, early_adds, EditRepeats, edit_repeats, repeated_edit}
use Rattle.theory_session.proofs.LookupLaws.{first_version_stays, first_version_added, request_stays, request_added, request_has_model}
use Rattle.theory_session.proofs.StepLaws.{memory_or}

bytes_same : (bs : List ℕ) → bytes_eq bs bs ≡ true
bytes_same bs = (bytes_eq-Decides bs bs).1 refl

-- no refusal is an acceptance
no_acceptance : (reply : Reply) (why : Refusal) → IsAcceptance reply → reply ≡ refused why → ⊥
no_acceptance reply why h is = subst IsAcceptance is h

-- a change that was accepted: it was repeated, or added
pub data Accepts {R : Type 0} (accepted : Name → ℕ → Reply) (es : List Entry) (j : Judged R) (reply : Reply) (es' : List Entry) : Type 0 where
  again : (e : Entry) → j ≡ repetition e → reply ≡ accepted e.row.model e.row.version → es' ≡ es → Accepts accepted es j reply es'
  anew : (e : Entry) → j ≡ addition e → reply ≡ accepted e.row.model e.row.version → es' ≡ es ++ e ∷ [] → Accepts accepted es j reply es'

accepts : {R : Type 0} (because : R → Refusal) (accepted : Name → ℕ → Reply) (es : List Entry) (j : Judged R) (reply : Reply) (es' : List Entry)
    → IsAcceptance reply → Changes because accepted es j reply es' → Accepts accepted es j reply es'
accepts because accepted es (refusal r) reply es' is h = absurd (no_acceptance reply (because r) is h.0)
accepts because accepted es (repetition e) reply es' is h = again e refl h.0 h.1
accepts because accepted es (addition e) reply es' is (inl h) = anew e refl h.0 h.1
accepts because accepted es (addition e) reply es' is (inr h) = absurd (no_acceptance reply _ is h.0)

-- the same request sent again comes to the version of this reply
pub record CreateMade (es : List Entry) (r : CreateRequest) (reply : Reply) : Type 0 where
  pub lines : List Numbered
  pub e : Entry
  pub spells : SpellsLines r.body lines
  pub repeats : CreateRepeats es r lines e
  pub reply_is : reply ≡ created e.row.model e.row.version

added_create : (es : List Entry) (r : CreateRequest) (lines : List Numbered) (e : Entry) → CreateAdds es present_format r lines e
    → CreateRepeats (es ++ e ∷ []) r lines e
added_create es r lines e is = record {
  faultless = is.faultless;
  there = first_version_added (name_in lines) es e is.new
      (ap (λ (x : Entry). bytes_eq (name_in lines) x.row.model) (sym is.first) ∙ bytes_same (name_in lines));
  same_id = ap (λ (x : Entry). bytes_eq x.row.id r.id) (sym is.first) ∙ bytes_same r.id;
  same_body = ap (λ (x : Entry). bytes_eq x.row.body r.body) (sym is.first) ∙ bytes_same r.body;
}

made_create : (es es' : List Entry) (r : CreateRequest) (read : Read (List Numbered)) (reply : Reply) → IsTextRead r.body read
    → Accepts created es (judge_create es present_format r read) reply es' → CreateMade es' r reply
made_create es es' r (faulty f) reply is (again e j k same) = absurd cc
made_create es es' r (faulty f) reply is (anew e j k same) = absurd cc
made_create es es' r (spelled lines) reply is (again e j k same) = record {
  lines = lines;
  e = e;
  spells = is;
  reply_is = k;
  repeats = subst (λ (fs : List Entry). CreateRepeats fs r lines e) (sym same) (create_repeats es present_format r lines e j);
}
made_create es es' r (spelled lines) reply is (anew e j k same) = record {
  lines = lines;
  e = e;
  spells = is;
  reply_is = k;
  repeats = subst (λ (fs : List Entry). CreateRepeats fs r lines e) (sym same) (added_create es r lines e (create_adds es present_format r lines e j));
}

-- it stays so where versions are added
create_stays : (es more : List Entry) (r : CreateRequest) (lines : List Numbered) (e : Entry) → CreateRepeats es r lines e → CreateRepeats (es ++ more) r lines e
create_stays es more r lines e is = record {
  faultless = is.faultless;
  there = first_version_stays (name_in lines) es more e is.there;
  same_id = is.same_id;
  same_body = is.same_body;
}

-- what is said of the second reply
abbrev pub IsGivenAgain : List Entry → Reply → Reply → List Entry → Type 0
IsGivenAgain es given reply after = ((reply ≡ given) ⊎ (reply ≡ refused no_memory)) × (after ≡ es)

by_repetition : {R : Type 0} (because : R → Refusal) (accepted : Name → ℕ → Reply) (es : List Entry) (e : Entry) (j : Judged R) (given reply : Reply) (after : List Entry)
    → given ≡ accepted e.row.model e.row.version → j ≡ repetition e → Changes because accepted es j reply after → IsGivenAgain es given reply after
by_repetition because accepted es e j given reply after given_is j_is h =
    let k = subst (λ (i : Judged _). Changes because accepted es i reply after) j_is h in
    (inl (k.0 ∙ sym given_is), k.1)

-- the same request to a creation and to an edit, repeated
module _ (lines_once : IsOnce SpellsLines) (never_both : IsNeverBoth SpellsLines IsFirstFault) where
  same_read : (body : List ℕ) (lines : List Numbered) (read : Read (List Numbered)) → SpellsLines body lines → IsTextRead body read → read ≡ spelled lines
  same_read body lines (spelled ms) h is = ap spelled (lines_once body ms lines is h)
  same_read body lines (faulty f) h is = absurd (never_both body lines f h is)

  create_again : (es after : List Entry) (r : CreateRequest) (given reply : Reply) → CreateMade es r given → Creates es r reply after → IsGivenAgain es given reply after
  create_again es after r given reply made h = by_memory (memory_or es after reply h)
    where
      by_memory : ((reply ≡ refused no_memory) × (after ≡ es)) ⊎ ((read : Read (List Numbered)) × IsTextRead r.body read
          × Changes of_creation created es (judge_create es present_format r read) reply after) → IsGivenAgain es given reply after
      by_memory (inl k) = (inr k.0, k.1)
      by_memory (inr k) = by_repetition of_creation created es made.e (judge_create es present_format r k.0) given reply after made.reply_is
          (ap (judge_create es present_format r) (same_read r.body made.lines k.0 made.spells k.1)
          ∙ repeated_creation es present_format r made.lines made.e made.repeats) k.2

  pub creates_again : (es es' more after : List Entry) (r : CreateRequest) (given reply : Reply) → IsAcceptance given
      → Creates es r given es' → Creates (es' ++ more) r reply after → IsGivenAgain (es' ++ more) given reply after
  creates_again es es' more after r given reply is first second = by_memory (memory_or es es' given first)
    where
      by_memory : ((given ≡ refused no_memory) × (es' ≡ es)) ⊎ ((read : Read (List Numbered)) × IsTextRead r.body read
          × Changes of_creation created es (judge_create es present_format r read) given es') → IsGivenAgain (es' ++ more) given reply after
      by_memory (inl k) = absurd (no_acceptance given no_memory is k.0)
      by_memory (inr k) =
          let made = made_create es es' r k.0 given k.1 (accepts of_creation created es (judge_create es present_format r k.0) given es' is k.2) in
          create_again (es' ++ more) after r given reply (record {
            lines = made.lines;
            e = made.e;
            spells = made.spells;
            reply_is = made.reply_is;
            repeats = create_stays es' more r made.lines made.e made.repeats;
          }) second

-- the same of an edit
pub record EditMade (es : List Entry) (r : EditRequest) (reply : Reply) : Type 0 where
  pub e : Entry
  pub repeats : EditRepeats es r e
  pub reply_is : reply ≡ edited e.row.model e.row.version

both_true : (b c : Bool) → b ≡ true → c ≡ true → (b && c) ≡ true
both_true b c h k = ap (λ (x : Bool). x && c) h ∙ k

added_edit : (es : List Entry) (r : EditRequest) (e : Entry) → judge_early es r ≡ None → EditAdds es present_format r e → EditRepeats (es ++ e ∷ []) r e
added_edit es r e early adds =
    let is = undecided es r early in
    record {
      there = request_added r.model r.id es e is.new_id
          (ap (λ (x : Entry). bytes_eq r.model x.row.model) (sym adds.next) ∙ bytes_same r.model)
          (ap (λ (x : Entry). bytes_eq x.row.id r.id) (sym adds.next) ∙ bytes_same r.id);
      same = both_true (e.row.base == r.base) (bytes_eq e.row.body r.body)
          (nat_same e.row.base r.base (ap (λ (x : Entry). x.row.base) (sym adds.next) ∙ sym is.latest))
          (ap (λ (x : Entry). bytes_eq x.row.body r.body) (sym adds.next) ∙ bytes_same r.body);
    }
  where
    nat_same : (a b : ℕ) → a ≡ b → (a == b) ≡ true
    nat_same a b h = grind (arith, nat_tests, h)

late_made : (es es' : List Entry) (r : EditRequest) (read : Read (List Op)) (reply : Reply) → judge_early es r ≡ None
    → Accepts edited es (judge_late es present_format r read) reply es' → EditMade es' r reply
late_made es es' r read reply early (again e j k same) = absurd (late_repeats es present_format r read e j)
late_made es es' r (faulty f) reply early (anew e j k same) = absurd cc
late_made es es' r (spelled ops) reply early (anew e j k same) = record {
  e = e;
  reply_is = k;
  repeats = subst (λ (fs : List Entry). EditRepeats fs r e) (sym same)
      (added_edit es r e early (change_adds es present_format r (edited_lines ops (last_lines r.model es)) e j));
}

early_made : (es es' : List Entry) (r : EditRequest) (j : Judged EditRefusal) (reply : Reply) → judge_early es r ≡ Some j
    → Accepts edited es j reply es' → EditMade es' r reply
early_made es es' r j reply early (again e is k same) = record {
  e = e;
  reply_is = k;
  repeats = subst (λ (fs : List Entry). EditRepeats fs r e) (sym same) (edit_repeats es r e (early ∙ ap Some is));
}
early_made es es' r j reply early (anew e is k same) = absurd (early_adds es r e (early ∙ ap Some is))

edit_stays : (es more : List Entry) (r : EditRequest) (e : Entry) → EditRepeats es r e → EditRepeats (es ++ more) r e
edit_stays es more r e is = record { there = request_stays r.model r.id es more e is.there; same = is.same }

edit_again : (es after : List Entry) (r : EditRequest) (given reply : Reply) → EditMade es r given → Edits es r reply after → IsGivenAgain es given reply after
edit_again es after r given reply made h =
    ⊎_elim (λ k. (inr k.0, k.1)) (λ k. by_repetition of_edit edited es made.e (repetition made.e) given reply after made.reply_is refl
    (subst (λ (o : Option (Judged EditRefusal)). EditsBy es r o reply after) early k)) (memory_or es after reply h)
  where
    early : judge_early es r ≡ Some (repetition made.e)
    early = repeated_edit es r made.e (request_has_model r.model r.id es made.e made.repeats.there) made.repeats

edits_again : (es es' more after : List Entry) (r : EditRequest) (given reply : Reply) → IsAcceptance given
    → Edits es r given es' → Edits (es' ++ more) r reply after → IsGivenAgain (es' ++ more) given reply after
edits_again es es' more after r given reply is first second = by_memory (memory_or es es' given first)
  where
    again_by : EditMade es' r given → IsGivenAgain (es' ++ more) given reply after
    again_by made = edit_again (es' ++ more) after r given reply
        (record { e = made.e; reply_is = made.reply_is; repeats = edit_stays es' more r made.e made.repeats }) second

    by_early : (o : Option (Judged EditRefusal)) → judge_early es r ≡ o → EditsBy es r o given es' → IsGivenAgain (es' ++ more) given reply after
    by_early (Some j) early k = again_by (early_made es es' r j given early (accepts of_edit edited es j given es' is k))
    by_early None early k = again_by (late_made es es' r k.0 given early (accepts of_edit edited es (judge_late es present_format r k.0) given es' is k.2))

    by_memory : ((given ≡ refused no_memory) × (es' ≡ es)) ⊎ EditsBy es r (judge_early es r) given es' → IsGivenAgain (es' ++ more) given reply after
    by_memory (inl k) = absurd (no_acceptance given no_memory is k.0)
    by_memory (inr k) = by_early (judge_early es r) refl k

no_answer : (m : Meanings) (r : AskRequest) (o : Result Entry AskFault) (given : Reply) → IsAcceptance given → Answers m r o given → ⊥
no_answer m r (Err f) given is h = no_acceptance given (of_question f) is h
no_answer m r (Ok e) given is h = subst IsAcceptance h.2 is

no_shown : (f : Found) (given : Reply) → IsAcceptance given → given ≡ showing f → ⊥
no_shown unknown_model given is h = no_acceptance given _ is h
no_shown (unknown_version last) given is h = no_acceptance given _ is h
no_shown (found e) given is h = subst IsAcceptance h is

-- a step that accepts nothing
told : (X : Type 0) (es es' : List Entry) (given : Reply) → IsAcceptance given → OrNoMemory es given es' (X × (es' ≡ es)) → X
told X es es' given is h = ⊎_elim (λ k. absurd (no_acceptance given no_memory is k.0)) (λ k. k.0) (memory_or es es' given h)

pub repeats : (m : Meanings) → IsOnce SpellsLines → IsNeverBoth SpellsLines IsFirstFault → RepeatsGetTheirReply m
repeats m once never es es' more after (create r) given reply is h k = creates_again once never es es' more after r given reply is h k
repeats m once never es es' more after (edit r) given reply is h k = edits_again es es' more after r given reply is h k
repeats m once never es es' more after (ask r) given reply is h k =
    absurd (no_answer m r (judge_ask r (find_version r.model r.version es)) given is (told _ es es' given is h))
repeats m once never es es' more after (show model version) given reply is h k =
    absurd (no_shown (find_version model version es) given is (told _ es es' given is h))
repeats m once never es es' more after list given reply is h k = absurd (subst IsAcceptance (told _ es es' given is h) is)
