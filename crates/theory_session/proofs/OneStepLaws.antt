-- Each command but a question has one step, want of memory and a keeper's fault aside.
use Rattle.std.proofs.Common.{◌≡◌, ◌⊎◌, inl, inr, ⊎_elim, ℕ, List, ◌∷◌, [], ◌++◌, Option, None, Some, Result, refl, sym, ap, subst, ◌∙◌}
use Rattle.theory_meaning.specs.Deciding.{Meanings}
use Rattle.theory_meaning.specs.Point.{Name}
use Rattle.theory_meaning.specs.Text.{Numbered, Op}
use Rattle.theory_grammar.specs.TextFault.{Fault}
use Rattle.theory_grammar.specs.Texts.{SpellsLines, IsFirstFault, SpellsOps, IsFirstOpsFault, IsOnce, IsSome, IsNeverBoth}
use Rattle.theory_session.specs.Ask.{AskFault}
use Rattle.theory_session.specs.Creation.{CreateRequest, judge_create}
use Rattle.theory_session.specs.DeskLaws.{IsSettled, Settles, EachCommandHasAStep, NoCommandHasTwoSteps, QuestionsAddNothing, RefusedQuestionsHaveOneReply}
use Rattle.theory_session.specs.Editing.{EditRequest, EditRefusal, judge_early, judge_late}
use Rattle.theory_session.specs.Judged.{Judged, refusal, repetition, addition}
use Rattle.theory_session.specs.Lookup.{Found, unknown_model, unknown_version, found, find_version, listed_in}
use Rattle.theory_session.specs.Reading.{Read, spelled, faulty, IsTextRead, IsEditRead}
use Rattle.theory_session.specs.Row.{Entry, present_format}
use Rattle.theory_session.specs.Run.{Refusal, of_creation, of_edit, of_question, Reply, created, edited, listed, refused}
use Rattle.theory_session.specs.Step.{Command, create, edit, ask, show, list, Changes, EditsBy, Answers, OrNoMemory, showing, Tells, Step}
use Rattle.theory_session.proofs.StepLaws.{memory_or, unless_memory, tells_nothing}

-- replies that are neither want of memory nor a keeper's fault
abbrev pub AreSettled : {R : Type 0} → (R → Refusal) → Type 0
AreSettled {R = R} because = (r : R) → IsSettled (refused (because r))

abbrev pub AcceptedSettled : (Name → ℕ → Reply) → Type 0
AcceptedSettled accepted = (n : Name) (v : ℕ) → IsSettled (accepted n v)

created_settled : AcceptedSettled created
created_settled n v = record { memory = λ h. cc; kept = λ h. cc }

edited_settled : AcceptedSettled edited
edited_settled n v = record { memory = λ h. cc; kept = λ h. cc }

creation_settled : AreSettled of_creation
creation_settled r = record { memory = λ h. cc; kept = λ h. cc }

edit_settled : AreSettled of_edit
edit_settled r = record { memory = λ h. cc; kept = λ h. cc }

shown_settled : (f : Found) → IsSettled (showing f)
shown_settled unknown_model = record { memory = λ h. cc; kept = λ h. cc }
shown_settled (unknown_version last) = record { memory = λ h. cc; kept = λ h. cc }
shown_settled (found e) = record { memory = λ h. cc; kept = λ h. cc }

listed_settled : (ms : List (Name × ℕ)) → IsSettled (listed ms)
listed_settled ms = record { memory = λ h. cc; kept = λ h. cc }

-- a reply and the versions after it, for which this holds
pub record Outcome (Holds : Reply → List Entry → Type 0) : Type 0 where
  pub reply : Reply
  pub after : List Entry
  pub settled : IsSettled reply
  pub holds : Holds reply after

some_change : {R : Type 0} (because : R → Refusal) (accepted : Name → ℕ → Reply) → AreSettled because → AcceptedSettled accepted
    → (es : List Entry) (j : Judged R) → Outcome (Changes because accepted es j)
some_change because accepted b a es (refusal r) = record { reply = refused (because r); after = es; settled = b r; holds = (refl, refl) }
some_change because accepted b a es (repetition e) =
    record { reply = accepted e.row.model e.row.version; after = es; settled = a e.row.model e.row.version; holds = (refl, refl) }
some_change because accepted b a es (addition e) =
    record { reply = accepted e.row.model e.row.version; after = es ++ e ∷ []; settled = a e.row.model e.row.version; holds = inl (refl, refl) }

-- where this holds of two replies, they are the same, and so is what stands after them
abbrev pub AreSame : Reply → Reply → List Entry → List Entry → Type 0
AreSame r s es fs = (r ≡ s) × (es ≡ fs)

-- one change
one_change : {R : Type 0} (because : R → Refusal) (accepted : Name → ℕ → Reply) (es : List Entry) (j : Judged R) (r s : Reply) (fs gs : List Entry)
    → IsSettled r → IsSettled s → Changes because accepted es j r fs → Changes because accepted es j s gs → AreSame r s fs gs
one_change because accepted es (refusal x) r s fs gs i k h l = (h.0 ∙ sym l.0, h.1 ∙ sym l.1)
one_change because accepted es (repetition e) r s fs gs i k h l = (h.0 ∙ sym l.0, h.1 ∙ sym l.1)
one_change because accepted es (addition e) r s fs gs i k (inl h) (inl l) = (h.0 ∙ sym l.0, h.1 ∙ sym l.1)
one_change because accepted es (addition e) r s fs gs i k (inl h) (inr l) = absurd (k.kept l.0)
one_change because accepted es (addition e) r s fs gs i k (inr h) l = absurd (i.kept h.0)

-- a step without want of memory
enough : {X : Type 0} (es es' : List Entry) (reply : Reply) → IsSettled reply → OrNoMemory es reply es' X → X
enough es es' reply is h = ⊎_elim (λ k. absurd (is.memory k.0)) (λ k. k) (memory_or es es' reply h)

module _ (m : Meanings) (text_some : IsSome SpellsLines IsFirstFault) (text_once : IsOnce SpellsLines) (text_fault : IsOnce IsFirstFault)
    (text_never : IsNeverBoth SpellsLines IsFirstFault) (ops_some : IsSome SpellsOps IsFirstOpsFault) (ops_once : IsOnce SpellsOps)
    (ops_fault : IsOnce IsFirstOpsFault) (ops_never : IsNeverBoth SpellsOps IsFirstOpsFault) where
  text_read : (body : List ℕ) → (read : Read (List Numbered)) × IsTextRead body read
  text_read body = by_case (text_some body)
    where
      by_case : ((lines : List Numbered) × SpellsLines body lines) ⊎ ((f : Fault) × IsFirstFault body f) → (read : Read (List Numbered)) × IsTextRead body read
      by_case (inl h) = (spelled h.0, h.1)
      by_case (inr h) = (faulty h.0, h.1)

  ops_read : (body : List ℕ) → (read : Read (List Op)) × IsEditRead body read
  ops_read body = by_case (ops_some body)
    where
      by_case : ((ops : List Op) × SpellsOps body ops) ⊎ ((f : Fault) × IsFirstOpsFault body f) → (read : Read (List Op)) × IsEditRead body read
      by_case (inl h) = (spelled h.0, h.1)
      by_case (inr h) = (faulty h.0, h.1)

  one_text_read : (body : List ℕ) (a b : Read (List Numbered)) → IsTextRead body a → IsTextRead body b → a ≡ b
  one_text_read body (spelled ls) (spelled ms) h k = ap spelled (text_once body ls ms h k)
  one_text_read body (faulty f) (faulty g) h k = ap faulty (text_fault body f g h k)
  one_text_read body (spelled ls) (faulty g) h k = absurd (text_never body ls g h k)
  one_text_read body (faulty f) (spelled ms) h k = absurd (text_never body ms f k h)

  one_ops_read : (body : List ℕ) (a b : Read (List Op)) → IsEditRead body a → IsEditRead body b → a ≡ b
  one_ops_read body (spelled ls) (spelled ms) h k = ap spelled (ops_once body ls ms h k)
  one_ops_read body (faulty f) (faulty g) h k = ap faulty (ops_fault body f g h k)
  one_ops_read body (spelled ls) (faulty g) h k = absurd (ops_never body ls g h k)
  one_ops_read body (faulty f) (spelled ms) h k = absurd (ops_never body ms f k h)

  some_create : (es : List Entry) (r : CreateRequest) → Settles m es (create r)
  some_create es r =
      let read = text_read r.body in
      let o = some_change of_creation created creation_settled created_settled es (judge_create es present_format r read.0) in
      record { reply = o.reply; after = o.after; settled = o.settled; step = unless_memory es o.after o.reply o.settled.memory (read.0, read.1, o.holds) }

  some_early : (es : List Entry) (r : EditRequest) (o : Option (Judged EditRefusal)) → Outcome (EditsBy es r o)
  some_early es r (Some j) = some_change of_edit edited edit_settled edited_settled es j
  some_early es r None =
      let read = ops_read r.body in
      let o = some_change of_edit edited edit_settled edited_settled es (judge_late es present_format r read.0) in
      record { reply = o.reply; after = o.after; settled = o.settled; holds = (read.0, read.1, o.holds) }

  some_edit : (es : List Entry) (r : EditRequest) → Settles m es (edit r)
  some_edit es r =
      let o = some_early es r (judge_early es r) in
      record { reply = o.reply; after = o.after; settled = o.settled; step = unless_memory es o.after o.reply o.settled.memory o.holds }

  tells : (es : List Entry) (command : Command) (reply : Reply) → IsSettled reply → (OrNoMemory es reply es ((reply ≡ reply) × (es ≡ es)) → Step m es command reply es)
      → Settles m es command
  tells es command reply is makes =
      record { reply = reply; after = es; settled = is; step = makes (unless_memory es es reply is.memory (refl, refl)) }

  pub some_step : EachCommandHasAStep m
  some_step es (create r) is = some_create es r
  some_step es (edit r) is = some_edit es r
  some_step es (ask r) is = absurd (is tt)
  some_step es (show model version) is =
      tells es (show model version) (showing (find_version model version es)) (shown_settled (find_version model version es)) (λ h. h)
  some_step es list is = tells es list (listed (listed_in es)) (listed_settled (listed_in es)) (λ h. h)

  one_create : (es : List Entry) (r : CreateRequest) (s t : Settles m es (create r)) → AreSame s.reply t.reply s.after t.after
  one_create es r s t =
      let h = enough es s.after s.reply s.settled s.step in
      let k = enough es t.after t.reply t.settled t.step in
      let same : k.0 ≡ h.0 = one_text_read r.body k.0 h.0 k.1 h.1 in
      one_change of_creation created es (judge_create es present_format r h.0) s.reply t.reply s.after t.after s.settled t.settled h.2
      (subst (λ (read : Read (List Numbered)). Changes of_creation created es (judge_create es present_format r read) t.reply t.after) same k.2)

  one_early : (es : List Entry) (r : EditRequest) (o : Option (Judged EditRefusal)) (a b : Reply) (fs gs : List Entry)
      → IsSettled a → IsSettled b → EditsBy es r o a fs → EditsBy es r o b gs → AreSame a b fs gs
  one_early es r (Some j) a b fs gs i k h l = one_change of_edit edited es j a b fs gs i k h l
  one_early es r None a b fs gs i k h l =
      let same : l.0 ≡ h.0 = one_ops_read r.body l.0 h.0 l.1 h.1 in
      one_change of_edit edited es (judge_late es present_format r h.0) a b fs gs i k h.2
      (subst (λ (read : Read (List Op)). Changes of_edit edited es (judge_late es present_format r read) b gs) same l.2)

  one_told : (es : List Entry) (told a b : Reply) (fs gs : List Entry) → IsSettled a → IsSettled b → Tells es told a fs → Tells es told b gs → AreSame a b fs gs
  one_told es told a b fs gs i k h l =
      let x = enough es fs a i h in
      let y = enough es gs b k l in
      (x.0 ∙ sym y.0, x.1 ∙ sym y.1)

  pub one_step : NoCommandHasTwoSteps m
  one_step es (create r) is s t = one_create es r s t
  one_step es (edit r) is s t =
      one_early es r (judge_early es r) s.reply t.reply s.after t.after s.settled t.settled (enough es s.after s.reply s.settled s.step)
      (enough es t.after t.reply t.settled t.step)
  one_step es (ask r) is s t = absurd (is tt)
  one_step es (show model version) is s t =
      one_told es (showing (find_version model version es)) s.reply t.reply s.after t.after s.settled t.settled s.step t.step
  one_step es list is s t = one_told es (listed (listed_in es)) s.reply t.reply s.after t.after s.settled t.settled s.step t.step

-- a question adds nothing
pub question_adds_nothing : (m : Meanings) → QuestionsAddNothing m
question_adds_nothing m es es' r reply h = tells_nothing _ es es' reply h

question_settled : (fault : AskFault) → IsSettled (refused (of_question fault))
question_settled fault = record { memory = λ h. cc; kept = λ h. cc }

-- one that is refused has the one reply
pub refused_question : (m : Meanings) → RefusedQuestionsHaveOneReply m
refused_question m es r fault is = (
  unless_memory es es (refused (of_question fault)) (question_settled fault).memory
      (subst (λ (o : Result Entry AskFault). Answers m r o (refused (of_question fault))) (sym is) refl, refl),
  λ s. subst (λ (o : Result Entry AskFault). Answers m r o s.reply) is (enough es s.after s.reply s.settled s.step).0,
)
