-- A whole run, from what was given to it, the end that it reached and what was told on err.
use Rattle.std.proofs.Common.{◌≡◌, ◌⊎◌, ℕ, ◌+◌, ◌-◌, ◌^◌, ◌≤◌, min, List, [], ◌∷◌, inl, inr, ⊎_elim, refl, sym, ◌∙◌, subst, arith}
use Rattle.theory_meaning.specs.Deciding.{Meanings}
use Rattle.theory_meaning.specs.Faults.{Rose}
use Rattle.theory_edge.specs.Sinks.{SinkTold}
use Rattle.theory_session.specs.Run.{Reply}
use Rattle.theory_words.specs.Commands.{Command, IsCommand, IsNoCommand}
use Rattle.theory_cli.specs.declared.status.Status.{Status}
use Rattle.theory_cli.specs.declared.status.Status.TheVariants.{Finished, Unsettled, NoCommand, Refused, Unread, Unwritten, NoMemory}
use Rattle.theory_cli.specs.Command.{Given, no_words, no_command, not_asked, no_bytes, gave, AreWords, IsGiven, IsAsked}
use Rattle.theory_cli.specs.Session.{AreReplies}
use Rattle.theory_cli.specs.Taking.{TookReplies, CutInLast}
use Rattle.theory_cli.specs.Ending.{IsCause, IsWritten, IsReported, no_command_line, no_memory_line}
use Rattle.theory_cli.specs.Run.{Ends, OfModel, AreMade, IsOutput, IsAnswered, IsDecided, NoneFailed, IsComplete, IsRun}
use Rattle.theory_cli.proofs.ExclusionLemmas.{never_both}

-- a count of faults doesn't fall where prints are taken
took_later : (rs : List Reply) (before now : SinkTold) → TookReplies rs before now → before.faults ≤ now.faults
took_later [] before now same = subst (λ (s : SinkTold). before.faults ≤ s.faults) (sym same) (omega arith)
took_later (r ∷ rs) before now told = told.later

-- and rose where the last one was cut off
cut_rose : (replies : List Reply) (before now : SinkTold) → CutInLast replies before now → Rose before.faults now.faults
cut_rose replies before now c =
    let m = took_later c.whole before c.between c.taken in
    let n : min (c.between.faults + 1) (2 ^ 64 - 1) ≤ now.faults = c.cut.rose in
    omega arith

-- the end is as it was meant, or err failed
abbrev EndsAs : Status → SinkTold → SinkTold → Status → Type 0
EndsAs reached before now status = (status ≡ reached) ⊎ ((status ≡ Unwritten) × Rose before.faults now.faults)

written_as : (meant : Status) (line : List ℕ) (before now : SinkTold) (status : Status) → IsWritten meant line before now status →
    EndsAs meant before now status
written_as meant line before now status written = ⊎_elim (λ w. inl w.0) (λ c. inr (c.0, c.1.rose)) written

ends_as : (given : Given) (reached : Status) (before now : SinkTold) (status : Status) → IsReported given reached before now status →
    EndsAs reached before now status
ends_as given Finished before now status r = inl r.0
ends_as given Unsettled before now status r = inl r.0
ends_as given NoCommand before now status r = written_as NoCommand r.0 before now status r.2
ends_as given Refused before now status r = written_as Refused r.0 before now status r.2
ends_as given Unread before now status r = written_as Unread r.0 before now status r.2
ends_as given Unwritten before now status r = inl r.0
ends_as given NoMemory before now status r = written_as NoMemory r.0 before now status r.2

module _ (m : Meanings) (words : List (List ℕ)) (before now : Ends) (replies : List Reply) where
  failed : (reached status : Status) → IsOutput reached replies before.out now.out → EndsAs reached before.err now.err status → status ≡ Unwritten →
      Rose before.out.faults now.out.faults ⊎ Rose before.err.faults now.err.faults
  failed reached status output ends is =
      ⊎_elim
      (λ e. inl (cut_rose replies before.out now.out (subst (λ (s : Status). IsOutput s replies before.out now.out) (sym e ∙ is) output)))
      (λ c. inr c.1) ends

  -- where all replies were made the bytes spell a model
  answered_model : (c : Command) (bytes : List ℕ) (s : Status) → IsAnswered s → AreMade m (gave c bytes) s replies →
      OfModel bytes (λ lines. AreReplies m c lines replies)
  answered_model c bytes s (inl e) made = (subst (λ (t : Status). AreMade m (gave c bytes) t replies) e made).0
  answered_model c bytes s (inr e) made = (subst (λ (t : Status). AreMade m (gave c bytes) t replies) e made).0

  unwritten_is_none : IsAnswered Unwritten → ⊥
  unwritten_is_none (inl e) = absurd cc
  unwritten_is_none (inr e) = absurd cc

  decided : (given : Given) (reached status : Status) → IsCause given before.files now.files reached → AreMade m given reached replies →
      EndsAs reached before.err now.err status → IsDecided given status
  decided no_words reached status cause made ends = tt
  decided no_command reached status cause made ends = tt
  decided (not_asked c) reached status cause made ends = tt
  decided (no_bytes c) reached status cause made ends = tt
  decided (gave k bytes) reached status cause made ends = (
    λ spells is. ⊎_elim {C = ⊥}
        (λ e. let r = subst (IsCause (gave k bytes) before.files now.files) (sym e ∙ is) cause in
        never_both bytes spells.0 r.0 spells.1 r.1)
        (λ c. let bad : ◌≡◌ {A = Status} Refused Unwritten = sym is ∙ c.0 in absurd (cc)) ends,
    λ told refusal is. ⊎_elim {C = ⊥}
        (λ e. let found = answered_model k bytes reached (subst IsAnswered e is) made in never_both bytes found.0 told found.1 refusal)
        (λ c. unwritten_is_none (subst IsAnswered c.0 is)) ends,
  )

  -- the ends that a command may reach where no count rose
  reaches : (given : Given) (reached : Status) (d : Command) → AreWords words given → IsCommand words d → NoneFailed before now →
      IsCause given before.files now.files reached → IsOutput reached replies before.out now.out →
      IsAnswered reached ⊎ (reached ≡ Refused) ⊎ (reached ≡ NoMemory)
  reaches no_command reached d are command none cause output = absurd (are d command)
  reaches no_words NoMemory d are command none cause output = inr (inr refl)
  reaches no_words Finished d are command none cause output = absurd cause
  reaches no_words Unsettled d are command none cause output = absurd cause
  reaches no_words NoCommand d are command none cause output = absurd cause
  reaches no_words Refused d are command none cause output = absurd cause
  reaches no_words Unread d are command none cause output = absurd cause
  reaches no_words Unwritten d are command none cause output = absurd cause
  reaches (not_asked f) NoMemory d are command none cause output = inr (inr refl)
  reaches (not_asked f) Finished d are command none cause output = absurd cause
  reaches (not_asked f) Unsettled d are command none cause output = absurd cause
  reaches (not_asked f) NoCommand d are command none cause output = absurd cause
  reaches (not_asked f) Refused d are command none cause output = absurd cause
  reaches (not_asked f) Unread d are command none cause output = absurd cause
  reaches (not_asked f) Unwritten d are command none cause output = absurd cause
  reaches (no_bytes f) NoMemory d are command none cause output = inr (inr refl)
  reaches (no_bytes f) Finished d are command none cause output = absurd cause
  reaches (no_bytes f) Unsettled d are command none cause output = absurd cause
  reaches (no_bytes f) NoCommand d are command none cause output = absurd cause
  reaches (no_bytes f) Refused d are command none cause output = absurd cause
  reaches (no_bytes f) Unread d are command none cause output = absurd (none.files cause)
  reaches (no_bytes f) Unwritten d are command none cause output = absurd cause
  reaches (gave f bytes) Finished d are command none cause output = inl (inl refl)
  reaches (gave f bytes) Unsettled d are command none cause output = inl (inr refl)
  reaches (gave f bytes) Refused d are command none cause output = inr (inl refl)
  reaches (gave f bytes) NoMemory d are command none cause output = inr (inr refl)
  reaches (gave f bytes) NoCommand d are command none cause output = absurd cause
  reaches (gave f bytes) Unread d are command none cause output = absurd cause
  reaches (gave f bytes) Unwritten d are command none cause output = absurd (none.out (cut_rose replies before.out now.out output))

  -- words that are no command reach one end, unless memory is wanting for them
  reaches_one : (given : Given) (reached : Status) → AreWords words given → IsNoCommand words →
      IsCause given before.files now.files reached → (reached ≡ NoCommand) ⊎ (reached ≡ NoMemory)
  reaches_one no_command NoCommand are other cause = inl refl
  reaches_one no_command Finished are other cause = absurd cause
  reaches_one no_command Unsettled are other cause = absurd cause
  reaches_one no_command Refused are other cause = absurd cause
  reaches_one no_command Unread are other cause = absurd cause
  reaches_one no_command Unwritten are other cause = absurd cause
  reaches_one no_command NoMemory are other cause = absurd cause
  reaches_one no_words NoMemory are other cause = inr refl
  reaches_one no_words Finished are other cause = absurd cause
  reaches_one no_words Unsettled are other cause = absurd cause
  reaches_one no_words NoCommand are other cause = absurd cause
  reaches_one no_words Refused are other cause = absurd cause
  reaches_one no_words Unread are other cause = absurd cause
  reaches_one no_words Unwritten are other cause = absurd cause
  reaches_one (not_asked f) reached are other cause = absurd (other f are)
  reaches_one (no_bytes f) reached are other cause = absurd (other f are)
  reaches_one (gave f bytes) reached are other cause = absurd (other f are)

  complete : (given : Given) (reached status : Status) → AreWords words given → IsCause given before.files now.files reached →
      IsOutput reached replies before.out now.out → EndsAs reached before.err now.err status → IsComplete words before now status
  complete given reached status are cause output ends = record {
    command = λ d command none.
        ⊎_elim
        (λ e. subst (λ (s : Status). IsAnswered s ⊎ (s ≡ Refused) ⊎ (s ≡ NoMemory)) (sym e)
        (reaches given reached d are command none cause output))
        (λ c. absurd (none.err c.1)) ends;
    no_command = λ other stands.
        ⊎_elim
        (λ e. subst (λ (s : Status). (s ≡ NoCommand) ⊎ (s ≡ NoMemory)) (sym e) (reaches_one given reached are other cause))
        (λ c. absurd (stands c.1)) ends;
  }

  -- a run, from what is known of its parts
  pub runs : (given : Given) (reached status : Status) → AreWords words given → IsGiven before.files.texts given →
      IsAsked given before.files now.files → IsCause given before.files now.files reached → AreMade m given reached replies →
      IsOutput reached replies before.out now.out → IsReported given reached before.err now.err status → IsRun m words before now status replies
  runs given reached status are read asked cause made output reported =
      let ends = ends_as given reached before.err now.err status reported in (
        given,
        reached,
        record {
          command = are;
          read = read;
          asked = asked;
          cause = cause;
          made = made;
          output = output;
          reported = reported;
          failed = failed reached status output ends;
          decided = decided given reached status cause made ends;
          complete = complete given reached status are cause output ends;
        },
      )

  -- a run whose words are no command
  pub no_command_run : (status : Status) → IsNoCommand words → replies ≡ [] → now.files ≡ before.files → now.out ≡ before.out →
      IsWritten NoCommand no_command_line before.err now.err status → IsRun m words before now status replies
  no_command_run status other empty files out written =
      runs no_command NoCommand status other tt files tt empty (subst (λ (rs : List Reply). TookReplies rs before.out now.out) (sym empty) out)
      (no_command_line, refl, written)

  -- a run for whose words memory was wanting
  pub no_words_run : (status : Status) → replies ≡ [] → now.files ≡ before.files → now.out ≡ before.out →
      IsWritten NoMemory no_memory_line before.err now.err status → IsRun m words before now status replies
  no_words_run status empty files out written =
      runs no_words NoMemory status tt tt files tt empty (subst (λ (rs : List Reply). TookReplies rs before.out now.out) (sym empty) out)
      (no_memory_line, refl, written)
