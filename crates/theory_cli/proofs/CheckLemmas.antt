-- A run of a command, from how its file was read and what was told of its model; and a whole run, from what is known of its parts.
use Rattle.std.proofs.Common.{◌≡◌, ℕ, List, [], ◌++◌, ◌≤◌, Option, None, Some, Result, Ok, Err, inl, inr, ⊎_elim, refl, sym, ap, ◌∙◌, subst}
use Rattle.std.specs.Prelude.{codes, true, false, if◌then◌else◌}
use Rattle.std.proofs.lemmas.Bool.{both_ways}
use Rattle.theory_meaning.specs.Faults.{Rose, one_more}
use Rattle.theory_edge.specs.Files.{FilesTold, IsRead, ReadOnce}
use Rattle.theory_edge.specs.Sinks.{SinkTold}
use Rattle.theory_session.specs.Run.{Reply, some_open}
use Rattle.theory_session.specs.Printed.{line_end}
use Rattle.theory_words.specs.Commands.{Command, check, derive, IsCommand}
use Rattle.theory_cli.specs.declared.session.Halt.{Halt}
use Rattle.theory_cli.specs.declared.session.Halt.TheVariants as halt
use Rattle.theory_cli.specs.declared.status.Status.{Status}
use Rattle.theory_cli.specs.declared.status.Status.TheVariants as status
use Rattle.theory_cli.specs.declared.running.Stop.{Stop}
use Rattle.theory_cli.specs.declared.running.Stop.TheVariants.{Refused, Unread, Unwritten, NoMemory}
use Rattle.theory_meaning.specs.Deciding.{Meanings}
use Rattle.theory_meaning.specs.Text.{Numbered}
use Rattle.theory_syntax.specs.declared.text.Numbered as source
use Rattle.theory_syntax.specs.Plain.{lines_of}
use Rattle.theory_cli.specs.Command.{file_of, Given, no_words, no_command, not_asked, no_bytes, gave, AreWords, text_limit}
use Rattle.theory_cli.specs.Ending.{IsCause, IsWritten, IsReported, no_memory_line}
use Rattle.theory_cli.specs.Run.{Ends, AreMade, IsOutput, IsRun}
use Rattle.theory_cli.specs.Running.{text_refusal_text, IsParsed, given_command, HasRead, GivesModel, ReadsFile, stop_line, ended_with, CarriesOut, IsCarriedOut, Reports}
use Rattle.theory_cli.specs.Session.{AreReplies, AreFirstReplies}
use Rattle.theory_cli.specs.Taking.{TookReplies}
use Rattle.theory_cli.specs.Telling.{Answers}
use Rattle.theory_cli.proofs.RunLemmas.{runs}

-- a given command is the one that it is
command_is : (c d : Command) → Some c ≡ Some d → c ≡ d
command_is c d same = ap (λ (o : Option Command). or_this o) same
  where
    or_this : Option Command → Command
    or_this None = c
    or_this (Some e) = e

-- without replies nothing is taken
none_taken : (replies : List Reply) (out : SinkTold) → replies ≡ [] → TookReplies replies out out
none_taken replies out empty = subst (λ (rs : List Reply). TookReplies rs out out) (sym empty) refl

-- how a run stops whose replies end so
abbrev pub stopped_by : Result (Unit {0}) Halt → Result (Unit {0}) Stop
stopped_by (Ok _) = Ok tt
stopped_by (Err halt.Unwritten) = Err Unwritten
stopped_by (Err halt.NoMemory) = Err NoMemory

-- the files were read once, under the name of the file
read_once : (name file : List ℕ) (before now : FilesTold) → name ≡ file → now.texts ≡ before.texts → now.reads ≡ one_more before.reads →
    now.asked ≡ Some (name, before.faults) → before.faults ≤ now.faults → ReadOnce file before now
read_once name file before now is same once asked later = record {
  same = same;
  once = once;
  asked = asked ∙ ap (λ (n : List ℕ). Some (n, before.faults)) is;
  later = later;
}

-- memory ran out before the file was asked for
pub unasked : (c : Command) (files : FilesTold) → ReadsFile c files files (Err NoMemory)
unasked c files = (not_asked c, record { command = refl; read = tt; asked = refl }, tt)

module _ (name : List ℕ) (c : Command) (before now : FilesTold) (is : name ≡ file_of c) (same : now.texts ≡ before.texts) (once : now.reads ≡ one_more before.reads)
    (asked : now.asked ≡ Some (name, before.faults)) (later : before.faults ≤ now.faults) where
  pub read_failed : Rose before.faults now.faults → ReadsFile c before now (Err Unread)
  read_failed rose = (no_bytes c, record { command = refl; read = tt; asked = read_once name (file_of c) before now is same once asked later }, rose)

  pub read_wanting : ReadsFile c before now (Err NoMemory)
  read_wanting = (no_bytes c, record { command = refl; read = tt; asked = read_once name (file_of c) before now is same once asked later }, tt)

  pub read_parsed : (bytes lent : List ℕ) (parsed : Result (List source.Numbered) Stop) → lent ≡ bytes → IsRead before.texts name text_limit bytes →
      IsParsed lent parsed → ReadsFile c before now parsed
  read_parsed bytes lent parsed are read given = (
    gave c bytes,
    record {
      command = refl;
      read = subst (λ (n : List ℕ). IsRead before.texts n text_limit bytes) is read;
      asked = read_once name (file_of c) before now is same once asked later;
    },
    subst (λ (bs : List ℕ). IsParsed bs parsed) are given,
  )

module _ (m : Meanings) (c : Command) (files files' : FilesTold) (replies : List Reply) where
  -- a run that stopped before its first reply
  unread_check : (out : SinkTold) (stop : Stop) (given : Given) → replies ≡ [] → HasRead c given files files' →
      GivesModel given files files' (Err stop) → CarriesOut m c given files files' replies out out (Err stop)
  unread_check out (Refused r) (gave f bytes) empty read gives = record {
    read = read;
    cause = (text_refusal_text r, gives);
    made = empty;
    output = none_taken replies out empty;
    line = (text_refusal_text r, gives, ap (λ (d : Command). file_of d ++ text_refusal_text r ++ line_end) (sym (command_is f c read.command)));
  }
  unread_check out (Refused r) no_words empty read gives = absurd gives
  unread_check out (Refused r) no_command empty read gives = absurd gives
  unread_check out (Refused r) (not_asked f) empty read gives = absurd gives
  unread_check out (Refused r) (no_bytes f) empty read gives = absurd gives
  unread_check out Unread (no_bytes f) empty read gives = record {
    read = read;
    cause = gives;
    made = empty;
    output = none_taken replies out empty;
    line = ap (λ (d : Command). codes "theory: cannot read " ++ file_of d ++ line_end) (sym (command_is f c read.command));
  }
  unread_check out Unread no_words empty read gives = absurd gives
  unread_check out Unread no_command empty read gives = absurd gives
  unread_check out Unread (not_asked f) empty read gives = absurd gives
  unread_check out Unread (gave f bytes) empty read gives = absurd gives
  unread_check out Unwritten no_words empty read gives = absurd gives
  unread_check out Unwritten no_command empty read gives = absurd gives
  unread_check out Unwritten (not_asked f) empty read gives = absurd gives
  unread_check out Unwritten (no_bytes f) empty read gives = absurd gives
  unread_check out Unwritten (gave f bytes) empty read gives = absurd gives
  unread_check out NoMemory no_words empty read gives = absurd gives
  unread_check out NoMemory no_command empty read gives = absurd gives
  unread_check out NoMemory (not_asked f) empty read gives =
      record { read = read; cause = tt; made = empty; output = none_taken replies out empty; line = refl }
  unread_check out NoMemory (no_bytes f) empty read gives =
      record { read = read; cause = tt; made = empty; output = none_taken replies out empty; line = refl }
  unread_check out NoMemory (gave f bytes) empty read gives =
      record { read = read; cause = tt; made = inl empty; output = none_taken replies out empty; line = refl }

  pub not_read : (out : SinkTold) (stop : Stop) → replies ≡ [] → ReadsFile c files files' (Err stop) →
      IsCarriedOut m c files files' replies out out (Err stop)
  not_read out stop empty (given, read, gives) = (given, unread_check out stop given empty read gives)

  -- the replies are those of the command that was given
  made_by : (f : Command) (lines : List Numbered) {bytes : List ℕ} → HasRead c (gave f bytes) files files' → AreReplies m c lines replies → AreReplies m f lines replies
  made_by f lines read made = subst (λ (d : Command). AreReplies m d lines replies) (sym (command_is f c read.command)) made

  begun_by : (f : Command) (lines : List Numbered) {bytes : List ℕ} → HasRead c (gave f bytes) files files' → AreFirstReplies m c lines replies
      → AreFirstReplies m f lines replies
  begun_by f lines read made = subst (λ (d : Command). AreFirstReplies m d lines replies) (sym (command_is f c read.command)) made

  -- where some reply is open the command was a check
  unsettled_check : (f : Command) (lines : List Numbered) (bytes : List ℕ) → AreReplies m f lines replies → some_open replies ≡ true
      → IsCause (gave f bytes) files files' status.Unsettled
  unsettled_check (check file kind on) lines bytes made e = tt
  unsettled_check (derive file) lines bytes made e =
      let decided : some_open replies ≡ false = ap some_open made in absurd (both_ways (some_open replies) decided e)

  -- a run whose file was read as a model
  answered_check : (model : List source.Numbered) (out out' : SinkTold) (told : Result (Unit {0}) Halt) (given : Given) → HasRead c given files files' →
      GivesModel given files files' (Ok model) →
      Answers m c (lines_of model) replies out out' told →
      CarriesOut m c given files files' replies out out' (stopped_by told)
  answered_check model out out' told no_words read gives answers = absurd gives
  answered_check model out out' told no_command read gives answers = absurd gives
  answered_check model out out' told (not_asked f) read gives answers = absurd gives
  answered_check model out out' told (no_bytes f) read gives answers = absurd gives
  answered_check model out out' (Ok tt) (gave f bytes) read gives answers = record {
    read = read;
    cause = elim (some_open replies)
        as (λ b. some_open replies ≡ b → IsCause (gave f bytes) files files' (if b then status.Unsettled else status.Finished)) [
          | true ↦ λ e. unsettled_check f (lines_of model) bytes (made_by f (lines_of model) read answers.0) e
          | false ↦ λ e. tt
        ] refl;
    made = elim (some_open replies)
        as (λ b. some_open replies ≡ b → AreMade m (gave f bytes) (if b then status.Unsettled else status.Finished) replies) [
          | true ↦ λ e. ((lines_of model, gives, made_by f (lines_of model) read answers.0), e)
          | false ↦ λ e. ((lines_of model, gives, made_by f (lines_of model) read answers.0), e)
        ] refl;
    output = elim (some_open replies) as (λ b. IsOutput (if b then status.Unsettled else status.Finished) replies out out') [
      | true ↦ answers.1
      | false ↦ answers.1
    ];
    line = tt;
  }
  answered_check model out out' (Err halt.Unwritten) (gave f bytes) read gives answers = record {
    read = read;
    cause = tt;
    made = (lines_of model, gives, begun_by f (lines_of model) read answers.0);
    output = answers.1;
    line = tt;
  }
  answered_check model out out' (Err halt.NoMemory) (gave f bytes) read gives answers = record {
    read = read;
    cause = tt;
    made = inr (lines_of model, gives, begun_by f (lines_of model) read answers.0);
    output = answers.1;
    line = refl;
  }

  pub answered : (model : List source.Numbered) (out out' : SinkTold) (told : Result (Unit {0}) Halt) → ReadsFile c files files' (Ok model) →
      Answers m c (lines_of model) replies out out' told →
      IsCarriedOut m c files files' replies out out' (stopped_by told)
  answered model out out' told (given, read, gives) answers = (given, answered_check model out out' told given read gives answers)

  pub answered_halt : (model : List source.Numbered) (out out' : SinkTold) (h k : Halt) → h ≡ k → ReadsFile c files files' (Ok model) →
      Answers m c (lines_of model) replies out out' (Err h) →
      IsCarriedOut m c files files' replies out out' (stopped_by (Err k))
  answered_halt model out out' h k is read answers = answered model out out' (Err k) read
      (subst (λ (j : Halt). Answers m c (lines_of model) replies out out' (Err j)) is answers)

-- want of memory may come in place of an end without replies
wanting_cause : (c : Command) (given : Given) (files files' : FilesTold) → given_command given ≡ Some c → IsCause given files files' status.NoMemory
wanting_cause c no_words files files' are = tt
wanting_cause c no_command files files' are = absurd (let bad : ◌≡◌ {A = Option Command} None (Some c) = are in cc)
wanting_cause c (not_asked f) files files' are = tt
wanting_cause c (no_bytes f) files files' are = tt
wanting_cause c (gave f bytes) files files' are = tt

wanting_refused : (m : Meanings) (given : Given) (replies : List Reply) → AreMade m given status.Refused replies → AreMade m given status.NoMemory replies
wanting_refused m no_words replies empty = empty
wanting_refused m no_command replies empty = empty
wanting_refused m (not_asked f) replies empty = empty
wanting_refused m (no_bytes f) replies empty = empty
wanting_refused m (gave f bytes) replies empty = inl empty

wanting_unread : (m : Meanings) (given : Given) (replies : List Reply) → AreMade m given status.Unread replies → AreMade m given status.NoMemory replies
wanting_unread m no_words replies empty = empty
wanting_unread m no_command replies empty = empty
wanting_unread m (not_asked f) replies empty = empty
wanting_unread m (no_bytes f) replies empty = empty
wanting_unread m (gave f bytes) replies empty = inl empty

-- the words are what was given, where they are the command that was
words_given : (words : List (List ℕ)) (c : Command) (given : Given) → IsCommand words c → given_command given ≡ Some c → AreWords words given
words_given words c no_words is given = tt
words_given words c no_command is given = absurd (let bad : ◌≡◌ {A = Option Command} None (Some c) = given in cc)
words_given words c (not_asked f) is given = subst (λ (d : Command). IsCommand words d) (sym (command_is f c given)) is
words_given words c (no_bytes f) is given = subst (λ (d : Command). IsCommand words d) (sym (command_is f c given)) is
words_given words c (gave f bytes) is given = subst (λ (d : Command). IsCommand words d) (sym (command_is f c given)) is

module _ (m : Meanings) (c : Command) (words : List (List ℕ)) (is : IsCommand words c) (before now : Ends) (replies : List Reply) (ended : Status) where
  -- a run of these parts
  run_by : (given : Given) (reached : Status) → HasRead c given before.files now.files → IsCause given before.files now.files reached →
      AreMade m given reached replies → IsOutput reached replies before.out now.out → IsReported given reached before.err now.err ended →
      IsRun m words before now ended replies
  run_by given reached read cause made output reports =
      runs m words before now replies given reached ended (words_given words c given is read.command) read.read read.asked cause made output reports

  reported : (stop : Stop) (given : Given) → CarriesOut m c given before.files now.files replies before.out now.out (Err stop) →
      Reports (file_of c) stop before.err now.err ended → IsRun m words before now ended replies
  reported (Refused r) given k reports =
      ⊎_elim (λ w. run_by given status.Refused k.read k.cause k.made k.output (stop_line (file_of c) (Refused r), k.line, w))
      (λ w.
      run_by given status.NoMemory k.read (wanting_cause c given before.files now.files k.read.command) (wanting_refused m given replies k.made)
      k.output (no_memory_line, refl, w)) reports
  reported Unread given k reports =
      ⊎_elim (λ w. run_by given status.Unread k.read k.cause k.made k.output (stop_line (file_of c) Unread, k.line, w))
      (λ w.
      run_by given status.NoMemory k.read (wanting_cause c given before.files now.files k.read.command) (wanting_unread m given replies k.made)
      k.output (no_memory_line, refl, w)) reports
  reported Unwritten given k reports = run_by given status.Unwritten k.read k.cause k.made k.output reports
  reported NoMemory given k reports =
      let written : IsWritten status.NoMemory no_memory_line before.err now.err ended = ⊎_elim (λ w. w) (λ w. w) reports in
      run_by given status.NoMemory k.read k.cause k.made k.output (no_memory_line, refl, written)

  -- a run that stopped
  pub reported_run : (file : List ℕ) (stop : Stop) → file ≡ file_of c →
      IsCarriedOut m c before.files now.files replies before.out now.out (Err stop) →
      Reports file stop before.err now.err ended → IsRun m words before now ended replies
  reported_run file stop named (given, k) reports =
      reported stop given k (subst (λ (f : List ℕ). Reports f stop before.err now.err ended) named reports)

  -- a run that came to its end
  pub finished_run : ended ≡ ended_with replies → now.err ≡ before.err →
      IsCarriedOut m c before.files now.files replies before.out now.out (Ok tt) → IsRun m words before now ended replies
  finished_run ends stands (given, k) =
      run_by given (ended_with replies) k.read k.cause k.made k.output
      (subst (λ (s : Status). IsReported given (ended_with replies) before.err now.err s) (sym ends)
      (elim (some_open replies)
      as (λ b. IsReported given (if b then status.Unsettled else status.Finished) before.err now.err (if b then status.Unsettled else status.Finished)) [
        | true ↦ (refl, stands)
        | false ↦ (refl, stands)
      ]))

-- a file that can't be read is told so
pub told_unread : (file : List ℕ) (stop : Stop) (text : List ℕ) (before now : SinkTold) (ended : Status) → stop ≡ Unread → text ≡ stop_line file Unread →
    IsWritten status.Unread text before now ended → Reports file stop before now ended
told_unread file stop text before now ended is line written =
    subst (λ (s : Stop). Reports file s before now ended) (sym is)
    (inl (subst (λ (t : List ℕ). IsWritten status.Unread t before now ended) line written))
