use Rattle.std.proofs.Common.{Err, refl, map, string_bytes, ap, subst}
use Rattle.theory_decision.specs.Engine.{engine}
use Rattle.theory_words.specs.Reading.{AreReadAs}
use Rattle.theory_words.specs.declared.command.WordsFault.{WordsFault}
use Rattle.theory_cli.specs.Plain.{replies_of}
use Rattle.theory_cli.proofs.RunLemmas.{no_command_run, no_words_run}
use Rattle.theory_cli.proofs.cli.theory.Goals as goal

pub returns-in-Ok : goal.returns-in-Ok
returns-in-Ok g c = record { run = c.run.ensures (map string_bytes c.args.words.now) c.in-Ok.ensures }

pub returns-in-Err-NoCommand : goal.returns-in-Err-NoCommand
returns-in-Err-NoCommand g c = record {
  run = no_command_run engine (map string_bytes c.args.words.now) _ _ _ _
      (subst (λ (f : WordsFault). AreReadAs (map string_bytes c.args.words.now) (Err f)) c.in-Err-NoCommand.field-0-is c.in-Err-NoCommand.ensures)
      (ap replies_of c.new.ensures) refl refl c.report_no_command.ensures;
}

pub returns-in-Err-NoMemory : goal.returns-in-Err-NoMemory
returns-in-Err-NoMemory g c = record {
  run = no_words_run engine (map string_bytes c.args.words.now) _ _ _ _ (ap replies_of c.new-in-Err-NoMemory.ensures) refl refl c.report_no_memory.ensures;
}
