use Rattle.std.proofs.Common.{refl}
use Rattle.theory_decision.specs.Engine.{engine}
use Rattle.theory_words.specs.Reading.{command_of}
use Rattle.theory_cli.proofs.CheckLemmas.{reported_run, finished_run}
use Rattle.theory_cli.proofs.running.run.Goals as goal

pub returns-in-Ok : goal.returns-in-Ok
returns-in-Ok g c = λ words is. finished_run engine (command_of c.args.command) words is _ _ _ _ c.ended_with.ensures refl c.in-Ok.ensures

pub returns-in-Err : goal.returns-in-Err
returns-in-Err g c = λ words is.
    reported_run engine (command_of c.args.command) words is _ _ _ _ _ c.in-Err.stop c.file_of.ensures c.in-Err.ensures c.report.ensures
