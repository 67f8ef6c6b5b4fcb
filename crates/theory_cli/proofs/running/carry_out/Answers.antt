use Rattle.std.proofs.Common.{Ok, ap}
use Rattle.theory_cli.specs.declared.session.Halt.TheVariants.{Unwritten, NoMemory}
use Rattle.theory_decision.specs.Engine.{engine}
use Rattle.theory_words.specs.Reading.{command_of}
use Rattle.theory_cli.specs.Plain.{replies_of}
use Rattle.theory_cli.proofs.CheckLemmas.{not_read, answered, answered_halt}
use Rattle.theory_cli.proofs.running.carry_out.Goals as goal

pub returns-in-Err : goal.returns-in-Err
returns-in-Err g c = not_read engine (command_of c.args.command) _ _ _ _ c.in-Err.stop (ap replies_of c.requires) c.in-Err.ensures

pub returns-in-Ok-reply_to : goal.returns-in-Ok-reply_to
returns-in-Ok-reply_to g c =
    answered engine (command_of c.args.command) _ _ _ c.in-Ok.model _ _ (Ok tt) c.in-Ok.ensures c.in-Ok-reply_to.ensures

pub returns-in-Err-Unwritten : goal.returns-in-Err-Unwritten
returns-in-Err-Unwritten g c =
    answered_halt engine (command_of c.args.command) _ _ _ c.in-Ok.model _ _ _ Unwritten c.in-Err-Unwritten.field-0-is c.in-Ok.ensures
    c.in-Err-Unwritten.ensures

pub returns : goal.returns
returns g c =
    answered_halt engine (command_of c.args.command) _ _ _ c.in-Ok.model _ _ _ NoMemory c.in-Err-NoMemory.field-0-is c.in-Ok.ensures
    c.in-Err-NoMemory.ensures
