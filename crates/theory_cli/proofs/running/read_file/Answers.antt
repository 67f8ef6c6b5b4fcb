use Rattle.std.proofs.Common.{◌≡◌, ◌∙◌, string_bytes}
use Rattle.theory_words.specs.Reading.{command_of}
use Rattle.theory_cli.specs.Command.{file_of}
use Rattle.theory_cli.proofs.CheckLemmas.{unasked, read_failed, read_wanting, read_parsed}
use Rattle.theory_cli.proofs.running.read_file.Goals as goal

pub returns-in-Err : goal.returns-in-Err
returns-in-Err g c = unasked (command_of c.args.command) _

pub returns-in-Ok-read : goal.returns-in-Ok-read
returns-in-Ok-read g c =
    let name : string_bytes c.in-Ok.name ≡ file_of (command_of c.args.command) = c.in-Ok.ensures.ok ∙ c.file_of.ensures in
    let r = c.read.ensures in
    read_parsed (string_bytes c.in-Ok.name) (command_of c.args.command) _ _ name r.same r.once r.asked r.cause.later _ _ _ c.as_slice.ensures
    c.in-Ok-read.ensures.read c.parse.ensures

pub returns-in-Err-Failed : goal.returns-in-Err-Failed
returns-in-Err-Failed g c =
    let name : string_bytes c.in-Ok.name ≡ file_of (command_of c.args.command) = c.in-Ok.ensures.ok ∙ c.file_of.ensures in
    let r = c.read.ensures in
    let answer = c.in-Err-Failed.is in
    let fault = c.in-Err-Failed.field-0-is in
    read_failed (string_bytes c.in-Ok.name) (command_of c.args.command) _ _ name r.same r.once r.asked r.cause.later (r.cause.cause cc)

pub returns-in-Err-NoMemory : goal.returns-in-Err-NoMemory
returns-in-Err-NoMemory g c =
    let name : string_bytes c.in-Ok.name ≡ file_of (command_of c.args.command) = c.in-Ok.ensures.ok ∙ c.file_of.ensures in
    let r = c.read.ensures in
    read_wanting (string_bytes c.in-Ok.name) (command_of c.args.command) _ _ name r.same r.once r.asked r.cause.later
