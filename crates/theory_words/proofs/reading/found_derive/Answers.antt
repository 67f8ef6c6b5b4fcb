use Rattle.std.proofs.Common.{ap, sym, codes, ◌∙◌, option_map, None, Some}
use Rattle.clap.specs.Words.{found_of}
use Rattle.theory_words.specs.Commands.{derive}
use Rattle.theory_words.specs.Reading.{command_of}
use Rattle.theory_words.proofs.Found.{text_found}
use Rattle.theory_words.proofs.reading.found_derive.Goals as goal

pub returns-in_err-file : goal.returns-in_err-file
returns-in_err-file c = ap (option_map command_of) c.from_residual.ensures
    ∙ sym (ap (option_map derive) (text_found (found_of c.args.matches.now) (codes "file") None c.in_err-file.ensures))

pub returns : goal.returns
returns c = sym (ap (option_map derive) (text_found (found_of c.args.matches.now) (codes "file") (Some c.in_ok-file.file) c.in_ok-file.ensures))
