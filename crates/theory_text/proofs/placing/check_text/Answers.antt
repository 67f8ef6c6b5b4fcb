use Rattle.std.proofs.Common.{inr}
use Rattle.theory_text.proofs.placing.check_text.Goals as goal

pub returns-in-Err-NotUtf8 : goal.returns-in-Err-NotUtf8
returns-in-Err-NotUtf8 c =
    let found = c.in-Err-NotUtf8.ensures in
    let why = c.in-Err-NotUtf8.field-0-is in
    let valid = rw why at found in
    inr (record { size = valid.0; end = c.in-Err-NotUtf8.n; valid = valid.1; same = c.error_behind-in-Err-NotUtf8.ensures })
