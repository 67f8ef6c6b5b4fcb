use Rattle.std.proofs.Common.{rules}
use Rattle.theory_session.specs.SlowDesk.{edit_request_of}
use Rattle.theory_session.specs.SlowTexts.{text_fault_of, edit_fault_of}
use Rattle.theory_session.proofs.SlowLemmas.{faulty_edit, failed_edit}
use Rattle.theory_session.proofs.slow.editing.changed.Goals as goal

pub returns-in-Err-Read-clause-checks : goal.returns-in-Err-Read-clause-checks
returns-in-Err-Read-clause-checks g c =
    λ es last. faulty_edit (edit_request_of c.args.request.now) (text_fault_of c.in-Err-Read.fault) _ (search rules) c.refused.ensures es

pub returns-in-Err-Edit-clause-checks : goal.returns-in-Err-Edit-clause-checks
returns-in-Err-Edit-clause-checks g c =
    failed_edit (edit_request_of c.args.request.now) (g.T.Text.lines c.args.latest.now) (edit_fault_of c.in-Err-Edit.fault) _ (search rules) c.refused-in-Err-Edit.ensures
