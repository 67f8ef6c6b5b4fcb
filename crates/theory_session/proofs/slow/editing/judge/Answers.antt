use Rattle.std.proofs.Common.{rules}
use Rattle.theory_session.specs.SlowDesk.{edit_request_of, entry_of, entries_of}
use Rattle.theory_session.proofs.SlowLemmas.{undecided_edit, full_edit, edit_comes}
use Rattle.theory_session.proofs.slow.editing.judge.Goals as goal

pub returns-then-last-ge-MOST_VERSIONS-clause-checks : goal.returns-then-last-ge-MOST_VERSIONS-clause-checks
returns-then-last-ge-MOST_VERSIONS-clause-checks g c =
    let es = entries_of g.T.Text.lines c.args.versions.now in
    let r = edit_request_of c.args.request in
    let ls = g.T.Text.lines c.in_ok-text.text in
    let u = undecided_edit es r ls (entry_of g.T.Text.lines c.in-Some.latest.now) c.last_version-last.result (search rules) (search rules) (search rules) (search rules) in
    full_edit es r ls _ u (search rules) c.refused-then-last-ge-MOST_VERSIONS.ensures

pub returns-clause-checks : goal.returns-clause-checks
returns-clause-checks g c =
    let es = entries_of g.T.Text.lines c.args.versions.now in
    let r = edit_request_of c.args.request in
    let ls = g.T.Text.lines c.in_ok-text.text in
    let u = undecided_edit es r ls (entry_of g.T.Text.lines c.in-Some.latest.now) c.last_version-last.result (search rules) (search rules) (search rules) (search rules) in
    edit_comes g.T.Text.lines es r ls (entry_of g.T.Text.lines c.next_version.result) c.judge_size.result u (search rules) c.judge_size.ensures.checks
