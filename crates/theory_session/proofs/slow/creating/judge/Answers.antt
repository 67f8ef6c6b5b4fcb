use Rattle.theory_session.specs.SlowDesk.{create_request_of, entries_of}
use Rattle.theory_session.proofs.SlowLemmas.{creation_comes}
use Rattle.theory_session.proofs.slow.creating.judge.Goals as goal

pub returns-clause-checks : goal.returns-clause-checks
returns-clause-checks g c =
    creation_comes g.T.Text.lines (entries_of g.T.Text.lines c.args.versions.now) (create_request_of c.args.request) c.in_ok-version.version c.judge_lines.result
    c.in_ok-version.ensures.first c.judge_lines.ensures.checks
