use Rattle.std.proofs.Common.{◌≡◌, ap, ◌∙◌}
use Rattle.theory_versions.proofs.RequestLemmas.{lookup-requests_of}
use Rattle.theory_versions.proofs.requests.place_of.Goals as goal

pub returns-in-Some : goal.returns-in-Some
returns-in-Some c = c.in-Some.ensures.value ∙ lookup-requests_of c.args.key.now c.args.requests.now.entries

pub returns-in-None : goal.returns-in-None
returns-in-None c = c.in-None.ensures.value ∙ lookup-requests_of c.args.key.now c.args.requests.now.entries
