use Rattle.std.proofs.Common.{◌≡◌, ap, ◌∙◌}
use Rattle.theory_versions.specs.Index.{requests_of}
use Rattle.theory_versions.proofs.RequestLemmas.{new_request}
use Rattle.theory_versions.proofs.requests.add_request.Goals as goal

pub returns : goal.returns
returns c = λ none. ap requests_of c.in-Ok.ensures.entries ∙ new_request c.args.requests.now.entries c.args.key c.args.place none
