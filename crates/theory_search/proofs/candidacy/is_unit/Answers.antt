use Rattle.std.proofs.Common.{◌≡◌, subst, IfOk}
use Rattle.std.specs.List.{list_any}
use Rattle.std.specs.Option.{is_some}
use Rattle.theory_elimination.specs.TopEquation.{plain_equation_of}
use Rattle.theory_search.proofs.CandidateLemmas.{own_members}
use Rattle.theory_search.proofs.candidacy.is_unit.Goals as goal

pub returns-in-And : goal.returns-in-And
returns-in-And c =
    subst (λ ms. IfOk c.some_is_plain.result (λ b. b ≡ list_any (λ G. is_some (plain_equation_of c.args.x G)) ms))
    (own_members c.args.formula.now c.in-And.members c.deref.result.now c.in-And.is c.deref.ensures.value) c.some_is_plain.ensures
