use Rattle.std.proofs.Common.{◌==◌, rules, tests, ◌∙◌}
use Rattle.std.proofs.lemmas.Iterator.Consumers.{YieldsList-end}
use Rattle.std.proofs.lemmas.Iterator.Splits.{YieldsList-from_slice_split}
use Rattle.theory_words.specs.Commands.{comma}
use Rattle.theory_cli.proofs.names.parts_at_commas.Goals as goal

pub returns : goal.returns
returns c =
    let given = YieldsList-from_slice_split _ (λ b. b == comma) c.args.text.now (cc) (cc) (cc) (λ x r q k. search (rules, tests)) in
    c.loop-part.invariant ∙ (YieldsList-end given c.loop-part.yielded _ c.loop-part.yielded_by _ _ c.in-None.is c.next.ensures.steps).0
