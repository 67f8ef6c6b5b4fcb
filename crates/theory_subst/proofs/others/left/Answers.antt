use Rattle.std.proofs.Common.{◌∙◌, ap}
use Rattle.theory_elimination.specs.Branches.{others_of}
use Rattle.theory_subst.proofs.OthersLemmas.{left_of_members}
use Rattle.theory_subst.proofs.others.left.Goals as goal

pub returns-in_ok-but_one-in-And : goal.returns-in_ok-but_one-in-And
returns-in_ok-but_one-in-And c =
    c.together.ensures ∙ ap others_of c.in_ok-but_one-in-And.ensures
    ∙ left_of_members c.args.place c.args.formula.now c.in-And.members c.deref.result.now c.in-And.is c.deref.ensures.value
