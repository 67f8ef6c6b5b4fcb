use Rattle.theory_simplify.proofs.SplitTrees.{made_condition}
use Rattle.theory_simplify.proofs.splitting.condition_on.Goals as goal

pub returns : goal.returns
returns c = made_condition c.args.poly.now c.args.signs c.make_atom.result c.requires c.make_atom.ensures.written c.make_atom.ensures.truth
