use Rattle.theory_subst.proofs.BranchLemmas.{first_of_members, first_of_atom}
use Rattle.theory_subst.proofs.top_equation.top_equation.Goals as goal

pub returns-in-And : goal.returns-in-And
returns-in-And c =
    first_of_members c.args.x c.args.formula.now c.in-And.members c.deref.result.now c.preferred.result c.in-And.is c.deref.ensures.value c.preferred.ensures

pub returns-in-Atom : goal.returns-in-Atom
returns-in-Atom c = first_of_atom c.args.x c.args.formula.now c.in-Atom.field-0 c.lone_equation.result c.in-Atom.is c.lone_equation.ensures
