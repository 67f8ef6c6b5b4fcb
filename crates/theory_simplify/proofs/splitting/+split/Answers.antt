use Rattle.theory_simplify.proofs.SplitTrees.{split-And, split-Or}
use Rattle.theory_simplify.proofs.splitting.+split.Goals as goal

pub split-returns-in_ok-split_all-in-And-clause-written : goal.split-returns-in_ok-split_all-in-And-clause-written
split-returns-in_ok-split_all-in-And-clause-written t c =
    split-And c.args.formula.now c.in-And.members c.in_ok-split_all-in-And.field-0 c.deref.result.now c.in-And.is c.deref.ensures.value
    c.in_ok-split_all-in-And.ensures.written

pub split-returns-in_ok-split_all-in-Or-clause-written : goal.split-returns-in_ok-split_all-in-Or-clause-written
split-returns-in_ok-split_all-in-Or-clause-written t c =
    split-Or c.args.formula.now c.in-Or.members c.in_ok-split_all-in-Or.field-0 c.deref-in-Or.result.now c.in-Or.is c.deref-in-Or.ensures.value
    c.in_ok-split_all-in-Or.ensures.written
