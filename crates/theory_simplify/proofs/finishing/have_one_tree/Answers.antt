use Rattle.theory_simplify.specs.Drafts.{draft_of}
use Rattle.theory_simplify.proofs.DraftLemmas.{other_formula}
use Rattle.theory_simplify.proofs.finishing.have_one_tree.Goals as goal

pub returns-else-hash-other : goal.returns-else-hash-other
returns-else-hash-other c =
    other_formula (draft_of c.args.first.now) (draft_of c.args.second.now) c.args.hash c.args.other c.requires.hash c.requires.other
    c.if-hash-other.false
