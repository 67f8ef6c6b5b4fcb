use Rattle.theory_witness.proofs.RootLemmas.{line_root}
use Rattle.std.proofs.lemmas.Result.{on_ok_weaker}
use Rattle.theory_witness.proofs.roots.add_root.Goals as goal

pub returns : goal.returns
returns c =
    on_ok_weaker c.insert_root.result (λ is. line_root c.args.x c.args.atom.now.poly c.line_of.result c.root.result c.args.roots.now.items
    c.insert_root.new.roots.items c.line_of.ensures c.root.ensures.zero c.root.ensures.only is) c.insert_root.ensures
