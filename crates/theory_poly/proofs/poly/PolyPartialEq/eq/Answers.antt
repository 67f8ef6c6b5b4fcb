use Rattle.std.proofs.Common.{ap, ◌∙◌}
use Rattle.theory_poly.specs.Hashes.{hash_of}
use Rattle.theory_poly.proofs.HashLaws.{other_hash}
use Rattle.theory_poly.proofs.poly.PolyPartialEq.eq.Goals as goal

pub returns-else-self-other : goal.returns-else-self-other
returns-else-self-other c =
    other_hash c.args.self.now c.args.other.now c.self.inside.hash c.other.inside.hash
    (c.self.invariant.hashed ∙ ap hash_of c.self.view_is) (c.other.invariant.hashed ∙ ap hash_of c.other.view_is) c.if-self-other.false
