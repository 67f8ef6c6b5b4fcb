use Rattle.std.proofs.Common.{arith}
use Rattle.std.proofs.lemmas.Int.{ints}
use Rattle.theory_meaning.specs.Fraction.{IsSame}
use Rattle.theory_points.proofs.KeptLemmas.{same_parts}
use Rattle.theory_points.proofs.frac.Frac.compare.Goals as goal

pub returns-clause-equal : goal.returns-clause-equal
returns-clause-equal c = λ h.
    let same : IsSame c.args.self.now c.args.other.now = grind (arith, ints, h) in
    same_parts c.args.self.now c.args.other.now c.cross.ensures.kept c.cross-2.ensures.kept same
