use Rattle.std.proofs.Common.{◌≡◌, pos, arith}
use Rattle.std.specs.Int.{w128}
use Rattle.std.proofs.lemmas.Int.{ints}
use mir.Val.{to_z, of_z}
use Rattle.theory_lower.proofs.WrittenLemmas.{whole_found, whole_is_not_wide}
use Rattle.theory_lower.proofs.polynomials.whole_fraction.Goals as goal

pub returns-in-Some : goal.returns-in-Some
returns-in-Some c =
    let is : to_z w128 (of_z w128 c.from.result) ≡ pos c.args.n = omega (arith, ints, c.from.ensures, c.requires) in
    whole_found c.args.n (to_z w128 (of_z w128 c.from.result)) c.in-Some.fraction c.requires is c.in-Some.ensures.value c.in-Some.ensures.kept

pub returns-in-None : goal.returns-in-None
returns-in-None c =
    let is : to_z w128 (of_z w128 c.from.result) ≡ pos c.args.n = omega (arith, ints, c.from.ensures, c.requires) in
    absurd (whole_is_not_wide c.args.n (to_z w128 (of_z w128 c.from.result)) c.requires is c.in-None.ensures.value)
