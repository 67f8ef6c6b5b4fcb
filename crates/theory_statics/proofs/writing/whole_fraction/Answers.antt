use Rattle.std.proofs.Common.{◌≡◌, ◌≤◌, pos, arith}
use Rattle.std.specs.Int.{w128}
use Rattle.std.proofs.lemmas.Int.{ints}
use Rattle.theory_meaning.specs.Limits.{bound}
use mir.Val.{to_z, of_z}
use Rattle.theory_statics.proofs.NumberLemmas.{whole_found, whole_is_not_wide}
use Rattle.theory_statics.proofs.writing.whole_fraction.Goals as goal

pub unreachable-requires : goal.unreachable-requires
unreachable-requires c =
    let is : to_z w128 (of_z w128 c.from.result) ≡ pos c.args.n = omega (arith, ints, c.from.ensures, c.ranges.n) in
    let small : c.args.n ≤ bound = omega (arith, c.ranges.n) in
    whole_is_not_wide c.args.n (to_z w128 (of_z w128 c.from.result)) small is c.in-None.ensures.value

pub returns : goal.returns
returns c =
    let is : to_z w128 (of_z w128 c.from.result) ≡ pos c.args.n = omega (arith, ints, c.from.ensures, c.ranges.n) in
    let small : c.args.n ≤ bound = omega (arith, c.ranges.n) in
    whole_found c.args.n (to_z w128 (of_z w128 c.from.result)) c.in-Some.fraction small is c.in-Some.ensures.value c.in-Some.ensures.kept
