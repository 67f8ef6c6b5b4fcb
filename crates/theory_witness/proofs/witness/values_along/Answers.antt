use Rattle.std.proofs.Common.{◌≡◌, ◌-◌, false, map, arith}
use Rattle.theory_decision.specs.Choice.{is_one_of}
use Rattle.theory_decision.specs.Witness.{IsWideWitness}
use Rattle.theory_witness.specs.Path.{step_of, IsWideAt}
use Rattle.theory_witness.proofs.PathLemmas.{picks_here, symbol_here, wide_here, wide_exit, witness_found, never_wide}
use Rattle.theory_witness.proofs.witness.values_along.Goals as goal

pub add_step-requires-clause-symbol : goal.add_step-requires-clause-symbol
add_step-requires-clause-symbol c =
    let some = c.loop-left-test.true in
    let bounded = c.loop-left.invariant.within in
    let few = c.requires.few in
    let low = symbol_here c.args.count (c.loop-left.left - 1) c.loop-left.left c.args.path.now c.index-path-left.result c.loop-left.given.items
    c.loop-left.values.items (omega (arith, some)) (omega (arith, some, bounded)) c.index-path-left.is c.requires.hit c.loop-left.invariant.so_far in
    omega (arith, low, few)

pub add_step-requires-clause-picks : goal.add_step-requires-clause-picks
add_step-requires-clause-picks c =
    let some = c.loop-left-test.true in
    let bounded = c.loop-left.invariant.within in
    picks_here c.args.count (c.loop-left.left - 1) c.loop-left.left c.args.path.now c.index-path-left.result c.loop-left.given.items
    c.loop-left.values.items (omega (arith, some)) (omega (arith, some, bounded)) c.index-path-left.is c.requires.hit c.loop-left.invariant.so_far

pub returns-in-Err-clause-wide : goal.returns-in-Err-clause-wide
returns-in-Err-clause-wide c =
    let some = c.loop-left-test.true in
    let bounded = c.loop-left.invariant.within in
    let n = c.args.count in
    let s = c.index-path-left.result in
    wide_exit ((is_one_of c.loop-left.given.items s.symbol ≡ false) × IsWideAt n (step_of s) c.loop-left.values.items)
    (IsWideWitness n (map step_of c.args.path.now))
    (wide_here n (c.loop-left.left - 1) c.loop-left.left c.args.path.now s c.loop-left.given.items
    c.loop-left.values.items (omega (arith, some)) (omega (arith, some, bounded)) c.index-path-left.is c.requires.hit c.loop-left.invariant.so_far)
    c.in-Err.limit c.in-Err.ensures.wide

pub returns-clause-wide : goal.returns-clause-wide
returns-clause-wide c =
    never_wide c.args.count (map step_of c.args.path.now) c.loop-left.given.items c.loop-left.values.items
    (witness_found c.args.count c.loop-left.left c.args.path.now c.loop-left.given.items c.loop-left.values.items c.loop-left-test.false
    c.loop-left.invariant.so_far)
