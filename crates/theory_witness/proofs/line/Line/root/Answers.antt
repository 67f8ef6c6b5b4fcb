use Rattle.std.proofs.Common.{arith}
use Rattle.std.proofs.lemmas.Int.{ints}
use Rattle.theory_witness.proofs.LineLemmas.{root_exists, root_zero, only_root}
use Rattle.theory_witness.proofs.line.Line.root.Goals as goal

pub unreachable-requires : goal.unreachable-requires
unreachable-requires c =
    let slope = c.requires.kept.slope in
    let base = c.requires.kept.base in
    root_exists c.args.self.now _ _ c.requires.kept c.requires.sloped c.in-None.ensures.value (omega (arith, ints, base)) (omega (arith, ints, slope))

pub returns-clause-zero : goal.returns-clause-zero
returns-clause-zero c =
    let slope = c.requires.kept.slope in
    let base = c.requires.kept.base in
    root_zero c.args.self.now _ _ c.in-Some.root c.in-Some.ensures.value (omega (arith, ints, base)) (omega (arith, ints, slope))

pub returns-clause-only : goal.returns-clause-only
returns-clause-only c q h = only_root c.args.self.now c.in-Some.root q c.requires.sloped (returns-clause-zero c) h
