use Rattle.std.proofs.Common.{arith}
use Rattle.theory_signs.specs.Plain.{formula_of}
use Rattle.theory_search.proofs.CandidateLemmas.{few_atoms, listed_more, listed_written}
use Rattle.theory_search.proofs.candidacy.listed.Goals as goal

pub loop-x-preserved : goal.loop-x-preserved
loop-x-preserved c =
    let F = formula_of c.args.formula.now in
    listed_more c.args.keep.now F c.loop-x.x c.loop-x.all.items c.add.new.all.items c.in_ok-candidate.field-0 c.loop-x-test.true
    (few_atoms F c.args.atoms.now c.requires.few c.requires.own) c.in_ok-candidate.ensures c.in_ok-add.ensures c.loop-x.invariant

pub returns-clause-written : goal.returns-clause-written
returns-clause-written c = listed_written c.args.keep.now (formula_of c.args.formula.now) c.loop-x.x c.loop-x.all.items (omega arith) c.loop-x.invariant
