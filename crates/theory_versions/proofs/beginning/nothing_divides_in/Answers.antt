use Rattle.theory_grammar.specs.RoundTrip.{NothingDividesInEdit}
use Rattle.theory_syntax.specs.Plain.{op_of}
use Rattle.theory_versions.proofs.DividingLemmas.{undivided_op, left_up, left_down}
use Rattle.theory_versions.proofs.beginning.nothing_divides_in.Goals as goal

pub loop-op-preserved : goal.loop-op-preserved
loop-op-preserved c =
    let ops = c.args.ops.now in
    record {
      up = left_up NothingDividesInEdit op_of ops c.loop-op.op-index c.op-item.result c.loop-op-test.true c.op-item.is
          (undivided_op (op_of c.op-item.result) c.op_divides.result c.if-op_divides.false c.op_divides.ensures) c.loop-op.invariant.up;
      down = left_down NothingDividesInEdit op_of ops c.loop-op.op-index c.op-item.result c.loop-op-test.true c.op-item.is c.loop-op.invariant.down;
    }
