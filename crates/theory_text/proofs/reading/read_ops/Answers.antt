use Rattle.theory_syntax.specs.Plain.{ops_of}
use Rattle.theory_grammar.specs.Spelled.{IsOp}
use Rattle.theory_grammar.specs.Texts.{without_number, SpellsOps}
use Rattle.theory_text.proofs.IdentifierLemmas.{edit_identifiers}
use Rattle.theory_text.proofs.TextLemmas.{one_more_read, all_read, line_fails, no_text, passed_error}
use Rattle.theory_text.proofs.reading.read_ops.Goals as goal

pub returns-in_err-check_text-clause-exact : goal.returns-in_err-check_text-clause-exact
returns-in_err-check_text-clause-exact c =
    let fails = no_text IsOp _ _ c.in_err-check_text.ensures in
    passed_error IsOp SpellsOps (λ read. ops_of read.items) _ _ _ fails c.from_residual.ensures.1

pub returns-in_err-add_op-clause-exact : goal.returns-in_err-add_op-clause-exact
returns-in_err-add_op-clause-exact c =
    let text = c.in_ok-check_text.ensures in
    let fails = line_fails IsOp without_number _ _ _ _ _ _ _ text c.loop-rest.invariant c.split_line.ensures c.in_err-add_op.ensures in
    passed_error IsOp SpellsOps (λ read. ops_of read.items) _ _ _ fails c.from_residual-in_err-add_op.ensures.1

pub loop-rest-preserved : goal.loop-rest-preserved
loop-rest-preserved c = one_more_read IsOp without_number _ _ _ _ _ _ _ c.loop-rest.invariant c.split_line.ensures c.in_ok-add_op.ensures

pub returns-clause-exact : goal.returns-clause-exact
returns-clause-exact c = all_read IsOp without_number _ _ _ _ c.in_ok-check_text.ensures c.loop-rest-test.ensures c.loop-rest.invariant

pub returns-clause-identifiers : goal.returns-clause-identifiers
returns-clause-identifiers c =
    edit_identifiers c.args.bytes.now _ (all_read IsOp without_number _ _ _ _ c.in_ok-check_text.ensures c.loop-rest-test.ensures c.loop-rest.invariant)
