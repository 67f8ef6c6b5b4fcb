use Rattle.std.proofs.Common.{sym, ◌∙◌}
use Rattle.theory_witness.proofs.ValueLemmas.{symbol_in, symbol_past}
use Rattle.theory_witness.proofs.values.value_of.Goals as goal

pub returns-in-Some : goal.returns-in-Some
returns-in-Some c =
    let found = c.in-Some.ensures.lookup in symbol_in c.args.x c.args.values.now c.in-Some.value.now found.3.0 found.1

pub returns-in-None : goal.returns-in-None
returns-in-None c =
    let found = c.in-None.ensures.lookup in c.zero.ensures ∙ sym (symbol_past c.args.x c.args.values.now found.3)
