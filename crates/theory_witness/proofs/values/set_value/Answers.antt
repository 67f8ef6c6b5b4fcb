use Rattle.std.proofs.Common.{◌∙◌}
use Rattle.theory_witness.proofs.ValueLemmas.{set_is}
use Rattle.theory_witness.proofs.values.set_value.Goals as goal

pub returns : goal.returns
returns c =
    let filled = c.in_ok-fill_up.ensures in
    set_is c.args.x c.args.value c.fill_up.new.values.items filled.place ∙ filled.same c.args.value
