use Rattle.theory_cli.proofs.RefusedLemmas.{fault_told, on_success}
use Rattle.theory_cli.proofs.refused.add_ask_fault.Goals as goal

pub returns : goal.returns
returns c =
    on_success c.add_number.result
    (λ told. fault_told c.args.fault c.args.text.now c.extend.new.self c.add_number.new.text c.in_ok-extend.ensures.ok told) c.add_number.ensures
