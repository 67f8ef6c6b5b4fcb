use Rattle.theory_line.proofs.FitLemmas.{fit_rest}
use Rattle.theory_line.proofs.literals.raised.Goals as goal

pub returns-in_ok-power-in-Some-Number-default-clause-fit :
    goal.returns-in_ok-power-in-Some-Number-default-clause-fit
returns-in_ok-power-in-Some-Number-default-clause-fit c =
    let found = c.in-Some-Number-default in
    fit_rest found.field-0-0 found.rest.now c.args.tokens.now found.ensures c.requires.fit
