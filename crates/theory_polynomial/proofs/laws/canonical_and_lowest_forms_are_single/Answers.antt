use Rattle.theory_polynomial.proofs.SingleForms.{canonical_single, lowest_single}
use Rattle.theory_polynomial.proofs.laws.canonical_and_lowest_forms_are_single.Goals as goal

pub returns-clause-canonical : goal.returns-clause-canonical
returns-clause-canonical c ts r s a b = canonical_single ts a b r s

pub returns-clause-lowest : goal.returns-clause-lowest
returns-clause-lowest c = lowest_single
