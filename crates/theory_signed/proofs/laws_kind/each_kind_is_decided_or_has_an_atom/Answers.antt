use Rattle.theory_signed.specs.ByKind.{simplified_for}
use Rattle.theory_signed.proofs.ReducedForms.{kind_reduced, reduced_has}
use Rattle.theory_signed.proofs.laws_kind.each_kind_is_decided_or_has_an_atom.Goals as goal

pub returns-clause-reduced : goal.returns-clause-reduced
returns-clause-reduced c = kind_reduced

pub returns-clause-has_atom : goal.returns-clause-has_atom
returns-clause-has_atom c = λ k F. reduced_has (simplified_for k F) (kind_reduced k F)
