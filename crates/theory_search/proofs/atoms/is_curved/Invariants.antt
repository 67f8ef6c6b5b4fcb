use Rattle.std.proofs.Common.{◌≡◌, drop}
use Rattle.std.specs.Prelude.{nat_lt}
use Rattle.std.specs.List.{list_any}
use Rattle.theory_polynomial.specs.Polynomial.{degree_in}
use Rattle.theory_search.specs.Atoms.{rows_of}
use Rattle.theory_search.proofs.atoms.is_curved.Given as goal

abbrev pub invariant-loop-atom : goal.invariant-loop-atom
invariant-loop-atom l = list_any (λ a. nat_lt 1 (degree_in l.x a.0)) (rows_of l.atoms)
    ≡ list_any (λ a. nat_lt 1 (degree_in l.x a.0)) (rows_of (drop l.atom-index l.atoms))
