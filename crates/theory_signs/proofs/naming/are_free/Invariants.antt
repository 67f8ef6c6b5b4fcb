use Rattle.std.proofs.Common.{◌≡◌, ℕ, ◌≤◌, drop}
use Rattle.theory_polynomial.specs.Polynomial.{degree_in}
use Rattle.theory_signs.proofs.naming.are_free.Given as goal

abbrev pub invariant-loop-t : goal.invariant-loop-t
invariant-loop-t l = (x : ℕ) → l.from ≤ x → degree_in x (drop l.t-index l.terms) ≡ degree_in x l.terms
