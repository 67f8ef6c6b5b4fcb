use Rattle.std.proofs.Common.{◌≡◌, ◌++◌, take, drop, option_map}
use Rattle.theory_meaning.specs.Declarations.{parts_of}
use Rattle.theory_model.proofs.uses.dot_in.Given as goal

abbrev pub invariant-loop-k : goal.invariant-loop-k
invariant-loop-k l = parts_of l.name ≡ option_map (λ p. (take l.k l.name ++ p.0, p.1)) (parts_of (drop l.k l.name))
