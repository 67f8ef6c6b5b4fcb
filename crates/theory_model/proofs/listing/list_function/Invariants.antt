use Rattle.std.proofs.Common.{◌≡◌, ◌++◌, ◌∷◌, map, drop, false}
use Rattle.theory_meaning.specs.Declarations.{listed_by}
use Rattle.theory_meaning.specs.Tree.{function}
use Rattle.theory_model.proofs.listing.list_function.Given as goal

abbrev pub invariant-loop-argument : goal.invariant-loop-argument
invariant-loop-argument l =
    l.names ++ map (λ u. l.name ++ 46 ∷ u) (drop l.argument-index l.arguments) ≡ l.fn.names ++ listed_by false (function l.name l.arguments)
