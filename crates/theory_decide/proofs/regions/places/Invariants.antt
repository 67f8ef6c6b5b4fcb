use Rattle.std.proofs.Common.{◌≡◌, ◌++◌, map, drop}
use Rattle.theory_lowering.specs.Lowered.{place_of}
use Rattle.theory_decide.proofs.regions.places.Given as goal

abbrev pub invariant-loop-name : goal.invariant-loop-name
invariant-loop-name l =
    l.all.items ++ map (λ n. place_of n l.symbols) (drop l.name-index l.on) ≡ map (λ n. place_of n l.symbols) l.on
