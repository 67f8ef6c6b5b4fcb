use Rattle.std.proofs.Common.{◌≡◌, drop}
use Rattle.std.specs.List.{position_from}
use Rattle.std.specs.Str.{bytes_eq}
use Rattle.theory_points.specs.Changes.{place_in}
use Rattle.theory_points.proofs.point.place_of.Given as goal

abbrev pub invariant-loop-k : goal.invariant-loop-k
invariant-loop-k l = position_from (λ entry. bytes_eq entry.0 l.name) l.k (drop l.k l.entries) ≡ place_in l.entries l.name
