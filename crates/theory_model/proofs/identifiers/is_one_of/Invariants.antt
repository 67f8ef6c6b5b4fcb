use Rattle.std.proofs.Common.{◌≡◌, map, drop}
use Rattle.std.specs.List.{list_any}
use Rattle.std.specs.Str.{bytes_eq}
use Rattle.theory_model.proofs.identifiers.is_one_of.Given as goal

abbrev pub invariant-loop-listed : goal.invariant-loop-listed
invariant-loop-listed l =
    list_any (bytes_eq l.fn.word) (map (λ w. w.now) (drop l.listed-index l.words)) ≡ list_any (bytes_eq l.fn.word) (map (λ w. w.now) l.words)
