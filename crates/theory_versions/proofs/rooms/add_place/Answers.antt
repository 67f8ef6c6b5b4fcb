use Rattle.std.proofs.Common.{rules, ◌≡◌, ◌<◌, ◌+◌, ◌≤◌, ℕ, List, [], ◌∷◌, ◌++◌, Option, None, Some, option_map, is_ok, if◌then◌else◌, slice_get, position, length, vec_len, vec_capacity, refl, sym, ap, subst, ◌∙◌, arith}
use Rattle.std.specs.Global.{Global}
use Rattle.std.specs.Map.{lookup, keys_of}
use Rattle.std.specs.Prelude.{Vec}
use Rattle.std.specs.Str.{bytes_eq}
use Rattle.theory_versions.specs.Index.{places_of, number_of, with_place}
use Rattle.theory_versions.proofs.IndexLemmas.{more_places}
use Rattle.theory_versions.proofs.rooms.add_place.Goals as goal

pub returns : goal.returns
returns c = λ model number.
    more_places c.args.index.now.entries c.args.at c.args.place model _ c.push.new.self c.pair_mut-places.ensures.value number
    (c.push.ensures.items ∙ ap (λ r. if is_ok r then c.pair_mut-places.result.1.now.items ++ c.args.place ∷ [] else c.pair_mut-places.result.1.now.items) c.unwrap.ensures)
