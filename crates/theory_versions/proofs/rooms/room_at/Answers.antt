use Rattle.std.proofs.Common.{rules, ◌≡◌, ◌<◌, ◌+◌, ◌≤◌, ℕ, List, [], ◌∷◌, ◌++◌, Option, None, Some, option_map, slice_get, position, length, vec_len, vec_capacity, refl, sym, ap, subst, ◌∙◌, arith}
use Rattle.std.specs.Global.{Global}
use Rattle.std.specs.Map.{lookup, keys_of}
use Rattle.std.specs.Prelude.{Vec}
use Rattle.std.specs.Str.{bytes_eq}
use Rattle.theory_versions.specs.Index.{places_of, number_of, with_place}
use Rattle.theory_versions.proofs.IndexLemmas.{same_places, written_value}
use Rattle.theory_versions.proofs.rooms.room_at.Goals as goal

pub returns-then-is_err-clause-same : goal.returns-then-is_err-clause-same
returns-then-is_err-clause-same c =
    same_places c.args.index.now.entries c.args.at _ c.reserve.new.self c.pair_mut-places.ensures.value c.reserve.ensures.items

pub returns-clause-same : goal.returns-clause-same
returns-clause-same c =
    same_places c.args.index.now.entries c.args.at _ c.reserve.new.self c.pair_mut-places.ensures.value c.reserve.ensures.items

pub returns-clause-ok : goal.returns-clause-ok
returns-clause-ok c = (_, written_value c.args.index.now.entries c.args.at _ c.reserve.new.self c.pair_mut-places.ensures.value, search rules)
