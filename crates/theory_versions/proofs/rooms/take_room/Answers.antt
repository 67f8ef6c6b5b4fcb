use Rattle.std.proofs.Common.{rules, ◌≡◌, ◌<◌, ◌+◌, ◌≤◌, ℕ, List, [], ◌∷◌, ◌++◌, Option, None, Some, option_map, slice_get, position, length, vec_len, vec_capacity, refl, sym, ap, subst, ◌∙◌, arith}
use Rattle.std.specs.Global.{Global}
use Rattle.std.specs.Map.{lookup, keys_of}
use Rattle.std.specs.Prelude.{Vec}
use Rattle.std.specs.Str.{bytes_eq}
use Rattle.theory_versions.specs.Index.{places_of, number_of, with_place}
use Rattle.theory_versions.proofs.IndexLemmas.{number-lt}
use Rattle.theory_versions.proofs.rooms.take_room.Goals as goal

pub room_at-requires : goal.room_at-requires
room_at-requires c = record { at = number-lt c.args.model.now c.args.index.now.entries c.in-Some.at (sym c.in-Some.ensures) }
