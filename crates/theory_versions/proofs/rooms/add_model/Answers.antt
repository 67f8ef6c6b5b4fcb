use Rattle.std.proofs.Common.{rules, ◌≡◌, ◌<◌, ◌+◌, ◌≤◌, ℕ, List, [], ◌∷◌, ◌++◌, Option, None, Some, option_map, slice_get, position, length, vec_len, vec_capacity, refl, sym, ap, subst, ◌∙◌, arith}
use Rattle.std.specs.Global.{Global}
use Rattle.std.specs.Map.{lookup, keys_of}
use Rattle.std.specs.Prelude.{Vec}
use Rattle.std.specs.Str.{bytes_eq}
use Rattle.theory_versions.specs.Index.{places_of, number_of, with_place}
use Rattle.theory_versions.proofs.IndexLemmas.{new_places}
use Rattle.theory_versions.proofs.rooms.add_model.Goals as goal

pub returns : goal.returns
returns c = λ place one none.
    ap places_of c.in-Ok.ensures.entries ∙ new_places c.args.index.now.entries c.args.key c.args.places place one none
