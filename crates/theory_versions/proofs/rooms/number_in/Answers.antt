use Rattle.std.proofs.Common.{rules, ◌≡◌, ◌<◌, ◌+◌, ◌≤◌, ℕ, List, [], ◌∷◌, ◌++◌, Option, None, Some, option_map, slice_get, position, length, vec_len, vec_capacity, refl, sym, ap, subst, ◌∙◌, arith}
use Rattle.std.specs.Global.{Global}
use Rattle.std.specs.Map.{lookup, keys_of}
use Rattle.std.specs.Prelude.{Vec}
use Rattle.std.specs.Str.{bytes_eq}
use Rattle.theory_versions.specs.Index.{places_of, number_of, with_place}
use Rattle.theory_versions.proofs.IndexLemmas.{number-position}
use Rattle.theory_versions.proofs.rooms.number_in.Goals as goal

pub returns : goal.returns
returns c =
    c.get_index_of.ensures.index
    ∙ ap (λ (m : List ℕ). position (λ (k : Vec ℕ Global). bytes_eq m k.items) (keys_of c.args.index.now.entries)) c.as_slice.ensures
    ∙ number-position c.args.model.now c.args.index.now.entries
