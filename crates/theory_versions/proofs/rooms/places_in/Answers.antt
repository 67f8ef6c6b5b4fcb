use Rattle.std.proofs.Common.{rules, ◌≡◌, ◌<◌, ◌+◌, ◌≤◌, ℕ, List, [], ◌∷◌, ◌++◌, Option, None, Some, option_map, slice_get, position, length, vec_len, vec_capacity, refl, sym, ap, subst, ◌∙◌, arith}
use Rattle.std.specs.Global.{Global}
use Rattle.std.specs.Map.{lookup, keys_of}
use Rattle.std.specs.Prelude.{Vec}
use Rattle.std.specs.Str.{bytes_eq}
use Rattle.theory_versions.specs.Index.{places_of, number_of, with_place}
use Rattle.theory_versions.proofs.IndexLemmas.{lookup-places_of}
use Rattle.theory_versions.proofs.rooms.places_in.Goals as goal

pub returns-in-Some : goal.returns-in-Some
returns-in-Some c =
    ap (λ (ks : List ℕ). Some ks) c.as_slice-in-Some.ensures.value
    ∙ ap (option_map (λ (v : Vec ℕ Global). v.items)) c.in-Some.ensures.value
    ∙ ap (λ (m : List ℕ). option_map (λ (v : Vec ℕ Global). v.items) (lookup (λ (k : Vec ℕ Global). bytes_eq m k.items) c.args.index.now.entries)) c.as_slice.ensures
    ∙ lookup-places_of c.args.model.now c.args.index.now.entries

pub returns-in-None : goal.returns-in-None
returns-in-None c =
    ap (option_map (λ (v : Vec ℕ Global). v.items)) c.in-None.ensures.value
    ∙ ap (λ (m : List ℕ). option_map (λ (v : Vec ℕ Global). v.items) (lookup (λ (k : Vec ℕ Global). bytes_eq m k.items) c.args.index.now.entries)) c.as_slice.ensures
    ∙ lookup-places_of c.args.model.now c.args.index.now.entries
