-- The first entry of a name among the entries of the slow program's points.
use Rattle.std.proofs.Common.{◌≡◌, ℕ, ◌+◌, ◌<◌, Bool, true, cond, List, ◌∷◌, length, get_or, drop, sym, ap, ◌∙◌}
use Rattle.std.specs.Str.{bytes_eq}
use Rattle.std.proofs.lemmas.List.{at_drop_more}
use Rattle.theory_meaning.specs.Point.{Name, value_at}
use Rattle.theory_meaning.specs.Slow.{number_of, point_of}
use Rattle.theory_meaning.specs.declared.slow.values.Entry.{Entry}

-- an entry of that name gives the value of what is left of the point from there on
pub value_at-found : (point : List Entry) (i : ℕ) (entry : Entry) (name : Name) →
    i < length point → entry ≡ get_or point i entry → bytes_eq entry.name.items name ≡ true →
    value_at (point_of (drop i point)) name ≡ number_of entry.value
value_at-found point i entry name within item named =
    at_drop_more (λ (es : List Entry). value_at (point_of es) name) point i entry within
    ∙ ap (λ (e : Entry). value_at (point_of (e ∷ drop (i + 1) point)) name) (sym item)
    ∙ ap (λ (t : Bool). cond t (number_of entry.value) (value_at (point_of (drop (i + 1) point)) name)) named
