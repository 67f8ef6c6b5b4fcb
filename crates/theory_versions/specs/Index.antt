-- The places of the versions of each model among all versions, as an index holds them.
use Rattle.std.specs.Prelude.{◌≡◌, ℕ, suc, ◌<◌, List, [], ◌∷◌, ◌++◌, map, slice_get, Option, None, Some, option_map, if◌then◌else◌, Vec, vec_len, vec_capacity}
use Rattle.std.specs.Global.{Global}
use Rattle.std.specs.Str.{bytes_eq}
use Rattle.indexmap.specs.IndexMap.{IndexMap, spare}
use Rattle.theory_meaning.specs.Point.{Name}
use Rattle.theory_versions.specs.declared.rooms.Seat.{Seat}
use Rattle.theory_versions.specs.declared.rooms.Seat.TheVariants.{New, Behind}

-- names of models, each with places
abbrev pub Places : Type 0
Places = List (Name × List ℕ)

-- the same as the map of the code holds them
abbrev pub HeldPlaces : Type 0
HeldPlaces = List (Vec ℕ Global × Vec ℕ Global)

-- what they stand for
abbrev pub places_of : HeldPlaces → Places
places_of = map (λ p. (p.0.items, p.1.items))

-- a request by its model and id as one key; the byte between them stands in no id
abbrev pub request_key : Name → Name → List ℕ
request_key model id = id ++ 0 ∷ model

-- the places of the versions that requests made, by their keys
abbrev pub Requests : Type 0
Requests = List (List ℕ × ℕ)

-- the same as the map of the code holds them
abbrev pub HeldRequests : Type 0
HeldRequests = List (Vec ℕ Global × ℕ)

-- what they stand for
abbrev pub requests_of : HeldRequests → Requests
requests_of = map (λ p. (p.0.items, p.1))

-- the number of a model, from 0
abbrev pub number_of : Name → Places → Option ℕ
number_of model [] = None
number_of model (p ∷ ps) = if bytes_eq model p.0 then Some 0 else option_map suc (number_of model ps)

-- with one place more, behind those of the model, which goes last where it isn't there
abbrev pub with_place : Name → ℕ → Places → Places
with_place model place [] = (model, place ∷ []) ∷ []
with_place model place (p ∷ ps) = if bytes_eq model p.0 then (p.0, p.1 ++ place ∷ []) ∷ ps else p ∷ with_place model place ps

-- the model of this number has room for one place more
abbrev pub IsRoomAt : ℕ → HeldPlaces → Type 0
IsRoomAt at held = (p : Vec ℕ Global × Vec ℕ Global) × (slice_get held at ≡ Some p) × (vec_len p.1 < vec_capacity p.1)

-- the map has room for what is put there
abbrev pub HasRoom : {S : Type 0} → IndexMap (Vec ℕ Global) (Vec ℕ Global) S → Seat → Type 0
HasRoom index (New key places) = 0 < spare index
HasRoom index (Behind at) = IsRoomAt at index.entries

-- a place of this model is put there
abbrev pub IsSeatIn : Places → Name → ℕ → Seat → Type 0
IsSeatIn ps model place (New key places) = (key.items ≡ model) × (places.items ≡ place ∷ []) × (number_of model ps ≡ None)
IsSeatIn ps model place (Behind at) = number_of model ps ≡ Some at
