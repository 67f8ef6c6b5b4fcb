-- The versions of a desk, and how the index and the counts that are held with them stand to them.
use Rattle.std.specs.Prelude.{◌≡◌, ◌≢◌, ℕ, zero, suc, ◌&&◌, ◌+◌, ◌≤◌, ◌<◌, List, [], ◌∷◌, length, slice_get, Option, None, Some, Result, Ok, Err, if◌then◌else◌, vec_len, vec_capacity}
use Rattle.std.specs.Borrow.{Bor}
use Rattle.std.specs.Map.{lookup, keys_of}
use Rattle.std.specs.Str.{bytes_eq}
use Rattle.theory_meaning.specs.Point.{Name}
use Rattle.theory_session.specs.Accepted.{AreAccepted}
use Rattle.theory_session.specs.Lookup as plain_lookup
use Rattle.theory_session.specs.Lookup.{last_version, models_in, Found}
use Rattle.theory_session.specs.Row as plain
use Rattle.theory_session.specs.Row.{IsRequestId}
use Rattle.theory_session.specs.Sizes.{size_of, size_in, most_versions, most_bytes}
use Rattle.theory_edge.specs.Rows.{IsRowFit}
use Rattle.theory_versions.specs.declared.book.Book as source
use Rattle.theory_versions.specs.declared.book.Missing.{Missing}
use Rattle.theory_versions.specs.declared.book.Missing.TheVariants.{Model, Version}
use Rattle.theory_versions.specs.declared.entry.Entry.{Entry}
use Rattle.theory_versions.specs.declared.book.Room.{Room}
use Rattle.theory_versions.specs.Entries.{entry_of, entries_of}
use Rattle.theory_versions.specs.Index.{Places, places_of, Requests, requests_of, request_key, HasRoom, IsSeatIn}
use Rattle.indexmap.specs.IndexMap.{spare}

-- the places of the versions of a model, where the first version has this place
abbrev pub places_from : ℕ → Name → List plain.Entry → List ℕ
places_from k model [] = []
places_from k model (e ∷ es) =
    if bytes_eq model e.row.model then k ∷ places_from (suc k) model es else places_from (suc k) model es

-- the place of the version that a request with this id made, where the first version has this place
abbrev pub place_by : ℕ → Name → Name → List plain.Entry → Option ℕ
place_by k model id [] = None
place_by k model id (e ∷ es) =
    if bytes_eq model e.row.model && bytes_eq e.row.id id then Some k else place_by (suc k) model id es

-- places, where there is one
abbrev pub where_any : List ℕ → Option (List ℕ)
where_any [] = None
where_any (k ∷ ks) = Some (k ∷ ks)

-- one more in front, where there is one
abbrev pub onto : Option plain.Entry → List plain.Entry → List plain.Entry
onto None es = es
onto (Some e) es = e ∷ es

-- the versions at these places
abbrev pub entries_at : List plain.Entry → List ℕ → List plain.Entry
entries_at es [] = []
entries_at es (k ∷ ks) = onto (slice_get es k) (entries_at es ks)

-- the version at a place
abbrev pub at_place : List plain.Entry → Option ℕ → Option plain.Entry
at_place es None = None
at_place es (Some k) = slice_get es k

-- a model with its last version, where there is one
abbrev pub listed_one : List plain.Entry → Option Name → List (Name × ℕ)
listed_one es None = []
listed_one es (Some model) = (model, last_version model es) ∷ []

-- the index has the places of each model, and the models in the order of their creation
pub record IsIndex (index : Places) (es : List plain.Entry) : Type 0 where
  pub places : (model : Name) → lookup (bytes_eq model) index ≡ where_any (places_from 0 model es)
  pub models : keys_of index ≡ models_in es

-- the requests have the places of the versions that they made
abbrev pub AreRequests : Requests → List plain.Entry → Type 0
AreRequests requests es =
    (model id : Name) → IsRequestId id → lookup (bytes_eq (request_key model id)) requests ≡ place_by 0 model id es

-- each model's name is one that every keeper takes
abbrev pub NamesFit : List plain.Entry → Type 0
NamesFit es = (model : Name) → last_version model es ≢ 0 → length model ≤ 32

-- no model has too many versions
abbrev pub AreFew : List plain.Entry → Type 0
AreFew es = (model : Name) → last_version model es ≤ most_versions

-- how an index, the requests and a count of bytes stand to accepted versions
pub record IsBook (es : List plain.Entry) (held : Places) (asked : Requests) (size : ℕ) : Type 0 where
  pub accepted : AreAccepted es
  pub index : IsIndex held es
  pub requests : AreRequests asked es
  pub names : NamesFit es
  pub few : AreFew es
  pub counted : size ≡ size_in es
  pub within : length es ≤ size
  pub most : size ≤ most_bytes

-- the versions
abbrev pub entries_in : source.Book → List plain.Entry
entries_in b = entries_of b.entries.items

-- they are accepted, and what is held with them stands to them so
abbrev pub IsBookOf : source.Book → Type 0
IsBookOf b = IsBook (entries_in b) (places_of b.index.entries) (requests_of b.requests.entries) b.size

-- room is taken for the next version of this model, by a request with this id
pub record HasRoomFor (b : source.Book) (model id : Name) (r : Room) : Type 0 where
  pub entry : vec_len b.entries < vec_capacity b.entries
  pub place : HasRoom b.index r.seat
  pub seat : IsSeatIn (places_of b.index.entries) model (length b.entries.items) r.seat
  pub request : 0 < spare b.requests
  pub key : r.key.items ≡ request_key model id

-- a version that may be added counts so many bytes with the others, and its row fits every keeper
pub record IsAddition (es : List plain.Entry) (e : Entry) (size : ℕ) : Type 0 where
  pub counted : size ≡ size_in es + size_of (entry_of e)
  pub more : size_in es < size
  pub most : size ≤ most_bytes
  pub fit : IsRowFit e.row

-- the version that is found, or what is missing
abbrev pub IsFound : Found → Result (Bor Entry) Missing → Type 0
IsFound f (Ok e) = f ≡ plain_lookup.found (entry_of e.now)
IsFound f (Err Model) = f ≡ plain_lookup.unknown_model
IsFound f (Err (Version last)) = f ≡ plain_lookup.unknown_version last
