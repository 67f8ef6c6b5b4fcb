-- The places of the versions that requests made.
use Rattle.std.proofs.Common.{◌≡◌, ◌⊎◌, ℕ, zero, suc, ◌+◌, ◌&&◌, Bool, true, false, cond, nat_le, List, [], ◌∷◌, ◌++◌, length, slice_get, Option, None, Some, refl, sym, ap, subst, ◌∙◌, arith, length-append, append_assoc}
use Rattle.std.specs.Global.{Global}
use Rattle.std.specs.List.{list_all}
use Rattle.std.specs.Map.{lookup}
use Rattle.std.specs.Prelude.{Vec}
use Rattle.std.specs.Str.{bytes_eq}
use Rattle.std.proofs.lemmas.Bool.{and_parts, and_from}
use Rattle.std.proofs.lemmas.Slice.Eq.{bytes_eq-Decides}
use Rattle.indexmap.specs.IndexMap.{insert_entry}
use Rattle.theory_meaning.specs.Point.{Name}
use Rattle.theory_session.specs.Editing.{with_id}
use Rattle.theory_session.specs.Lookup.{versions_of}
use Rattle.theory_session.specs.Row.{Entry, IsRequestId, is_id_byte}
use Rattle.theory_versions.specs.Book.{place_by, at_place, AreRequests}
use Rattle.theory_versions.specs.Index.{Requests, HeldRequests, requests_of, request_key}
use Rattle.theory_versions.proofs.PlaceLemmas.{slice_behind}

-- what is looked up in the map
pub lookup-requests_of : (key : List ℕ) (held : HeldRequests) → lookup (λ (k : Vec ℕ Global). bytes_eq key k.items) held ≡ lookup (bytes_eq key) (requests_of held)
lookup-requests_of key [] = refl
lookup-requests_of key (p ∷ held) = ap (λ (o : Option ℕ). cond (bytes_eq key p.0.items) (Some p.1) o) (lookup-requests_of key held)

-- a new request goes last
pub new_request : (held : HeldRequests) (key : Vec ℕ Global) (place : ℕ) → lookup (bytes_eq key.items) (requests_of held) ≡ None
    → requests_of (insert_entry (λ (a b : Vec ℕ Global). bytes_eq a.items b.items) held key place) ≡ requests_of held ++ (key.items, place) ∷ []
new_request [] key place none = refl
new_request (q ∷ held) key place none = by (bytes_eq key.items q.0.items) none (new_request held key place)
  where
    by : (b : Bool) → cond b (Some q.1) (lookup (bytes_eq key.items) (requests_of held)) ≡ None
        → (lookup (bytes_eq key.items) (requests_of held) ≡ None
        → requests_of (insert_entry (λ (a b : Vec ℕ Global). bytes_eq a.items b.items) held key place) ≡ requests_of held ++ (key.items, place) ∷ [])
        → requests_of (cond b ((q.0, place) ∷ held) (q ∷ insert_entry (λ (a b : Vec ℕ Global). bytes_eq a.items b.items) held key place))
        ≡ (q.0.items, q.1) ∷ (requests_of held ++ (key.items, place) ∷ [])
    by true h rest = absurd cc
    by false h rest = ap (λ (ps : Requests). (q.0.items, q.1) ∷ ps) (rest h)

-- the version at the place of a request is the one that it made
place_behind : (front es : List Entry) (m id : Name) → at_place (front ++ es) (place_by (length front) m id es) ≡ with_id id (versions_of m es)
place_behind front [] m id = refl
place_behind front (e ∷ es) m id = by (bytes_eq m e.row.model) (rest (place_behind (front ++ e ∷ []) es m id))
  where
    rest : at_place ((front ++ e ∷ []) ++ es) (place_by (length (front ++ e ∷ [])) m id es) ≡ with_id id (versions_of m es)
        → at_place (front ++ e ∷ es) (place_by (suc (length front)) m id es) ≡ with_id id (versions_of m es)
    rest h =
        let count : length (front ++ e ∷ []) ≡ suc (length front) = length-append front (e ∷ []) ∙ omega arith in
        ap (λ (k : ℕ). at_place (front ++ e ∷ es) (place_by k m id es)) (sym count)
        ∙ ap (λ (xs : List Entry). at_place xs (place_by (length (front ++ e ∷ [])) m id es)) (sym (append_assoc front (e ∷ []) es)) ∙ h

    by_id : (c : Bool) → at_place (front ++ e ∷ es) (place_by (suc (length front)) m id es) ≡ with_id id (versions_of m es)
        → at_place (front ++ e ∷ es) (cond c (Some (length front)) (place_by (suc (length front)) m id es)) ≡ cond c (Some e) (with_id id (versions_of m es))
    by_id true h = slice_behind front es e
    by_id false h = h

    by : (b : Bool) → at_place (front ++ e ∷ es) (place_by (suc (length front)) m id es) ≡ with_id id (versions_of m es)
        → at_place (front ++ e ∷ es) (cond (b && bytes_eq e.row.id id) (Some (length front)) (place_by (suc (length front)) m id es))
        ≡ with_id id (cond b (e ∷ versions_of m es) (versions_of m es))
    by true h = by_id (bytes_eq e.row.id id) h
    by false h = h

pub request_place : (es : List Entry) (m id : Name) → at_place es (place_by 0 m id es) ≡ with_id id (versions_of m es)
request_place es m id = place_behind [] es m id

-- a request whose version isn't there has no place
no_place_from : (k : ℕ) (es : List Entry) (m id : Name) → with_id id (versions_of m es) ≡ None → place_by k m id es ≡ None
no_place_from k [] m id none = refl
no_place_from k (e ∷ es) m id none = by (bytes_eq m e.row.model) none (no_place_from (suc k) es m id)
  where
    by_id : (c : Bool) → cond c (Some e) (with_id id (versions_of m es)) ≡ None → (with_id id (versions_of m es) ≡ None → place_by (suc k) m id es ≡ None)
        → cond c (Some k) (place_by (suc k) m id es) ≡ None
    by_id true h rest = absurd cc
    by_id false h rest = rest h

    by : (b : Bool) → with_id id (cond b (e ∷ versions_of m es) (versions_of m es)) ≡ None
        → (with_id id (versions_of m es) ≡ None → place_by (suc k) m id es ≡ None)
        → cond (b && bytes_eq e.row.id id) (Some k) (place_by (suc k) m id es) ≡ None
    by true h rest = by_id (bytes_eq e.row.id id) h rest
    by false h rest = rest h

-- the first of two, where there is one
abbrev or_place : Option ℕ → Option ℕ → Option ℕ
or_place (Some k) o = Some k
or_place None o = o

-- the place of a request where there is one version more
place_more : (k : ℕ) (es : List Entry) (e : Entry) (m id : Name)
    → place_by k m id (es ++ e ∷ []) ≡ or_place (place_by k m id es) (cond (bytes_eq m e.row.model && bytes_eq e.row.id id) (Some (k + length es)) None)
place_more k [] e m id =
    let plus : k ≡ k + 0 = omega arith in ap (λ (n : ℕ). cond (bytes_eq m e.row.model && bytes_eq e.row.id id) (Some n) None) plus
place_more k (x ∷ es) e m id =
    by (bytes_eq m x.row.model && bytes_eq x.row.id id)
    (place_more (suc k) es e m id
    ∙ ap (λ (n : ℕ). or_place (place_by (suc k) m id es) (cond (bytes_eq m e.row.model && bytes_eq e.row.id id) (Some n) None)) (omega arith))
  where
    by : (b : Bool)
        → place_by (suc k) m id (es ++ e ∷ [])
        ≡ or_place (place_by (suc k) m id es) (cond (bytes_eq m e.row.model && bytes_eq e.row.id id) (Some (k + suc (length es))) None)
        → cond b (Some k) (place_by (suc k) m id (es ++ e ∷ []))
        ≡ or_place (cond b (Some k) (place_by (suc k) m id es)) (cond (bytes_eq m e.row.model && bytes_eq e.row.id id) (Some (k + suc (length es))) None)
    by true h = refl
    by false h = h

-- what is looked up where there is one request more
lookup_more : (ps : Requests) (q key : List ℕ) (place : ℕ)
    → lookup (bytes_eq q) (ps ++ (key, place) ∷ []) ≡ or_place (lookup (bytes_eq q) ps) (cond (bytes_eq q key) (Some place) None)
lookup_more [] q key place = refl
lookup_more (p ∷ ps) q key place = by (bytes_eq q p.0) (lookup_more ps q key place)
  where
    by : (b : Bool) → lookup (bytes_eq q) (ps ++ (key, place) ∷ []) ≡ or_place (lookup (bytes_eq q) ps) (cond (bytes_eq q key) (Some place) None)
        → cond b (Some p.1) (lookup (bytes_eq q) (ps ++ (key, place) ∷ []))
        ≡ or_place (cond b (Some p.1) (lookup (bytes_eq q) ps)) (cond (bytes_eq q key) (Some place) None)
    by true h = refl
    by false h = h

-- keys of requests are the same exactly where models and ids are
same_parts : (m id m' id' : Name) → list_all is_id_byte id ≡ true → list_all is_id_byte id' ≡ true → request_key m id ≡ request_key m' id' → (m ≡ m') × (id' ≡ id)
same_parts m [] m' [] is is' h = let same : m ≡ m' = cc in (same, refl)
same_parts m [] m' (y ∷ id') is is' h =
    let zero_is : 0 ≡ y = cc in
    let byte : is_id_byte y ≡ true = (and_parts (is_id_byte y) (list_all is_id_byte id') is').0 in
    let not_byte : is_id_byte 0 ≡ true = subst (λ (n : ℕ). is_id_byte n ≡ true) (sym zero_is) byte in
    absurd cc
same_parts m (x ∷ id) m' [] is is' h =
    let zero_is : x ≡ 0 = cc in
    let byte : is_id_byte x ≡ true = (and_parts (is_id_byte x) (list_all is_id_byte id) is).0 in
    let not_byte : is_id_byte 0 ≡ true = subst (λ (n : ℕ). is_id_byte n ≡ true) zero_is byte in
    absurd cc
same_parts m (x ∷ id) m' (y ∷ id') is is' h =
    let first : x ≡ y = cc in
    let behind : request_key m id ≡ request_key m' id' = cc in
    let rest = same_parts m id m' id' (and_parts (is_id_byte x) (list_all is_id_byte id) is).1 (and_parts (is_id_byte y) (list_all is_id_byte id') is').1 behind in
    (rest.0, ap (λ (n : ℕ). n ∷ id') (sym first) ∙ ap (λ (ns : List ℕ). x ∷ ns) rest.1)

bool_same : (s t : Bool) → (s ≡ true → t ≡ true) → (t ≡ true → s ≡ true) → s ≡ t
bool_same true t there back = sym (there refl)
bool_same false true there back = back refl
bool_same false false there back = refl

id_bytes : (id : Name) → IsRequestId id → list_all is_id_byte id ≡ true
id_bytes id is = (and_parts (nat_le 1 (length id) && nat_le (length id) 64) (list_all is_id_byte id) is).1

key_bytes : (m id m' id' : Name) → IsRequestId id → IsRequestId id' → bytes_eq (request_key m id) (request_key m' id') ≡ (bytes_eq m m' && bytes_eq id' id)
key_bytes m id m' id' is is' = bool_same _ _ there back
  where
    there : bytes_eq (request_key m id) (request_key m' id') ≡ true → (bytes_eq m m' && bytes_eq id' id) ≡ true
    there h =
        let same = same_parts m id m' id' (id_bytes id is) (id_bytes id' is') ((bytes_eq-Decides (request_key m id) (request_key m' id')).0 h) in
        and_from _ _ ((bytes_eq-Decides m m').1 same.0) ((bytes_eq-Decides id' id).1 same.1)

    back : (bytes_eq m m' && bytes_eq id' id) ≡ true → bytes_eq (request_key m id) (request_key m' id') ≡ true
    back h =
        let parts = and_parts (bytes_eq m m') (bytes_eq id' id) h in
        (bytes_eq-Decides (request_key m id) (request_key m' id')).1
        (ap (λ (n : Name). n ++ 0 ∷ m) (sym ((bytes_eq-Decides id' id).0 parts.1)) ∙ ap (λ (n : Name). id' ++ 0 ∷ n) ((bytes_eq-Decides m m').0 parts.0))

-- a request whose version isn't there isn't held
pub not_held : (asked : Requests) (es : List Entry) (m id : Name) → AreRequests asked es → IsRequestId id → with_id id (versions_of m es) ≡ None
    → lookup (bytes_eq (request_key m id)) asked ≡ None
not_held asked es m id are is none = are m id is ∙ no_place_from 0 es m id none

-- the requests with that of one version more
pub requests_more : (asked : Requests) (es : List Entry) (e : Entry) → AreRequests asked es → IsRequestId e.row.id
    → AreRequests (asked ++ (request_key e.row.model e.row.id, length es) ∷ []) (es ++ e ∷ [])
requests_more asked es e are new m id is =
    lookup_more asked (request_key m id) (request_key e.row.model e.row.id) (length es)
    ∙ ap (λ (b : Bool). or_place (lookup (bytes_eq (request_key m id)) asked) (cond b (Some (length es)) None)) (key_bytes m id e.row.model e.row.id is new)
    ∙ ap (λ (o : Option ℕ). or_place o (cond (bytes_eq m e.row.model && bytes_eq e.row.id id) (Some (length es)) None)) (are m id is)
    ∙ ap (λ (n : ℕ). or_place (place_by 0 m id es) (cond (bytes_eq m e.row.model && bytes_eq e.row.id id) (Some n) None)) (omega arith)
    ∙ sym (place_more 0 es e m id)
