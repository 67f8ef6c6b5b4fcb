-- Places of versions among the versions of all models.
use Rattle.std.proofs.Common.{◌≡◌, ◌≢◌, ℕ, zero, suc, ◌+◌, ◌-◌, ◌≤◌, ◌==◌, Bool, true, false, cond, List, [], ◌∷◌, ◌++◌, length, length-append, map, drop, filter, slice_get, Option, None, Some, option_map, refl, sym, ap, subst, ◌∙◌, arith, append-nil, append_assoc, Fits, w32}
use Rattle.std.specs.Borrow.{Bor}
use Rattle.std.specs.Map.{lookup}
use Rattle.std.specs.Str.{bytes_eq}
use Rattle.std.proofs.lemmas.List.Elements.{filter-append}
use Rattle.std.proofs.lemmas.List.{map-append}
use Rattle.std.proofs.lemmas.Option.{slice_get-map}
use Rattle.theory_meaning.specs.Point.{Name}
use Rattle.theory_session.specs.Editing.{with_id}
use Rattle.theory_session.specs.Lookup.{versions_of, version_at, last_version, models_in, at_number}
use Rattle.theory_session.specs.Row.{Entry}
use Rattle.theory_session.specs.Sizes.{size_of, size_in}
use Rattle.theory_versions.specs.declared.entry.Entry as source
use Rattle.theory_versions.specs.Book.{places_from, where_any, onto, entries_at, at_place, listed_one, IsIndex}
use Rattle.theory_versions.specs.Entries.{entry_of, entries_of}

-- where a model has no place it has no version, and no more
pub none_here : (k : ℕ) (m : Name) (es : List Entry) → where_any (places_from k m es) ≡ None → versions_of m es ≡ []
none_here k m [] h = refl
none_here k m (e ∷ es) h = by (bytes_eq m e.row.model) h (none_here (suc k) m es)
  where
    by : (b : Bool) → where_any (cond b (k ∷ places_from (suc k) m es) (places_from (suc k) m es)) ≡ None
        → (where_any (places_from (suc k) m es) ≡ None → versions_of m es ≡ [])
        → cond b (e ∷ versions_of m es) (versions_of m es) ≡ []
    by true h rest = absurd cc
    by false h rest = rest h

-- and the other way round
pub none_there : (k : ℕ) (m : Name) (es : List Entry) → versions_of m es ≡ [] → places_from k m es ≡ []
none_there k m [] h = refl
none_there k m (e ∷ es) h = by (bytes_eq m e.row.model) h (none_there (suc k) m es)
  where
    by : (b : Bool) → cond b (e ∷ versions_of m es) (versions_of m es) ≡ [] → (versions_of m es ≡ [] → places_from (suc k) m es ≡ [])
        → cond b (k ∷ places_from (suc k) m es) (places_from (suc k) m es) ≡ []
    by true h rest = absurd cc
    by false h rest = rest h

-- a model has as many places as versions
pub length-places_from : (k : ℕ) (m : Name) (es : List Entry) → length (places_from k m es) ≡ length (versions_of m es)
length-places_from k m [] = refl
length-places_from k m (e ∷ es) = by (bytes_eq m e.row.model) (length-places_from (suc k) m es)
  where
    by : (b : Bool) → length (places_from (suc k) m es) ≡ length (versions_of m es)
        → length (cond b (k ∷ places_from (suc k) m es) (places_from (suc k) m es)) ≡ length (cond b (e ∷ versions_of m es) (versions_of m es))
    by true h = ap suc h
    by false h = h

pub slice_behind : (front back : List Entry) (x : Entry) → slice_get (front ++ x ∷ back) (length front) ≡ Some x
slice_behind [] back x = refl
slice_behind (f ∷ front) back x = slice_behind front back x

-- the versions at the places of a model are its versions
entries_behind : (front es : List Entry) (m : Name) → entries_at (front ++ es) (places_from (length front) m es) ≡ versions_of m es
entries_behind front [] m = refl
entries_behind front (e ∷ es) m = by (bytes_eq m e.row.model) (rest (entries_behind (front ++ e ∷ []) es m))
  where
    rest : entries_at ((front ++ e ∷ []) ++ es) (places_from (length (front ++ e ∷ [])) m es) ≡ versions_of m es
        → entries_at (front ++ e ∷ es) (places_from (suc (length front)) m es) ≡ versions_of m es
    rest h =
        let count : length (front ++ e ∷ []) ≡ suc (length front) = length-append front (e ∷ []) ∙ omega arith in
        ap (λ (k : ℕ). entries_at (front ++ e ∷ es) (places_from k m es)) (sym count)
        ∙ ap (λ (xs : List Entry). entries_at xs (places_from (length (front ++ e ∷ [])) m es)) (sym (append_assoc front (e ∷ []) es)) ∙ h

    by : (b : Bool) → entries_at (front ++ e ∷ es) (places_from (suc (length front)) m es) ≡ versions_of m es
        → entries_at (front ++ e ∷ es) (cond b (length front ∷ places_from (suc (length front)) m es) (places_from (suc (length front)) m es))
        ≡ cond b (e ∷ versions_of m es) (versions_of m es)
    by true h = ap (λ (o : Option Entry). onto o (entries_at (front ++ e ∷ es) (places_from (suc (length front)) m es))) (slice_behind front es e) ∙ ap (λ (xs : List Entry). e ∷ xs) h
    by false h = h

pub entries_at-places : (m : Name) (es : List Entry) → entries_at es (places_from 0 m es) ≡ versions_of m es
entries_at-places m es = entries_behind [] es m

-- places that an index has of a model
pub some_places : (index : List (Name × List ℕ)) (es : List Entry) (m : Name) (ks : List ℕ) → IsIndex index es → Some ks ≡ lookup (bytes_eq m) index
    → ks ≡ places_from 0 m es
some_places index es m ks is here = any_is (places_from 0 m es) (here ∙ is.places m)
  where
    any_is : (ps : List ℕ) → Some ks ≡ where_any ps → ks ≡ ps
    any_is [] h = absurd cc
    any_is (p ∷ ps) h = cc

-- it has none of a model without a version
pub no_places : (index : List (Name × List ℕ)) (es : List Entry) (m : Name) → IsIndex index es → None ≡ lookup (bytes_eq m) index → versions_of m es ≡ []
no_places index es m is here = none_here 0 m es (sym (here ∙ is.places m))

-- a version at this place
pub record StandsAt (es : List Entry) (k place : ℕ) (e : Option Entry) : Type 0 where
  pub further : ℕ
  pub place_is : place ≡ k + further
  pub stands : slice_get es further ≡ e

one_further : (es : List Entry) (x : Entry) (k place : ℕ) (e : Option Entry) → StandsAt es (suc k) place e → StandsAt (x ∷ es) k place e
one_further es x k place e s =
    record { further = suc s.further; place_is = s.place_is ∙ omega arith; stands = s.stands }

-- the place of each version
pub version_here : (k : ℕ) (m : Name) (es : List Entry) (i place : ℕ)
    → slice_get (places_from k m es) i ≡ Some place → StandsAt es k place (slice_get (versions_of m es) i)
version_here k m [] i place h = absurd (grind (arith, h))
version_here k m (e ∷ es) i place h = by (bytes_eq m e.row.model) i h (version_here (suc k) m es)
  where
    by : (b : Bool) (i : ℕ) → slice_get (cond b (k ∷ places_from (suc k) m es) (places_from (suc k) m es)) i ≡ Some place
        → ((i place : ℕ) → slice_get (places_from (suc k) m es) i ≡ Some place → StandsAt es (suc k) place (slice_get (versions_of m es) i))
        → StandsAt (e ∷ es) k place (slice_get (cond b (e ∷ versions_of m es) (versions_of m es)) i)
    by true zero h rest = record { further = 0; place_is = grind (arith, h); stands = refl }
    by true (suc i) h rest = one_further es e k place (slice_get (versions_of m es) i) (rest i place h)
    by false i h rest = one_further es e k place (slice_get (versions_of m es) i) (rest i place h)

no_version_here : (k : ℕ) (m : Name) (es : List Entry) (i : ℕ) → slice_get (places_from k m es) i ≡ None → slice_get (versions_of m es) i ≡ None
no_version_here k m [] i h = refl
no_version_here k m (e ∷ es) i h = by (bytes_eq m e.row.model) i h (no_version_here (suc k) m es)
  where
    by : (b : Bool) (i : ℕ) → slice_get (cond b (k ∷ places_from (suc k) m es) (places_from (suc k) m es)) i ≡ None
        → ((i : ℕ) → slice_get (places_from (suc k) m es) i ≡ None → slice_get (versions_of m es) i ≡ None)
        → slice_get (cond b (e ∷ versions_of m es) (versions_of m es)) i ≡ None
    by true zero h rest = absurd cc
    by true (suc i) h rest = rest i h
    by false i h rest = rest i h

-- a version that is lent
pub lent_entry : (r : Option (Bor source.Entry)) → option_map (λ e. entry_of e.now) r ≡ option_map entry_of (option_map (λ e. e.now) r)
lent_entry None = refl
lent_entry (Some e) = refl

-- what stands at the place of a version
pub version_placed : (index : List (Name × List ℕ)) (es : List Entry) (m : Name) (ks : List ℕ) (i : ℕ) → IsIndex index es
    → Some ks ≡ lookup (bytes_eq m) index → at_place es (slice_get ks i) ≡ slice_get (versions_of m es) i
version_placed index es m ks i is here =
    ap (λ (ps : List ℕ). at_place es (slice_get ps i)) (some_places index es m ks is here) ∙ by (slice_get (places_from 0 m es) i) refl
  where
    by : (o : Option ℕ) → slice_get (places_from 0 m es) i ≡ o → at_place es o ≡ slice_get (versions_of m es) i
    by None h = sym (no_version_here 0 m es i h)
    by (Some place) h =
        let stands = version_here 0 m es i place h in
        let same : place ≡ stands.further = stands.place_is ∙ omega arith in
        ap (λ (n : ℕ). slice_get es n) same ∙ stands.stands

-- the item at a place, and those behind it
pub drop_at : {A : Type 0} (xs : List A) (k : ℕ) (x : A) → Some x ≡ slice_get xs k → drop k xs ≡ x ∷ drop (k + 1) xs
drop_at [] k x h = absurd (grind (arith, h))
drop_at (y ∷ xs) zero x h = let same : x ≡ y = grind (arith, h) in ap (λ z. z ∷ xs) (sym same)
drop_at (y ∷ xs) (suc k) x h =
    let same : suc (k + 1) ≡ suc k + 1 = omega arith in drop_at xs k x h ∙ ap (λ (n : ℕ). x ∷ drop n (y ∷ xs)) same

-- behind the last there is none
pub drop_past : {A : Type 0} (xs : List A) (k : ℕ) → None ≡ slice_get xs k → drop k xs ≡ drop (k + 1) xs
drop_past {A = A} [] k h = none k ∙ sym (none (k + 1))
  where
    none : (n : ℕ) → drop {A = A} n [] ≡ []
    none zero = refl
    none (suc n) = refl
drop_past (y ∷ xs) zero h = absurd (grind (arith, h))
drop_past (y ∷ xs) (suc k) h =
    let same : suc (k + 1) ≡ suc k + 1 = omega arith in drop_past xs k h ∙ ap (λ (n : ℕ). drop n (y ∷ xs)) same

-- the version behind so many has the id, or it hasn't
with_id-onto : (id : Name) (e : Entry) (rest : List Entry) (b : Bool) → bytes_eq e.row.id id ≡ b → with_id id (e ∷ rest) ≡ cond b (Some e) (with_id id rest)
with_id-onto id e rest b is = ap (λ (c : Bool). cond c (Some e) (with_id id rest)) is

pub id_behind : (id : Name) (es : List Entry) (ks : List ℕ) (k : ℕ) (e : Entry) (b : Bool) → Some e ≡ at_place es (slice_get ks k) → bytes_eq e.row.id id ≡ b
    → with_id id (entries_at es (drop k ks)) ≡ cond b (Some e) (with_id id (entries_at es (drop (k + 1) ks)))
id_behind id es ks k e b here is = by (slice_get ks k) refl here
  where
    by : (o : Option ℕ) → slice_get ks k ≡ o → Some e ≡ at_place es o
        → with_id id (entries_at es (drop k ks)) ≡ cond b (Some e) (with_id id (entries_at es (drop (k + 1) ks)))
    by None at h = absurd cc
    by (Some p) at h =
        ap (λ (ps : List ℕ). with_id id (entries_at es ps)) (drop_at ks k p (sym at))
        ∙ ap (λ (o : Option Entry). with_id id (onto o (entries_at es (drop (k + 1) ks)))) (sym h)
        ∙ with_id-onto id e (entries_at es (drop (k + 1) ks)) b is

pub no_id_behind : (id : Name) (es : List Entry) (ks : List ℕ) (k : ℕ) → None ≡ at_place es (slice_get ks k)
    → with_id id (entries_at es (drop k ks)) ≡ with_id id (entries_at es (drop (k + 1) ks))
no_id_behind id es ks k none = by (slice_get ks k) refl none
  where
    by : (o : Option ℕ) → slice_get ks k ≡ o → None ≡ at_place es o
        → with_id id (entries_at es (drop k ks)) ≡ with_id id (entries_at es (drop (k + 1) ks))
    by None at h = ap (λ (ps : List ℕ). with_id id (entries_at es ps)) (drop_past ks k (sym at))
    by (Some p) at h =
        ap (λ (ps : List ℕ). with_id id (entries_at es ps)) (drop_at ks k p (sym at))
        ∙ ap (λ (o : Option Entry). with_id id (onto o (entries_at es (drop (k + 1) ks)))) (sym h)

-- the model of this number and those behind it, listed
pub listed_behind : (es : List Entry) (ns : List Name) (k : ℕ)
    → listed_one es (slice_get ns k) ++ map (λ (m : Name). (m, last_version m es)) (drop (k + 1) ns) ≡ map (λ (m : Name). (m, last_version m es)) (drop k ns)
listed_behind es ns k = by (slice_get ns k) refl
  where
    by : (o : Option Name) → slice_get ns k ≡ o
        → listed_one es o ++ map (λ (m : Name). (m, last_version m es)) (drop (k + 1) ns) ≡ map (λ (m : Name). (m, last_version m es)) (drop k ns)
    by None at = sym (ap (map (λ (m : Name). (m, last_version m es))) (drop_past ns k (sym at)))
    by (Some n) at = sym (ap (map (λ (m : Name). (m, last_version m es))) (drop_at ns k n (sym at)))

-- one version more has the next place
pub places_from-more : (k : ℕ) (m : Name) (es : List Entry) (e : Entry)
    → places_from k m (es ++ e ∷ []) ≡ places_from k m es ++ cond (bytes_eq m e.row.model) ((k + length es) ∷ []) []
places_from-more k m [] e =
    let plus : k ≡ k + 0 = omega arith in ap (λ (n : ℕ). cond (bytes_eq m e.row.model) (n ∷ []) []) plus
places_from-more k m (x ∷ es) e =
    by (bytes_eq m x.row.model)
    (places_from-more (suc k) m es e ∙ ap (λ (n : ℕ). places_from (suc k) m es ++ cond (bytes_eq m e.row.model) (n ∷ []) []) (omega arith))
  where
    by : (b : Bool)
        → places_from (suc k) m (es ++ e ∷ []) ≡ places_from (suc k) m es ++ cond (bytes_eq m e.row.model) ((k + suc (length es)) ∷ []) []
        → cond b (k ∷ places_from (suc k) m (es ++ e ∷ [])) (places_from (suc k) m (es ++ e ∷ []))
        ≡ cond b (k ∷ places_from (suc k) m es) (places_from (suc k) m es) ++ cond (bytes_eq m e.row.model) ((k + suc (length es)) ∷ []) []
    by true rest = ap (λ (ks : List ℕ). k ∷ ks) rest
    by false rest = rest

-- the bytes that are counted with one version more
pub size_in-more : (es : List Entry) (e : Entry) → size_in (es ++ e ∷ []) ≡ size_in es + size_of e
size_in-more [] e = omega arith
size_in-more (x ∷ es) e = ap (λ (n : ℕ). size_of x + n) (size_in-more es e) ∙ omega arith

-- the models with one version more
pub models_in-more : (es : List Entry) (e : Entry) → models_in (es ++ e ∷ []) ≡ models_in es ++ cond (e.row.version == 1) (e.row.model ∷ []) []
models_in-more es e =
    ap (map (λ (x : Entry). x.row.model)) (filter-append (λ (x : Entry). x.row.version == 1) es (e ∷ []))
    ∙ map-append (λ (x : Entry). x.row.model) (filter (λ (x : Entry). x.row.version == 1) es) (filter (λ (x : Entry). x.row.version == 1) (e ∷ []))
    ∙ ap (λ (xs : List Name). models_in es ++ xs) (one (e.row.version == 1))
  where
    one : (b : Bool) → map (λ (x : Entry). x.row.model) (cond b (e ∷ []) []) ≡ cond b (e.row.model ∷ []) []
    one true = refl
    one false = refl

-- so few versions fit 32 bits
pub few_fit : (n : ℕ) → n ≤ 10000 → Fits w32 n
few_fit n few = grind (arith, few)

-- what stands at a number that isn't 0
pub at_some_number : {T : Type 0} (v : ℕ) (xs : List T) → v ≢ 0 → at_number v xs ≡ slice_get xs (v - 1)
at_some_number zero xs some = absurd (some refl)
at_some_number (suc k) xs some = let same : k ≡ suc k - 1 = omega arith in ap (λ (n : ℕ). slice_get xs n) same
