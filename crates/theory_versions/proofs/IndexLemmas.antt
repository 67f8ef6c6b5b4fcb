-- An index with one place more.
use Rattle.std.proofs.Common.{◌≡◌, ◌≢◌, ℕ, zero, suc, ◌+◌, ◌<◌, Bool, true, false, cond, List, [], ◌∷◌, ◌++◌, length, map, slice_get, position, Option, None, Some, option_map, refl, sym, ap, subst, ◌∙◌, arith, true≢false}
use Rattle.std.specs.Borrow.{Bor}
use Rattle.std.specs.Global.{Global}
use Rattle.std.specs.List.{position_from}
use Rattle.std.specs.Map.{lookup, keys_of}
use Rattle.std.specs.Prelude.{Vec}
use Rattle.std.specs.Str.{bytes_eq}
use Rattle.std.proofs.lemmas.Iterator.Adapters.{position_from-zero}
use Rattle.std.proofs.lemmas.Slice.Eq.{bytes_eq-Decides}
use Rattle.indexmap.specs.IndexMap.{insert_entry, set_value_at}
use Rattle.theory_meaning.specs.Point.{Name}
use Rattle.theory_versions.specs.Index.{Places, HeldPlaces, places_of, number_of, with_place, IsRoomAt}

-- what is looked up in the map
pub lookup-places_of : (m : Name) (held : HeldPlaces) → option_map (λ (v : Vec ℕ Global). v.items) (lookup (λ (k : Vec ℕ Global). bytes_eq m k.items) held) ≡ lookup (bytes_eq m) (places_of held)
lookup-places_of m [] = refl
lookup-places_of m (p ∷ held) = by (bytes_eq m p.0.items) (lookup-places_of m held)
  where
    by : (b : Bool) → option_map (λ (v : Vec ℕ Global). v.items) (lookup (λ (k : Vec ℕ Global). bytes_eq m k.items) held) ≡ lookup (bytes_eq m) (places_of held)
        → option_map (λ (v : Vec ℕ Global). v.items) (cond b (Some p.1) (lookup (λ (k : Vec ℕ Global). bytes_eq m k.items) held)) ≡ cond b (Some p.1.items) (lookup (bytes_eq m) (places_of held))
    by true h = refl
    by false h = h

-- the number of a model is the index of its key
number-from : (i : ℕ) (m : Name) (held : HeldPlaces)
    → position_from (λ (k : Vec ℕ Global). bytes_eq m k.items) i (keys_of held) ≡ option_map (λ (n : ℕ). i + n) (number_of m (places_of held))
number-from i m [] = refl
number-from i m (p ∷ held) = by (bytes_eq m p.0.items) (number-from (i + 1) m held)
  where
    shifted : (o : Option ℕ) → option_map (λ (n : ℕ). (i + 1) + n) o ≡ option_map (λ (n : ℕ). i + n) (option_map suc o)
    shifted None = refl
    shifted (Some n) = ap Some (omega arith)

    by : (b : Bool) → position_from (λ (k : Vec ℕ Global). bytes_eq m k.items) (i + 1) (keys_of held) ≡ option_map (λ (n : ℕ). (i + 1) + n) (number_of m (places_of held))
        → cond b (Some i) (position_from (λ (k : Vec ℕ Global). bytes_eq m k.items) (i + 1) (keys_of held)) ≡ option_map (λ (n : ℕ). i + n) (cond b (Some 0) (option_map suc (number_of m (places_of held))))
    by true h = ap Some (omega arith)
    by false h = h ∙ shifted (number_of m (places_of held))

pub number-position : (m : Name) (held : HeldPlaces) → position (λ (k : Vec ℕ Global). bytes_eq m k.items) (keys_of held) ≡ number_of m (places_of held)
number-position m held =
    position_from-zero (λ (k : Vec ℕ Global). bytes_eq m k.items) (keys_of held) ∙ number-from 0 m held ∙ plain (number_of m (places_of held))
  where
    plain : (o : Option ℕ) → option_map (λ (n : ℕ). 0 + n) o ≡ o
    plain None = refl
    plain (Some n) = ap Some (omega arith)

-- a model's number is below their count
pub number-lt : (m : Name) (held : HeldPlaces) (at : ℕ) → number_of m (places_of held) ≡ Some at → at < length held
number-lt m [] at h = absurd cc
number-lt m (p ∷ held) at h = by (bytes_eq m p.0.items) (number_of m (places_of held)) (number-lt m held) h
  where
    by : (b : Bool) (o : Option ℕ) → ((n : ℕ) → o ≡ Some n → n < length held) → cond b (Some 0) (option_map suc o) ≡ Some at → at < suc (length held)
    by true o rest h = let zero_is : 0 ≡ at = cc in omega (arith, zero_is)
    by false None rest h = absurd cc
    by false (Some n) rest h = let one_more : suc n ≡ at = cc in let below : n < length held = rest n refl in omega (arith, one_more, below)

-- a write that leaves the places
pub same_places : (held : HeldPlaces) (at : ℕ) (p : Vec ℕ Global × Vec ℕ Global) (w : Vec ℕ Global) → slice_get held at ≡ Some p → w.items ≡ p.1.items
    → places_of (set_value_at held at w) ≡ places_of held
same_places [] at p w h same = refl
same_places (q ∷ held) zero p w h same =
    let first : q ≡ p = cc in
    ap (λ (ks : List ℕ). (q.0.items, ks) ∷ places_of held) (same ∙ ap (λ (r : Vec ℕ Global × Vec ℕ Global). r.1.items) (sym first))
same_places (q ∷ held) (suc at) p w h same = ap (λ (ps : Places). (q.0.items, q.1.items) ∷ ps) (same_places held at p w h same)

-- the value that was written
pub written_value : (held : HeldPlaces) (at : ℕ) (p : Vec ℕ Global × Vec ℕ Global) (w : Vec ℕ Global) → slice_get held at ≡ Some p
    → slice_get (set_value_at held at w) at ≡ Some (p.0, w)
written_value [] at p w h = absurd cc
written_value (q ∷ held) zero p w h = let first : q ≡ p = cc in ap (λ (r : Vec ℕ Global × Vec ℕ Global). Some (r.0, w)) first
written_value (q ∷ held) (suc at) p w h = written_value held at p w h

-- a write that puts a place behind those of a model
pub more_places : (held : HeldPlaces) (at place : ℕ) (m : Name) (p : Vec ℕ Global × Vec ℕ Global) (w : Vec ℕ Global) → slice_get held at ≡ Some p
    → number_of m (places_of held) ≡ Some at → w.items ≡ p.1.items ++ place ∷ [] → places_of (set_value_at held at w) ≡ with_place m place (places_of held)
more_places [] at place m p w h number more = absurd cc
more_places (q ∷ held) zero place m p w h number more = by (bytes_eq m q.0.items) number
  where
    zero_later : (o : Option ℕ) → option_map suc o ≡ Some 0 → ⊥
    zero_later None h = cc
    zero_later (Some n) h = cc

    first : q ≡ p
    first = cc

    by : (b : Bool) → cond b (Some 0) (option_map suc (number_of m (places_of held))) ≡ Some 0
        → (q.0.items, w.items) ∷ places_of held ≡ cond b ((q.0.items, q.1.items ++ place ∷ []) ∷ places_of held) ((q.0.items, q.1.items) ∷ with_place m place (places_of held))
    by true h = ap (λ (ks : List ℕ). (q.0.items, ks) ∷ places_of held) (more ∙ ap (λ (r : Vec ℕ Global × Vec ℕ Global). r.1.items ++ place ∷ []) (sym first))
    by false h = absurd (zero_later _ h)
more_places (q ∷ held) (suc at) place m p w h number more =
    by (bytes_eq m q.0.items) number (λ is. more_places held at place m p w h is more)
  where
    later : (o : Option ℕ) → option_map suc o ≡ Some (suc at) → o ≡ Some at
    later None h = absurd cc
    later (Some n) h = cc

    by : (b : Bool) → cond b (Some 0) (option_map suc (number_of m (places_of held))) ≡ Some (suc at)
        → (number_of m (places_of held) ≡ Some at → places_of (set_value_at held at w) ≡ with_place m place (places_of held))
        → (q.0.items, q.1.items) ∷ places_of (set_value_at held at w)
        ≡ cond b ((q.0.items, q.1.items ++ place ∷ []) ∷ places_of held) ((q.0.items, q.1.items) ∷ with_place m place (places_of held))
    by true h rest = absurd cc
    by false h rest = ap (λ (ps : Places). (q.0.items, q.1.items) ∷ ps) (rest (later _ h))

-- a new model goes last
pub new_places : (held : HeldPlaces) (key places : Vec ℕ Global) (place : ℕ) → places.items ≡ place ∷ [] → number_of key.items (places_of held) ≡ None
    → places_of (insert_entry (λ (a b : Vec ℕ Global). bytes_eq a.items b.items) held key places) ≡ with_place key.items place (places_of held)
new_places [] key places place one none = ap (λ (ks : List ℕ). (key.items, ks) ∷ []) one
new_places (q ∷ held) key places place one none = by (bytes_eq key.items q.0.items) none (new_places held key places place one)
  where
    later : (o : Option ℕ) → option_map suc o ≡ None → o ≡ None
    later None h = refl
    later (Some n) h = absurd cc

    by : (b : Bool) → cond b (Some 0) (option_map suc (number_of key.items (places_of held))) ≡ None
        → (number_of key.items (places_of held) ≡ None
        → places_of (insert_entry (λ (a b : Vec ℕ Global). bytes_eq a.items b.items) held key places) ≡ with_place key.items place (places_of held))
        → places_of (cond b ((q.0, places) ∷ held) (q ∷ insert_entry (λ (a b : Vec ℕ Global). bytes_eq a.items b.items) held key places))
        ≡ cond b ((q.0.items, q.1.items ++ place ∷ []) ∷ places_of held) ((q.0.items, q.1.items) ∷ with_place key.items place (places_of held))
    by true h rest = absurd cc
    by false h rest = ap (λ (ps : Places). (q.0.items, q.1.items) ∷ ps) (rest (later _ h))

-- what is found with one place more
abbrev pub more_of : ℕ → Option (List ℕ) → Option (List ℕ)
more_of place None = Some (place ∷ [])
more_of place (Some ks) = Some (ks ++ place ∷ [])

pub lookup-with_place : (q m : Name) (place : ℕ) (ps : Places)
    → lookup (bytes_eq q) (with_place m place ps) ≡ cond (bytes_eq q m) (more_of place (lookup (bytes_eq q) ps)) (lookup (bytes_eq q) ps)
lookup-with_place q m place [] = refl
lookup-with_place q m place (p ∷ ps) = by (bytes_eq m p.0) refl (bytes_eq q p.0) refl (bytes_eq q m) refl (lookup-with_place q m place ps)
  where
    equal : (x y : Name) → bytes_eq x y ≡ true → x ≡ y
    equal x y h = (bytes_eq-Decides x y).0 h

    unequal : (x y : Name) → bytes_eq x y ≡ false → x ≢ y
    unequal x y h = λ same. true≢false (sym ((bytes_eq-Decides x y).1 same) ∙ h)

    by : (b : Bool) → bytes_eq m p.0 ≡ b → (c : Bool) → bytes_eq q p.0 ≡ c → (d : Bool) → bytes_eq q m ≡ d
        → lookup (bytes_eq q) (with_place m place ps) ≡ cond d (more_of place (lookup (bytes_eq q) ps)) (lookup (bytes_eq q) ps)
        → lookup (bytes_eq q) (cond b ((p.0, p.1 ++ place ∷ []) ∷ ps) (p ∷ with_place m place ps))
        ≡ cond d (more_of place (cond c (Some p.1) (lookup (bytes_eq q) ps))) (cond c (Some p.1) (lookup (bytes_eq q) ps))
    by true b true c true d rest = ap (λ (x : Bool). cond x (Some (p.1 ++ place ∷ [])) (lookup (bytes_eq q) ps)) c
    by true b true c false d rest = absurd (unequal q m d (equal q p.0 c ∙ sym (equal m p.0 b)))
    by true b false c true d rest = absurd (unequal q p.0 c (equal q m d ∙ equal m p.0 b))
    by true b false c false d rest = ap (λ (x : Bool). cond x (Some (p.1 ++ place ∷ [])) (lookup (bytes_eq q) ps)) c
    by false b true c true d rest = absurd (unequal m p.0 b (sym (equal q m d) ∙ equal q p.0 c))
    by false b true c false d rest = ap (λ (x : Bool). cond x (Some p.1) (lookup (bytes_eq q) (with_place m place ps))) c
    by false b false c true d rest = ap (λ (x : Bool). cond x (Some p.1) (lookup (bytes_eq q) (with_place m place ps))) c ∙ rest
    by false b false c false d rest = ap (λ (x : Bool). cond x (Some p.1) (lookup (bytes_eq q) (with_place m place ps))) c ∙ rest

-- the names with one place more
pub keys-with_place-new : (m : Name) (place : ℕ) (ps : Places) → number_of m ps ≡ None → keys_of (with_place m place ps) ≡ keys_of ps ++ m ∷ []
keys-with_place-new m place [] none = refl
keys-with_place-new m place (p ∷ ps) none = by (bytes_eq m p.0) none (keys-with_place-new m place ps)
  where
    later : (o : Option ℕ) → option_map suc o ≡ None → o ≡ None
    later None h = refl
    later (Some n) h = absurd cc

    by : (b : Bool) → cond b (Some 0) (option_map suc (number_of m ps)) ≡ None
        → (number_of m ps ≡ None → keys_of (with_place m place ps) ≡ keys_of ps ++ m ∷ [])
        → keys_of (cond b ((p.0, p.1 ++ place ∷ []) ∷ ps) (p ∷ with_place m place ps)) ≡ p.0 ∷ (keys_of ps ++ m ∷ [])
    by true h rest = absurd cc
    by false h rest = ap (λ (ns : List Name). p.0 ∷ ns) (rest (later _ h))

pub keys-with_place-there : (m : Name) (place at : ℕ) (ps : Places) → number_of m ps ≡ Some at → keys_of (with_place m place ps) ≡ keys_of ps
keys-with_place-there m place at [] there = absurd cc
keys-with_place-there m place at (p ∷ ps) there = by (bytes_eq m p.0) (number_of m ps) (λ n. keys-with_place-there m place n ps) there
  where
    by : (b : Bool) (o : Option ℕ) → ((n : ℕ) → o ≡ Some n → keys_of (with_place m place ps) ≡ keys_of ps) → cond b (Some 0) (option_map suc o) ≡ Some at
        → keys_of (cond b ((p.0, p.1 ++ place ∷ []) ∷ ps) (p ∷ with_place m place ps)) ≡ p.0 ∷ keys_of ps
    by true o rest h = refl
    by false None rest h = absurd cc
    by false (Some n) rest h = ap (λ (ns : List Name). p.0 ∷ ns) (rest n refl)

-- a model that isn't numbered isn't found, and one that is, is
pub not_numbered : (m : Name) (ps : Places) → number_of m ps ≡ None → lookup (bytes_eq m) ps ≡ None
not_numbered m [] none = refl
not_numbered m (p ∷ ps) none = by (bytes_eq m p.0) none (not_numbered m ps)
  where
    later : (o : Option ℕ) → option_map suc o ≡ None → o ≡ None
    later None h = refl
    later (Some n) h = absurd cc

    by : (b : Bool) → cond b (Some 0) (option_map suc (number_of m ps)) ≡ None → (number_of m ps ≡ None → lookup (bytes_eq m) ps ≡ None)
        → cond b (Some p.1) (lookup (bytes_eq m) ps) ≡ None
    by true h rest = absurd cc
    by false h rest = rest (later _ h)

pub numbered_found : (m : Name) (at : ℕ) (ps : Places) → number_of m ps ≡ Some at → lookup (bytes_eq m) ps ≢ None
numbered_found m at [] there none = absurd cc
numbered_found m at (p ∷ ps) there none = by (bytes_eq m p.0) (number_of m ps) (λ n. numbered_found m n ps) there none
  where
    by : (b : Bool) (o : Option ℕ) → ((n : ℕ) → o ≡ Some n → lookup (bytes_eq m) ps ≢ None) → cond b (Some 0) (option_map suc o) ≡ Some at → cond b (Some p.1) (lookup (bytes_eq m) ps) ≡ None → ⊥
    by true o rest h none = cc
    by false None rest h none = cc
    by false (Some n) rest h none = rest n refl none

-- the name of a number
pub key_at : (i : ℕ) (held : HeldPlaces) → option_map (λ (p : Vec ℕ Global × Vec ℕ Global). p.0.items) (slice_get held i) ≡ slice_get (keys_of (places_of held)) i
key_at i [] = grind arith
key_at zero (p ∷ held) = refl
key_at (suc i) (p ∷ held) = key_at i held
