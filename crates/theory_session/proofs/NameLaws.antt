-- Names, each once, and the first that isn't listed.
use Rattle.std.proofs.Common.{◌≡◌, ℕ, suc, ◌+◌, ◌<◌, ◌&&◌, ◌||◌, Bool, true, false, not, cond, List, [], ◌∷◌, ◌++◌, length, Some, None, Contains, append-nil, refl, sym, ap, ◌∙◌, subst, arith, inl, inr, ⊎_elim}
use Rattle.std.specs.Prelude.{◌↔◌, ◌⊎◌, filter}
use Rattle.std.specs.List.{list_any}
use Rattle.std.specs.Str.{bytes_eq}
use Rattle.std.proofs.lemmas.Bool.{both_ways, false_from_ne_true, or_cases, or_left, or_right}
use Rattle.std.proofs.lemmas.List.Elements.{Contains-append_right, Contains-append_cases, Contains-push_cases, filter-append}
use Rattle.std.proofs.lemmas.Slice.Eq.{bytes_eq-Decides}
use Rattle.theory_meaning.specs.Point.{Name, IsNew, AreDistinct}
use Rattle.theory_meaning.specs.Region.{AreAmong}
use Rattle.theory_session.specs.Meaning.{IsFirstUnlisted}
use Rattle.theory_session.specs.Names.{each_once, unlisted_from, first_unlisted}

-- the test whether a name is one of the names, and the fact
abbrev pub is_among : List Name → Name → Bool
is_among names x = list_any (bytes_eq x) names

no_name : (x : Name) → Contains {X = Name} [] x → ⊥
no_name x h = let less : h.0 < 0 = h.1 in omega (arith, less)

first_or_later : (n : Name) (ns : List Name) (x : Name) → Contains (n ∷ ns) x → (x ≡ n) ⊎ Contains ns x
first_or_later n ns x h = ⊎_elim (λ k. inl (sym (only k))) inr (Contains-append_cases (n ∷ []) ns x h)
  where
    only : Contains (n ∷ []) x → n ≡ x
    only k = ⊎_elim (λ h. absurd (no_name x h)) (λ e. e) (Contains-push_cases [] n x k)

pub contained : (names : List Name) (x : Name) → is_among names x ≡ true → Contains names x
contained [] x h = absurd (both_ways false refl h)
contained (n ∷ ns) x h =
    ⊎_elim (λ e. subst (λ (m : Name). Contains (m ∷ ns) x) ((bytes_eq-Decides x n).0 e) (0, omega arith, refl))
    (λ k. Contains-append_right (n ∷ []) ns x (contained ns x k)) (or_cases (bytes_eq x n) (is_among ns x) h)

pub found_among : (names : List Name) (x : Name) → Contains names x → is_among names x ≡ true
found_among [] x h = absurd (no_name x h)
found_among (n ∷ ns) x h =
    ⊎_elim (λ e. or_left (bytes_eq x n) (is_among ns x) ((bytes_eq-Decides x n).1 e))
    (λ k. or_right (bytes_eq x n) (is_among ns x) (found_among ns x k)) (first_or_later n ns x h)

-- names of which each is listed
among_from : (some names : List Name) → ((x : Name) → is_among some x ≡ true → is_among names x ≡ true) → AreAmong some names
among_from some names h x k = contained names x (h x (found_among some x k))

-- the names but this one
abbrev without : Name → List Name → List Name
without n ms = filter (λ m. not (bytes_eq m n)) ms

-- equality of names, turned round
other_way : (m n : Name) → bytes_eq m n ≡ false → bytes_eq n m ≡ false
other_way m n h = false_from_ne_true (bytes_eq n m) (λ e. both_ways (bytes_eq m n) h ((bytes_eq-Decides m n).1 (sym ((bytes_eq-Decides n m).0 e))))

-- which names stand in those but one
among_without : (n x : Name) (ms : List Name) → is_among (without n ms) x ≡ (not (bytes_eq x n) && is_among ms x)
among_without n x [] = sym (and_false (not (bytes_eq x n)))
  where
    and_false : (t : Bool) → (t && false) ≡ false
    and_false true = refl
    and_false false = refl
among_without n x (m ∷ ms) = go (bytes_eq m n) refl (among_without n x ms)
  where
    dropped : (t r : Bool) → (not t && r) ≡ (not t && (t || r))
    dropped true r = refl
    dropped false r = refl

    stays : (t u r : Bool) → (u ≡ true → t ≡ false) → (u || (not t && r)) ≡ (not t && (u || r))
    stays true true r h = absurd (both_ways true (h refl) refl)
    stays true false r h = refl
    stays false true r h = refl
    stays false false r h = refl

    go : (b : Bool) → bytes_eq m n ≡ b → is_among (without n ms) x ≡ (not (bytes_eq x n) && is_among ms x)
        → is_among (cond (not b) (m ∷ without n ms) (without n ms)) x ≡ (not (bytes_eq x n) && (bytes_eq x m || is_among ms x))
    go true e below = below ∙ dropped (bytes_eq x n) (is_among ms x)
        ∙ ap (λ (k : Name). not (bytes_eq x n) && (bytes_eq x k || is_among ms x)) (sym ((bytes_eq-Decides m n).0 e))
    go false e below = ap (λ (t : Bool). bytes_eq x m || t) below
        ∙ stays (bytes_eq x n) (bytes_eq x m) (is_among ms x) (λ h. ap (λ (k : Name). bytes_eq k n) ((bytes_eq-Decides x m).0 h) ∙ e)

-- the same names stand in the list with each once
pub among_once : (names : List Name) (x : Name) → is_among (each_once names) x ≡ is_among names x
among_once [] x = refl
among_once (n ∷ ns) x =
    ap (λ (t : Bool). bytes_eq x n || t) (among_without n x (each_once ns)) ∙ kept (bytes_eq x n) (is_among (each_once ns) x)
    ∙ ap (λ (t : Bool). bytes_eq x n || t) (among_once ns x)
  where
    kept : (t r : Bool) → (t || (not t && r)) ≡ (t || r)
    kept true r = refl
    kept false r = refl

pub once_among : (names : List Name) → AreAmong (each_once names) names
once_among names = among_from (each_once names) names (λ x h. sym (among_once names x) ∙ h)

pub among_each_once : (names : List Name) → AreAmong names (each_once names)
among_each_once names = among_from names (each_once names) (λ x h. among_once names x ∙ h)

-- and each once
new_still : (x n : Name) (ms : List Name) → IsNew x ms → IsNew x (without n ms)
new_still x n [] h = tt
new_still x n (m ∷ ms) h = go (bytes_eq m n) (new_still x n ms h.1)
  where
    go : (b : Bool) → IsNew x (without n ms) → IsNew x (cond (not b) (m ∷ without n ms) (without n ms))
    go true below = below
    go false below = (h.0, below)

distinct_still : (n : Name) (ms : List Name) → AreDistinct ms → AreDistinct (without n ms)
distinct_still n [] h = tt
distinct_still n (m ∷ ms) h = go (bytes_eq m n) (distinct_still n ms h.1)
  where
    go : (b : Bool) → AreDistinct (without n ms) → AreDistinct (cond (not b) (m ∷ without n ms) (without n ms))
    go true below = below
    go false below = (new_still m n ms h.0, below)

new_without : (n : Name) (ms : List Name) → IsNew n (without n ms)
new_without n [] = tt
new_without n (m ∷ ms) = go (bytes_eq m n) refl (new_without n ms)
  where
    go : (b : Bool) → bytes_eq m n ≡ b → IsNew n (without n ms) → IsNew n (cond (not b) (m ∷ without n ms) (without n ms))
    go true e below = below
    go false e below = (other_way m n e, below)

pub once_distinct : (names : List Name) → AreDistinct (each_once names)
once_distinct [] = tt
once_distinct (n ∷ ns) = (new_without n (each_once ns), distinct_still n (each_once ns) (once_distinct ns))

-- names with one more behind them, unless it is known
abbrev pub with_last : Bool → List Name → Name → List Name
with_last known ns name = cond known ns (ns ++ name ∷ [])

-- a name behind others stands among those once where it isn't one of them
pub once-push : (names : List Name) (name : Name) → each_once (names ++ name ∷ []) ≡ with_last (is_among names name) (each_once names) name
once-push [] name = refl
once-push (n ∷ ns) name = ap (λ (ms : List Name). n ∷ without n ms) (once-push ns name) ∙ go (bytes_eq name n) refl (is_among ns name)
  where
    filtered : (b : Bool) → bytes_eq name n ≡ b
        → without n (each_once ns ++ name ∷ []) ≡ (without n (each_once ns) ++ cond (not b) (name ∷ []) [])
    filtered b e =
        filter-append (λ m. not (bytes_eq m n)) (each_once ns) (name ∷ [])
        ∙ ap (λ (t : Bool). without n (each_once ns) ++ cond (not t) (name ∷ []) []) e

    whole : Bool → List Name
    whole known = with_last known (each_once (n ∷ ns)) name

    or_true : (b : Bool) → (b || true) ≡ true
    or_true true = refl
    or_true false = refl

    go : (b : Bool) → bytes_eq name n ≡ b → (t : Bool) → (n ∷ without n (with_last t (each_once ns) name)) ≡ whole (bytes_eq name n || t)
    go b e true = sym (ap whole (or_true (bytes_eq name n)))
    go true e false =
        ap (λ (ms : List Name). n ∷ ms) (filtered true e ∙ append-nil (without n (each_once ns))) ∙ sym (ap (λ (s : Bool). whole (s || false)) e)
    go false e false = ap (λ (ms : List Name). n ∷ ms) (filtered false e) ∙ sym (ap (λ (s : Bool). whole (s || false)) e)

-- where no name is found, each is listed, and the other way round
found_past : (k : ℕ) (listed : List Name) (n : Name) (ns : List Name) → unlisted_from k listed (n ∷ ns) ≡ None
    → (is_among listed n ≡ true) × (unlisted_from (k + 1) listed ns ≡ None)
found_past k listed n ns h = go (is_among listed n) h
  where
    go : (b : Bool) → cond b (unlisted_from (k + 1) listed ns) (Some k) ≡ None → (b ≡ true) × (unlisted_from (k + 1) listed ns ≡ None)
    go true e = (refl, e)
    go false e = absurd (grind (arith, e))

all_listed : (k : ℕ) (listed names : List Name) → unlisted_from k listed names ≡ None → AreAmong names listed
all_listed k listed [] h x c = absurd (no_name x c)
all_listed k listed (n ∷ ns) h x c =
    let past = found_past k listed n ns h in
    ⊎_elim (λ e. subst (Contains listed) (sym e) (contained listed n past.0)) (all_listed (k + 1) listed ns past.1 x) (first_or_later n ns x c)

first_among : (n : Name) (ns listed : List Name) → AreAmong (n ∷ ns) listed → is_among listed n ≡ true
first_among n ns listed h = found_among listed n (h n (0, omega arith, refl))

rest_among : (n : Name) (ns listed : List Name) → AreAmong (n ∷ ns) listed → AreAmong ns listed
rest_among n ns listed h x c = h x (Contains-append_right (n ∷ []) ns x c)

none_found : (k : ℕ) (listed names : List Name) → AreAmong names listed → unlisted_from k listed names ≡ None
none_found k listed [] h = refl
none_found k listed (n ∷ ns) h =
    ap (λ (b : Bool). cond b (unlisted_from (k + 1) listed ns) (Some k)) (first_among n ns listed h) ∙ none_found (k + 1) listed ns (rest_among n ns listed h)

pub none_unlisted : (listed names : List Name) → (first_unlisted listed names ≡ None) ↔ AreAmong names listed
none_unlisted listed names = (all_listed 1 listed names, none_found 1 listed names)

-- what is found, where the first of the names has the place k
record IsFoundFrom (k : ℕ) (listed names : List Name) (place : ℕ) : Type 0 where
  before : List Name
  name : Name
  behind : List Name
  parts : names ≡ before ++ name ∷ behind
  counted : place ≡ length before + k
  listed_before : AreAmong before listed
  unlisted : is_among listed name ≡ false

one_more_listed : (n : Name) (ns listed : List Name) → is_among listed n ≡ true → AreAmong ns listed → AreAmong (n ∷ ns) listed
one_more_listed n ns listed h k x c = ⊎_elim (λ e. subst (Contains listed) (sym e) (contained listed n h)) (k x) (first_or_later n ns x c)

found_from : (k : ℕ) (listed names : List Name) (place : ℕ) → unlisted_from k listed names ≡ Some place → IsFoundFrom k listed names place
found_from k listed [] place h = absurd (grind (arith, h))
found_from k listed (n ∷ ns) place h = go (is_among listed n) refl h (found_from (k + 1) listed ns place)
  where
    go : (b : Bool) → is_among listed n ≡ b → cond b (unlisted_from (k + 1) listed ns) (Some k) ≡ Some place
        → (unlisted_from (k + 1) listed ns ≡ Some place → IsFoundFrom (k + 1) listed ns place) → IsFoundFrom k listed (n ∷ ns) place
    go true e h below = let r = below h in record {
      before = n ∷ r.before;
      name = r.name;
      behind = r.behind;
      parts = ap (λ (ms : List Name). n ∷ ms) r.parts;
      counted = let c : place ≡ length r.before + (k + 1) = r.counted in omega (arith, c);
      listed_before = one_more_listed n r.before listed e r.listed_before;
      unlisted = r.unlisted;
    }
    go false e h below = record {
      before = [];
      name = n;
      behind = ns;
      parts = refl;
      counted = let same : k ≡ place = inner k place h in omega (arith, same);
      listed_before = λ x c. absurd (no_name x c);
      unlisted = e;
    }
      where
        inner : (a b : ℕ) → Some a ≡ Some b → a ≡ b
        inner a b e = grind (arith, e)

first_found : (listed names : List Name) (place : ℕ) → first_unlisted listed names ≡ Some place → IsFirstUnlisted listed names place
first_found listed names place h = let r = found_from 1 listed names place h in record {
  before = r.before;
  name = r.name;
  behind = r.behind;
  parts = r.parts;
  counted = r.counted;
  listed_before = r.listed_before;
  unlisted = λ c. both_ways (is_among listed r.name) r.unlisted (found_among listed r.name c);
}

-- a name that isn't listed is found behind listed ones
found_behind : (k : ℕ) (listed before : List Name) (name : Name) (behind : List Name) → AreAmong before listed → is_among listed name ≡ false
    → unlisted_from k listed (before ++ name ∷ behind) ≡ Some (length before + k)
found_behind k listed [] name behind among h = ap (λ (b : Bool). cond b (unlisted_from (k + 1) listed behind) (Some k)) h
    ∙ ap Some (let same : k ≡ 0 + k = omega arith in same)
found_behind k listed (n ∷ ns) name behind among h =
    let same : length ns + (k + 1) ≡ suc (length ns) + k = omega arith in
    ap (λ (b : Bool). cond b (unlisted_from (k + 1) listed (ns ++ name ∷ behind)) (Some k)) (first_among n ns listed among)
    ∙ found_behind (k + 1) listed ns name behind (rest_among n ns listed among) h ∙ ap Some same

pub unlisted_behind : (listed before : List Name) (name : Name) (behind : List Name) → AreAmong before listed → is_among listed name ≡ false
    → first_unlisted listed (before ++ name ∷ behind) ≡ Some (length before + 1)
unlisted_behind listed before name behind among h = found_behind 1 listed before name behind among h

first_given : (listed names : List Name) (place : ℕ) → IsFirstUnlisted listed names place → first_unlisted listed names ≡ Some place
first_given listed names place h =
    ap (first_unlisted listed) h.parts
    ∙ unlisted_behind listed h.before h.name h.behind h.listed_before
    (false_from_ne_true (is_among listed h.name) (λ e. h.unlisted (contained listed h.name e)))
    ∙ ap Some (sym h.counted)

-- a place is found exactly where it is that of the first name that isn't listed
pub first_is : (listed names : List Name) (place : ℕ) → (first_unlisted listed names ≡ Some place) ↔ IsFirstUnlisted listed names place
first_is listed names place = (first_found listed names place, first_given listed names place)

-- one listed name more
pub none_unlisted-push : (listed names : List Name) (name : Name) → first_unlisted listed names ≡ None → is_among listed name ≡ true
    → first_unlisted listed (names ++ name ∷ []) ≡ None
none_unlisted-push listed names name h k = none_found 1 listed (names ++ name ∷ []) (λ x c.
    ⊎_elim (all_listed 1 listed names h x) (λ e. subst (Contains listed) e (contained listed name k)) (Contains-push_cases names name x c))
