-- Keys of lines: the first line of a key, lines whose keys are distinct, and what a name is declared as by its key alone.
use Rattle.std.proofs.Common.{◌≡◌, ℕ, suc, ◌+◌, ◌<◌, Bool, true, false, ◌||◌, cond, List, [], ◌∷◌, ◌++◌, length, take, drop, get_or, Option, Some, None, option_map, is_some, Err, Ok, refl, sym, ap, ap₂, subst, ◌∙◌, arith}
use Rattle.std.proofs.lemmas.List.{take_more, drop_more, map-append, length-map, length-take-le}
use Rattle.std.proofs.lemmas.Slice.Eq.{bytes_eq-Decides}
use Rattle.std.specs.Str.{bytes_eq}
use Rattle.theory_meaning.specs.Declarations.{Declared, variable, parameter, function_of, key_of, declared_as, declaration_of, kind_in, or_else, declared_in}
use Rattle.theory_meaning.specs.ModelFault.{is_key, has_key, has_same_key, has_fault, first_that, line_with}
use Rattle.theory_meaning.specs.declared.words.ModelKind.TheVariants.{KeyTwice}
use Rattle.theory_meaning.specs.Point.{Name}
use Rattle.theory_meaning.specs.Text.{Numbered}
use Rattle.theory_meaning.specs.Tree.{Line, model, var, param, function, equation, assume, claim}
use Rattle.theory_syntax.specs.declared.text.Numbered as source
use Rattle.theory_syntax.specs.Plain.{line_of, lines_of, numbered_of}
use Rattle.theory_model.specs.declared.keys.KeysFault.{KeysFault}
use Rattle.theory_model.specs.declared.keys.KeysFault.TheVariants.{Twice, NoMemory}
use Rattle.theory_model.specs.Keyed.{place_of_key, IsHeld, HoldsKey, IsKeysFault}

-- what a choice gives where its test is false
rest_of_choice : {T : Type 0} (b : Bool) (x y : T) (rest : Option T) → b ≡ false → cond b (Some x) rest ≡ rest
rest_of_choice b x y rest h = ap (λ t. cond t (Some x) rest) h

-- a choice that gives nothing has a false test, and nothing in the other case
test_of_none : {T : Type 0} (b : Bool) (x : T) (rest : Option T) → cond b (Some x) rest ≡ None → b ≡ false
test_of_none true x rest h = grind (arith, h)
test_of_none false x rest h = refl

other_of_none : {T : Type 0} (b : Bool) (x : T) (rest : Option T) → cond b (Some x) rest ≡ None → rest ≡ None
other_of_none true x rest h = grind (arith, h)
other_of_none false x rest h = h

-- a choice along its test
along : {T : Type 0} {b c : Bool} (x : T) → b ≡ c → cond b (Some x) None ≡ cond c (Some x) None
along x h = ap (λ t. cond t (Some x) None) h

-- a line that hasn't the key doesn't declare the name
not_declared_by : (q : Name) (line : Line) → is_key q (key_of line) ≡ false → kind_in q (declaration_of line) ≡ None
not_declared_by q (model n) h = refl
not_declared_by q (var x) h = along variable h
not_declared_by q (param t) h = along parameter h
not_declared_by q (function f us) h = along (function_of us) h
not_declared_by q (equation label u v) h = refl
not_declared_by q (assume label c) h = refl
not_declared_by q (claim label shift c) h = refl

-- a line that has the key declares it as it says
declared_by : (q : Name) (line : Line) → is_key q (key_of line) ≡ true → kind_in q (declaration_of line) ≡ declared_as line
declared_by q (model n) h = refl
declared_by q (var x) h = along variable h
declared_by q (param t) h = along parameter h
declared_by q (function f us) h = along (function_of us) h
declared_by q (equation label u v) h = refl
declared_by q (assume label c) h = refl
declared_by q (claim label shift c) h = refl

-- where no line has the key, the name is declared nowhere
pub declared-missing : (q : Name) (ns : List Numbered) → place_of_key q ns ≡ None → declared_in ns q ≡ None
declared-missing q [] h = refl
declared-missing q (n ∷ ns) h =
    let other = test_of_none (is_key q (key_of n.line)) 0 (option_map suc (place_of_key q ns)) h in
    let rest : place_of_key q ns ≡ None = none_below (place_of_key q ns) (other_of_none (is_key q (key_of n.line)) 0 (option_map suc (place_of_key q ns)) h) in
    ap (λ found. or_else found (declared_in ns q)) (not_declared_by q n.line other) ∙ declared-missing q ns rest
  where
    none_below : (found : Option ℕ) → option_map suc found ≡ None → found ≡ None
    none_below None k = refl
    none_below (Some i) k = grind (arith, k)

-- a place one further is that of a place
one_before : (found : Option ℕ) (i : ℕ) → option_map suc found ≡ Some i → (j : ℕ) × (found ≡ Some j) × (i ≡ suc j)
one_before None i h = grind (arith, h)
one_before (Some j) i h = (j, refl, grind (arith, h))

-- the place of a key is that of a line
pub place_below : (q : Name) (ns : List Numbered) (i : ℕ) → place_of_key q ns ≡ Some i → i < length ns
place_below q [] i h = grind (arith, h)
place_below q (n ∷ ns) i h = by_test (is_key q (key_of n.line)) h (place_below q ns)
  where
    by_test : (b : Bool) → cond b (Some 0) (option_map suc (place_of_key q ns)) ≡ Some i →
        ((j : ℕ) → place_of_key q ns ≡ Some j → j < length ns) → i < length (n ∷ ns)
    by_test true k rest = grind (arith, k)
    by_test false k rest = let before = one_before (place_of_key q ns) i k in let below = rest before.0 before.1 in omega (arith, below, before.2)

-- a line that has the key of a line above has a fault
clash : (q : Name) (above : List Numbered) (line : Line) → has_key q above ≡ true → is_key q (key_of line) ≡ true → has_same_key (key_of line) above ≡ true
clash q above (model n) h k = absurd (grind (arith, k))
clash q above (var x) h k = subst (λ (y : Name). has_key y above ≡ true) (sym ((bytes_eq-Decides x q).0 k)) h
clash q above (param x) h k = subst (λ (y : Name). has_key y above ≡ true) (sym ((bytes_eq-Decides x q).0 k)) h
clash q above (function x us) h k = subst (λ (y : Name). has_key y above ≡ true) (sym ((bytes_eq-Decides x q).0 k)) h
clash q above (equation x u v) h k = subst (λ (y : Name). has_key y above ≡ true) (sym ((bytes_eq-Decides x q).0 k)) h
clash q above (assume x c) h k = subst (λ (y : Name). has_key y above ≡ true) (sym ((bytes_eq-Decides x q).0 k)) h
clash q above (claim x shift c) h k = subst (λ (y : Name). has_key y above ≡ true) (sym ((bytes_eq-Decides x q).0 k)) h

-- a key stands in lines that are followed by others, and in the last line
key_kept : (q : Name) (above : List Numbered) (n : Numbered) → has_key q above ≡ true → has_key q (above ++ n ∷ []) ≡ true
key_kept q [] n h = absurd (grind (arith, h))
key_kept q (m ∷ above) n h = by_test (is_key q (key_of m.line)) h (key_kept q above n)
  where
    by_test : (b : Bool) → (b || has_key q above) ≡ true → (has_key q above ≡ true → has_key q (above ++ n ∷ []) ≡ true) →
        (b || has_key q (above ++ n ∷ [])) ≡ true
    by_test true k rest = refl
    by_test false k rest = rest k

key_added : (q : Name) (above : List Numbered) (n : Numbered) → is_key q (key_of n.line) ≡ true → has_key q (above ++ n ∷ []) ≡ true
key_added q [] n h = ap (λ b. b || false) h
key_added q (m ∷ above) n h = by_test (is_key q (key_of m.line)) (key_added q above n h)
  where
    by_test : (b : Bool) → has_key q (above ++ n ∷ []) ≡ true → (b || has_key q (above ++ n ∷ [])) ≡ true
    by_test true k = refl
    by_test false k = k

-- the lines from here on have no key of a line above
abbrev pub AreFresh : List Numbered → List Numbered → List Numbered → Type 0
AreFresh lines above ns = first_that (has_fault KeyTwice lines) above ns ≡ None

-- so a key that stands above stands in none of them
missing_below : (q : Name) (lines above ns : List Numbered) → AreFresh lines above ns → has_key q above ≡ true → place_of_key q ns ≡ None
missing_below q lines above [] h k = refl
missing_below q lines above (n ∷ ns) h k =
    let fresh = test_of_none (has_same_key (key_of n.line) above) n.at (first_that (has_fault KeyTwice lines) (above ++ n ∷ []) ns) h in
    let rest = other_of_none (has_same_key (key_of n.line) above) n.at (first_that (has_fault KeyTwice lines) (above ++ n ∷ []) ns) h in
    let below = missing_below q lines (above ++ n ∷ []) ns rest (key_kept q above n k) in
    by_test (is_key q (key_of n.line)) refl fresh below
  where
    by_test : (b : Bool) → is_key q (key_of n.line) ≡ b → has_same_key (key_of n.line) above ≡ false → place_of_key q ns ≡ None →
        cond b (Some 0) (option_map suc (place_of_key q ns)) ≡ None
    by_test true here fresh below = absurd (grind (arith, clash q above n.line k here, fresh))
    by_test false here fresh below = ap (λ (found : Option ℕ). option_map suc found) below

-- where keys are distinct, a name is declared as the first line with that key says
pub declared-found : (q : Name) (lines above ns : List Numbered) (i : ℕ) (d : Numbered) → AreFresh lines above ns → place_of_key q ns ≡ Some i →
    declared_in ns q ≡ declared_as (get_or ns i d).line
declared-found q lines above [] i d h k = absurd (grind (arith, k))
declared-found q lines above (n ∷ ns) i d h k =
    let rest = other_of_none (has_same_key (key_of n.line) above) n.at (first_that (has_fault KeyTwice lines) (above ++ n ∷ []) ns) h in
    by_test (is_key q (key_of n.line)) refl k rest (declared-found q lines (above ++ n ∷ []) ns)
  where
    or_nothing : (found : Option Declared) → or_else found None ≡ found
    or_nothing None = refl
    or_nothing (Some x) = refl

    by_test : (b : Bool) → is_key q (key_of n.line) ≡ b → cond b (Some 0) (option_map suc (place_of_key q ns)) ≡ Some i → AreFresh lines (above ++ n ∷ []) ns
        → ((j : ℕ) (e : Numbered) → AreFresh lines (above ++ n ∷ []) ns → place_of_key q ns ≡ Some j → declared_in ns q ≡ declared_as (get_or ns j e).line)
        → declared_in (n ∷ ns) q ≡ declared_as (get_or (n ∷ ns) i d).line
    by_test true here found rest below =
        let missing = declared-missing q ns (missing_below q lines (above ++ n ∷ []) ns rest (key_added q above n here)) in
        let first : i ≡ 0 = grind (arith, found) in
        ap₂ or_else (declared_by q n.line here) missing ∙ or_nothing (declared_as n.line) ∙ ap (λ (j : ℕ). declared_as (get_or (n ∷ ns) j d).line) (sym first)
    by_test false here found rest below =
        let before = one_before (place_of_key q ns) i found in
        ap (λ (x : Option Declared). or_else x (declared_in ns q)) (not_declared_by q n.line here)
        ∙ below before.0 d rest before.1 ∙ ap (λ (j : ℕ). declared_as (get_or (n ∷ ns) j d).line) (sym before.2)

-- a line with a number, to stand where a list is too short
pub some_numbered : Numbered
some_numbered = record { at = 0; line = model [] }

-- the key of a line is held where its bytes are
pub held_by : (held : Name → Option ℕ) (key : Name) (o : Option Name) → Some key ≡ o → is_some (held key) ≡ true → IsHeld held o
held_by held key o is h = subst (λ (x : Option Name). IsHeld held x) is h

-- what holding a key that isn't held does
pub holds_new : (held held' : Name → Option ℕ) (k : ℕ) (key : Name) (o : Option Name) → Some key ≡ o → is_some (held key) ≡ false
    → ((q : Name) → held' q ≡ cond (bytes_eq key q) (Some k) (held q)) → ¬ IsHeld held o × ((q : Name) → held' q ≡ cond (is_key q o) (Some k) (held q))
holds_new held held' k key o is missing new =
    subst (λ (x : Option Name). ¬ IsHeld held x × ((q : Name) → held' q ≡ cond (is_key q x) (Some k) (held q))) is
    ((λ here. absurd (grind (arith, here, missing))), new)

-- a key is above exactly where it has a place there
has_place : (q : Name) (ns : List Numbered) → is_some (place_of_key q ns) ≡ has_key q ns
has_place q [] = refl
has_place q (n ∷ ns) = by_test (is_key q (key_of n.line)) (place_of_key q ns) (has_place q ns)
  where
    by_test : (b : Bool) (rest : Option ℕ) → is_some rest ≡ has_key q ns → is_some (cond b (Some 0) (option_map suc rest)) ≡ (b || has_key q ns)
    by_test true rest h = refl
    by_test false None h = h
    by_test false (Some i) h = h

-- where the key of a line is held, it stands above; where it isn't, it doesn't
pub same_above : (held : Name → Option ℕ) (above : List Numbered) → ((q : Name) → held q ≡ place_of_key q above) → (o : Option Name) → IsHeld held o →
    has_same_key o above ≡ true
same_above held above known None h = absurd h
same_above held above known (Some key) h = sym (has_place key above) ∙ ap is_some (sym (known key)) ∙ h

pub new_above : (held : Name → Option ℕ) (above : List Numbered) → ((q : Name) → held q ≡ place_of_key q above) → (o : Option Name) → ¬ IsHeld held o →
    has_same_key o above ≡ false
new_above held above known None h = refl
new_above held above known (Some key) h = by_answer (has_key key above) refl
  where
    by_answer : (b : Bool) → has_key key above ≡ b → has_key key above ≡ false
    by_answer true k = absurd (h (ap is_some (known key) ∙ has_place key above ∙ k))
    by_answer false k = k

-- the place of a key where one more line is added
place_added : (q : Name) (above : List Numbered) (n : Numbered) →
    place_of_key q (above ++ n ∷ []) ≡ or_else (place_of_key q above) (cond {A = Option ℕ} (is_key q (key_of n.line)) (Some (length above)) None)
place_added q [] n = by_test (is_key q (key_of n.line))
  where
    by_test : (b : Bool) → cond {A = Option ℕ} b (Some 0) None ≡ or_else None (cond {A = Option ℕ} b (Some 0) None)
    by_test true = refl
    by_test false = refl
place_added q (m ∷ above) n = by_test (is_key q (key_of m.line)) (place_of_key q above) (is_key q (key_of n.line)) (place_added q above n)
  where
    by_test : (b : Bool) (found : Option ℕ) (t : Bool) → place_of_key q (above ++ n ∷ []) ≡ or_else found (cond t (Some (length above)) None)
        → cond b (Some 0) (option_map suc (place_of_key q (above ++ n ∷ []))) ≡ or_else (cond b (Some 0) (option_map suc found))
        (cond t (Some (suc (length above))) None)
    by_test true found t h = refl
    by_test false None true h = ap (λ (x : Option ℕ). option_map suc x) h
    by_test false None false h = ap (λ (x : Option ℕ). option_map suc x) h
    by_test false (Some i) t h = ap (λ (x : Option ℕ). option_map suc x) h

-- a line whose key is new is held with its place
pub places_added : (held held' : Name → Option ℕ) (above : List Numbered) (n : Numbered) → ((q : Name) → held q ≡ place_of_key q above)
    → ¬ IsHeld held (key_of n.line) → ((q : Name) → held' q ≡ cond (is_key q (key_of n.line)) (Some (length above)) (held q)) → (q : Name) →
    held' q ≡ place_of_key q (above ++ n ∷ [])
places_added held held' above n known new changed q =
    changed q ∙ by_test (is_key q (key_of n.line)) refl ∙ sym (place_added q above n)
  where
    nothing : (found : Option ℕ) → is_some found ≡ false → found ≡ None
    nothing None h = refl
    nothing (Some i) h = absurd (grind (arith, h))

    is_new : (o : Option Name) → is_key q o ≡ true → has_same_key o above ≡ false → has_key q above ≡ false
    is_new None h k = absurd (grind (arith, h))
    is_new (Some key) h k = subst (λ (y : Name). has_key y above ≡ false) ((bytes_eq-Decides key q).0 h) k

    or_nothing : (found : Option ℕ) → found ≡ or_else found None
    or_nothing None = refl
    or_nothing (Some x) = refl

    by_test : (b : Bool) → is_key q (key_of n.line) ≡ b →
        cond b (Some (length above)) (held q) ≡ or_else (place_of_key q above) (cond b (Some (length above)) None)
    by_test true here =
        let fresh = is_new (key_of n.line) here (new_above held above known (key_of n.line) new) in
        let missing = nothing (place_of_key q above) (has_place q above ∙ fresh) in
        ap (λ (x : Option ℕ). or_else x (Some (length above))) (sym missing)
    by_test false here = known q ∙ or_nothing (place_of_key q above)

-- the lines from here on: the first is blamed where its key stands above, and else passed over
pub first_blamed : (lines above : List Numbered) (n : Numbered) (ns : List Numbered) → has_same_key (key_of n.line) above ≡ true
    → first_that (has_fault KeyTwice lines) above (n ∷ ns) ≡ Some n.at
first_blamed lines above n ns h = ap (λ t. cond t (Some n.at) (first_that (has_fault KeyTwice lines) (above ++ n ∷ []) ns)) h

pub first_passed : (lines above : List Numbered) (n : Numbered) (ns : List Numbered) → has_same_key (key_of n.line) above ≡ false
    → first_that (has_fault KeyTwice lines) above (n ∷ ns) ≡ first_that (has_fault KeyTwice lines) (above ++ n ∷ []) ns
first_passed lines above n ns h = ap (λ t. cond t (Some n.at) (first_that (has_fault KeyTwice lines) (above ++ n ∷ []) ns)) h

-- the next of some lines, with those above and below it
pub above_next : (ls : List source.Numbered) (k : ℕ) (n : source.Numbered) → k < length ls → n ≡ get_or ls k n →
    lines_of (take (k + 1) ls) ≡ lines_of (take k ls) ++ numbered_of n ∷ []
above_next ls k n h is =
    ap lines_of (take_more ls k n h) ∙ map-append numbered_of (take k ls) (get_or ls k n ∷ [])
    ∙ ap (λ (m : source.Numbered). lines_of (take k ls) ++ numbered_of m ∷ []) (sym is)

pub below_next : (ls : List source.Numbered) (k : ℕ) (n : source.Numbered) → k < length ls → n ≡ get_or ls k n →
    lines_of (drop k ls) ≡ numbered_of n ∷ lines_of (drop (k + 1) ls)
below_next ls k n h is =
    ap lines_of (drop_more ls k n h) ∙ ap (λ (m : source.Numbered). numbered_of m ∷ lines_of (drop (k + 1) ls)) (sym is)

place_of_next : (ls : List source.Numbered) (k : ℕ) → k < length ls → length (lines_of (take k ls)) ≡ k
place_of_next ls k h = length-map (take k ls) numbered_of ∙ length-take-le k ls (omega (arith, h))

-- the first line that is blamed, told from the lines above the next one
pub keys_blamed : (ls : List source.Numbered) (k : ℕ) (n : source.Numbered) (held held' : Name → Option ℕ) (fault : KeysFault) →
    k < length ls → n ≡ get_or ls k n
    → ((q : Name) → held q ≡ place_of_key q (lines_of (take k ls)))
    → line_with KeyTwice (lines_of ls) ≡ first_that (has_fault KeyTwice (lines_of ls)) (lines_of (take k ls)) (lines_of (drop k ls))
    → HoldsKey held held' k (numbered_of n) (Err fault) → IsKeysFault (lines_of ls) fault
keys_blamed ls k n held held' (Twice at) h is known left found =
    let above = lines_of (take k ls) in
    left ∙ ap (first_that (has_fault KeyTwice (lines_of ls)) above) (below_next ls k n h is)
    ∙ first_blamed (lines_of ls) above (numbered_of n) (lines_of (drop (k + 1) ls)) (same_above held above known (key_of (line_of n.line)) found.1)
    ∙ ap Some (sym found.0)
keys_blamed ls k n held held' NoMemory h is known left found = tt

-- one more line is held
pub keys_step : (ls : List source.Numbered) (k : ℕ) (n : source.Numbered) (held held' : Name → Option ℕ) → k < length ls → n ≡ get_or ls k n
    → ((q : Name) → held q ≡ place_of_key q (lines_of (take k ls)))
    → line_with KeyTwice (lines_of ls) ≡ first_that (has_fault KeyTwice (lines_of ls)) (lines_of (take k ls)) (lines_of (drop k ls))
    → HoldsKey held held' k (numbered_of n) (Ok tt)
    → ((q : Name) → held' q ≡ place_of_key q (lines_of (take (k + 1) ls)))
    × (line_with KeyTwice (lines_of ls) ≡ first_that (has_fault KeyTwice (lines_of ls)) (lines_of (take (k + 1) ls)) (lines_of (drop (k + 1) ls)))
keys_step ls k n held held' h is known left found =
    let above = lines_of (take k ls) in
    let below = lines_of (drop (k + 1) ls) in
    let next = numbered_of n in
    let placed = places_added held held' above next known found.0
    (subst (λ (i : ℕ). (q : Name) → held' q ≡ cond (is_key q (key_of next.line)) (Some i) (held q)) (sym (place_of_next ls k h)) found.1) in (
      λ (q : Name). placed q ∙ ap (place_of_key q) (sym (above_next ls k n h is)),
      left ∙ ap (first_that (has_fault KeyTwice (lines_of ls)) above) (below_next ls k n h is)
          ∙ first_passed (lines_of ls) above next below (new_above held above known (key_of next.line) found.0)
          ∙ ap (λ (ns : List Numbered). first_that (has_fault KeyTwice (lines_of ls)) ns below) (sym (above_next ls k n h is)),
    )
