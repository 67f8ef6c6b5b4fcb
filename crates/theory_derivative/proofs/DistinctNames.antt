-- In a model the listed symbols are distinct: each belongs to one key, and the symbols of a key differ by their parts.
use Rattle.std.proofs.Common.{◌≡◌, ℕ, ◌==◌, Bool, true, false, not, ◌||◌, if◌then◌else◌, List, [], ◌∷◌, ◌++◌, map, Option, Some, None, option_map, refl, sym, ap, ◌∙◌, subst, arith, ⊎_elim}
use Rattle.std.proofs.lemmas.Bool.{cond_both, or_parts, or_cases, or_left, or_right, and_parts, both_ways, false_from_ne_true}
use Rattle.std.proofs.lemmas.Slice.Eq.{bytes_eq-Decides}
use Rattle.std.specs.List.{AllByRecursion, list_any, list_all}
use Rattle.std.specs.Str.{bytes_eq}
use Rattle.theory_meaning.specs.declared.words.ModelKind.TheVariants.{KeyTwice, BadArgument}
use Rattle.theory_meaning.specs.Declarations.{key_of, parts_of, derivative_mark, declared_in, listed_by, listed_in}
use Rattle.theory_meaning.specs.Edit.{HasIdentifiers, HaveIdentifiers}
use Rattle.theory_meaning.specs.Identifier.{IsIdentifier, is_word, is_word_byte, is_letter, is_reserved, reserved_words}
use Rattle.theory_meaning.specs.ModelFault.{is_key, has_key, has_same_key, is_function, has_bad_argument, has_fault}
use Rattle.theory_meaning.specs.Point.{Name, IsNew, AreDistinct}
use Rattle.theory_meaning.specs.Slope.{derivative_name, slope_name}
use Rattle.theory_meaning.specs.Text.{Numbered}
use Rattle.theory_meaning.specs.Tree.{Line, var, param, function}
use Rattle.theory_derivative.proofs.FaultlessLines.{IsWithout, without_each}

-- a byte of a word is no dot
no_dot : (b : ℕ) → is_word_byte b ≡ true → (b == 46) ≡ false
no_dot b h = false_from_ne_true (b == 46) (λ e. both_ways (is_word_byte 46) refl (subst (λ (c : ℕ). is_word_byte c ≡ true) (dot b e) h))
  where
    dot : (c : ℕ) → (c == 46) ≡ true → c ≡ 46
    dot c e = grind (arith, e)

-- parts with one byte more before
abbrev led : ℕ → Name × Name → Name × Name
led b p = (b ∷ p.0, p.1)

-- so bytes of words have no parts
none_mapped : (b : ℕ) (o : Option (Name × Name)) → o ≡ None → option_map (led b) o ≡ None
none_mapped b o e = ap (option_map (led b)) e

one_part : (bs : Name) → list_all is_word_byte bs ≡ true → parts_of bs ≡ None
one_part [] h = refl
one_part (b ∷ bs) h =
    let parts = and_parts (is_word_byte b) (list_all is_word_byte bs) h in
    cond_both (b == 46) (Some ([], bs)) (option_map (led b) (parts_of bs)) (λ o. o ≡ None)
    (λ e. absurd (both_ways (b == 46) (no_dot b parts.0) e)) (λ e. none_mapped b (parts_of bs) (one_part bs parts.1))

word_part : (x : Name) → is_word x ≡ true → parts_of x ≡ None
word_part [] h = refl
word_part (b ∷ bs) h =
    let parts = and_parts (is_letter b) (list_all is_word_byte bs) h in
    cond_both (b == 46) (Some ([], bs)) (option_map (led b) (parts_of bs)) (λ o. o ≡ None)
    (λ e. absurd (both_ways (b == 46) (no_dot b (letter b parts.0)) e)) (λ e. none_mapped b (parts_of bs) (one_part bs parts.1))
  where
    letter : (c : ℕ) → is_letter c ≡ true → is_word_byte c ≡ true
    letter c e = grind (arith, e)

identifier_part : (x : Name) → IsIdentifier x → parts_of x ≡ None
identifier_part x h = word_part x (and_parts (is_word x) _ (and_parts _ (not (is_reserved x)) h).0).0

-- an identifier isn't the letter of derivatives
not_mark : (x : Name) → IsIdentifier x → bytes_eq x derivative_mark ≡ false
not_mark x h = last x (none_of reserved_words (not_true (is_reserved x) (and_parts _ (not (is_reserved x)) h).1))
  where
    not_true : (t : Bool) → not t ≡ true → t ≡ false
    not_true true e = absurd (both_ways false refl e)
    not_true false e = refl

    none_of : (ws : List Name) → list_any (bytes_eq x) ws ≡ false → AllByRecursion (λ w. bytes_eq x w ≡ false) ws
    none_of [] e = tt
    none_of (w ∷ ws) e = let parts = or_parts (bytes_eq x w) (list_any (bytes_eq x) ws) e in (parts.0, none_of ws parts.1)

    last : (y : Name) → AllByRecursion (λ w. bytes_eq y w ≡ false) reserved_words → bytes_eq y derivative_mark ≡ false
    last y all = all.1.1.1.1.1.1.1.1.1.1.1.1.1.1.1.1.0

-- the parts of a name with a dot behind an identifier
mapped_none : (b : ℕ) (o : Option (Name × Name)) → option_map (led b) o ≡ None → o ≡ None
mapped_none b None e = refl
mapped_none b (Some p) e = absurd (grind (arith, e))

dotted_byte : (t : Bool) (b : ℕ) (f u : Name) → (if t then Some ([], f) else option_map (led b) (parts_of f)) ≡ None
    → (parts_of f ≡ None → parts_of (f ++ 46 ∷ u) ≡ Some (f, u))
    → (if t then Some ([], f ++ 46 ∷ u) else option_map (led b) (parts_of (f ++ 46 ∷ u))) ≡ Some (b ∷ f, u)
dotted_byte true b f u h rest = absurd (grind (arith, h))
dotted_byte false b f u h rest = ap (option_map (led b)) (rest (mapped_none b (parts_of f) h))

dotted_parts : (f u : Name) → parts_of f ≡ None → parts_of (f ++ 46 ∷ u) ≡ Some (f, u)
dotted_parts [] u h = refl
dotted_parts (b ∷ f) u h = dotted_byte (b == 46) b f u h (λ k. dotted_parts f u k)

-- the key that a listed symbol belongs to
abbrev owner_by : Name → Option (Name × Name) → Name
owner_by x None = x
owner_by x (Some p) = if bytes_eq p.0 derivative_mark then p.1 else p.0

abbrev owner : Name → Name
owner x = owner_by x (parts_of x)

plain_owner : (x : Name) → IsIdentifier x → owner x ≡ x
plain_owner x h = ap (owner_by x) (identifier_part x h)

derivative_owner : (x : Name) → owner (derivative_name x) ≡ x
derivative_owner x = refl

slope_owner : (f u : Name) → IsIdentifier f → owner (slope_name f u) ≡ f
slope_owner f u h =
    ap (owner_by (slope_name f u)) (dotted_parts f u (identifier_part f h)) ∙ ap (λ (t : Bool). if t then u else f) (not_mark f h)

-- names of other parts are other names
apart : (x y : Name) → (x ≡ y → ⊥) → bytes_eq x y ≡ false
apart x y h = false_from_ne_true (bytes_eq x y) (λ e. h ((bytes_eq-Decides x y).0 e))

no_part : (p : Name × Name) → None ≡ Some p → ⊥
no_part p e = grind (arith, e)

some_part : (p q : Name × Name) → Some p ≡ Some q → p.1 ≡ q.1
some_part p q e = ap (λ (o : Option (Name × Name)). behind o) e
  where
    behind : Option (Name × Name) → Name
    behind None = []
    behind (Some r) = r.1

undotted : (x y : Name) (p : Name × Name) → parts_of x ≡ None → parts_of y ≡ Some p → bytes_eq x y ≡ false
undotted x y p none some = apart x y (λ e. no_part p (sym none ∙ ap parts_of e ∙ some))

-- the symbols that a line lists are distinct
new_slopes : (f : Name) (us : List Name) → IsIdentifier f → IsNew f (map (λ u. f ++ 46 ∷ u) us)
new_slopes f [] h = tt
new_slopes f (u ∷ us) h =
    (undotted f (f ++ 46 ∷ u) (f, u) (identifier_part f h) (dotted_parts f u (identifier_part f h)), new_slopes f us h)

new_slope : (f u : Name) (us : List Name) → IsIdentifier f → list_any (bytes_eq u) us ≡ false → IsNew (f ++ 46 ∷ u) (map (λ v. f ++ 46 ∷ v) us)
new_slope f u [] h new = tt
new_slope f u (v ∷ us) h new =
    let parts = or_parts (bytes_eq u v) (list_any (bytes_eq u) us) new in
    let none = identifier_part f h in (
      apart (f ++ 46 ∷ u) (f ++ 46 ∷ v)
          (λ e. both_ways (bytes_eq u v) parts.0
          ((bytes_eq-Decides u v).1 (some_part (f, u) (f, v) (sym (dotted_parts f u none) ∙ ap parts_of e ∙ dotted_parts f v none)))),
      new_slope f u us h parts.1,
    )

distinct_slopes : (lines : List Numbered) (f : Name) (us : List Name) → IsIdentifier f → has_bad_argument lines us ≡ false
    → AreDistinct (map (λ u. f ++ 46 ∷ u) us)
distinct_slopes lines f [] h fit = tt
distinct_slopes lines f (u ∷ us) h fit =
    let parts = or_parts (is_function (declared_in lines u) || list_any (bytes_eq u) us) (has_bad_argument lines us) fit in
    (new_slope f u us h (or_parts (is_function (declared_in lines u)) (list_any (bytes_eq u) us) parts.0).1, distinct_slopes lines f us h parts.1)

distinct_by : (lines above : List Numbered) (b : Bool) (line : Line) → HasIdentifiers line → has_fault BadArgument lines above line ≡ false
    → AreDistinct (listed_by b line)
distinct_by lines above true (var x) is fit =
    ((undotted x (derivative_name x) (derivative_mark, x) (identifier_part x is.0) refl, tt), (tt, tt))
distinct_by lines above false (var x) is fit = (tt, tt)
distinct_by lines above b (param t) is fit = (tt, tt)
distinct_by lines above b (function f us) is fit = (new_slopes f us is.0, distinct_slopes lines f us is.0 fit)
distinct_by lines above b _ is fit = tt

-- and they belong to its key
abbrev BelongTo : Option Name → List Name → Type 0
BelongTo key zs = AllByRecursion (λ z. is_key (owner z) key ≡ true) zs

key_itself : (x y : Name) → y ≡ x → is_key y (Some x) ≡ true
key_itself x y e = (bytes_eq-Decides x y).1 (sym e)

slopes_belong : (f : Name) (us : List Name) → IsIdentifier f → BelongTo (Some f) (map (λ u. f ++ 46 ∷ u) us)
slopes_belong f [] h = tt
slopes_belong f (u ∷ us) h = (key_itself f (owner (f ++ 46 ∷ u)) (slope_owner f u h), slopes_belong f us h)

belong : (b : Bool) (line : Line) → HasIdentifiers line → BelongTo (key_of line) (listed_by b line)
belong true (var x) is =
    (key_itself x (owner x) (plain_owner x is.0), (key_itself x (owner (derivative_name x)) (derivative_owner x), tt))
belong false (var x) is = (key_itself x (owner x) (plain_owner x is.0), tt)
belong b (param t) is = (key_itself t (owner t) (plain_owner t is.0), tt)
belong b (function f us) is = (key_itself f (owner f) (plain_owner f is.0), slopes_belong f us is.0)
belong b _ is = tt

-- a line has the key still where one more follows, and where it is the last
key_kept : (q : Name) (above : List Numbered) (n : Numbered) → has_key q above ≡ true → has_key q (above ++ n ∷ []) ≡ true
key_kept q [] n h = absurd (grind (arith, h))
key_kept q (m ∷ above) n h =
    ⊎_elim (λ here. or_left (is_key q (key_of m.line)) (has_key q (above ++ n ∷ [])) here)
    (λ there. or_right (is_key q (key_of m.line)) (has_key q (above ++ n ∷ [])) (key_kept q above n there))
    (or_cases (is_key q (key_of m.line)) (has_key q above) h)

key_added : (q : Name) (above : List Numbered) (n : Numbered) → is_key q (key_of n.line) ≡ true → has_key q (above ++ n ∷ []) ≡ true
key_added q [] n h = ap (λ b. b || false) h
key_added q (m ∷ above) n h = or_right (is_key q (key_of m.line)) (has_key q (above ++ n ∷ [])) (key_added q above n h)

-- a name of a key above isn't one of a key that is new
other_key : (above : List Numbered) (key : Option Name) (y z : Name) → has_same_key key above ≡ false → has_key (owner y) above ≡ true
    → is_key (owner z) key ≡ true → bytes_eq y z ≡ false
other_key above None y z fresh old own = absurd (both_ways false refl own)
other_key above (Some k) y z fresh old own =
    apart y z (λ e. both_ways (has_key k above) fresh
    (subst (λ (q : Name). has_key q above ≡ true) (ap owner e ∙ sym ((bytes_eq-Decides k (owner z)).0 own)) old))

new_to : (above : List Numbered) (key : Option Name) (zs : List Name) (y : Name) → has_same_key key above ≡ false → has_key (owner y) above ≡ true
    → BelongTo key zs → IsNew y zs
new_to above key [] y fresh old own = tt
new_to above key (z ∷ zs) y fresh old own = (other_key above key y z fresh old own.0, new_to above key zs y fresh old own.1)

-- distinct rows, where no name of the first is in the second
new_both : (y : Name) (zs ns : List Name) → IsNew y zs → IsNew y ns → IsNew y (zs ++ ns)
new_both y [] ns h k = k
new_both y (z ∷ zs) ns h k = (h.0, new_both y zs ns h.1 k)

distinct_both : (zs ns : List Name) → AreDistinct zs → AreDistinct ns → AllByRecursion (λ z. IsNew z ns) zs → AreDistinct (zs ++ ns)
distinct_both [] ns h k new = k
distinct_both (z ∷ zs) ns h k new = (new_both z zs ns h.0 new.0, distinct_both zs ns h.1 k new.1)

-- names are distinct, and none belongs to a key of these lines
record AreNewTo (above : List Numbered) (ns : List Name) : Type 0 where
  distinct : AreDistinct ns
  new : (y : Name) → has_key (owner y) above ≡ true → IsNew y ns

distinct_below : (b : Bool) (lines above ns : List Numbered) → HaveIdentifiers ns → IsWithout lines KeyTwice above ns → IsWithout lines BadArgument above ns
    → AreNewTo above (listed_in b ns)
distinct_below b lines above [] is fresh fit = record { distinct = tt; new = λ y k. tt }
distinct_below b lines above (n ∷ ns) is fresh fit =
    let here = without_each lines KeyTwice above n ns fresh in
    let fits = without_each lines BadArgument above n ns fit in
    let below = distinct_below b lines (above ++ n ∷ []) ns is.1 here.1 fits.1 in
    let own = belong b n.line is.0 in
    record {
      distinct = distinct_both (listed_by b n.line) (listed_in b ns) (distinct_by lines above b n.line is.0 fits.0) below.distinct
          (all_new (listed_by b n.line) own below.new);
      new = λ y k. new_both y (listed_by b n.line) (listed_in b ns) (new_to above (key_of n.line) (listed_by b n.line) y here.0 k own)
          (below.new y (key_kept (owner y) above n k));
    }
  where
    all_new : (zs : List Name) → BelongTo (key_of n.line) zs → ((y : Name) → has_key (owner y) (above ++ n ∷ []) ≡ true → IsNew y (listed_in b ns))
        → AllByRecursion (λ z. IsNew z (listed_in b ns)) zs
    all_new [] own new = tt
    all_new (z ∷ zs) own new = (new z (key_added (owner z) above n own.0), all_new zs own.1 new)

-- so the listed symbols are distinct
pub listed_are_distinct : (b : Bool) (lines : List Numbered) → HaveIdentifiers lines → IsWithout lines KeyTwice [] lines → IsWithout lines BadArgument [] lines
    → AreDistinct (listed_in b lines)
listed_are_distinct b lines is fresh fit = (distinct_below b lines [] lines is fresh fit).distinct
