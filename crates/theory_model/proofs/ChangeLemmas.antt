-- Lines put and dropped at the place of their key, operations in order, and identifiers that stay.
use Rattle.std.proofs.Common.{◌≡◌, ℕ, suc, Bool, true, false, ◌||◌, cond, List, [], ◌∷◌, ◌++◌, take, drop, set, Option, Some, None, option_map, Ok, Err, refl, sym, ap, ◌∙◌, arith}
use Rattle.std.specs.Borrow.{Bor}
use Rattle.std.specs.List.{remove}
use Rattle.std.proofs.lemmas.List.{map-set, map-append, take-map, drop-map}
use Rattle.theory_meaning.specs.Declarations.{key_of}
use Rattle.theory_meaning.specs.ModelFault.{is_key}
use Rattle.theory_meaning.specs.Edit as edit
use Rattle.theory_meaning.specs.Edit.{is_keyed, with_line, without_key}
use Rattle.theory_meaning.specs.Point.{Name}
use Rattle.theory_meaning.specs.Text as text
use Rattle.theory_meaning.specs.Tree.{Line}
use Rattle.theory_syntax.specs.declared.line.Line as source
use Rattle.theory_syntax.specs.Plain.{line_of}
use Rattle.theory_model.specs.Changed.{lent_lines, place_of_line}

-- a place one further is that of a place
one_before : (found : Option ℕ) (i : ℕ) → option_map suc found ≡ Some i → (j : ℕ) × (found ≡ Some j) × (i ≡ suc j)
one_before None i h = grind (arith, h)
one_before (Some j) i h = (j, refl, grind (arith, h))

none_before : (found : Option ℕ) → option_map suc found ≡ None → found ≡ None
none_before None h = refl
none_before (Some j) h = grind (arith, h)

-- a line stands in the place of the one with its key
with_line-found : (key : Name) (new : Line) (ls : List Line) (i : ℕ) → place_of_line key ls ≡ Some i → with_line key new ls ≡ set ls i new
with_line-found key new [] i h = absurd (grind (arith, h))
with_line-found key new (l ∷ ls) i h = by_test (is_key key (key_of l)) h (with_line-found key new ls)
  where
    by_test : (b : Bool) → cond b (Some 0) (option_map suc (place_of_line key ls)) ≡ Some i
        → ((j : ℕ) → place_of_line key ls ≡ Some j → with_line key new ls ≡ set ls j new)
        → cond b (new ∷ ls) (l ∷ with_line key new ls) ≡ set (l ∷ ls) i new
    by_test true k rest = let first : 0 ≡ i = grind (arith, k) in ap (λ (j : ℕ). set (l ∷ ls) j new) first
    by_test false k rest =
        let before = one_before (place_of_line key ls) i k in
        ap (λ (xs : List Line). l ∷ xs) (rest before.0 before.1) ∙ ap (λ (j : ℕ). set (l ∷ ls) j new) (sym before.2)

-- or at the end
with_line-missing : (key : Name) (new : Line) (ls : List Line) → place_of_line key ls ≡ None → with_line key new ls ≡ ls ++ new ∷ []
with_line-missing key new [] h = refl
with_line-missing key new (l ∷ ls) h = by_test (is_key key (key_of l)) h (with_line-missing key new ls)
  where
    by_test : (b : Bool) → cond {A = Option ℕ} b (Some 0) (option_map suc (place_of_line key ls)) ≡ None
        → (place_of_line key ls ≡ None → with_line key new ls ≡ ls ++ new ∷ [])
        → cond b (new ∷ ls) (l ∷ with_line key new ls) ≡ l ∷ (ls ++ new ∷ [])
    by_test true k rest = absurd (grind (arith, k))
    by_test false k rest = ap (λ (xs : List Line). l ∷ xs) (rest (none_before (place_of_line key ls) k))

-- the line of a key goes
without_key-found : (key : Name) (ls : List Line) (i : ℕ) → place_of_line key ls ≡ Some i → without_key key ls ≡ remove ls i
without_key-found key [] i h = absurd (grind (arith, h))
without_key-found key (l ∷ ls) i h = by_test (is_key key (key_of l)) h (without_key-found key ls)
  where
    by_test : (b : Bool) → cond b (Some 0) (option_map suc (place_of_line key ls)) ≡ Some i
        → ((j : ℕ) → place_of_line key ls ≡ Some j → without_key key ls ≡ remove ls j)
        → cond b ls (l ∷ without_key key ls) ≡ remove (l ∷ ls) i
    by_test true k rest = let first : 0 ≡ i = grind (arith, k) in ap (λ (j : ℕ). remove (l ∷ ls) j) first
    by_test false k rest =
        let before = one_before (place_of_line key ls) i k in
        ap (λ (xs : List Line). l ∷ xs) (rest before.0 before.1) ∙ ap (λ (j : ℕ). remove (l ∷ ls) j) (sym before.2)

-- a key stands where it has a place, and nowhere else
keyed-found : (key : Name) (ls : List Line) (i : ℕ) → place_of_line key ls ≡ Some i → is_keyed key ls ≡ true
keyed-found key [] i h = absurd (grind (arith, h))
keyed-found key (l ∷ ls) i h = by_test (is_key key (key_of l)) h (keyed-found key ls)
  where
    by_test : (b : Bool) → cond b (Some 0) (option_map suc (place_of_line key ls)) ≡ Some i
        → ((j : ℕ) → place_of_line key ls ≡ Some j → is_keyed key ls ≡ true) → (b || is_keyed key ls) ≡ true
    by_test true k rest = refl
    by_test false k rest = let before = one_before (place_of_line key ls) i k in rest before.0 before.1

keyed-missing : (key : Name) (ls : List Line) → place_of_line key ls ≡ None → is_keyed key ls ≡ false
keyed-missing key [] h = refl
keyed-missing key (l ∷ ls) h = by_test (is_key key (key_of l)) h (keyed-missing key ls)
  where
    by_test : (b : Bool) → cond {A = Option ℕ} b (Some 0) (option_map suc (place_of_line key ls)) ≡ None
        → (place_of_line key ls ≡ None → is_keyed key ls ≡ false) → (b || is_keyed key ls) ≡ false
    by_test true k rest = absurd (grind (arith, k))
    by_test false k rest = rest (none_before (place_of_line key ls) k)

-- the same for lines that are lent
abbrev plain : Bor source.Line → Line
plain line = line_of line.now

pub put_in_place : (key : Name) (lines : List (Bor source.Line)) (i : ℕ) (new : Bor source.Line) → place_of_line key (lent_lines lines) ≡ Some i
    → lent_lines (set lines i new) ≡ with_line key (line_of new.now) (lent_lines lines)
put_in_place key lines i new h = map-set plain lines i new ∙ sym (with_line-found key (plain new) (lent_lines lines) i h)

pub put_at_end : (key : Name) (lines : List (Bor source.Line)) (new : Bor source.Line) → place_of_line key (lent_lines lines) ≡ None
    → lent_lines (lines ++ new ∷ []) ≡ with_line key (line_of new.now) (lent_lines lines)
put_at_end key lines new h = map-append plain lines (new ∷ []) ∙ sym (with_line-missing key (plain new) (lent_lines lines) h)

pub dropped : (key : Name) (lines : List (Bor source.Line)) (i n : ℕ) → place_of_line key (lent_lines lines) ≡ Some i
    → edit.lines_after n (text.drop_key key) (lent_lines lines) ≡ Ok (lent_lines (remove lines i))
dropped key lines i n h =
    ap (λ t. cond t (Ok (without_key key (lent_lines lines))) (Err (edit.unknown_key n))) (keyed-found key (lent_lines lines) i h)
    ∙ ap Ok (without_key-found key (lent_lines lines) i h ∙ sym (map-append plain (take i lines) (drop (suc i) lines) ∙ taken))
  where
    taken : lent_lines (take i lines) ++ lent_lines (drop (suc i) lines) ≡ remove (lent_lines lines) i
    taken = ap (λ (xs : List Line). xs ++ lent_lines (drop (suc i) lines)) (sym (take-map plain i lines))
        ∙ ap (λ (xs : List Line). take i (lent_lines lines) ++ xs) (sym (drop-map plain (suc i) lines))

pub not_dropped : (key : Name) (lines : List (Bor source.Line)) (n : ℕ) → place_of_line key (lent_lines lines) ≡ None
    → edit.lines_after n (text.drop_key key) (lent_lines lines) ≡ Err (edit.unknown_key n)
not_dropped key lines n h =
    ap (λ t. cond t (Ok (without_key key (lent_lines lines))) (Err (edit.unknown_key n))) (keyed-missing key (lent_lines lines) h)
