-- Whether something divides in lines, by those that were looked at and those that are left.
use Rattle.std.proofs.Common.{◌≡◌, ◌≢◌, ◌↔◌, ℕ, suc, ◌+◌, ◌<◌, Bool, true, false, IsTrue, List, [], ◌∷◌, length, get_or, drop, map, refl, sym, ap, subst, ◌∙◌, arith, rules, add-one, drop-cons}
use Rattle.std.specs.List.{AllByRecursion}
use Rattle.theory_meaning.specs.Divisors.{divisors_of_line}
use Rattle.theory_meaning.specs.Text.{Op, put_line, drop_key}
use Rattle.theory_grammar.specs.RoundTrip.{NothingDividesInEdit}

-- a list that can't have a part has none
pub none_there : {T : Type 0} (xs : List T) → ¬ (xs ≢ []) → xs ≡ []
none_there [] h = refl
none_there (x ∷ xs) h = absurd (h (λ e. grind (arith, e)))

-- false isn't true
pub not_told : (t : Bool) → t ≡ false → ¬ IsTrue t
not_told t e told = absurd (grind (arith, e, told))

-- those from one on
ahead : {S T : Type 0} (f : S → T) (xs : List S) (i : ℕ) (x : S) → i < length xs → x ≡ get_or xs i x
    → map f (drop i xs) ≡ f x ∷ map f (drop (i + 1) xs)
ahead {S = S} f xs i x within is =
    rw (add-one, drop-cons xs i x) (ap (λ (y : S). f y ∷ map f (drop (suc i) xs)) (sym is))

-- one on: where it holds of this one, it holds of all where it holds of those that are left
pub left_up : {S T : Type 0} (P : T → Type 0) (f : S → T) (xs : List S) (i : ℕ) (x : S) → i < length xs → x ≡ get_or xs i x → P (f x)
    → (AllByRecursion P (map f (drop i xs)) → AllByRecursion P (map f xs))
    → AllByRecursion P (map f (drop (i + 1) xs)) → AllByRecursion P (map f xs)
left_up {T = T} P f xs i x within is this up rest = up (subst (λ (ys : List T). AllByRecursion P ys) (sym (ahead f xs i x within is)) (this, rest))

-- and where it holds of all, it holds of those that are left
pub left_down : {S T : Type 0} (P : T → Type 0) (f : S → T) (xs : List S) (i : ℕ) (x : S) → i < length xs → x ≡ get_or xs i x
    → (AllByRecursion P (map f xs) → AllByRecursion P (map f (drop i xs)))
    → AllByRecursion P (map f xs) → AllByRecursion P (map f (drop (i + 1) xs))
left_down {T = T} P f xs i x within is down all = (subst (λ (ys : List T). AllByRecursion P ys) (ahead f xs i x within is) (down all)).1

-- nothing divides in an operation where it can't be that something does
pub undivided_op : (op : Op) (t : Bool) → t ≡ false → (IsTrue t ↔ (¬ NothingDividesInEdit op)) → NothingDividesInEdit op
undivided_op (put_line line) t untold found = none_there (divisors_of_line line) (λ some. not_told t untold (found.1 some))
undivided_op (drop_key key) t untold found = tt

-- true is true
pub true_is_told : IsTrue true
true_is_told = search rules
