-- In a model without a fault the symbols of each line are listed, and those of written derivatives too.
use Rattle.std.proofs.Common.{◌≡◌, ℕ, zero, suc, Bool, true, false, not, ◌||◌, if◌then◌else◌, cond, List, [], ◌∷◌, ◌++◌, map, Option, Some, None, is_some, option_map, ◌==◌, refl, sym, ap, subst, arith, ◌⊎◌, inl, inr, ⊎_elim}
use Rattle.std.proofs.lemmas.Bool.{cond_both, or_parts, or_cases, both_ways}
use Rattle.std.proofs.lemmas.Slice.Eq.{bytes_eq-Decides}
use Rattle.std.specs.List.{AllByRecursion, list_any}
use Rattle.std.specs.Str.{bytes_eq}
use Rattle.theory_meaning.specs.Declarations.{Declared, variable, parameter, function_of, declaration_of, kind_in, or_else, declared_in, parts_of, derivative_mark, derivative as derivative_use, slope, use_by_parts, symbols_of_expr, listed_by, listed_in}
use Rattle.theory_meaning.specs.ModelFault.{is_unknown_use, is_unfit_use, is_derivative_use, is_unknown, is_unfit, is_derivative, is_variable, has_argument}
use Rattle.theory_meaning.specs.Point.{Name}
use Rattle.theory_meaning.specs.Slope.{derivative_name, slope_name}
use Rattle.theory_meaning.specs.Text.{Numbered}
use Rattle.theory_meaning.specs.Tree.{Expr, number, symbol, sum, difference, opposite, product, power, quotient, Line, var, param, function}
use Rattle.theory_derivative.specs.Derivative.{counted, is_number, plus, neg, minus, times, over, raised, of_power, of_plain, of_argument, of_arguments, of_name, derivative}
use Rattle.theory_derivative.proofs.WrittenValues.{chosen}

-- a name stands among others
abbrev pub IsAmong : List Name → Name → Type 0
IsAmong [] x = ⊥
IsAmong (y ∷ ys) x = (y ≡ x) ⊎ IsAmong ys x

among_left : (xs ys : List Name) (x : Name) → IsAmong xs x → IsAmong (xs ++ ys) x
among_left [] ys x h = absurd h
among_left (z ∷ xs) ys x h = ⊎_elim (λ e. inl e) (λ k. inr (among_left xs ys x k)) h

among_right : (xs ys : List Name) (x : Name) → IsAmong ys x → IsAmong (xs ++ ys) x
among_right [] ys x h = h
among_right (z ∷ xs) ys x h = inr (among_right xs ys x h)

-- an argument that is found stands among the arguments
found_among : (u : Name) (us : List Name) → list_any (bytes_eq u) us ≡ true → IsAmong us u
found_among u [] h = absurd (both_ways false refl h)
found_among u (v ∷ us) h =
    ⊎_elim (λ here. inl (sym ((bytes_eq-Decides u v).0 here))) (λ there. inr (found_among u us there)) (or_cases (bytes_eq u v) (list_any (bytes_eq u) us) h)

-- the names that a declared name brings are listed
abbrev pub IsListedAs : Bool → List Name → Name → Option Declared → Type 0
IsListedAs b ns x None = Unit {0}
IsListedAs b ns x (Some variable) = IsAmong ns x × (b ≡ true → IsAmong ns (derivative_name x))
IsListedAs b ns x (Some parameter) = IsAmong ns x
IsListedAs b ns x (Some (function_of us)) = IsAmong ns x × ((u : Name) → IsAmong us u → IsAmong ns (slope_name x u))

-- so they are with more names before
listed_more : (b : Bool) (zs ns : List Name) (x : Name) (d : Option Declared) → IsListedAs b ns x d → IsListedAs b (zs ++ ns) x d
listed_more b zs ns x None h = tt
listed_more b zs ns x (Some variable) h = (among_right zs ns x h.0, λ e. among_right zs ns (derivative_name x) (h.1 e))
listed_more b zs ns x (Some parameter) h = among_right zs ns x h
listed_more b zs ns x (Some (function_of us)) h = (among_right zs ns x h.0, λ u k. among_right zs ns (slope_name x u) (h.1 u k))

-- what a line declares brings its own names
variable_listed : (b : Bool) (x : Name) (ns : List Name) → IsListedAs b (listed_by b (var x) ++ ns) x (Some variable)
variable_listed true x ns = (inl refl, λ e. inr (inl refl))
variable_listed false x ns = (inl refl, λ e. absurd (both_ways false refl e))

slopes_among : (f : Name) (us ns : List Name) (u : Name) → IsAmong us u → IsAmong (map (λ v. f ++ 46 ∷ v) us ++ ns) (slope_name f u)
slopes_among f [] ns u h = absurd h
slopes_among f (v ∷ us) ns u h = ⊎_elim (λ e. inl (ap (λ (w : Name). f ++ 46 ∷ w) e)) (λ k. inr (slopes_among f us ns u k)) h

function_listed : (b : Bool) (f : Name) (us ns : List Name) → IsListedAs b (listed_by b (function f us) ++ ns) f (Some (function_of us))
function_listed b f us ns = (inl refl, λ u k. inr (slopes_among f us ns u k))

parameter_listed : (b : Bool) (t : Name) (ns : List Name) → IsListedAs b (listed_by b (param t) ++ ns) t (Some parameter)
parameter_listed b t ns = inl refl

-- with one line more
first_listed : (b : Bool) (y x : Name) (new : Declared) (ns zs : List Name) (d : Option Declared)
    → IsListedAs b (zs ++ ns) y (Some new) → IsListedAs b ns x d → IsListedAs b (zs ++ ns) x (or_else (kind_in x (Some (y, new))) d)
first_listed b y x new ns zs d own h =
    cond_both (bytes_eq y x) (Some new) None (λ o. IsListedAs b (zs ++ ns) x (or_else o d))
    (λ is. subst (λ z. IsListedAs b (zs ++ ns) z (Some new)) ((bytes_eq-Decides y x).0 is) own) (λ other. listed_more b zs ns x d h)

line_listed : (b : Bool) (line : Line) (x : Name) (ns : List Name) (d : Option Declared) → IsListedAs b ns x d
    → IsListedAs b (listed_by b line ++ ns) x (or_else (kind_in x (declaration_of line)) d)
line_listed b (var y) x ns d h = first_listed b y x variable ns (listed_by b (var y)) d (variable_listed b y ns) h
line_listed b (param t) x ns d h = first_listed b t x parameter ns (listed_by b (param t)) d (parameter_listed b t ns) h
line_listed b (function f us) x ns d h = first_listed b f x (function_of us) ns (listed_by b (function f us)) d (function_listed b f us ns) h
line_listed b _ x ns d h = h

-- what is declared in the lines of a model is listed
pub declared_listed : (b : Bool) (lines : List Numbered) (x : Name) → IsListedAs b (listed_in b lines) x (declared_in lines x)
declared_listed b [] x = tt
declared_listed b (n ∷ ns) x = line_listed b n.line x (listed_in b ns) (declared_in ns x) (declared_listed b ns x)

-- a name is made of the parts before and behind its first dot
abbrev IsJoined : Name → Option (Name × Name) → Type 0
IsJoined x None = Unit {0}
IsJoined x (Some p) = x ≡ p.0 ++ 46 ∷ p.1

joined_more : (b : ℕ) (bs : Name) (o : Option (Name × Name)) → IsJoined bs o → IsJoined (b ∷ bs) (option_map (λ p. (b ∷ p.0, p.1)) o)
joined_more b bs None h = tt
joined_more b bs (Some p) h = ap (λ (z : Name). b ∷ z) h

joined : (x : Name) → IsJoined x (parts_of x)
joined [] = tt
joined (b ∷ bs) =
    cond_both (b == 46) (Some ([], bs)) (option_map (λ p. (b ∷ p.0, p.1)) (parts_of bs)) (IsJoined (b ∷ bs))
    (λ e. ap (λ (c : ℕ). c ∷ bs) (dot b e)) (λ e. joined_more b bs (parts_of bs) (joined bs))
  where
    dot : (c : ℕ) → (c == 46) ≡ true → c ≡ 46
    dot c e = grind (arith, e)

-- a symbol without a fault is listed; a derivative only where a shift is named
module _ (b : Bool) (lines : List Numbered) where
  abbrev pub IsListed : Name → Type 0
  IsListed = IsAmong (listed_in b lines)

  by_declared : (x : Name) (d : Option Declared) → IsListedAs b (listed_in b lines) x d → not (is_some d) ≡ false → IsListed x
  by_declared x None h known = absurd (both_ways true known refl)
  by_declared x (Some variable) h known = h.0
  by_declared x (Some parameter) h known = h
  by_declared x (Some (function_of us)) h known = h.0

  by_variable : (x : Name) (d : Option Declared) → IsListedAs b (listed_in b lines) x d → not (is_variable d) ≡ false → b ≡ true
      → IsListed (derivative_name x)
  by_variable x (Some variable) h fit shifted = h.1 shifted
  by_variable x _ h fit shifted = absurd (both_ways true fit refl)

  by_argument : (f u : Name) (d : Option Declared) → IsListedAs b (listed_in b lines) f d → not (has_argument u d) ≡ false → IsListed (slope_name f u)
  by_argument f u (Some (function_of us)) h fit = h.1 u (found_among u us (not_false (list_any (bytes_eq u) us) fit))
    where
      not_false : (t : Bool) → not t ≡ false → t ≡ true
      not_false true e = refl
      not_false false e = absurd (both_ways true e refl)
  by_argument f u _ h fit = absurd (both_ways true fit refl)

  by_mark : (t : Bool) (f u : Name) → bytes_eq f derivative_mark ≡ t → is_unfit_use lines (cond t (derivative_use u) (slope f u)) ≡ false
      → (is_derivative_use (cond t (derivative_use u) (slope f u)) ≡ true → b ≡ true) → IsListed (f ++ 46 ∷ u)
  by_mark true f u mark fit shifted =
      subst (λ (g : Name). IsListed (g ++ 46 ∷ u)) (sym ((bytes_eq-Decides f derivative_mark).0 mark))
      (by_variable u (declared_in lines u) (declared_listed b lines u) fit (shifted refl))
  by_mark false f u mark fit shifted = by_argument f u (declared_in lines f) (declared_listed b lines f) fit

  by_parts : (x : Name) (o : Option (Name × Name)) → IsJoined x o → is_unknown_use lines (use_by_parts x o) ≡ false
      → is_unfit_use lines (use_by_parts x o) ≡ false → (is_derivative_use (use_by_parts x o) ≡ true → b ≡ true) → IsListed x
  by_parts x None is known fit shifted = by_declared x (declared_in lines x) (declared_listed b lines x) known
  by_parts x (Some p) is known fit shifted =
      subst IsListed (sym is) (by_mark (bytes_eq p.0 derivative_mark) p.0 p.1 refl fit shifted)

  -- all of these names are listed
  abbrev pub EachListed : List Name → Type 0
  EachListed = AllByRecursion IsListed

  pub symbols_listed : (xs : List Name) → list_any (is_unknown lines) xs ≡ false → list_any (is_unfit lines) xs ≡ false
      → (b ≡ false → list_any is_derivative xs ≡ false) → EachListed xs
  symbols_listed [] known fit plain = tt
  symbols_listed (x ∷ xs) known fit plain =
      let k = or_parts (is_unknown lines x) (list_any (is_unknown lines) xs) known in
      let f = or_parts (is_unfit lines x) (list_any (is_unfit lines) xs) fit in (
        by_parts x (parts_of x) (joined x) k.0 f.0
            (λ d. shift_named b (λ e. both_ways (is_derivative x) (or_parts (is_derivative x) (list_any is_derivative xs) (plain e)).0 d)),
        symbols_listed xs k.1 f.1 (λ e. (or_parts (is_derivative x) (list_any is_derivative xs) (plain e)).1),
      )
    where
      shift_named : (t : Bool) → (t ≡ false → ⊥) → t ≡ true
      shift_named true h = refl
      shift_named false h = absurd (h refl)

  -- two rows of names
  pub each_both : (xs ys : List Name) → EachListed xs → EachListed ys → EachListed (xs ++ ys)
  each_both [] ys h k = k
  each_both (x ∷ xs) ys h k = (h.0, each_both xs ys h.1 k)

  pub each_parts : (xs ys : List Name) → EachListed (xs ++ ys) → EachListed xs × EachListed ys
  each_parts [] ys h = (tt, h)
  each_parts (x ∷ xs) ys h = let rest = each_parts xs ys h.1 in ((h.0, rest.0), rest.1)

  -- an expression of listed names
  abbrev pub IsListedExpr : Expr → Type 0
  IsListedExpr e = EachListed (symbols_of_expr e)

  pair_listed : (u v : Expr) → IsListedExpr u → IsListedExpr v → EachListed (symbols_of_expr u ++ symbols_of_expr v)
  pair_listed u v h k = each_both (symbols_of_expr u) (symbols_of_expr v) h k

  -- the written operations keep it
  plus_listed : (u v : Expr) → IsListedExpr u → IsListedExpr v → IsListedExpr (plus u v)
  plus_listed u v h k =
      chosen (is_number 0 u) IsListedExpr v (if is_number 0 v then u else sum u v) (λ _. k)
      (λ _. chosen (is_number 0 v) IsListedExpr u (sum u v) (λ _. h) (λ _. pair_listed u v h k))

  neg_listed : (u : Expr) → IsListedExpr u → IsListedExpr (neg u)
  neg_listed u h = chosen (is_number 0 u) IsListedExpr (counted 0) (opposite u) (λ _. tt) (λ _. h)

  minus_listed : (u v : Expr) → IsListedExpr u → IsListedExpr v → IsListedExpr (minus u v)
  minus_listed u v h k =
      chosen (is_number 0 v) IsListedExpr u (if is_number 0 u then neg v else difference u v) (λ _. h)
      (λ _. chosen (is_number 0 u) IsListedExpr (neg v) (difference u v) (λ _. neg_listed v k) (λ _. pair_listed u v h k))

  times_listed : (u v : Expr) → IsListedExpr u → IsListedExpr v → IsListedExpr (times u v)
  times_listed u v h k =
      chosen (is_number 0 u || is_number 0 v) IsListedExpr (counted 0) (if is_number 1 u then v else if is_number 1 v then u else product u v) (λ _. tt)
      (λ _. chosen (is_number 1 u) IsListedExpr v (if is_number 1 v then u else product u v) (λ _. k)
      (λ _. chosen (is_number 1 v) IsListedExpr u (product u v) (λ _. h) (λ _. pair_listed u v h k)))

  over_listed : (u v : Expr) → IsListedExpr u → IsListedExpr v → IsListedExpr (over u v)
  over_listed u v h k = chosen (is_number 0 u) IsListedExpr (counted 0) (quotient u v) (λ _. tt) (λ _. pair_listed u v h k)

-- with a shift the derivatives of names are listed
module _ (lines : List Numbered) (t : Name) where
  abbrev IsHeld : Expr → Type 0
  IsHeld = IsListedExpr true lines

  plain_listed : (x : Name) (d : Option Declared) → IsListedAs true (listed_in true lines) x d → IsHeld (of_plain d t x)
  plain_listed x (Some variable) h = (h.1 refl, tt)
  plain_listed x (Some parameter) h = chosen (bytes_eq x t) IsHeld (counted 1) (counted 0) (λ _. tt) (λ _. tt)
  plain_listed x (Some (function_of us)) h = tt
  plain_listed x None h = tt

  arguments_listed : (f : Name) (before : Expr) (us : List Name) → ((u : Name) → IsAmong us u → IsAmong (listed_in true lines) (slope_name f u))
      → IsHeld before → IsHeld (of_arguments lines t f before us)
  arguments_listed f before [] slopes h = h
  arguments_listed f before (u ∷ us) slopes h =
      arguments_listed f (plus before (of_argument lines t f u)) us (λ v k. slopes v (inr k))
      (plus_listed true lines before (of_argument lines t f u) h
      (times_listed true lines (symbol (slope_name f u)) (of_plain (declared_in lines u) t u) (slopes u (inl refl), tt)
      (plain_listed u (declared_in lines u) (declared_listed true lines u))))

  name_listed : (x : Name) (d : Option Declared) → IsListedAs true (listed_in true lines) x d → IsHeld (of_name d lines t x)
  name_listed x (Some (function_of us)) h = arguments_listed x (counted 0) us h.1 tt
  name_listed x (Some variable) h = plain_listed x (Some variable) h
  name_listed x (Some parameter) h = plain_listed x (Some parameter) h
  name_listed x None h = tt

  raised_listed : (u : Expr) (k : ℕ) → IsHeld u → IsHeld (raised u k)
  raised_listed u zero h = h
  raised_listed u (suc k) h = h

  power_listed : (u : Expr) (k : ℕ) (du : Expr) → IsHeld u → IsHeld du → IsHeld (of_power u k du)
  power_listed u zero du h k = tt
  power_listed u (suc zero) du h k = k
  power_listed u (suc (suc n)) du h k =
      times_listed true lines (times (counted (suc (suc n))) (raised u n)) du
      (times_listed true lines (counted (suc (suc n))) (raised u n) tt (raised_listed u n h)) k

  -- the written derivative of an expression of listed names holds listed names alone
  pub derivative_listed : (e : Expr) → IsHeld e → IsHeld (derivative lines t e)
  derivative_listed (number q) h = tt
  derivative_listed (symbol x) h = name_listed x (declared_in lines x) (declared_listed true lines x)
  derivative_listed (sum u v) h =
      let p = each_parts true lines (symbols_of_expr u) (symbols_of_expr v) h in
      plus_listed true lines (derivative lines t u) (derivative lines t v) (derivative_listed u p.0) (derivative_listed v p.1)
  derivative_listed (difference u v) h =
      let p = each_parts true lines (symbols_of_expr u) (symbols_of_expr v) h in
      minus_listed true lines (derivative lines t u) (derivative lines t v) (derivative_listed u p.0) (derivative_listed v p.1)
  derivative_listed (opposite u) h = neg_listed true lines (derivative lines t u) (derivative_listed u h)
  derivative_listed (product u v) h =
      let p = each_parts true lines (symbols_of_expr u) (symbols_of_expr v) h in
      plus_listed true lines (times (derivative lines t u) v) (times u (derivative lines t v))
      (times_listed true lines (derivative lines t u) v (derivative_listed u p.0) p.1) (times_listed true lines u (derivative lines t v) p.0 (derivative_listed v p.1))
  derivative_listed (power u k) h = power_listed u k (derivative lines t u) h (derivative_listed u h)
  derivative_listed (quotient u v) h =
      let p = each_parts true lines (symbols_of_expr u) (symbols_of_expr v) h in
      over_listed true lines (minus (times (derivative lines t u) v) (times u (derivative lines t v))) (times v v)
      (minus_listed true lines (times (derivative lines t u) v) (times u (derivative lines t v))
      (times_listed true lines (derivative lines t u) v (derivative_listed u p.0) p.1) (times_listed true lines u (derivative lines t v) p.0 (derivative_listed v p.1)))
      (times_listed true lines v v p.1 p.1)
