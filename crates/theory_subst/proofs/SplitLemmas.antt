-- A polynomial that is linear in a symbol has only one slope and base.
use Rattle.std.proofs.Common.{◌≡◌, ℕ, zero, suc, ◌+◌, ◌≤◌, ◌<◌, ℤ, pos, ◌+ℤ◌, ◌*ℤ◌, Bool, true, false, List, [], ◌∷◌, length, get_or, set, replicate, refl, sym, ap, ap₂, ◌∙◌, subst, arith, inl, inr}
use Rattle.std.specs.Prelude.{if◌then◌else◌, ◌==◌, ◌&&◌, filter, map, cond}
use Rattle.std.specs.Str.{bytes_eq}
use Rattle.std.proofs.lemmas.Bool.{cases_Bool}
use Rattle.std.proofs.lemmas.Int.{ints}
use Rattle.std.proofs.Math.Bool.{and-false}
use Rattle.theory_polynomial.specs.Polynomial.{Monomial, monomial, AreSame, IsPolynomial, IsSplit, IsLinearIn, IsFreeOf, coefficient_at, exponent_of, product_of, powers_of_product, symbol_of, no_powers, sum_of}
use Rattle.theory_polynomial.specs.PolynomialValue.{part_of, slope_in, base_in}
use Rattle.theory_polynomial.proofs.FixedOrder.{polynomial_unique}
use Rattle.theory_polynomial.proofs.CoefficientLaws.{same_turned}
use Rattle.theory_elimination.proofs.PartLaws.{part_is_polynomial}

eq_means : (m n : ℕ) → (m == n) ≡ true → m ≡ n
eq_means m n h = grind arith

apart_means : (m n : ℕ) → (m == n) ≡ false → m ≡ n → ⊥
apart_means m n h e = grind (arith, h, e)

eq_holds : (m n : ℕ) → m ≡ n → (m == n) ≡ true
eq_holds m n h = grind (arith, h)

eq_fails : (m n : ℕ) → (m ≡ n → ⊥) → (m == n) ≡ false
eq_fails m n h = grind (arith, h)

-- the part behind a term: with the term, if it has the exponent
abbrev part_if : Bool → ℕ → ℕ → Monomial → List Monomial → List Monomial
part_if b x k t ts = map (λ t. monomial t.coefficient (set t.powers x 0))
    (cond b (t ∷ filter (λ t. exponent_of x t == k) ts) (filter (λ t. exponent_of x t == k) ts))

part_taken : (x k : ℕ) (t : Monomial) (ts : List Monomial) → exponent_of x t ≡ k
    → part_of x k (t ∷ ts) ≡ monomial t.coefficient (set t.powers x 0) ∷ part_of x k ts
part_taken x k t ts h = ap (λ b. part_if b x k t ts) (eq_holds (exponent_of x t) k h)

part_left : (x k : ℕ) (t : Monomial) (ts : List Monomial) → (exponent_of x t ≡ k → ⊥) → part_of x k (t ∷ ts) ≡ part_of x k ts
part_left x k t ts h = ap (λ b. part_if b x k t ts) (eq_fails (exponent_of x t) k h)

-- each term has a place for the symbol
abbrev AreLong : ℕ → List Monomial → Type 0
AreLong x [] = Unit {0}
AreLong x (t ∷ ts) = (x < length t.powers) × AreLong x ts

-- an exponent list that is put to 0 at a place is this one where that is 0 there and the list is this one with the exponent
put_back : (x k : ℕ) (f e : List ℕ) → x < length f → get_or f x 0 ≡ k → get_or e x 0 ≡ 0 → bytes_eq (set f x 0) e ≡ bytes_eq f (set e x k)
put_back x k [] e l h z = absurd (omega (arith, l))
put_back zero k (m ∷ f) [] l h z = refl
put_back (suc x) k (m ∷ f) [] l h z = refl
put_back zero k (m ∷ f) (n ∷ e) l h z =
    ap (λ b. b && bytes_eq f e) (eq_holds 0 n (sym z) ∙ sym (eq_holds m k h))
put_back (suc x) k (m ∷ f) (n ∷ e) l h z = ap (λ b. (m == n) && b) (put_back x k f e (omega (arith, l)) h z)

other_exponent : (x k : ℕ) (f e : List ℕ) → x < length f → (get_or f x 0 ≡ k → ⊥) → bytes_eq f (set e x k) ≡ false
other_exponent x k [] e l h = absurd (omega (arith, l))
other_exponent zero k (m ∷ f) [] l h = refl
other_exponent (suc x) k (m ∷ f) [] l h = refl
other_exponent zero k (m ∷ f) (n ∷ e) l h = ap (λ b. b && bytes_eq f e) (eq_fails m k h)
other_exponent (suc x) k (m ∷ f) (n ∷ e) l h = ap (λ b. (m == n) && b) (other_exponent x k f e (omega (arith, l)) h) ∙ and-false (m == n)

no_exponent : (x : ℕ) (f e : List ℕ) → x < length f → (get_or e x 0 ≡ 0 → ⊥) → bytes_eq (set f x 0) e ≡ false
no_exponent x [] e l h = absurd (omega (arith, l))
no_exponent zero (m ∷ f) [] l h = refl
no_exponent (suc x) (m ∷ f) [] l h = refl
no_exponent zero (m ∷ f) (n ∷ e) l h = ap (λ b. b && bytes_eq f e) (eq_fails 0 n (λ q. h (sym q)))
no_exponent (suc x) (m ∷ f) (n ∷ e) l h = ap (λ b. (m == n) && b) (no_exponent x f e (omega (arith, l)) h) ∙ and-false (m == n)

-- the coefficients of a part are those of the terms with the exponent
zero_plus : (c d : ℤ) → c ≡ pos 0 → d ≡ c +ℤ d
zero_plus c d h = omega (arith, ints, h)

if_false : (c : ℤ) (b : Bool) → b ≡ false → (if b then c else pos 0) ≡ pos 0
if_false c b h = ap (λ x. if x then c else pos 0) h

part_at : (x k : ℕ) (ts : List Monomial) (e : List ℕ) → AreLong x ts → get_or e x 0 ≡ 0
    → coefficient_at (part_of x k ts) e ≡ coefficient_at ts (set e x k)
part_at x k [] e l z = refl
part_at x k (t ∷ ts) e l z =
    elim (cases_Bool (exponent_of x t == k)) [
      | inl own ↦
          let is : exponent_of x t ≡ k = eq_means (exponent_of x t) k own in
          ap (λ us. coefficient_at us e) (part_taken x k t ts is)
          ∙ ap₂ ◌+ℤ◌ (ap (λ b. if b then t.coefficient else pos 0) (put_back x k t.powers e l.0 is z)) (part_at x k ts e l.1 z)
      | inr apart ↦
          let other : exponent_of x t ≡ k → ⊥ = apart_means (exponent_of x t) k apart in
          let first : ℤ = if bytes_eq t.powers (set e x k) then t.coefficient else pos 0 in
          let none : first ≡ pos 0 = if_false t.coefficient (bytes_eq t.powers (set e x k)) (other_exponent x k t.powers e l.0 other) in
          ap (λ us. coefficient_at us e) (part_left x k t ts other) ∙ part_at x k ts e l.1 z ∙ zero_plus first (coefficient_at ts (set e x k)) none
    ]

part_nowhere : (x k : ℕ) (ts : List Monomial) (e : List ℕ) → AreLong x ts → (get_or e x 0 ≡ 0 → ⊥) → coefficient_at (part_of x k ts) e ≡ pos 0
part_nowhere x k [] e l z = refl
part_nowhere x k (t ∷ ts) e l z =
    elim (cases_Bool (exponent_of x t == k)) [
      | inl own ↦
          let is : exponent_of x t ≡ k = eq_means (exponent_of x t) k own in
          let first : ℤ = if bytes_eq (set t.powers x 0) e then t.coefficient else pos 0 in
          let none : first ≡ pos 0 = if_false t.coefficient (bytes_eq (set t.powers x 0) e) (no_exponent x t.powers e l.0 z) in
          ap (λ us. coefficient_at us e) (part_taken x k t ts is)
          ∙ sym (zero_plus first (coefficient_at (part_of x k ts) e) none) ∙ part_nowhere x k ts e l.1 z
      | inr apart ↦
          ap (λ us. coefficient_at us e) (part_left x k t ts (apart_means (exponent_of x t) k apart)) ∙ part_nowhere x k ts e l.1 z
    ]

-- parts of the same are the same
same_parts : (x k : ℕ) (ts us : List Monomial) → AreLong x ts → AreLong x us → AreSame ts us → AreSame (part_of x k ts) (part_of x k us)
same_parts x k ts us l m same = record {
  at = λ e.
      elim (cases_Bool (get_or e x 0 == 0)) [
        | inl none ↦
            let is : get_or e x 0 ≡ 0 = eq_means (get_or e x 0) 0 none in
            part_at x k ts e l is ∙ same.at (set e x k) ∙ sym (part_at x k us e m is)
        | inr some ↦
            let is : get_or e x 0 ≡ 0 → ⊥ = apart_means (get_or e x 0) 0 some in
            part_nowhere x k ts e l is ∙ sym (part_nowhere x k us e m is)
      ];
}

-- an exponent list times the symbol
plus_nothing : (e : List ℕ) (n : ℕ) → length e ≡ n → powers_of_product e (replicate n 0) ≡ e
plus_nothing [] n h = ap (λ m. replicate m 0) (sym h)
plus_nothing (m ∷ e) zero h = absurd (omega (arith, h))
plus_nothing (m ∷ e) (suc n) h =
    let same : m + 0 ≡ m = omega arith in
    ap₂ (λ (k : ℕ) (f : List ℕ). k ∷ f) same (plus_nothing e n (omega (arith, h)))

raised : (e : List ℕ) (x n : ℕ) → length e ≡ n → x < n → get_or e x 0 ≡ 0 → get_or (powers_of_product e (set (replicate n 0) x 1)) x 0 ≡ 1
raised [] x n h l z = absurd (omega (arith, h, l))
raised (m ∷ e) x zero h l z = absurd (omega (arith, l))
raised (m ∷ e) zero (suc n) h l z = omega (arith, z)
raised (m ∷ e) (suc x) (suc n) h l z = raised e x n (omega (arith, h)) (omega (arith, l)) z

put_down : (e : List ℕ) (x n : ℕ) → length e ≡ n → x < n → get_or e x 0 ≡ 0 → set (powers_of_product e (set (replicate n 0) x 1)) x 0 ≡ e
put_down [] x n h l z = absurd (omega (arith, h, l))
put_down (m ∷ e) x zero h l z = absurd (omega (arith, l))
put_down (m ∷ e) zero (suc n) h l z = ap₂ (λ (k : ℕ) (f : List ℕ). k ∷ f) (sym z) (plus_nothing e n (omega (arith, h)))
put_down (m ∷ e) (suc x) (suc n) h l z =
    let same : m + 0 ≡ m = omega arith in
    ap₂ (λ (k : ℕ) (f : List ℕ). k ∷ f) same (put_down e x n (omega (arith, h)) (omega (arith, l)) z)

no_shorter : (e f : List ℕ) → length e ≤ length (powers_of_product e f)
no_shorter [] f = omega arith
no_shorter (m ∷ e) [] = omega arith
no_shorter (m ∷ e) (n ∷ f) = let rest = no_shorter e f in omega (arith, rest)

-- the line with this slope and base, and its terms
abbrev line : ℕ → List Monomial → List Monomial → List Monomial
line x a b = sum_of (product_of a (symbol_of x)) b

polynomial_is_long : (x : ℕ) (ts : List Monomial) → x < 32 → IsPolynomial ts → AreLong x ts
polynomial_is_long x [] l h = tt
polynomial_is_long x (t ∷ ts) l h = let places = h.0.places in (omega (arith, l, places), polynomial_is_long x ts l h.2)

line_is_long : (x : ℕ) (a b : List Monomial) → x < 32 → IsPolynomial a → IsPolynomial b → AreLong x (line x a b)
line_is_long x [] b l h k = polynomial_is_long x b l k
line_is_long x (t ∷ a) b l h k =
    let places = h.0.places in
    let longer = no_shorter t.powers (set no_powers x 1) in
    (omega (arith, l, places, longer), line_is_long x a b l h.2 k)

-- its parts are slope and base
times_one : (c : ℤ) → c *ℤ pos 1 ≡ c
times_one c = omega (arith, ints)

free_first : (x : ℕ) (t : Monomial) (ts : List Monomial) → IsFreeOf x (t ∷ ts) → exponent_of x t ≡ 0
free_first x t ts f = omega (arith, f)

free_rest : (x : ℕ) (t : Monomial) (ts : List Monomial) → IsFreeOf x (t ∷ ts) → IsFreeOf x ts
free_rest x t ts f = omega (arith, f)

set_nothing : (e : List ℕ) (x : ℕ) → get_or e x 0 ≡ 0 → set e x 0 ≡ e
set_nothing [] x h = refl
set_nothing (n ∷ e) zero h = ap (λ m. m ∷ e) (sym h)
set_nothing (n ∷ e) (suc x) h = ap (λ f. n ∷ f) (set_nothing e x h)

not_one_but_none : (n : ℕ) → n ≡ 0 → n ≡ 1 → ⊥
not_one_but_none n h k = absurd (omega (arith, h, k))

not_none_but_one : (n : ℕ) → n ≡ 1 → n ≡ 0 → ⊥
not_none_but_one n h k = absurd (omega (arith, h, k))

free_has_no_slope : (x : ℕ) (ts : List Monomial) → IsFreeOf x ts → part_of x 1 ts ≡ []
free_has_no_slope x [] f = refl
free_has_no_slope x (t ∷ ts) f =
    part_left x 1 t ts (not_one_but_none (exponent_of x t) (free_first x t ts f)) ∙ free_has_no_slope x ts (free_rest x t ts f)

free_is_base : (x : ℕ) (ts : List Monomial) → IsFreeOf x ts → part_of x 0 ts ≡ ts
free_is_base x [] f = refl
free_is_base x (t ∷ ts) f =
    let none : exponent_of x t ≡ 0 = free_first x t ts f in
    part_taken x 0 t ts none
    ∙ ap₂ (λ (u : Monomial) (us : List Monomial). u ∷ us) (ap (monomial t.coefficient) (set_nothing t.powers x none))
    (free_is_base x ts (free_rest x t ts f))

abbrev with_symbol : ℕ → Monomial → Monomial
with_symbol x t = monomial (t.coefficient *ℤ pos 1) (powers_of_product t.powers (set no_powers x 1))

slope_of_line : (x : ℕ) (a b : List Monomial) → x < 32 → IsPolynomial a → IsFreeOf x a → IsFreeOf x b → part_of x 1 (line x a b) ≡ a
slope_of_line x [] b l h f g = free_has_no_slope x b g
slope_of_line x (t ∷ a) b l h f g =
    let none : exponent_of x t ≡ 0 = free_first x t a f in
    part_taken x 1 (with_symbol x t) (line x a b) (raised t.powers x 32 h.0.places l none)
    ∙ ap₂ (λ (u : Monomial) (us : List Monomial). u ∷ us) (ap₂ monomial (times_one t.coefficient) (put_down t.powers x 32 h.0.places l none))
    (slope_of_line x a b l h.2 (free_rest x t a f) g)

base_of_line : (x : ℕ) (a b : List Monomial) → x < 32 → IsPolynomial a → IsFreeOf x a → IsFreeOf x b → part_of x 0 (line x a b) ≡ b
base_of_line x [] b l h f g = free_is_base x b g
base_of_line x (t ∷ a) b l h f g =
    let none : exponent_of x t ≡ 0 = free_first x t a f in
    part_left x 0 (with_symbol x t) (line x a b) (not_none_but_one (exponent_of x (with_symbol x t)) (raised t.powers x 32 h.0.places l none))
    ∙ base_of_line x a b l h.2 (free_rest x t a f) g

-- so they are the parts of the polynomial
pub split_is : (x : ℕ) (P a b : List Monomial) → x < 32 → IsPolynomial P → IsLinearIn x P → IsPolynomial a → IsPolynomial b → IsSplit x P a b
    → (a ≡ slope_in x P) × (b ≡ base_in x P)
split_is x P a b l h linear ha hb split =
    let whole : AreLong x P = polynomial_is_long x P l h in
    let parts : AreLong x (line x a b) = line_is_long x a b l ha hb in
    let back : AreSame (line x a b) P = same_turned P (line x a b) split.same in
    let slope : AreSame (part_of x 1 (line x a b)) (part_of x 1 P) = same_parts x 1 (line x a b) P parts whole back in
    let base : AreSame (part_of x 0 (line x a b)) (part_of x 0 P) = same_parts x 0 (line x a b) P parts whole back in
    let slope_is : part_of x 1 (line x a b) ≡ a = slope_of_line x a b l ha split.slope_free split.base_free in
    let base_is : part_of x 0 (line x a b) ≡ b = base_of_line x a b l ha split.slope_free split.base_free in (
      polynomial_unique a (part_of x 1 P) ha (part_is_polynomial x 1 P h) (subst (λ us. AreSame us (part_of x 1 P)) slope_is slope),
      polynomial_unique b (part_of x 0 P) hb (part_is_polynomial x 0 P h) (subst (λ us. AreSame us (part_of x 0 P)) base_is base),
    )
