-- An expression that tokens spell within all limits and in which nothing divides: its printed form opens no more signs than there is room for.
use Rattle.std.proofs.Common.{◌≡◌, ℕ, suc, ◌+◌, ◌/◌, ◌≤◌, ◌-◌, max, Bool, true, false, List, [], ◌∷◌, ◌++◌, pos, refl, ap, ◌∙◌, arith}
use Rattle.std.proofs.lemmas.Bool.{false≢true, ltb-true}
use Rattle.std.proofs.Math.Nat.{max-le}
use Rattle.theory_meaning.specs.Divisors.{divisors_of_expr}
use Rattle.theory_meaning.specs.Fraction.{whole}
use Rattle.theory_meaning.specs.Tree.{Expr}
use Rattle.theory_meaning.specs.Tree as plain
use Rattle.theory_grammar.specs.Opened.{one_more_unless, open_in_expr}
use Rattle.theory_grammar.specs.Printed.{is_term, is_factor, is_primary, is_power}
use Rattle.theory_grammar.specs.Spelled.{every, common_divisor, lowest, Level, sum, term, factor, power, primary, IsExpr, whole_number, identifier, dotted_name, bracket, one_primary, raised, one_power, fraction, negated, one_factor, times, divided, one_term, plus, minus}
use Rattle.theory_grammar.specs.Token.{Token}
use Rattle.theory_grammar.proofs.ExprLevels.{stands}
use Rattle.theory_grammar.proofs.PrintedExprs.{digit_first, natural}

-- two lists without an element
pub both_empty : {A : Type 0} (xs ys : List A) → xs ++ ys ≡ [] → (xs ≡ []) × (ys ≡ [])
both_empty [] ys h = (refl, h)
both_empty (x ∷ xs) ys h = absurd cc

pub not_empty : {A : Type 0} (xs : List A) (y : A) (ys : List A) → xs ++ y ∷ ys ≡ [] → ⊥
not_empty [] y ys h = cc
not_empty (x ∷ xs) y ys h = cc

-- both parts have room where each has
pub both_fit : (d m n : ℕ) → d + m ≤ 32 → d + n ≤ 32 → d + max m n ≤ 32
both_fit d m n h k =
    let a : m ≤ 32 - d = omega arith in
    let b : n ≤ 32 - d = omega arith in
    let c = max-le a b in
    omega arith

-- what stands at a level opens no more at a looser one
pub no_more : (s t : Bool) (n : ℕ) → (s ≡ true → t ≡ true) → one_more_unless t n ≤ one_more_unless s n
no_more true true n h = omega arith
no_more true false n h = absurd (false≢true (h refl))
no_more false true n h = omega arith
no_more false false n h = omega arith

-- and brackets are one sign at most
pub at_most_one : (t : Bool) (n : ℕ) → one_more_unless t n ≤ suc n
at_most_one true n = omega arith
at_most_one false n = omega arith

none_in_number : (a less : ℕ) → open_in_expr (plain.number (record { num = pos a; less = less })) ≡ 0
none_in_number a less = ap (λ (t : Bool). one_more_unless t 0) (digit_first a less)

none_in_lowest : (m n : ℕ) → open_in_expr (plain.number (lowest m n)) ≡ 0
unfolding lowest
none_in_lowest m n = none_in_number (m / common_divisor m n) (n / common_divisor m n - 1)

none_in_whole : (n : ℕ) → one_more_unless (is_primary (plain.number (whole (pos n)))) (open_in_expr (plain.number (whole (pos n)))) ≡ 0
none_in_whole n = ap (λ (t : Bool). one_more_unless t (open_in_expr (plain.number (whole (pos n))))) (natural n) ∙ none_in_number n 0

-- what stands at a level stands at the next looser one
primary_is_power : (x : Expr) → is_primary x ≡ true → is_power x ≡ true
primary_is_power (plain.number q) e = e
primary_is_power (plain.symbol y) e = refl
primary_is_power (plain.sum u v) e = e
primary_is_power (plain.difference u v) e = e
primary_is_power (plain.opposite u) e = e
primary_is_power (plain.product u v) e = e
primary_is_power (plain.quotient u v) e = e
primary_is_power (plain.power u n) e = refl

power_is_factor : (x : Expr) → is_power x ≡ true → is_factor x ≡ true
power_is_factor (plain.number q) e = refl
power_is_factor (plain.symbol y) e = refl
power_is_factor (plain.sum u v) e = e
power_is_factor (plain.difference u v) e = e
power_is_factor (plain.opposite u) e = refl
power_is_factor (plain.product u v) e = e
power_is_factor (plain.quotient u v) e = e
power_is_factor (plain.power u n) e = refl

factor_is_term : (x : Expr) → is_factor x ≡ true → is_term x ≡ true
factor_is_term (plain.number q) e = refl
factor_is_term (plain.symbol y) e = refl
factor_is_term (plain.sum u v) e = e
factor_is_term (plain.difference u v) e = e
factor_is_term (plain.opposite u) e = refl
factor_is_term (plain.product u v) e = refl
factor_is_term (plain.quotient u v) e = refl
factor_is_term (plain.power u n) e = refl

-- as many may be open behind d signs as there is room for
abbrev pub HasRoom : ℕ → Level → Expr → Type 0
HasRoom d L x = d + one_more_unless (stands L x) (open_in_expr x) ≤ 32

at_looser : (L M : Level) (d : ℕ) (x : Expr) → (stands L x ≡ true → stands M x ≡ true) → HasRoom d L x → HasRoom d M x
at_looser L M d x h k = let fewer = no_more (stands L x) (stands M x) (open_in_expr x) h in omega arith

pub opens_few : {L : Level} {ts : List Token} {x : Expr} (d : ℕ) → d ≤ 32 → IsExpr every L d ts x → divisors_of_expr x ≡ [] → HasRoom d L x
opens_few d h (whole_number {n = n}) none = let e = none_in_whole n in omega arith
opens_few d h (identifier) none = omega arith
opens_few d h (dotted_name) none = omega arith
opens_few d h (bracket {x = x} room k) none =
    let less = ltb-true d 32 room in
    let inner = opens_few (suc d) (omega arith) k none in
    let brackets = at_most_one (is_primary x) (open_in_expr x) in
    omega arith
opens_few d h (one_primary {x = x} k) none = at_looser primary power d x (primary_is_power x) (opens_few d h k none)
opens_few d h (raised fits k) none = opens_few d h k none
opens_few d h (one_power {x = x} k) none = at_looser power factor d x (power_is_factor x) (opens_few d h k none)
opens_few d h (fraction {m = m} {n = n} below) none = let e = none_in_lowest m n in omega arith
opens_few d h (negated room k) none =
    let less = ltb-true d 32 room in
    let inner = opens_few (suc d) (omega arith) k none in
    omega arith
opens_few d h (one_factor {x = x} k) none = at_looser factor term d x (factor_is_term x) (opens_few d h k none)
opens_few d h (times {x = x} {y = y} k l) none =
    let parts = both_empty (divisors_of_expr x) (divisors_of_expr y) none in
    both_fit d _ _ (opens_few d h k parts.0) (opens_few d h l parts.1)
opens_few d h (divided {x = x} {y = y} divides k l) none = absurd (not_empty (divisors_of_expr x) y (divisors_of_expr y) none)
opens_few d h (one_term {x = x} k) none = at_looser term sum d x (λ e. refl) (opens_few d h k none)
opens_few d h (plus {x = x} {y = y} k l) none =
    let parts = both_empty (divisors_of_expr x) (divisors_of_expr y) none in
    both_fit d _ _ (opens_few d h k parts.0) (opens_few d h l parts.1)
opens_few d h (minus {x = x} {y = y} k l) none =
    let parts = both_empty (divisors_of_expr x) (divisors_of_expr y) none in
    both_fit d _ _ (opens_few d h k parts.0) (opens_few d h l parts.1)
