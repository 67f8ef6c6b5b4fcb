-- The greatest absolute value of the coefficients, and the greatest exponent.
use Rattle.std.proofs.Common.{◌≡◌, ℕ, zero, suc, ◌+◌, ◌<◌, ◌≤◌, pos, List, [], ◌∷◌, ◌++◌, length, get_or, take, max, ap, ◌∙◌, arith, unsigned_abs}
use Rattle.std.proofs.lemmas.List.{take_more}
use Rattle.theory_polynomial.specs.Polynomial.{Monomial, monomial, height_of, greatest_of, greatest_exponent_of}

-- the default of a read
abbrev pub nothing : Monomial
nothing = monomial (pos 0) []

-- no coefficient is greater
pub height_at : (ts : List Monomial) (i : ℕ) (d : Monomial) → i < length ts → unsigned_abs (get_or ts i d).coefficient ≤ height_of ts
height_at [] i d h = absurd (omega arith)
height_at (t ∷ ts) zero d h = omega arith
height_at (t ∷ ts) (suc i) d h = let k : i < length ts = omega arith in let r = height_at ts i d k in omega (arith, r)

-- nor an exponent
pub exponent_at : (ts : List Monomial) (i : ℕ) (d : Monomial) → i < length ts → greatest_of (get_or ts i d).powers ≤ greatest_exponent_of ts
exponent_at [] i d h = absurd (omega arith)
exponent_at (t ∷ ts) zero d h = omega arith
exponent_at (t ∷ ts) (suc i) d h = let k : i < length ts = omega arith in let r = exponent_at ts i d k in omega (arith, r)

-- one more term
height-push : (ts : List Monomial) (t : Monomial) → height_of (ts ++ t ∷ []) ≡ max (height_of ts) (unsigned_abs t.coefficient)
height-push [] t = omega arith
height-push (u ∷ ts) t = let r = height-push ts t in omega (arith, r)

exponents-push : (ts : List Monomial) (t : Monomial) → greatest_exponent_of (ts ++ t ∷ []) ≡ max (greatest_exponent_of ts) (greatest_of t.powers)
exponents-push [] t = omega arith
exponents-push (u ∷ ts) t = let r = exponents-push ts t in omega (arith, r)

pub height_more : (ts : List Monomial) (i n : ℕ) (d : Monomial) → i < length ts → height_of (take i ts) ≤ n → unsigned_abs (get_or ts i d).coefficient ≤ n
    → height_of (take (i + 1) ts) ≤ n
height_more ts i n d h k l =
    let more = ap height_of (take_more ts i d h) ∙ height-push (take i ts) (get_or ts i d) in omega (arith, more)

pub exponents_more : (ts : List Monomial) (i n : ℕ) (d : Monomial) → i < length ts → greatest_exponent_of (take i ts) ≤ n →
    greatest_of (get_or ts i d).powers ≤ n
    → greatest_exponent_of (take (i + 1) ts) ≤ n
exponents_more ts i n d h k l =
    let more = ap greatest_exponent_of (take_more ts i d h) ∙ exponents-push (take i ts) (get_or ts i d) in omega (arith, more)
