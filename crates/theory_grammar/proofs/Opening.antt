-- Room for signs that open: where their number is limited, and where it isn't.
use Rattle.std.proofs.Common.{◌≡◌, ℕ, suc, ◌+◌, ◌≤◌, max, Bool, true, false, refl, arith}
use Rattle.std.proofs.lemmas.Bool.{lt-ltb}
use Rattle.std.proofs.Math.Nat.{le-max_left, le-max_right}
use Rattle.theory_grammar.specs.Spelled.{Limits, every, has_room}

-- the limits that count, with that of open signs or without it
abbrev pub limited : Bool → Limits
limited deep = record every { depth = deep }

-- behind d open signs n more may open
abbrev pub Fits : Bool → ℕ → ℕ → Type 0
Fits deep d n = deep ≡ true → d + n ≤ 32

-- one of them may
pub room : (deep : Bool) (d n : ℕ) → Fits deep d (suc n) → has_room (limited deep) d ≡ true
room true d n h = let k = h refl in lt-ltb d 32 (omega arith)
room false d n h = refl

-- and the others behind it
pub inside : (deep : Bool) (d n : ℕ) → Fits deep d (suc n) → Fits deep (suc d) n
inside deep d n h = λ e. let k = h e in omega arith

-- as many may open in each of two parts as in both
pub in_left : (deep : Bool) (d m n : ℕ) → Fits deep d (max m n) → Fits deep d m
in_left deep d m n h = λ e. let k = h e in let l = le-max_left m n in omega arith

pub in_right : (deep : Bool) (d m n : ℕ) → Fits deep d (max m n) → Fits deep d n
in_right deep d m n h = λ e. let k = h e in let l = le-max_right m n in omega arith
