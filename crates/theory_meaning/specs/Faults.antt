-- Counts of faults of the ends that a program reads from and writes to, and what a sink took.
use Rattle.std.specs.Prelude.{◌≡◌, ℕ, ◌+◌, ◌-◌, ◌^◌, ◌≤◌, min, List, ◌++◌, Option, Some, Result, Err}

-- one more, but the greatest number of 64 bits stands still
abbrev pub one_more : ℕ → ℕ
one_more n = min (n + 1) (2 ^ 64 - 1)

-- the count rose, or stands at the greatest number of 64 bits
abbrev pub Rose : ℕ → ℕ → Type 0
Rose before now = one_more before ≤ now

-- the count never falls, and this error comes only where it rose
pub record HasCause {T E : Type 0} (fault : E) (before now : ℕ) (result : Result T E) : Type 0 where
  pub later : before ≤ now
  pub cause : result ≡ Err fault → Rose before now

-- the bytes are a beginning of a list
abbrev pub Begins : List ℕ → List ℕ → Type 0
Begins front all = (rest : List ℕ) × (front ++ rest ≡ all)

-- where it is told what a sink holds, it took the whole piece
abbrev pub Took : Option (List ℕ) → Option (List ℕ) → List ℕ → Type 0
Took old new piece = (held : List ℕ) → old ≡ Some held → new ≡ Some (held ++ piece)

-- where it is told what a sink holds, it took a beginning of the piece
abbrev pub TookPart : Option (List ℕ) → Option (List ℕ) → List ℕ → Type 0
TookPart old new piece =
    (held : List ℕ) → old ≡ Some held → (front : List ℕ) × Begins front piece × (new ≡ Some (held ++ front))
