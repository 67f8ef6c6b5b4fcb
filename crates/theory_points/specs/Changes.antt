-- What a change of a point does.
use Rattle.std.specs.Prelude.{◌≡◌, ◌≢◌, ℕ, Option}
use Rattle.std.specs.List.{position_from}
use Rattle.std.specs.Str.{bytes_eq}
use Rattle.theory_meaning.specs.Fraction.{Fraction}
use Rattle.theory_meaning.specs.Point.{Name, Point, value_at}

-- the place of the first entry of a name
abbrev pub place_in : Point → Name → Option ℕ
place_in entries name = position_from (λ entry. bytes_eq entry.0 name) 0 entries

-- the name has this value, and every other name the value that it had
pub record SetsValue (old new : Point) (name : Name) (value : Fraction) : Type 0 where
  pub changed : value_at new name ≡ value
  pub others : (other : Name) → other ≢ name → value_at new other ≡ value_at old other
