-- Points: finite lists of names with fractions, where a name that isn't there has the value 0.
use Rattle.std.specs.Prelude.{◌≡◌, ℕ, pos, false, List, [], ◌∷◌, if◌then◌else◌}
use Rattle.std.specs.Str.{bytes_eq}
use Rattle.theory_meaning.specs.Fraction.{Fraction, whole}

-- the bytes of a name
abbrev pub Name : Type 0
Name = List ℕ

-- the name isn't listed
abbrev pub IsNew : Name → List Name → Type 0
IsNew n [] = Unit {0}
IsNew n (m ∷ ns) = (bytes_eq n m ≡ false) × IsNew n ns

-- each name is listed once
abbrev pub AreDistinct : List Name → Type 0
AreDistinct [] = Unit {0}
AreDistinct (n ∷ ns) = IsNew n ns × AreDistinct ns

-- names with their values
abbrev pub Point : Type 0
Point = List (Name × Fraction)

-- the value of a name: the first entry counts
abbrev pub value_at : Point → Name → Fraction
value_at [] name = whole (pos 0)
value_at (entry ∷ rest) name = if bytes_eq entry.0 name then entry.1 else value_at rest name

-- the point that gives this value to one name alone
abbrev pub only_at : Name → Fraction → Point
only_at name q = (name, q) ∷ []
