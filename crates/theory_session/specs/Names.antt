-- The names on which a condition is wanted.
use Rattle.std.specs.Prelude.{ℕ, not, List, [], ◌∷◌, ◌+◌, Option, None, Some, if◌then◌else◌, filter}
use Rattle.std.specs.List.{list_any}
use Rattle.std.specs.Str.{bytes_eq}
use Rattle.theory_meaning.specs.Point.{Name}

-- the names, each where it stands first
abbrev pub each_once : List Name → List Name
each_once [] = []
each_once (n ∷ ns) = n ∷ filter (λ m. not (bytes_eq m n)) (each_once ns)

-- the place of the first name that isn't listed; the first of the names has this place
abbrev pub unlisted_from : ℕ → List Name → List Name → Option ℕ
unlisted_from k listed [] = None
unlisted_from k listed (n ∷ ns) = if list_any (bytes_eq n) listed then unlisted_from (k + 1) listed ns else Some k

-- the same with the first of the names at place 1
abbrev pub first_unlisted : List Name → List Name → Option ℕ
first_unlisted listed ns = unlisted_from 1 listed ns
