-- The rows of a desk: requests that were accepted, and the text that each left.
use Rattle.std.specs.Prelude.{ℕ, Bool, ◌==◌, ◌&&◌, ◌||◌, nat_le, List, length, map, IsTrue}
use Rattle.std.specs.List.{list_all}
use Rattle.theory_meaning.specs.Identifier.{is_letter, is_digit}
use Rattle.theory_meaning.specs.Point.{Name}
use Rattle.theory_meaning.specs.Text.{Numbered}

-- an accepted request, as a keeper holds it: the format of its body, the model, the version that it made and the one before it,
-- the id under which it was sent, and its body as it was sent
pub record Row : Type 0 where
  pub format : ℕ
  pub model : Name
  pub version : ℕ
  pub base : ℕ
  pub id : Name
  pub body : List ℕ

-- a version: the row that made it, and the lines of its text
pub record Entry : Type 0 where
  pub row : Row
  pub lines : List Numbered

-- the rows of versions
abbrev pub rows_of : List Entry → List Row
rows_of = map (λ e. e.row)

-- the format in which requests are accepted now
abbrev pub present_format : ℕ
present_format = 2

-- a byte of a request's id
abbrev pub is_id_byte : ℕ → Bool
is_id_byte b = is_letter b || is_digit b || (b == 45) || (b == 95)

-- 1 to 64 letters, digits, hyphens and underlines
abbrev pub is_request_id : Name → Bool
is_request_id id = nat_le 1 (length id) && nat_le (length id) 64 && list_all is_id_byte id

-- the same as a fact
abbrev pub IsRequestId : Name → Type 0
IsRequestId id = IsTrue (is_request_id id)
