-- What a version is called, and the bytes that are counted with it.
use Rattle.std.specs.Prelude.{◌≡◌, ℕ, ◌+◌, ◌≤◌, ◌<◌, Option, None, Some}
use Rattle.theory_session.specs.Row as plain
use Rattle.theory_session.specs.Sizes.{size_of, most_bytes}
use Rattle.theory_versions.specs.declared.judged.Made.{Made}

-- the model and the number of this version
pub record IsMadeOf (e : plain.Entry) (m : Made) : Type 0 where
  pub model : m.model ≡ e.row.model
  pub version : m.version ≡ e.row.version

-- the bytes that are counted with one version more, or none where they pass the limit
abbrev pub IsGrown : ℕ → plain.Entry → Option ℕ → Type 0
IsGrown size e (Some n) = (n ≡ size + size_of e) × (size < n) × (n ≤ most_bytes)
IsGrown size e None = most_bytes < size + size_of e
