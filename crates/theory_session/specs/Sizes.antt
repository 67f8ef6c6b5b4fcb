-- The bytes that versions count, and the limits of a desk.
use Rattle.std.specs.Prelude.{ℕ, ◌+◌, List, [], ◌∷◌, length}
use Rattle.theory_meaning.specs.Edit.{lines_alone}
use Rattle.theory_grammar.specs.Printed.{text_of}
use Rattle.theory_session.specs.Row.{Entry}

-- the printed text of a version
abbrev pub printed : Entry → List ℕ
printed e = text_of (lines_alone e.lines)

-- the bytes that a version counts: those of its body and of its printed text
abbrev pub size_of : Entry → ℕ
size_of e = length e.row.body + length (printed e)

-- the bytes that all versions count
abbrev pub size_in : List Entry → ℕ
size_in [] = 0
size_in (e ∷ es) = size_of e + size_in es

-- the greatest number of models
abbrev pub most_models : ℕ
most_models = 1000

-- the greatest number of versions of a model
abbrev pub most_versions : ℕ
most_versions = 10000

-- the greatest number of bytes that are counted
abbrev pub most_bytes : ℕ
most_bytes = 67108864
