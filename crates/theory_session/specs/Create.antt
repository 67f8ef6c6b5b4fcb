-- The creation of a model: its name and its first version.
use Rattle.std.specs.Prelude.{ℕ, List, [], ◌∷◌}
use Rattle.theory_meaning.specs.Point.{Name}
use Rattle.theory_meaning.specs.Text.{Numbered}
use Rattle.theory_meaning.specs.Tree as tree
use Rattle.theory_meaning.specs.Tree.{Line}

-- the name of a model line
abbrev pub name_of_line : Line → Name
name_of_line (tree.model name) = name
name_of_line _ = []

-- the name that the line at the head gives
abbrev pub name_in : List Numbered → Name
name_in [] = []
name_in (n ∷ ns) = name_of_line n.line

-- the version of a model that was just created
abbrev pub first_version : ℕ
first_version = 1
