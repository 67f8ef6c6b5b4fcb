-- The keys of lines and what names are declared as, in the types of the code.
use Rattle.std.specs.Prelude.{◌≡◌, ℕ, List, [], ◌∷◌, Option, Some, None, option_map, is_some, true, Result, Ok, Err, suc, if◌then◌else◌}
use Rattle.std.specs.Borrow.{Bor}
use Rattle.std.specs.Ordering.{nat_cmp}
use Rattle.std.specs.Cmp.Lexicographic.{slice_cmp}
use Rattle.std.specs.BTreeMap.{BTreeMap, get_by}
use Rattle.theory_meaning.specs.Declarations as plain
use Rattle.theory_meaning.specs.Declarations.{key_of, kind_in, declaration_of, declared_in}
use Rattle.theory_meaning.specs.ModelFault.{is_key, line_with}
use Rattle.theory_meaning.specs.declared.words.ModelKind.TheVariants.{KeyTwice}
use Rattle.theory_meaning.specs.Point.{Name}
use Rattle.theory_meaning.specs.Text as text
use Rattle.theory_model.specs.declared.keys.Declared.{Declared}
use Rattle.theory_model.specs.declared.keys.Declared.TheVariants.{Variable, Parameter, Function}
use Rattle.theory_model.specs.declared.keys.KeysFault.{KeysFault}
use Rattle.theory_model.specs.declared.keys.KeysFault.TheVariants.{Twice, NoMemory}

-- what a name is declared as
abbrev pub declared_of : Declared → plain.Declared
declared_of Variable = plain.variable
declared_of Parameter = plain.parameter
declared_of (Function arguments) = plain.function_of arguments.now

-- the place of the first line with this key
abbrev pub place_of_key : Name → List text.Numbered → Option ℕ
place_of_key name [] = None
place_of_key name (n ∷ ns) = if is_key name (key_of n.line) then Some 0 else option_map suc (place_of_key name ns)

-- no line has the key of a line above it
abbrev pub AreDistinct : List text.Numbered → Type 0
AreDistinct lines = line_with KeyTwice lines ≡ None

-- the place that is held for a key
abbrev pub place_in : BTreeMap (Bor (List ℕ)) ℕ → Name → Option ℕ
place_in places q = get_by (λ k. slice_cmp nat_cmp q k.now) places

-- each key is held with the place of its first line
abbrev pub HoldsPlaces : BTreeMap (Bor (List ℕ)) ℕ → List text.Numbered → Type 0
HoldsPlaces places lines = (q : Name) → place_in places q ≡ place_of_key q lines

-- why the keys aren't held: the first line whose key stands above it
abbrev pub IsKeysFault : List text.Numbered → KeysFault → Type 0
IsKeysFault lines (Twice at) = line_with KeyTwice lines ≡ Some at
IsKeysFault lines NoMemory = Unit {0}

-- the key of the line is held already
abbrev pub IsHeld : (Name → Option ℕ) → Option Name → Type 0
IsHeld held None = ⊥
IsHeld held (Some key) = is_some (held key) ≡ true

-- the key of the line, if any, wasn't held and now is, with this place, and no other key changed; or it was held
abbrev pub HoldsKey : (Name → Option ℕ) → (Name → Option ℕ) → ℕ → text.Numbered → Result (Unit {0}) KeysFault → Type 0
HoldsKey held held' k n (Ok _) =
    ¬ IsHeld held (key_of n.line) × ((q : Name) → held' q ≡ (if is_key q (key_of n.line) then Some k else held q))
HoldsKey held held' k n (Err (Twice at)) = (at ≡ n.at) × IsHeld held (key_of n.line)
HoldsKey held held' k n (Err NoMemory) = Unit {0}
