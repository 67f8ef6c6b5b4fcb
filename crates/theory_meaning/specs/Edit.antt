-- Changes of the lines of a model by operations in order, and models that are checked.
use Rattle.std.specs.Prelude.{◌≡◌, ℕ, ◌+◌, Bool, false, ◌||◌, List, [], ◌∷◌, map, Option, Some, None, Result, Ok, Err, if◌then◌else◌}
use Rattle.std.specs.List.{AllByRecursion}
use Rattle.theory_meaning.specs.Identifier.{IsIdentifier}
use Rattle.theory_meaning.specs.Point.{Name}
use Rattle.theory_meaning.specs.Text.{Numbered, Op, put_line, drop_key}
use Rattle.theory_meaning.specs.Tree.{Line, model, var, param, function, equation, assume, claim}
use Rattle.theory_meaning.specs.Declarations.{key_of}
use Rattle.theory_meaning.specs.ModelFault.{ModelFault, is_key, model_fault}

-- the names that a line declares, its label, its arguments and its shift
abbrev pub names_of : Line → List Name
names_of (model n) = n ∷ []
names_of (var x) = x ∷ []
names_of (param t) = t ∷ []
names_of (function f us) = f ∷ us
names_of (equation label u v) = label ∷ []
names_of (assume label c) = label ∷ []
names_of (claim label None c) = label ∷ []
names_of (claim label (Some t) c) = label ∷ t ∷ []

-- each of these is an identifier, as in every line that was read
abbrev pub HasIdentifiers : Line → Type 0
HasIdentifiers line = AllByRecursion IsIdentifier (names_of line)

-- so it is in each of the lines
abbrev pub HaveIdentifiers : List Numbered → Type 0
HaveIdentifiers lines = AllByRecursion (λ n. HasIdentifiers n.line) lines

-- a checked model: names are identifiers, and no kind of fault applies
pub record IsModel (lines : List Numbered) : Type 0 where
  pub identifiers : HaveIdentifiers lines
  pub faultless : model_fault lines ≡ None

-- some line has this key
abbrev pub is_keyed : Name → List Line → Bool
is_keyed key [] = false
is_keyed key (line ∷ lines) = is_key key (key_of line) || is_keyed key lines

-- the line stands in the place of the first with this key, or at the end
abbrev pub with_line : Name → Line → List Line → List Line
with_line key new [] = new ∷ []
with_line key new (line ∷ lines) = if is_key key (key_of line) then new ∷ lines else line ∷ with_line key new lines

-- the first line with this key is gone
abbrev pub without_key : Name → List Line → List Line
without_key key [] = []
without_key key (line ∷ lines) = if is_key key (key_of line) then lines else line ∷ without_key key lines

-- why an edit is refused: an operation of this number, or what the changed lines are
pub data EditFault : Type 0 where
  unknown_key : ℕ → EditFault
  model_line : ℕ → EditFault
  after : ModelFault → EditFault

-- a line is put under its key; a model line has none, and is refused
abbrev pub put_under : ℕ → Option Name → Line → List Line → Result (List Line) EditFault
put_under n None new lines = Err (model_line n)
put_under n (Some key) new lines = Ok (with_line key new lines)

-- the lines after the operation of this number, or why it is refused
abbrev pub lines_after : ℕ → Op → List Line → Result (List Line) EditFault
lines_after n (put_line new) lines = put_under n (key_of new) new lines
lines_after n (drop_key key) lines = if is_keyed key lines then Ok (without_key key lines) else Err (unknown_key n)

-- what comes of the lines, where there are some
abbrev pub and_then : Result (List Line) EditFault → (List Line → Result (List Line) EditFault) → Result (List Line) EditFault
and_then (Ok lines) next = next lines
and_then (Err fault) next = Err fault

-- the lines after the operations in order, of which the first has this number, or the first refusal
abbrev pub changed_lines : ℕ → List Op → List Line → Result (List Line) EditFault
changed_lines n [] lines = Ok lines
changed_lines n (op ∷ ops) lines = and_then (lines_after n op lines) (changed_lines (n + 1) ops)

-- lines numbered by their place, the first with this number
abbrev pub numbered_from : ℕ → List Line → List Numbered
numbered_from n [] = []
numbered_from n (line ∷ lines) = record { at = n; line = line } ∷ numbered_from (n + 1) lines

-- the lines alone
abbrev pub lines_alone : List Numbered → List Line
lines_alone = map (λ n. n.line)

-- the names of the lines that are put are identifiers
abbrev pub PutsIdentifiers : List Op → Type 0
PutsIdentifiers [] = Unit {0}
PutsIdentifiers (put_line line ∷ ops) = HasIdentifiers line × PutsIdentifiers ops
PutsIdentifiers (drop_key key ∷ ops) = PutsIdentifiers ops

-- these lines, or the fault that they have
abbrev pub unless_fault : Option ModelFault → List Numbered → Result (List Numbered) EditFault
unless_fault None lines = Ok lines
unless_fault (Some fault) lines = Err (after fault)

-- the model of these lines, numbered by their place, or why there is none
abbrev pub model_of : Result (List Line) EditFault → Result (List Numbered) EditFault
model_of (Ok lines) = unless_fault (model_fault (numbered_from 1 lines)) (numbered_from 1 lines)
model_of (Err fault) = Err fault

-- the lines of a model after the operations in order, numbered by their place, or why the edit is refused
abbrev pub edited : List Op → List Numbered → Result (List Numbered) EditFault
edited ops lines = model_of (changed_lines 1 ops (lines_alone lines))
