-- What makes a list of lines no model: kinds of faults in their order, and the first line that has one.
use Rattle.std.specs.Prelude.{ℕ, Bool, true, false, not, ◌&&◌, ◌||◌, ◌==◌, nat_lt, List, [], ◌∷◌, ◌++◌, length, Option, Some, None, is_some, if◌then◌else◌}
use Rattle.std.specs.Bool.{beq}
use Rattle.std.specs.List.{list_any}
use Rattle.std.specs.Str.{bytes_eq}
use Rattle.theory_meaning.specs.declared.words.ModelKind.{ModelKind}
use Rattle.theory_meaning.specs.declared.words.ModelKind.TheVariants.{ModelLine, KeyTwice, UnknownName, BadArgument, NoShift, NotParam, TooManySymbols, TooManyLines, Memory}
use Rattle.theory_meaning.specs.Point.{Name}
use Rattle.theory_meaning.specs.Text.{Numbered}
use Rattle.theory_meaning.specs.Tree.{Line, model, function, equation, claim}
use Rattle.theory_meaning.specs.Declarations.{Declared, variable, parameter, function_of, key_of, or_else, declared_in, Use, itself, derivative, slope, use_of, symbols_of_line, named_by, listed_in}

-- the greatest number of listed symbols of a claim
abbrev pub most_symbols : ℕ
most_symbols = 32

-- the greatest number of lines of a model
abbrev pub most_lines : ℕ
most_lines = 200

-- a name is declared as a variable
abbrev pub is_variable : Option Declared → Bool
is_variable (Some variable) = true
is_variable _ = false

-- a name is declared as a parameter
abbrev pub is_parameter : Option Declared → Bool
is_parameter (Some parameter) = true
is_parameter _ = false

-- a name is declared as a function
abbrev pub is_function : Option Declared → Bool
is_function (Some (function_of us)) = true
is_function _ = false

-- a function with this argument
abbrev pub has_argument : Name → Option Declared → Bool
has_argument u (Some (function_of us)) = list_any (bytes_eq u) us
has_argument u _ = false

-- the line is a model line
abbrev pub is_model_line : Line → Bool
is_model_line (model n) = true
is_model_line _ = false

-- no line stands above
abbrev pub is_first : List Numbered → Bool
is_first [] = true
is_first _ = false

-- the key is this one
abbrev pub is_key : Name → Option Name → Bool
is_key key None = false
is_key key (Some other) = bytes_eq other key

-- a line has this key
abbrev pub has_key : Name → List Numbered → Bool
has_key key [] = false
has_key key (n ∷ ns) = is_key key (key_of n.line) || has_key key ns

-- a line above has the key of the line
abbrev pub has_same_key : Option Name → List Numbered → Bool
has_same_key None above = false
has_same_key (Some key) above = has_key key above

-- the name is declared nowhere
abbrev pub is_undeclared : List Numbered → Name → Bool
is_undeclared lines name = not (is_some (declared_in lines name))

-- a name in the use is declared nowhere; the letter before the dot of a derivative is no name
abbrev pub is_unknown_use : List Numbered → Use → Bool
is_unknown_use lines (itself x) = is_undeclared lines x
is_unknown_use lines (derivative x) = is_undeclared lines x
is_unknown_use lines (slope f u) = is_undeclared lines f || is_undeclared lines u

-- a derivative that isn't that of a variable, or a slope that isn't that of a function in one of its arguments
abbrev pub is_unfit_use : List Numbered → Use → Bool
is_unfit_use lines (itself x) = false
is_unfit_use lines (derivative x) = not (is_variable (declared_in lines x))
is_unfit_use lines (slope f u) = not (has_argument u (declared_in lines f))

-- the derivative of a variable is used
abbrev pub is_derivative_use : Use → Bool
is_derivative_use (derivative x) = true
is_derivative_use _ = false

-- the slope of a function is used
abbrev pub is_slope_use : Use → Bool
is_slope_use (slope f u) = true
is_slope_use _ = false

-- what a symbol uses is unknown
abbrev pub is_unknown : List Numbered → Name → Bool
is_unknown lines name = is_unknown_use lines (use_of name)

-- what a symbol uses is unfit
abbrev pub is_unfit : List Numbered → Name → Bool
is_unfit lines name = is_unfit_use lines (use_of name)

-- a symbol that stands for a derivative
abbrev pub is_derivative : Name → Bool
is_derivative name = is_derivative_use (use_of name)

-- a symbol that stands for a slope
abbrev pub is_slope : Name → Bool
is_slope name = is_slope_use (use_of name)

-- an argument is a function, or stands twice
abbrev pub has_bad_argument : List Numbered → List Name → Bool
has_bad_argument lines [] = false
has_bad_argument lines (u ∷ us) =
    is_function (declared_in lines u) || list_any (bytes_eq u) us || has_bad_argument lines us

-- a line of the text, with the lines above it, has a fault of this kind
abbrev pub has_fault : ModelKind → List Numbered → List Numbered → Line → Bool
has_fault ModelLine lines above line = beq (is_model_line line) (not (is_first above))
has_fault KeyTwice lines above line = has_same_key (key_of line) above
has_fault UnknownName lines above line =
    list_any (is_undeclared lines) (named_by line) || list_any (is_unknown lines) (symbols_of_line line)
has_fault BadArgument lines above (function f us) = has_bad_argument lines us
has_fault BadArgument lines above (equation label left right) =
    list_any (is_unfit lines) (symbols_of_line (equation label left right)) || list_any is_slope (symbols_of_line (equation label left right))
has_fault BadArgument lines above line = list_any (is_unfit lines) (symbols_of_line line)
has_fault NoShift lines above (claim label (Some t) c) = false
has_fault NoShift lines above line = list_any is_derivative (symbols_of_line line)
has_fault NotParam lines above (claim label (Some t) c) =
    is_some (declared_in lines t) && not (is_parameter (declared_in lines t))
has_fault NotParam lines above line = false
has_fault TooManySymbols lines above (claim label shift c) = nat_lt most_symbols (length (listed_in (is_some shift) lines))
has_fault TooManySymbols lines above line = false
has_fault TooManyLines lines above line = length above == most_lines
has_fault Memory lines above line = false

-- the number of the first line, below those above, that passes a test
abbrev pub first_that : (List Numbered → Line → Bool) → List Numbered → List Numbered → Option ℕ
first_that test above [] = None
first_that test above (n ∷ ns) = if test above n.line then Some n.at else first_that test (above ++ n ∷ []) ns

-- the number of the first line with a fault of this kind; that no line is there is a fault of line 1
abbrev pub line_with : ModelKind → List Numbered → Option ℕ
line_with ModelLine [] = Some 1
line_with kind lines = first_that (has_fault kind lines) [] lines

-- a fault: its kind and the number of its line
pub record ModelFault : Type 0 where
  pub kind : ModelKind
  pub at : ℕ

-- a fault of this kind in the line of this number, if there is one
abbrev pub fault_at : ModelKind → Option ℕ → Option ModelFault
fault_at kind None = None
fault_at kind (Some n) = Some (record { kind = kind; at = n })

-- the first of these kinds that some line has, at its first line
abbrev pub fault_among : List ModelKind → List Numbered → Option ModelFault
fault_among [] lines = None
fault_among (kind ∷ kinds) lines = or_else (fault_at kind (line_with kind lines)) (fault_among kinds lines)

-- the kinds in the order in which they are looked for
abbrev pub model_kinds : List ModelKind
model_kinds = ModelLine ∷ KeyTwice ∷ UnknownName ∷ BadArgument ∷ NoShift ∷ NotParam ∷ TooManySymbols ∷ TooManyLines ∷ []

-- the first fault of a list of lines
abbrev pub model_fault : List Numbered → Option ModelFault
model_fault lines = fault_among model_kinds lines
