-- What the lines of a model declare, the keys that they stand under, and the names that they use.
use Rattle.std.specs.Prelude.{Bool, false, is_some, ◌==◌, List, [], ◌∷◌, ◌++◌, map, Option, Some, None, option_map, if◌then◌else◌, codes}
use Rattle.std.specs.Str.{bytes_eq}
use Rattle.theory_meaning.specs.Point.{Name}
use Rattle.theory_meaning.specs.Text.{Numbered}
use Rattle.theory_meaning.specs.Tree.{Expr, number, symbol, sum, difference, opposite, product, power, quotient, Claim, Claims, always, never, atom, negation, conjunction, disjunction, implication, equivalence, none, more, Line, model, var, param, function, equation, assume, claim}

-- what a name is declared as; a function with its arguments
pub data Declared : Type 0 where
  variable : Declared
  parameter : Declared
  function_of : List Name → Declared

-- the name that a line declares, and as what
abbrev pub declaration_of : Line → Option (Name × Declared)
declaration_of (model n) = None
declaration_of (var x) = Some (x, variable)
declaration_of (param t) = Some (t, parameter)
declaration_of (function f us) = Some (f, function_of us)
declaration_of (equation label u v) = None
declaration_of (assume label c) = None
declaration_of (claim label shift c) = None

-- the name or label of a line; the model line has no key
abbrev pub key_of : Line → Option Name
key_of (model n) = None
key_of (var x) = Some x
key_of (param t) = Some t
key_of (function f us) = Some f
key_of (equation label u v) = Some label
key_of (assume label c) = Some label
key_of (claim label shift c) = Some label

-- what a line declares its key as
abbrev pub declared_as : Line → Option Declared
declared_as line = option_map (λ d. d.1) (declaration_of line)

-- what a name is declared as by a declaration, if it is of that name
abbrev pub kind_in : Name → Option (Name × Declared) → Option Declared
kind_in name None = None
kind_in name (Some found) = if bytes_eq found.0 name then Some found.1 else None

-- what the first of two finds, else what the second does
abbrev pub or_else : {T : Type 0} → Option T → Option T → Option T
or_else (Some x) y = Some x
or_else None y = y

-- what a name is declared as: by the first line that declares it
abbrev pub declared_in : List Numbered → Name → Option Declared
declared_in [] name = None
declared_in (n ∷ ns) name = or_else (kind_in name (declaration_of n.line)) (declared_in ns name)

-- what stands before the first dot, and what stands behind it
abbrev pub parts_of : Name → Option (Name × Name)
parts_of [] = None
parts_of (b ∷ bs) = if b == 46 then Some ([], bs) else option_map (λ p. (b ∷ p.0, p.1)) (parts_of bs)

-- a use of names: of one by itself, of a variable's derivative along the shift, of a function's slope in an argument
pub data Use : Type 0 where
  itself : Name → Use
  derivative : Name → Use
  slope : Name → Name → Use

-- the letter before the dot of a derivative
abbrev pub derivative_mark : Name
derivative_mark = codes "d"

-- what a symbol uses, by the parts before and behind its first dot
abbrev pub use_by_parts : Name → Option (Name × Name) → Use
use_by_parts name None = itself name
use_by_parts name (Some p) = if bytes_eq p.0 derivative_mark then derivative p.1 else slope p.0 p.1

-- what a symbol uses
abbrev pub use_of : Name → Use
use_of name = use_by_parts name (parts_of name)

-- the symbols that stand in an expression, from left to right
abbrev pub symbols_of_expr : Expr → List Name
symbols_of_expr (number q) = []
symbols_of_expr (symbol name) = name ∷ []
symbols_of_expr (sum u v) = symbols_of_expr u ++ symbols_of_expr v
symbols_of_expr (difference u v) = symbols_of_expr u ++ symbols_of_expr v
symbols_of_expr (opposite u) = symbols_of_expr u
symbols_of_expr (product u v) = symbols_of_expr u ++ symbols_of_expr v
symbols_of_expr (power u k) = symbols_of_expr u
symbols_of_expr (quotient u v) = symbols_of_expr u ++ symbols_of_expr v

-- the symbols that stand in a claim, and in claims
abbrev mutual
  pub symbols_of_claim : Claim → List Name
  symbols_of_claim always = []
  symbols_of_claim never = []
  symbols_of_claim (atom u rel v) = symbols_of_expr u ++ symbols_of_expr v
  symbols_of_claim (negation c) = symbols_of_claim c
  symbols_of_claim (conjunction cs) = symbols_of_claims cs
  symbols_of_claim (disjunction cs) = symbols_of_claims cs
  symbols_of_claim (implication a b) = symbols_of_claim a ++ symbols_of_claim b
  symbols_of_claim (equivalence a b) = symbols_of_claim a ++ symbols_of_claim b

  pub symbols_of_claims : Claims → List Name
  symbols_of_claims none = []
  symbols_of_claims (more c cs) = symbols_of_claim c ++ symbols_of_claims cs

-- the symbols that stand in the formulas of a line
abbrev pub symbols_of_line : Line → List Name
symbols_of_line (model n) = []
symbols_of_line (var x) = []
symbols_of_line (param t) = []
symbols_of_line (function f us) = []
symbols_of_line (equation label u v) = symbols_of_expr u ++ symbols_of_expr v
symbols_of_line (assume label c) = symbols_of_claim c
symbols_of_line (claim label shift c) = symbols_of_claim c

-- the shift that a line names, and the arguments
abbrev pub named_by : Line → List Name
named_by (function f us) = us
named_by (claim label (Some t) c) = t ∷ []
named_by _ = []

-- the listed symbols that a line declares; with a shift, variables have their derivatives too
abbrev pub listed_by : Bool → Line → List Name
listed_by shifted (var x) = x ∷ (if shifted then (derivative_mark ++ 46 ∷ x) ∷ [] else [])
listed_by shifted (param t) = t ∷ []
listed_by shifted (function f us) = f ∷ map (λ u. f ++ 46 ∷ u) us
listed_by shifted _ = []

-- the listed symbols, in the order of the declaring lines; they are listed also where they occur nowhere
abbrev pub listed_in : Bool → List Numbered → List Name
listed_in shifted [] = []
listed_in shifted (n ∷ ns) = listed_by shifted n.line ++ listed_in shifted ns

-- the claim of this label names a shift
abbrev pub shifted_by : Name → Line → Option Bool
shifted_by label (claim own shift c) = if bytes_eq own label then Some (is_some shift) else None
shifted_by label _ = None

-- the first answer where there is one, else the later
abbrev pub or_answer : Option Bool → Bool → Bool
or_answer (Some b) later = b
or_answer None later = later

-- whether the claim of a label names a shift; where there is no such claim, none is named
abbrev pub is_shifted : Name → List Numbered → Bool
is_shifted label [] = false
is_shifted label (n ∷ ns) = or_answer (shifted_by label n.line) (is_shifted label ns)

-- the listed symbols of the claim of a label
abbrev pub listed_symbols : List Numbered → Name → List Name
listed_symbols lines label = listed_in (is_shifted label lines) lines
