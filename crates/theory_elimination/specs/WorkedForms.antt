-- Formulas in x and y, symbols 0 and 1, and their simplified forms, worked out by hand.
use Rattle.std.specs.Prelude.{List}
use Rattle.theory_formula.specs.declared.signs.Signs.TheVariants.{Neg, Zero, Pos, NotPos, NotNeg}
use Rattle.theory_polynomial.specs.Terms.{Monomial, symbol_of}
use Rattle.theory_formula.specs.Formula.{Formula, always, atom, conjunction, disjunction, none, more, both, either}

-- the symbol x
abbrev pub x : List Monomial
x = symbol_of 0

-- the symbol y
abbrev pub y : List Monomial
y = symbol_of 1

-- x >= 0, and x < 0 or y = 0, and x <= 0: met to x = 0, under which x < 0 is false
abbrev pub met_members : Formula
met_members = conjunction (more (atom x NotNeg) (more (either (atom x Neg) (atom y Zero)) (more (atom x NotPos) none)))

-- a list of one, and x <= 0 or y = 0: spliced members are no facts for the lists beside them
abbrev pub spliced_member : Formula
spliced_member = both (disjunction (more (atom x Neg) none)) (either (atom x NotPos) (atom y Zero))

-- its simplified form, in which the list of one is its member
abbrev pub spliced_once : Formula
spliced_once = both (atom x Neg) (either (atom x NotPos) (atom y Zero))

-- x > 0 or not: joined to always
abbrev pub joined_members : Formula
joined_members = either (atom x Pos) (either (atom y Zero) (atom x NotPos))

-- x = 0 twice in a list, once in a list within
abbrev pub repeated_members : Formula
repeated_members = conjunction (more (either (atom x Zero) (atom y Zero)) (more (either (atom x Zero) (atom y Zero)) (more always none)))
