-- The equations of a model, differentiated along its parameters. Source: total differentiation, textbook; the order is this project's own.
use Rattle.std.specs.Prelude.{List, [], ◌∷◌, ◌++◌}
use Rattle.theory_meaning.specs.Edit.{lines_alone}
use Rattle.theory_meaning.specs.Point.{Name}
use Rattle.theory_meaning.specs.Text.{Numbered}
use Rattle.theory_meaning.specs.Tree.{Expr, Line, param, equation}
use Rattle.theory_derivative.specs.Derivative.{derivative}

-- an equation differentiated along a parameter: its label, the parameter, and the derivatives of its two sides
pub record Differentiated : Type 0 where
  pub label : Name
  pub by : Name
  pub left : Expr
  pub right : Expr

-- each equation of lines differentiated along a parameter, in their order; all are the lines of the model
abbrev pub differentiated_by : List Numbered → Name → List Line → List Differentiated
differentiated_by all t [] = []
differentiated_by all t (equation label u v ∷ lines) =
    record { label = label; by = t; left = derivative all t u; right = derivative all t v } ∷ differentiated_by all t lines
differentiated_by all t (_ ∷ lines) = differentiated_by all t lines

-- the parameters of lines, in their order
abbrev pub parameters_of : List Line → List Name
parameters_of [] = []
parameters_of (param t ∷ lines) = t ∷ parameters_of lines
parameters_of (_ ∷ lines) = parameters_of lines

-- the equations of a model differentiated along each of these parameters
abbrev pub differentiated_along : List Numbered → List Name → List Differentiated
differentiated_along lines [] = []
differentiated_along lines (t ∷ ts) = differentiated_by lines t (lines_alone lines) ++ differentiated_along lines ts

-- the written lines of the command `derive`: for each parameter in text order, each equation in text order
abbrev pub differentiated_in : List Numbered → List Differentiated
differentiated_in lines = differentiated_along lines (parameters_of (lines_alone lines))
