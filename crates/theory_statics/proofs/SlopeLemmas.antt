-- What is written of a derivative has the slope as its value.
use Rattle.std.proofs.Common.{◌≡◌, List, Result, Ok, Err, IfOk, sym, ap, ◌∙◌, subst}
use Rattle.theory_meaning.specs.Fraction.{IsSame}
use Rattle.theory_meaning.specs.Point.{Name, Point}
use Rattle.theory_meaning.specs.Slope.{slope_of}
use Rattle.theory_meaning.specs.Text.{Numbered}
use Rattle.theory_meaning.specs.Tree as plain
use Rattle.theory_meaning.specs.Truth.{value_of}
use Rattle.theory_derivative.specs.Derivative.{derivative}
use Rattle.theory_derivative.proofs.SlopeLaws.{derivatives_are_slopes}
use Rattle.theory_points.specs.declared.limit.NoMemory.{NoMemory}
use Rattle.theory_syntax.specs.declared.expr.Expr.{Expr}
use Rattle.theory_syntax.specs.Plain.{expr_of}

pub has_the_slope : (lines all : List Numbered) (t : Name) (u : plain.Expr) (result : Result Expr NoMemory) → lines ≡ all
    → IfOk result (λ e. expr_of e ≡ derivative lines t u) → IfOk result (λ e. (p : Point) → IsSame (value_of (expr_of e) p) (slope_of all t u p))
has_the_slope lines all t u (Ok e) same h =
    λ p. subst (λ d. IsSame (value_of d p) (slope_of all t u p)) (sym (h ∙ ap (λ ls. derivative ls t u) same)) (derivatives_are_slopes all t u p)
has_the_slope lines all t u (Err e) same h = tt
