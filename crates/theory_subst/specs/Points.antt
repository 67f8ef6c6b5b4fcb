-- The plain test points that those of the program stand for.
use Rattle.std.specs.Prelude.{List, [], ◌∷◌, ◌++◌, map, if◌then◌else◌}
use Rattle.std.specs.List.{list_any}
use Rattle.theory_subst.specs.declared.test_point.TestPoint.TheVariants.{Infinity, Root, Before}
use Rattle.theory_subst.specs.declared.test_point.TestPoint as source
use Rattle.theory_elimination.specs.TestPoint.{is_same_point}
use Rattle.theory_elimination.specs.TestPoint as plain

-- a test point
abbrev pub point_of : source.TestPoint → plain.TestPoint
point_of Infinity = plain.infinity
point_of (Root a b s) = plain.root a b s
point_of (Before a b s) = plain.before a b s

-- test points in their order
abbrev pub points_of : List source.TestPoint → List plain.TestPoint
points_of = map point_of

-- the points, and behind them each further one that isn't the same as one before
abbrev pub with_new : List plain.TestPoint → List plain.TestPoint → List plain.TestPoint
with_new seen [] = seen
with_new seen (point ∷ points) = with_new (if list_any (is_same_point point) seen then seen else seen ++ point ∷ []) points
