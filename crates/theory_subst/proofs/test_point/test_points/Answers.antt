use Rattle.std.proofs.Common.{◌≡◌, ◌∙◌, [], ◌∷◌, ◌++◌, ap}
use Rattle.theory_formula.specs.FormulaAtoms.{atoms_of}
use Rattle.theory_elimination.specs.TestPoint.{infinity, ends_of_atoms}
use Rattle.theory_signs.specs.Plain.{formula_of}
use Rattle.theory_subst.specs.declared.test_point.TestPoint.TheVariants.{Infinity}
use Rattle.theory_subst.specs.Points.{points_of, with_new}
use Rattle.theory_subst.proofs.NewPoints.{test_points_are}
use Rattle.theory_subst.proofs.test_point.test_points.Goals as goal

pub returns : goal.returns
returns c =
    let F = formula_of c.args.formula.now in
    let start : points_of c.push.new.self.items ≡ infinity ∷ [] =
    ap points_of (c.in_ok-push.ensures.items ∙ ap (λ ps. ps ++ Infinity ∷ []) c.new-points.ensures.items)
    in
    c.in_ok-add_ends.ensures ∙ ap (λ ps. with_new ps (ends_of_atoms c.args.x (atoms_of F))) start ∙ test_points_are c.args.x F
