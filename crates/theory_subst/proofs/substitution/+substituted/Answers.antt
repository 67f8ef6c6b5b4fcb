use Rattle.std.proofs.Common.{map, drop, ◌+◌}
use Rattle.theory_signs.specs.Plain.{formula_of}
use Rattle.theory_subst.specs.Points.{point_of}
use Rattle.theory_subst.proofs.AtomLemmas.{atom_is_wide, holds_by_degree, wide_as_asked}
use Rattle.theory_subst.proofs.ListLemmas.{drop_step, reached_more, grown_by_one}
use Rattle.theory_subst.proofs.substitution.+substituted.Goals as goal

pub substituted-returns-else-degree_in-eq0-clause-wide : goal.substituted-returns-else-degree_in-eq0-clause-wide
substituted-returns-else-degree_in-eq0-clause-wide t c =
    let p = point_of c.args.at.now in
    let P = c.in-Atom.atom.poly in
    atom_is_wide c.args.x p c.args.formula.now c.in-Atom.atom c.atom_at.result c.in-Atom.is
    (holds_by_degree c.args.x c.degree_in.result P c.poly.result.now c.degree_in.ensures c.poly.ensures.value c.if-degree_in-eq0.false)
    (wide_as_asked c.args.x p P c.poly-else-degree_in-eq0.result.now c.atom_at.result c.poly-else-degree_in-eq0.ensures.value c.atom_at.ensures.wide)

pub all_substituted-loop-formula-preserved : goal.all_substituted-loop-formula-preserved
all_substituted-loop-formula-preserved t c =
    let i = c.loop-formula.formula-index in
    let Fs = c.args.formulas.now in
    let old = c.loop-formula.all.items in
    let new = c.keep.new.members.items in
    reached_more c.args.x (point_of c.args.at.now) (map formula_of Fs) (map formula_of (drop i Fs)) (map formula_of (drop (i + 1) Fs)) (map formula_of old)
    (map formula_of new) _ (formula_of c.in-Ok.there) (drop_step Fs i _ c.loop-formula-test.true c.formula-item.is)
    (λ Gs. grown_by_one old new c.in-Ok.there Gs c.in_ok-keep-in-Ok.ensures) c.loop-formula.invariant c.in-Ok.ensures.written c.in-Ok.ensures.wide
