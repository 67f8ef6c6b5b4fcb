-- The plain trees that drafts stand for.
use Rattle.theory_formula.specs.Formula as plain
use Rattle.theory_simplify.specs.declared.drafts.Draft.{Draft}
use Rattle.theory_simplify.specs.declared.drafts.Draft.TheOpen.{Draft-F}
use Rattle.theory_simplify.specs.declared.drafts.Draft.TheFolds.{fold-Draft}

-- one node, with the tree of each child in its place
abbrev pub draft_step : Draft-F plain.Formula → plain.Formula
draft_step Draft-F.True = plain.always
draft_step Draft-F.False = plain.never
draft_step (Draft-F.Atom a) = plain.atom a.poly a.signs
draft_step (Draft-F.And Ds) = plain.conjunction (plain.formulas_from Ds.items)
draft_step (Draft-F.Or Ds) = plain.disjunction (plain.formulas_from Ds.items)

-- a draft
abbrev pub draft_of : Draft → plain.Formula
draft_of = fold-Draft plain.Formula draft_step
