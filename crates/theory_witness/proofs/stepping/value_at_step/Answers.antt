use Rattle.std.proofs.Common.{ℕ, List, sym, subst, ◌∙◌}
use Rattle.theory_meaning.specs.Fraction.{Fraction}
use Rattle.theory_decision.specs.Witness.{IsFormulaAtValues}
use Rattle.theory_signs.specs.Plain.{formula_of}
use Rattle.theory_witness.specs.Path.{step_of}
use Rattle.theory_witness.specs.Restriction.{AreSymbols}
use Rattle.theory_witness.proofs.OneSymbol.{restricted_in_one}
use Rattle.theory_witness.proofs.StepLemmas.{others_small, value_found, value_narrow, wide_found}
use Rattle.theory_witness.proofs.stepping.value_at_step.Goals as goal

pub restricted-requires : goal.restricted-requires
restricted-requires c =
    subst AreSymbols (sym (c.deref.ensures.value ∙ c.in_ok-others.ensures))
    (others_small c.args.count c.args.step.now.symbol c.args.values.now c.requires.few)

pub pick-requires-clause-only : goal.pick-requires-clause-only
pick-requires-clause-only c =
    let F = formula_of c.args.step.now.formula in
    let R = formula_of c.in-Ok.there in
    restricted_in_one c.args.count c.args.step.now.symbol c.args.values.now F R c.requires.picks.proper c.requires.picks.over c.requires.picks.linear
    (subst (λ (vs : List (ℕ × Fraction)). IsFormulaAtValues vs F R) (c.deref.ensures.value ∙ c.in_ok-others.ensures) c.in-Ok.ensures.written)

pub returns-in-Value-clause-value : goal.returns-in-Value-clause-value
returns-in-Value-clause-value c =
    value_found c.args.count (step_of c.args.step.now) c.args.values.now c.deref.result.now (formula_of c.in-Ok.there) c.in_ok-value.field-0
    (c.deref.ensures.value ∙ c.in_ok-others.ensures) c.in-Ok.ensures.written c.in_ok-value.ensures.written c.in-Value.value c.in-Ok.ensures.wide c.in-Value.is

pub returns-in-Value-clause-wide : goal.returns-in-Value-clause-wide
returns-in-Value-clause-wide c =
    value_narrow c.args.count (step_of c.args.step.now) c.args.values.now c.in-Value.value (returns-in-Value-clause-value c)

pub returns-in-Wide-clause-wide : goal.returns-in-Wide-clause-wide
returns-in-Wide-clause-wide c =
    wide_found c.args.count (step_of c.args.step.now) c.args.values.now c.deref.result.now (formula_of c.in-Ok.there) c.in_ok-value.field-0
    (c.deref.ensures.value ∙ c.in_ok-others.ensures) c.in-Ok.ensures.written c.in_ok-value.ensures.written c.in-Wide.is
