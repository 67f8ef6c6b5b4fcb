-- The equations of `formula_of` at lists of members.
use Rattle.std.proofs.Common.{◌≡◌, List, map, Vec, Global, sym, ap, ◌∙◌}
use Rattle.theory_formula.specs.Formula as plain
use Rattle.theory_signs.specs.declared.formula.Formula.{Formula, Formula-F, fold-roll-Formula}
use Rattle.theory_signs.specs.declared.formula.Formula.TheVariants.{And, Or, rolls-And, rolls-Or}
use Rattle.theory_signs.specs.Plain.{formula_of, formula_step}
use Rattle.theory_signs.proofs.FormulaLemmas.{negated_all_from}

pub formula_of-And : (Fs : Vec Formula Global) → formula_of (And Fs) ≡ plain.conjunction (plain.formulas_from (map formula_of Fs.items))
formula_of-And Fs = ap formula_of (sym (rolls-And Fs)) ∙ fold-roll-Formula plain.Formula formula_step (Formula-F.And Fs)

pub formula_of-Or : (Fs : Vec Formula Global) → formula_of (Or Fs) ≡ plain.disjunction (plain.formulas_from (map formula_of Fs.items))
formula_of-Or Fs = ap formula_of (sym (rolls-Or Fs)) ∙ fold-roll-Formula plain.Formula formula_step (Formula-F.Or Fs)

-- the opposite of a list of members
pub negated-And : (F : Formula) (Fs Gs : Vec Formula Global) (xs : List Formula) → F ≡ And Fs → xs ≡ Fs.items
    → map formula_of Gs.items ≡ map plain.negated (map formula_of xs) → formula_of (Or Gs) ≡ plain.negated (formula_of F)
negated-And F Fs Gs xs is same all =
    formula_of-Or Gs
    ∙ ap (λ (Hs : List plain.Formula). plain.disjunction (plain.formulas_from Hs)) (all ∙ ap (λ (ys : List Formula). map plain.negated (map formula_of
    ys)) same)
    ∙ ap plain.disjunction (sym (negated_all_from (map formula_of Fs.items)))
    ∙ ap plain.negated (sym (ap formula_of is ∙ formula_of-And Fs))

pub negated-Or : (F : Formula) (Fs Gs : Vec Formula Global) (xs : List Formula) → F ≡ Or Fs → xs ≡ Fs.items
    → map formula_of Gs.items ≡ map plain.negated (map formula_of xs) → formula_of (And Gs) ≡ plain.negated (formula_of F)
negated-Or F Fs Gs xs is same all =
    formula_of-And Gs
    ∙ ap (λ (Hs : List plain.Formula). plain.conjunction (plain.formulas_from Hs)) (all ∙ ap (λ (ys : List Formula). map plain.negated (map formula_of
    ys)) same)
    ∙ ap plain.conjunction (sym (negated_all_from (map formula_of Fs.items)))
    ∙ ap plain.negated (sym (ap formula_of is ∙ formula_of-Or Fs))
