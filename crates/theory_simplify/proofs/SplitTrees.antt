-- The trees of formulas that are split.
use Rattle.std.proofs.Common.{◌≡◌, ℕ, ◌<◌, List, [], map, Result, Ok, Err, IfOk, Vec, Global, sym, ap, ◌∙◌, subst}
use Rattle.theory_formula.specs.Formula as plain
use Rattle.theory_formula.specs.declared.signs.Signs.{Signs}
use Rattle.theory_formula.specs.Signs.{has}
use Rattle.theory_polynomial.specs.Polynomial.{Monomial, IsPolynomial, IsCanonical, symbol_of}
use Rattle.theory_polynomial.specs.PolynomialValue.{Values}
use Rattle.theory_formula.specs.SignCondition.{IsAtomOf, IsAtomPolynomial}
use Rattle.theory_points.specs.declared.limit.NoMemory.{NoMemory}
use Rattle.theory_signs.specs.Condition.{Condition}
use Rattle.theory_signs.specs.declared.formula.Formula.{Formula, Formula-F, fold-roll-Formula}
use Rattle.theory_signs.specs.declared.formula.Formula.TheVariants.{Atom, And, Or, rolls-Atom}
use Rattle.theory_signs.specs.Plain.{formula_of, formula_step}
use Rattle.theory_signs.proofs.PlainLemmas.{formula_of-And, formula_of-Or}
use Rattle.theory_signed.specs.Split.{condition_on, symbol_is, split, split_all, split_atom, IsOrdered}
use Rattle.theory_simplify.proofs.SplitLemmas.{all_split, atom_is_condition, symbol_condition}

abbrev AllOrdered : List Formula → Type 0
AllOrdered Fs = plain.EachAtomOfAll (λ P S. IsPolynomial P) (plain.formulas_from (map formula_of Fs))

pub tree_of_atom : (F : Formula) (a : Condition) → F ≡ Atom a → formula_of F ≡ plain.atom a.poly a.signs
tree_of_atom F a is = ap formula_of (is ∙ sym (rolls-Atom a)) ∙ fold-roll-Formula plain.Formula formula_step (Formula-F.Atom a)

pub tree_of_and : (F : Formula) (Fs : Vec Formula Global) → F ≡ And Fs
    → formula_of F ≡ plain.conjunction (plain.formulas_from (map formula_of Fs.items))
tree_of_and F Fs is = ap formula_of is ∙ formula_of-And Fs

pub tree_of_or : (F : Formula) (Fs : Vec Formula Global) → F ≡ Or Fs
    → formula_of F ≡ plain.disjunction (plain.formulas_from (map formula_of Fs.items))
tree_of_or F Fs is = ap formula_of is ∙ formula_of-Or Fs

split_list : (list : plain.Formulas → plain.Formula) (Fs Gs xs : List Formula) → xs ≡ Fs
    → map formula_of Gs ≡ map split (map formula_of xs)
    → list (plain.formulas_from (map formula_of Gs)) ≡ list (split_all (plain.formulas_from (map formula_of Fs)))
split_list list Fs Gs xs same all =
    ap (λ (Hs : List plain.Formula). list (plain.formulas_from Hs)) (all ∙ ap (λ (ys : List Formula). map split (map formula_of ys)) same)
    ∙ ap list (sym (all_split (map formula_of Fs)))

-- the members of a list split
pub split-And : (F : Formula) (Fs Gs : Vec Formula Global) (xs : List Formula) → F ≡ And Fs → xs ≡ Fs.items
    → map formula_of Gs.items ≡ map split (map formula_of xs) → formula_of (And Gs) ≡ split (formula_of F)
split-And F Fs Gs xs is same all =
    formula_of-And Gs ∙ split_list plain.conjunction Fs.items Gs.items xs same all ∙ ap split (sym (tree_of_and F Fs is))

pub split-Or : (F : Formula) (Fs Gs : Vec Formula Global) (xs : List Formula) → F ≡ Or Fs → xs ≡ Fs.items
    → map formula_of Gs.items ≡ map split (map formula_of xs) → formula_of (Or Gs) ≡ split (formula_of F)
split-Or F Fs Gs xs is same all =
    formula_of-Or Gs ∙ split_list plain.disjunction Fs.items Gs.items xs same all ∙ ap split (sym (tree_of_or F Fs is))

pub split-Atom : (F : Formula) (a : Condition) (result : Result Formula NoMemory) → F ≡ Atom a
    → IfOk result (λ G. formula_of G ≡ split_atom a.poly a.signs) → IfOk result (λ G. formula_of G ≡ split (formula_of F))
split-Atom F a (Ok G) is made = made ∙ ap split (sym (tree_of_atom F a is))
split-Atom F a (Err e) is made = tt

-- each atom is on a polynomial
pub ordered-And : (F : Formula) (Fs : Vec Formula Global) (xs : List Formula) → F ≡ And Fs → xs ≡ Fs.items → AllOrdered xs → IsOrdered (formula_of F)
ordered-And F Fs xs is same h = subst IsOrdered (sym (tree_of_and F Fs is)) (subst AllOrdered same h)

pub ordered-Or : (F : Formula) (Fs : Vec Formula Global) (xs : List Formula) → F ≡ Or Fs → xs ≡ Fs.items → AllOrdered xs → IsOrdered (formula_of F)
ordered-Or F Fs xs is same h = subst IsOrdered (sym (tree_of_or F Fs is)) (subst AllOrdered same h)

pub ordered-Atom : (F : Formula) (a : Condition) (result : Result Formula NoMemory) → F ≡ Atom a
    → IfOk result (λ G. IsAtomPolynomial a.poly) → IfOk result (λ G. IsOrdered (formula_of F))
ordered-Atom F a (Ok G) is h = subst IsOrdered (sym (tree_of_atom F a is)) (h.canonical).ordered
ordered-Atom F a (Err e) is h = tt

-- a made atom is the condition
pub made_condition : (P : List Monomial) (S : Signs) (result : Result Formula NoMemory) → IsCanonical P
    → IfOk result (λ F. IsAtomOf P S (formula_of F)) → IfOk result (λ F. (p : Values) → plain.truth_at (formula_of F) p ≡ has S (plain.sign_at P p))
    → IfOk result (λ F. formula_of F ≡ condition_on P S)
made_condition P S (Ok F) canonical made truth = atom_is_condition P S (formula_of F) canonical made (truth [])
made_condition P S (Err e) canonical made truth = tt

pub symbol_made : (x : ℕ) (Q : List Monomial) (S : Signs) (result : Result Formula NoMemory) → x < 32 → Q ≡ symbol_of x
    → IfOk result (λ F. formula_of F ≡ condition_on Q S) → IfOk result (λ F. formula_of F ≡ symbol_is S x)
symbol_made x Q S (Ok F) below is h = h ∙ ap (λ (P : List Monomial). condition_on P S) is ∙ symbol_condition x S below
symbol_made x Q S (Err e) below is h = tt
