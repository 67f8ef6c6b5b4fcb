-- Conditions on polynomials are proper, and formulas without the symbols from some place on are named.
use Rattle.std.proofs.Common.{ℕ, ◌≤◌, length, Bool, true, false, List, sym, subst, inl, inr}
use Rattle.theory_meaning.specs.Point.{Name}
use Rattle.theory_formula.specs.declared.signs.Signs.{Signs}
use Rattle.theory_polynomial.specs.Polynomial.{Monomial, IsPolynomial, IsFreeOf}
use Rattle.theory_formula.specs.Formula.{Formula, Formulas, always, never, atom, conjunction, disjunction, none, more, EachAtom, EachAtomOfAll}
use Rattle.theory_formula.specs.SignCondition.{IsAtomOf, decided}
use Rattle.theory_formula.specs.Symbols.{IsFree, IsProper, IsNamed}
use Rattle.theory_formula.proofs.ConditionLaws.{canonical_has_symbol}

-- a condition on a polynomial has a proper polynomial
decided_proper : (b : Bool) → IsProper (decided b)
decided_proper true = tt
decided_proper false = tt

pub condition_proper : (P : List Monomial) (S : Signs) (F : Formula) → IsPolynomial P → IsAtomOf P S F → IsProper F
condition_proper P S F h (inl w) = subst IsProper (sym w.written) (decided_proper _)
condition_proper P S F h (inr w) =
    subst IsProper (sym w.written)
    (record { canonical = w.canonical.canonical; symbol = canonical_has_symbol P w.poly w.turned h w.symbol w.canonical })

-- what each atom is free of from some symbol on, it is named without
module _ (ns : List Name) where
  mutual
    pub named_below : (F : Formula) → ((x : ℕ) → length ns ≤ x → IsFree x F) → EachAtom (IsNamed ns) F
    named_below always h = tt
    named_below never h = tt
    named_below (atom P S) h = h
    named_below (conjunction Fs) h = all_named_below Fs h
    named_below (disjunction Fs) h = all_named_below Fs h

    all_named_below : (Fs : Formulas) → ((x : ℕ) → length ns ≤ x → EachAtomOfAll (λ P S. IsFreeOf x P) Fs) → EachAtomOfAll (IsNamed ns) Fs
    all_named_below none h = tt
    all_named_below (more F Fs) h = (named_below F (λ x l. (h x l).0), all_named_below Fs (λ x l. (h x l).1))
