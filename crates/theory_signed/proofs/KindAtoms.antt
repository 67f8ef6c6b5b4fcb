-- The polynomials of the simplified form of each kind, and their symbols.
use Rattle.std.proofs.Common.{ℕ, ◌≤◌, List, [], length}
use Rattle.theory_meaning.specs.Point.{Name}
use Rattle.theory_meaning.specs.declared.words.Kind.{Kind}
use Rattle.theory_meaning.specs.declared.words.Kind.TheVariants as kind
use Rattle.theory_polynomial.specs.Polynomial.{Monomial, IsFreeOf}
use Rattle.theory_formula.specs.Formula.{Formula, Formulas, always, never, atom, conjunction, disjunction, none, more, EachAtom, EachAtomOfAll}
use Rattle.theory_formula.specs.SignCondition.{IsAtomPolynomial}
use Rattle.theory_formula.specs.Symbols.{IsFree, IsProper, IsNamed}
use Rattle.theory_elimination.proofs.SimplifiedAtoms.{Each, simplified_by_each, known_keeps}
use Rattle.theory_signed.specs.Split.{split}
use Rattle.theory_signed.specs.ByKind.{judging, prepared, simplified_for}
use Rattle.theory_signed.proofs.SignedAtoms.{signs_keep}
use Rattle.theory_signed.proofs.SplitCanonical.{split_canonical}
use Rattle.theory_signed.proofs.SplitFree.{split_free}

-- what holds of each polynomial of what is simplified
kind_each : (Q : List Monomial → Type 0) (k : Kind) (F : Formula) → Each Q (prepared k F) → Each Q (simplified_for k F)
kind_each Q kind.Listed F h = simplified_by_each Q (judging kind.Listed) (known_keeps Q) [] F h
kind_each Q kind.Rare F h = simplified_by_each Q (judging kind.Rare) (known_keeps Q) [] F h
kind_each Q kind.Unit F h = simplified_by_each Q (judging kind.Unit) (known_keeps Q) [] F h
kind_each Q kind.Signed F h = simplified_by_each Q (judging kind.Signed) (signs_keep Q) [] (split F) h

-- canonical with a symbol
prepared_proper : (k : Kind) (F : Formula) → IsProper F → IsProper (prepared k F)
prepared_proper kind.Listed F h = h
prepared_proper kind.Rare F h = h
prepared_proper kind.Unit F h = h
prepared_proper kind.Signed F h = split_canonical F h

pub kind_proper : (k : Kind) (F : Formula) → IsProper F → IsProper (simplified_for k F)
kind_proper k F h = kind_each IsAtomPolynomial k F (prepared_proper k F h)

-- without a symbol
prepared_free : (x : ℕ) (k : Kind) (F : Formula) → IsFree x F → IsFree x (prepared k F)
prepared_free x kind.Listed F h = h
prepared_free x kind.Rare F h = h
prepared_free x kind.Unit F h = h
prepared_free x kind.Signed F h = split_free x F h

pub kind_free : (x : ℕ) (k : Kind) (F : Formula) → IsFree x F → IsFree x (simplified_for k F)
kind_free x k F h = kind_each (IsFreeOf x) k F (prepared_free x k F h)

-- with listed symbols alone: without each symbol that isn't listed
module _ (ns : List Name) where
  mutual
    named_free : (x : ℕ) (F : Formula) → length ns ≤ x → EachAtom (IsNamed ns) F → IsFree x F
    named_free x always l h = tt
    named_free x never l h = tt
    named_free x (atom P S) l h = h x l
    named_free x (conjunction Fs) l h = all_named_free x Fs l h
    named_free x (disjunction Fs) l h = all_named_free x Fs l h

    all_named_free : (x : ℕ) (Fs : Formulas) → length ns ≤ x → EachAtomOfAll (IsNamed ns) Fs → EachAtomOfAll (λ P S. IsFreeOf x P) Fs
    all_named_free x none l h = tt
    all_named_free x (more F Fs) l h = (named_free x F l h.0, all_named_free x Fs l h.1)

  mutual
    free_named : (F : Formula) → ((x : ℕ) → length ns ≤ x → IsFree x F) → EachAtom (IsNamed ns) F
    free_named always h = tt
    free_named never h = tt
    free_named (atom P S) h = h
    free_named (conjunction Fs) h = all_free_named Fs h
    free_named (disjunction Fs) h = all_free_named Fs h

    all_free_named : (Fs : Formulas) → ((x : ℕ) → length ns ≤ x → EachAtomOfAll (λ P S. IsFreeOf x P) Fs) → EachAtomOfAll (IsNamed ns) Fs
    all_free_named none h = tt
    all_free_named (more F Fs) h = (free_named F (λ x l. (h x l).0), all_free_named Fs (λ x l. (h x l).1))

  pub split_named : (F : Formula) → EachAtom (IsNamed ns) F → EachAtom (IsNamed ns) (split F)
  split_named F h = free_named (split F) (λ x l. split_free x F (named_free x F l h))

  pub kind_named : (k : Kind) (F : Formula) → EachAtom (IsNamed ns) F → EachAtom (IsNamed ns) (simplified_for k F)
  kind_named k F h = free_named (simplified_for k F) (λ x l. kind_free x k F (named_free x F l h))
