-- Nodes of proper formulas: their simplified forms, branches, and the formulas from which a symbol is eliminated.
use Rattle.std.proofs.Common.{◌≡◌, ℕ, false, sym, subst}
use Rattle.theory_meaning.specs.declared.words.Kind.{Kind}
use Rattle.theory_polynomial.specs.Polynomial.{IsPolynomial}
use Rattle.theory_polynomial.specs.PolynomialValue.{Values}
use Rattle.theory_formula.specs.Formula.{Formula, truth_at}
use Rattle.theory_formula.specs.SignCondition.{IsAtomPolynomial}
use Rattle.theory_formula.specs.Symbols.{IsProper}
use Rattle.theory_elimination.specs.Elimination.{IsLinear}
use Rattle.theory_elimination.proofs.AtomLists.{each_follows}
use Rattle.theory_elimination.proofs.BranchAtoms.{branch_proper}
use Rattle.theory_signed.specs.ByKind.{simplified_for}
use Rattle.theory_signed.proofs.KindTruth.{kind_truth}
use Rattle.theory_signed.proofs.KindAtoms.{kind_proper}
use Rattle.theory_decision.specs.Choice.{Symbols, is_one_of}
use Rattle.theory_decision.specs.Finding.{Node, reached, too_wide, IsNode, eliminates, finding}
use Rattle.theory_decision.proofs.Findings.{candidate_is_linear, found_says}

-- a proper formula has the truth of its simplified form
pub in_simplified : (kind : Kind) (F : Formula) (p : Values) → IsProper F → truth_at F p ≡ truth_at (simplified_for kind F) p
in_simplified kind F p h =
    sym (kind_truth p kind F (each_follows (λ P S. IsAtomPolynomial P) (λ P S. IsPolynomial P) F (λ P S a. a.canonical.ordered) h))

-- the formula of a node, if there is one, is proper
abbrev pub IsProperNode : Node → Type 0
IsProperNode (reached F) = IsProper F
IsProperNode too_wide = Unit {0}

pub node_proper : (x k : ℕ) (S : Formula) (N : Node) → IsProper S → IsNode x S k N → IsProperNode N
node_proper x k S (reached G) h n = branch_proper x S k G h n.0
node_proper x k S too_wide h n = tt

-- what is known of a formula from which a symbol is eliminated
pub record IsEliminated (keep : Symbols) (x : ℕ) (S : Formula) : Type 0 where
  pub proper : IsProper S
  pub linear : IsLinear x S
  pub free : is_one_of keep x ≡ false

pub eliminated : (keep : Symbols) (kind : Kind) (d x : ℕ) (N : Node) (S : Formula) → IsProperNode N → finding keep kind d N ≡ eliminates x S
    → IsEliminated keep x S
eliminated keep kind d x too_wide S h e = absurd cc
eliminated keep kind d x (reached F) S h e =
    let says = found_says keep kind d F (eliminates x S) e in
    let proper : IsProper S = subst IsProper says.0 (kind_proper kind F h) in
    record { proper = proper; linear = candidate_is_linear keep S x proper says.1; free = says.1.free }
