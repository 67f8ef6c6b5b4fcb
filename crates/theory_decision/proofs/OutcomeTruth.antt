-- What the outcome of a search, and its leaves, say of the points of a formula.
use Rattle.std.proofs.Common.{◌≡◌, List, [], Option, None, Some, refl, sym, subst, inl, inr}
use Rattle.std.specs.Prelude.{◌↔◌}
use Rattle.theory_polynomial.specs.PolynomialValue.{Values}
use Rattle.theory_formula.specs.Formula.{Formula, IsTrueAt}
use Rattle.theory_meaning.specs.declared.words.Kind.{Kind}
use Rattle.theory_decision.specs.Choice.{Symbols}
use Rattle.theory_decision.specs.Finding.{Failure, reached}
use Rattle.theory_decision.specs.Search.{Step, Run, goes_on, hit, over, start, IsRun}
use Rattle.theory_decision.specs.Outcomes.{hits_by, empty, IsOutcome, IsSearch, all_of, true_everywhere, leaves_by, leaves_of, AreLeaves}
use Rattle.theory_formula.specs.Symbols.{IsProper}
use Rattle.theory_decision.specs.Regions.{IsTrueFor, SomeIsTrueAt}
use Rattle.theory_decision.proofs.SearchTruth.{Means, visit_means}

nothing_yet : (p : Values) → SomeIsTrueAt p [] → ⊥
nothing_yet p e = cc

same_leaves : {a b : List Formula} (p : Values) → a ≡ b → SomeIsTrueAt p a → SomeIsTrueAt p b
same_leaves p e h = subst (SomeIsTrueAt p) e h

run_means : (keep : Symbols) (kind : Kind) (F : Formula) (r : Run) → IsProper F → IsRun keep kind F r
    → Means keep kind start r (λ p. IsTrueFor keep p F) (λ p. IsTrueFor keep p F)
run_means keep kind F r h v = visit_means keep kind 0 (reached F) start r h v

-- a search
not_found : (kind : Kind) (F : Formula) (r : Run) → IsOutcome r empty
    → Means [] kind start r (λ p. IsTrueFor [] p F) (λ p. IsTrueFor [] p F) → (p : Values) → IsTrueAt F p → ⊥
not_found kind F (hit path) o m p t = absurd cc
not_found kind F (over f) o m p t = absurd cc
not_found kind F (goes_on s) o m p t = nothing_yet p (same_leaves p o.1 (m.complete o.0 p (p, λ y k. absurd cc, t)))

pub empty_has_none : (kind : Kind) (F : Formula) → IsProper F → IsSearch kind F empty → (p : Values) → IsTrueAt F p → ⊥
empty_has_none kind F h w = not_found kind F w.0 w.2 (run_means [] kind F w.0 h w.1)

has_one : (kind : Kind) (F : Formula) (path : List Step) (r : Run) → IsOutcome r (hits_by path)
    → Means [] kind start r (λ p. IsTrueFor [] p F) (λ p. IsTrueFor [] p F) → (p : Values) × IsTrueAt F p
has_one kind F path (hit other) o m = let a = m [] in (a.0, a.2)
has_one kind F path (over f) o m = absurd cc
has_one kind F path (goes_on s) o m = absurd o

pub hit_has_one : (kind : Kind) (F : Formula) (path : List Step) → IsProper F → IsSearch kind F (hits_by path) → (p : Values) × IsTrueAt F p
hit_has_one kind F path h w = has_one kind F path w.0 w.2 (run_means [] kind F w.0 h w.1)

-- leaves
by_failure : (o : Option Failure) (ends_with leaves : List Formula) → all_of leaves ≡ leaves_by o ends_with → (o ≡ None) × (leaves ≡ ends_with)
by_failure None fs leaves e = (refl, cc)
by_failure (Some f) fs leaves e = absurd cc

leaves_mean : (keep : Symbols) (kind : Kind) (F : Formula) (leaves : List Formula) (r : Run) → all_of leaves ≡ leaves_of r
    → Means keep kind start r (λ p. IsTrueFor keep p F) (λ p. IsTrueFor keep p F) → (p : Values) → SomeIsTrueAt p leaves ↔ IsTrueFor keep p F
leaves_mean keep kind F leaves (hit path) e m p = absurd cc
leaves_mean keep kind F leaves (over f) e m p = absurd cc
leaves_mean keep kind F leaves (goes_on s) e m p =
    let b = by_failure s.failure s.leaves leaves e in (
      λ t. elim (m.sound p (same_leaves p b.1 t)) [ inl none ↦ absurd (nothing_yet p none) | inr given ↦ given ],
      λ h. same_leaves p (sym b.1) (m.complete b.0 p h),
    )

pub leaves_are_right : (keep : Symbols) (kind : Kind) (F : Formula) (leaves : List Formula) → IsProper F → AreLeaves keep kind F (all_of leaves)
    → (p : Values) → SomeIsTrueAt p leaves ↔ IsTrueFor keep p F
leaves_are_right keep kind F leaves h w = leaves_mean keep kind F leaves w.0 w.2 (run_means keep kind F w.0 h w.1)

by_no_failure : (o : Option Failure) (fs : List Formula) → true_everywhere ≡ leaves_by o fs → ⊥
by_no_failure None fs e = cc
by_no_failure (Some f) fs e = cc

everywhere_true : (keep : Symbols) (kind : Kind) (F : Formula) (r : Run) → true_everywhere ≡ leaves_of r
    → Means keep kind start r (λ p. IsTrueFor keep p F) (λ p. IsTrueFor keep p F) → (p : Values) → IsTrueFor keep p F
everywhere_true keep kind F (hit path) e m p = m p
everywhere_true keep kind F (over f) e m p = absurd cc
everywhere_true keep kind F (goes_on s) e m p = absurd (by_no_failure s.failure s.leaves e)

pub everywhere_is_right : (keep : Symbols) (kind : Kind) (F : Formula) → IsProper F → AreLeaves keep kind F true_everywhere
    → (p : Values) → IsTrueFor keep p F
everywhere_is_right keep kind F h w = everywhere_true keep kind F w.0 w.2 (run_means keep kind F w.0 h w.1)
