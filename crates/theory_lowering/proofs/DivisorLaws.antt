-- The conditions of divisors are true exactly where no divisor is 0.
use Rattle.std.proofs.Common.{◌≡◌, ◌≤◌, pos, Bool, true, false, not, List, [], ◌∷◌, ◌++◌, length, refl, sym, ap, ap₂, ◌∙◌}
use Rattle.std.specs.Prelude.{◌&&◌}
use Rattle.theory_meaning.specs.Divisors.{divisors_of_expr, divisors_of_claim, divisors_of_claims}
use Rattle.theory_meaning.specs.Fraction.{whole, same}
use Rattle.theory_meaning.specs.Point.{Name, Point}
use Rattle.theory_meaning.specs.Tree.{Expr, number, symbol, sum, difference, opposite, product, power, quotient, Claim, Claims, always, never, atom, negation, conjunction, disjunction, implication, equivalence, none, more}
use Rattle.theory_meaning.specs.Truth.{value_of, are_nonzero}
use Rattle.theory_formula.specs.Formula as plain
use Rattle.theory_lowering.specs.Lowered.{values_of, AreNonzeroOf, before}
use Rattle.theory_lowering.specs.LoweringLimits.{IsListedExpr, IsListedClaim, AreListedClaims}
use Rattle.theory_lowering.proofs.ConditionsOnForms.{nonzero_truth}
use Rattle.theory_lowering.proofs.FormValues.{both_assoc, are_nonzero-append, form_stands}
use Rattle.theory_lowering.proofs.SingleLowered.{form}

-- what counts only where the second is true
pub guarded : (a b c d : Bool) → c ≡ d → (d ≡ true → a ≡ b) → a && c ≡ b && d
guarded a b c true h k = ap₂ ◌&&◌ (k refl) h
guarded a b c false h k = ap (λ z. a && z) h ∙ and_false a ∙ sym (and_false b)
  where
    and_false : (t : Bool) → (t && false) ≡ false
    and_false true = refl
    and_false false = refl

module _ (ns : List Name) (p : Point) (few : length ns ≤ 32) where
  -- all formulas of a list are true
  pub all_true : List plain.Formula → Bool
  all_true [] = true
  all_true (F ∷ Fs) = plain.truth_at F (values_of ns p) && all_true Fs

  pub all_before : (Fs : List plain.Formula) (Gs : plain.Formulas)
      → plain.all_by (plain.reading_at (values_of ns p)) (before Fs Gs) ≡ all_true Fs && plain.all_by (plain.reading_at (values_of ns p)) Gs
  unfolding all_true
  all_before [] Gs = refl
  all_before (F ∷ Fs) Gs =
      ap (λ b. plain.truth_at F (values_of ns p) && b) (all_before Fs Gs)
      ∙ both_assoc (plain.truth_at F (values_of ns p)) (all_true Fs) (plain.all_by (plain.reading_at (values_of ns p)) Gs)

  -- conditions of expressions that are true exactly where none of them is 0
  abbrev pub AreRight : List Expr → Type 0
  AreRight vs = (Fs : List plain.Formula) → AreNonzeroOf ns vs Fs → all_true Fs ≡ are_nonzero vs p

  -- conditions of two lists
  record AreTwo (vs ws : List Expr) (Fs : List plain.Formula) : Type 0 where
    first : List plain.Formula
    second : List plain.Formula
    first_is : AreNonzeroOf ns vs first
    second_is : AreNonzeroOf ns ws second
    all : all_true Fs ≡ all_true first && all_true second

  two_parts : (vs ws : List Expr) (Fs : List plain.Formula) → AreNonzeroOf ns (vs ++ ws) Fs → AreTwo vs ws Fs
  unfolding all_true
  two_parts [] ws Fs h = record { first = []; second = Fs; first_is = refl; second_is = h; all = refl }
  two_parts (v ∷ vs) ws Fs h =
      let rest = two_parts vs ws h.1 h.3 in record {
        first = h.0 ∷ rest.first;
        second = rest.second;
        first_is = (h.0, rest.first, h.2, rest.first_is, refl);
        second_is = rest.second_is;
        all = ap all_true h.4 ∙ ap (λ b. plain.truth_at h.0 (values_of ns p) && b) rest.all
            ∙ both_assoc (plain.truth_at h.0 (values_of ns p)) (all_true rest.first) (all_true rest.second);
      }

  right_append : (vs ws : List Expr) → AreRight vs → AreRight ws → AreRight (vs ++ ws)
  right_append vs ws h k Fs is =
      let two = two_parts vs ws Fs is in
      two.all ∙ ap₂ ◌&&◌ (h two.first two.first_is) (k two.second two.second_is) ∙ sym (are_nonzero-append vs ws p)

  -- a divisor counts where none inside it is 0
  right_divisor : (v : Expr) → IsListedExpr ns v → AreRight (divisors_of_expr v) → AreRight (v ∷ divisors_of_expr v)
  unfolding all_true
  right_divisor v l h Fs is =
      ap all_true is.4
      ∙ guarded (plain.truth_at is.0 (values_of ns p)) (not (same (value_of v p) (whole (pos 0)))) (all_true is.1) (are_nonzero (divisors_of_expr v) p)
      (h is.1 is.3)
      (λ d. nonzero_truth is.2.0 (values_of ns p) (value_of v p) is.0 ((form ns v).reduced is.2.0 is.2.1) (form_stands ns p few v is.2.0 l d is.2.1) is.2.2)

  right_none : AreRight []
  unfolding all_true
  right_none Fs is = ap all_true is

  pub right_expr : (e : Expr) → IsListedExpr ns e → AreRight (divisors_of_expr e)
  right_expr (number q) l = right_none
  right_expr (symbol x) l = right_none
  right_expr (sum u v) l = right_append (divisors_of_expr u) (divisors_of_expr v) (right_expr u l.0) (right_expr v l.1)
  right_expr (difference u v) l = right_append (divisors_of_expr u) (divisors_of_expr v) (right_expr u l.0) (right_expr v l.1)
  right_expr (opposite u) l = right_expr u l
  right_expr (product u v) l = right_append (divisors_of_expr u) (divisors_of_expr v) (right_expr u l.0) (right_expr v l.1)
  right_expr (power u k) l = right_expr u l
  right_expr (quotient u v) l =
      right_append (divisors_of_expr u) (v ∷ divisors_of_expr v) (right_expr u l.0) (right_divisor v l.1 (right_expr v l.1))

  mutual
    right_claim : (c : Claim) → IsListedClaim ns c → AreRight (divisors_of_claim c)
    right_claim always l = right_none
    right_claim never l = right_none
    right_claim (atom u rel v) l = right_append (divisors_of_expr u) (divisors_of_expr v) (right_expr u l.0) (right_expr v l.1)
    right_claim (negation c) l = right_claim c l
    right_claim (conjunction cs) l = right_claims cs l
    right_claim (disjunction cs) l = right_claims cs l
    right_claim (implication a b) l = right_append (divisors_of_claim a) (divisors_of_claim b) (right_claim a l.0) (right_claim b l.1)
    right_claim (equivalence a b) l = right_append (divisors_of_claim a) (divisors_of_claim b) (right_claim a l.0) (right_claim b l.1)

    pub right_claims : (cs : Claims) → AreListedClaims ns cs → AreRight (divisors_of_claims cs)
    right_claims none l = right_none
    right_claims (more c cs) l = right_append (divisors_of_claim c) (divisors_of_claims cs) (right_claim c l.0) (right_claims cs l.1)
