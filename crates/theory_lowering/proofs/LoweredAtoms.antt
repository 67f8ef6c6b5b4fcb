-- A lowered formula has atoms on canonical polynomials, over the listed names alone.
use Rattle.std.proofs.Common.{ℕ, ◌≤◌, length, List, [], ◌∷◌, ◌++◌, sym, subst, inl, inr}
use Rattle.theory_meaning.specs.Divisors.{divisors_of_expr, divisors_of_claim, divisors_of_claims}
use Rattle.theory_meaning.specs.Point.{Name}
use Rattle.theory_meaning.specs.Tree.{Expr, number, symbol, sum, difference, opposite, product, power, quotient, Claim, Claims, claims_from}
use Rattle.theory_meaning.specs.Tree as claim
use Rattle.theory_formula.specs.declared.signs.Signs.{Signs}
use Rattle.theory_formula.specs.declared.signs.Signs.TheVariants as set
use Rattle.theory_formula.specs.Signs.{signs_of, mirror}
use Rattle.theory_polynomial.specs.Polynomial.{Monomial, IsFreeOf}
use Rattle.theory_formula.specs.Formula.{Formula, Formulas, EachAtom, EachAtomOfAll}
use Rattle.theory_formula.specs.SignCondition.{IsAtomOf, IsAtomPolynomial}
use Rattle.theory_formula.specs.Symbols.{IsFree, IsProper, IsNamed}
use Rattle.theory_formula.proofs.ProperFormulas.{condition_proper, named_below}
use Rattle.theory_formula.proofs.FreeTerms.{terms_lack, atom_free}
use Rattle.theory_lowering.specs.NormalForm.{normal_form, negated_form, normal_forms, negated_forms}
use Rattle.theory_lowering.specs.RationalFunction.{RationalFunction}
use Rattle.theory_lowering.specs.Lowered.{IsFormOf, IsConditionOn, IsFormulaOf, AreFormulasOf, AreNonzeroOf, before, IsLowered}
use Rattle.theory_lowering.specs.LoweringLimits.{IsListedExpr, IsListedClaim, AreListedClaims, AreListed}
use Rattle.theory_lowering.proofs.SingleLowered.{form}
use Rattle.theory_lowering.proofs.LackingForms.{lack_form}

-- a fact of each atom of the conditions on a rational function
condition_each : (Q : List Monomial → Signs → Type 0) (q : RationalFunction) (S : Signs) (F : Formula)
    → ((T : Signs) (G : Formula) → IsAtomOf q.top.top T G → EachAtom Q G) → ((T : Signs) (G : Formula) → IsAtomOf q.bottom T G → EachAtom Q G)
    → IsConditionOn q S F → EachAtom Q F
condition_each Q q S F top bottom (inl w) = top S F w.1
condition_each Q q S F top bottom (inr w) =
    subst (EachAtom Q) (sym w.written) (
      (bottom set.Pos w.positive w.positive_is, (top S w.kept w.kept_is, tt)),
      ((bottom set.Neg w.negative w.negative_is, (top (mirror S) w.mirrored w.mirrored_is, tt)), tt),
    )

-- canonical polynomials
form_proper : (ns : List Name) (e : Expr) (q : RationalFunction) (S : Signs) (F : Formula) → IsFormOf ns e q → IsConditionOn q S F → IsProper F
form_proper ns e q S F h k =
    let low = (form ns e).reduced q h in
    condition_each (λ P S. IsAtomPolynomial P) q S F (λ T G a. condition_proper q.top.top T G low.low.ordered a)
    (λ T G a. condition_proper q.bottom T G low.ordered a) k

mutual
  formula_proper : (ns : List Name) (c : Claim) (F : Formula) → IsFormulaOf ns c F → IsProper F
  formula_proper ns claim.always F h = subst IsProper (sym h) tt
  formula_proper ns claim.never F h = subst IsProper (sym h) tt
  formula_proper ns (claim.atom u rel v) F h = form_proper ns (difference u v) h.0 (signs_of rel) F h.1 h.2
  formula_proper ns (claim.conjunction cs) F h = subst IsProper (sym h.2) (formulas_proper ns cs h.0 h.1)
  formula_proper ns (claim.disjunction cs) F h = subst IsProper (sym h.2) (formulas_proper ns cs h.0 h.1)
  formula_proper ns (claim.negation c) F h = absurd h
  formula_proper ns (claim.implication a b) F h = absurd h
  formula_proper ns (claim.equivalence a b) F h = absurd h

  formulas_proper : (ns : List Name) (cs : Claims) (Fs : Formulas) → AreFormulasOf ns cs Fs → EachAtomOfAll (λ P S. IsAtomPolynomial P) Fs
  formulas_proper ns claim.none Fs h = subst (EachAtomOfAll (λ P S. IsAtomPolynomial P)) (sym h) tt
  formulas_proper ns (claim.more c cs) Fs h =
      subst (EachAtomOfAll (λ P S. IsAtomPolynomial P)) (sym h.4) (formula_proper ns c h.0 h.2, formulas_proper ns cs h.1 h.3)

before_proper : (ns : List Name) (vs : List Expr) (Ds : List Formula) (Fs : Formulas) → AreNonzeroOf ns vs Ds
    → EachAtomOfAll (λ P S. IsAtomPolynomial P) Fs → EachAtomOfAll (λ P S. IsAtomPolynomial P) (before Ds Fs)
before_proper ns [] Ds Fs h k = subst (λ Es. EachAtomOfAll (λ P S. IsAtomPolynomial P) (before Es Fs)) (sym h) k
before_proper ns (v ∷ vs) Ds Fs h k =
    subst (λ Es. EachAtomOfAll (λ P S. IsAtomPolynomial P) (before Es Fs)) (sym h.4)
    (condition_proper h.2.0.top.top set.NonZero h.0 ((form ns v).reduced h.2.0 h.2.1).low.ordered h.2.2, before_proper ns vs h.1 Fs h.3 k)

pub lowered_proper : (ns : List Name) (cs : List Claim) (F : Formula) → IsLowered ns cs F → IsProper F
lowered_proper ns cs F h =
    subst IsProper (sym h.4)
    (before_proper ns (divisors_of_claims (claims_from cs)) h.0 h.1 h.2 (formulas_proper ns (normal_forms (claims_from cs)) h.1 h.3))

-- the names of normal forms and of divisors are those of the claims
module _ (ns : List Name) where
  mutual
    normal_listed : (c : Claim) → IsListedClaim ns c → IsListedClaim ns (normal_form c)
    normal_listed claim.always l = tt
    normal_listed claim.never l = tt
    normal_listed (claim.atom u rel v) l = l
    normal_listed (claim.negation c) l = negated_listed c l
    normal_listed (claim.conjunction cs) l = normals_listed cs l
    normal_listed (claim.disjunction cs) l = normals_listed cs l
    normal_listed (claim.implication a b) l = (negated_listed a l.0, (normal_listed b l.1, tt))
    normal_listed (claim.equivalence a b) l =
        ((normal_listed a l.0, (normal_listed b l.1, tt)), ((negated_listed a l.0, (negated_listed b l.1, tt)), tt))

    negated_listed : (c : Claim) → IsListedClaim ns c → IsListedClaim ns (negated_form c)
    negated_listed claim.always l = tt
    negated_listed claim.never l = tt
    negated_listed (claim.atom u rel v) l = l
    negated_listed (claim.negation c) l = normal_listed c l
    negated_listed (claim.conjunction cs) l = negateds_listed cs l
    negated_listed (claim.disjunction cs) l = negateds_listed cs l
    negated_listed (claim.implication a b) l = (normal_listed a l.0, (negated_listed b l.1, tt))
    negated_listed (claim.equivalence a b) l =
        ((normal_listed a l.0, (negated_listed b l.1, tt)), ((negated_listed a l.0, (normal_listed b l.1, tt)), tt))

    normals_listed : (cs : Claims) → AreListedClaims ns cs → AreListedClaims ns (normal_forms cs)
    normals_listed claim.none l = tt
    normals_listed (claim.more c cs) l = (normal_listed c l.0, normals_listed cs l.1)

    negateds_listed : (cs : Claims) → AreListedClaims ns cs → AreListedClaims ns (negated_forms cs)
    negateds_listed claim.none l = tt
    negateds_listed (claim.more c cs) l = (negated_listed c l.0, negateds_listed cs l.1)

  abbrev AllListed : List Expr → Type 0
  AllListed [] = Unit {0}
  AllListed (v ∷ vs) = IsListedExpr ns v × AllListed vs

  listed_append : (vs ws : List Expr) → AllListed vs → AllListed ws → AllListed (vs ++ ws)
  listed_append [] ws l m = m
  listed_append (v ∷ vs) ws l m = (l.0, listed_append vs ws l.1 m)

  divisors_listed : (e : Expr) → IsListedExpr ns e → AllListed (divisors_of_expr e)
  divisors_listed (number q) l = tt
  divisors_listed (symbol x) l = tt
  divisors_listed (sum u v) l = listed_append (divisors_of_expr u) (divisors_of_expr v) (divisors_listed u l.0) (divisors_listed v l.1)
  divisors_listed (difference u v) l = listed_append (divisors_of_expr u) (divisors_of_expr v) (divisors_listed u l.0) (divisors_listed v l.1)
  divisors_listed (opposite u) l = divisors_listed u l
  divisors_listed (product u v) l = listed_append (divisors_of_expr u) (divisors_of_expr v) (divisors_listed u l.0) (divisors_listed v l.1)
  divisors_listed (power u k) l = divisors_listed u l
  divisors_listed (quotient u v) l =
      listed_append (divisors_of_expr u) (v ∷ divisors_of_expr v) (divisors_listed u l.0) (l.1, divisors_listed v l.1)

  mutual
    claim_divisors : (c : Claim) → IsListedClaim ns c → AllListed (divisors_of_claim c)
    claim_divisors claim.always l = tt
    claim_divisors claim.never l = tt
    claim_divisors (claim.atom u rel v) l = divisors_listed (difference u v) l
    claim_divisors (claim.negation c) l = claim_divisors c l
    claim_divisors (claim.conjunction cs) l = all_divisors cs l
    claim_divisors (claim.disjunction cs) l = all_divisors cs l
    claim_divisors (claim.implication a b) l =
        listed_append (divisors_of_claim a) (divisors_of_claim b) (claim_divisors a l.0) (claim_divisors b l.1)
    claim_divisors (claim.equivalence a b) l =
        listed_append (divisors_of_claim a) (divisors_of_claim b) (claim_divisors a l.0) (claim_divisors b l.1)

    all_divisors : (cs : Claims) → AreListedClaims ns cs → AllListed (divisors_of_claims cs)
    all_divisors claim.none l = tt
    all_divisors (claim.more c cs) l =
        listed_append (divisors_of_claim c) (divisors_of_claims cs) (claim_divisors c l.0) (all_divisors cs l.1)

-- listed names
module _ (ns : List Name) (x : ℕ) (past : length ns ≤ x) where
  form_free : (e : Expr) (q : RationalFunction) (S : Signs) (F : Formula) → IsListedExpr ns e → IsFormOf ns e q → IsConditionOn q S F → IsFree x F
  form_free e q S F l h k =
      let lack = lack_form ns x past e q l h in
      condition_each (λ P S. IsFreeOf x P) q S F (λ T G a. atom_free x q.top.top T G (terms_lack x q.top.top lack.top) a)
      (λ T G a. atom_free x q.bottom T G (terms_lack x q.bottom lack.bottom) a) k

  mutual
    formula_free : (c : Claim) (F : Formula) → IsListedClaim ns c → IsFormulaOf ns c F → IsFree x F
    formula_free claim.always F l h = subst (IsFree x) (sym h) tt
    formula_free claim.never F l h = subst (IsFree x) (sym h) tt
    formula_free (claim.atom u rel v) F l h = form_free (difference u v) h.0 (signs_of rel) F l h.1 h.2
    formula_free (claim.conjunction cs) F l h = subst (IsFree x) (sym h.2) (formulas_free cs h.0 l h.1)
    formula_free (claim.disjunction cs) F l h = subst (IsFree x) (sym h.2) (formulas_free cs h.0 l h.1)
    formula_free (claim.negation c) F l h = absurd h
    formula_free (claim.implication a b) F l h = absurd h
    formula_free (claim.equivalence a b) F l h = absurd h

    formulas_free : (cs : Claims) (Fs : Formulas) → AreListedClaims ns cs → AreFormulasOf ns cs Fs → EachAtomOfAll (λ P S. IsFreeOf x P) Fs
    formulas_free claim.none Fs l h = subst (EachAtomOfAll (λ P S. IsFreeOf x P)) (sym h) tt
    formulas_free (claim.more c cs) Fs l h =
        subst (EachAtomOfAll (λ P S. IsFreeOf x P)) (sym h.4) (formula_free c h.0 l.0 h.2, formulas_free cs h.1 l.1 h.3)

  before_free : (vs : List Expr) (Ds : List Formula) (Fs : Formulas) → AllListed ns vs → AreNonzeroOf ns vs Ds
      → EachAtomOfAll (λ P S. IsFreeOf x P) Fs → EachAtomOfAll (λ P S. IsFreeOf x P) (before Ds Fs)
  before_free [] Ds Fs l h k = subst (λ Es. EachAtomOfAll (λ P S. IsFreeOf x P) (before Es Fs)) (sym h) k
  before_free (v ∷ vs) Ds Fs l h k =
      subst (λ Es. EachAtomOfAll (λ P S. IsFreeOf x P) (before Es Fs)) (sym h.4) (
        atom_free x h.2.0.top.top set.NonZero h.0 (terms_lack x h.2.0.top.top (lack_form ns x past v h.2.0 l.0 h.2.1).top) h.2.2,
        before_free vs h.1 Fs l.1 h.3 k,
      )

  pub lowered_free : (cs : List Claim) (F : Formula) → AreListed ns cs → IsLowered ns cs F → IsFree x F
  lowered_free cs F l h =
      subst (IsFree x) (sym h.4)
      (before_free (divisors_of_claims (claims_from cs)) h.0 h.1 (all_divisors ns (claims_from cs) l) h.2
      (formulas_free (normal_forms (claims_from cs)) h.1 (normals_listed ns (claims_from cs) l) h.3))

pub lowered_named : (ns : List Name) (cs : List Claim) (F : Formula) → AreListed ns cs → IsLowered ns cs F → EachAtom (IsNamed ns) F
lowered_named ns cs F l w = named_below ns F (λ x past. lowered_free ns x past cs F l w)
