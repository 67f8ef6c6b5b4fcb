-- The conditions of divisors, list by list, and before the formulas of the claims.
use Rattle.std.proofs.Common.{◌≡◌, ◌⊎◌, Box, Global, List, [], ◌∷◌, ◌++◌, map, refl, sym, ap, ◌∙◌, subst, inl, inr, Result, Ok, Err, OnOk}
use Rattle.std.proofs.lemmas.List.{append-nil, append_assoc, map-append}
use Rattle.theory_points.specs.declared.limit.Limit.{Limit}
use Rattle.theory_meaning.specs.Divisors.{divisors_of_expr, divisors_of_claim, divisors_of_claims}
use Rattle.theory_meaning.specs.Point.{Name}
use Rattle.theory_meaning.specs.Tree as claim
use Rattle.theory_formula.specs.Formula as plain
use Rattle.theory_lowering.specs.NormalForm.{normal_forms}
use Rattle.theory_lowering.specs.Lowered.{IsNonzeroOf, AreNonzeroOf, AreFormulasOf, before, IsLowered}
use Rattle.theory_lowering.specs.LoweringLimits.{IsWideAmong, AreListedClaims}
use Rattle.theory_signs.specs.declared.formula.Formula.{Formula}
use Rattle.theory_signs.specs.Plain.{formula_of}
use Rattle.theory_syntax.specs.declared.expr.Expr.{Expr}
use Rattle.theory_syntax.specs.declared.expr.Expr.TheVariants.{Sum, Diff, Prod, Quot}
use Rattle.theory_syntax.specs.declared.claim.Claim.{Claim}
use Rattle.theory_syntax.specs.declared.claim.Claim.TheVariants.{Implies, Iff}
use Rattle.theory_syntax.specs.Plain.{expr_of, claim_of}
use Rattle.theory_lower.proofs.TreeLemmas.{tree-Sum, tree-Diff, tree-Prod, tree-Quot, tree-Implies, tree-Iff}
use Rattle.theory_lower.specs.Lowering.{AddsNonzero}

module _ (ns : List Name) where
  nonzero_append : (vs ws : List claim.Expr) (Ds Es : List plain.Formula) → AreNonzeroOf ns vs Ds → AreNonzeroOf ns ws Es → AreNonzeroOf ns (vs ++ ws) (Ds ++ Es)
  nonzero_append [] ws Ds Es h k = subst (λ Fs. AreNonzeroOf ns ws (Fs ++ Es)) (sym h) k
  nonzero_append (v ∷ vs) ws Ds Es h k =
      (h.0, h.1 ++ Es, h.2, nonzero_append vs ws h.1 Es h.3 k, ap (λ (Fs : List plain.Formula). Fs ++ Es) h.4)

  -- no condition, one, and those of two lists
  pub adds_none : (old : List plain.Formula) → AddsNonzero ns [] old old
  adds_none old = ([], refl, sym (append-nil old))

  pub adds_one : (v : claim.Expr) (F : plain.Formula) (old new : List plain.Formula) → IsNonzeroOf ns v F → new ≡ old ++ F ∷ []
      → AddsNonzero ns (v ∷ []) old new
  adds_one v F old new h is = (F ∷ [], (F, [], h, refl, refl), is)

  pub adds_both : (vs ws : List claim.Expr) (old made new : List plain.Formula) → AddsNonzero ns vs old made → AddsNonzero ns ws made new
      → AddsNonzero ns (vs ++ ws) old new
  adds_both vs ws old made new h k = (
    h.0 ++ k.0,
    nonzero_append vs ws h.0 k.0 h.1 k.1,
    k.2 ∙ ap (λ (Fs : List plain.Formula). Fs ++ k.0) h.2 ∙ append_assoc old h.0 k.0,
  )

  pub adds_on : {T : Type 0} (vs ws all : List claim.Expr) (old made new : List plain.Formula) (result : Result T Limit) → vs ++ ws ≡ all
      → AddsNonzero ns vs old made → OnOk result (AddsNonzero ns ws made new) → OnOk result (AddsNonzero ns all old new)
  adds_on vs ws all old made new (Ok x) is h k = subst (λ us. AddsNonzero ns us old new) is (adds_both vs ws old made new h k)
  adds_on vs ws all old made new (Err e) is h k = tt

  -- what is known before one claim of a list
  pub record IsReachedBy (all rest : List claim.Claim) (old made : List plain.Formula) : Type 0 where
    pub listed : AreListedClaims ns (claim.claims_from rest)
    pub written : (new : List plain.Formula) → AddsNonzero ns (divisors_of_claims (claim.claims_from rest)) made new
        → AddsNonzero ns (divisors_of_claims (claim.claims_from all)) old new
    pub before : IsWideAmong ns (claim.claims_from rest) → IsWideAmong ns (claim.claims_from all)

  pub reached_by_more : (all rest next : List claim.Claim) (old made grown : List plain.Formula) (c : claim.Claim) → rest ≡ c ∷ next
      → IsReachedBy all rest old made → AddsNonzero ns (divisors_of_claim c) made grown → IsReachedBy all next old grown
  reached_by_more all rest next old made grown c step h added =
      let here : IsReachedBy all (c ∷ next) old made = subst (λ cs. IsReachedBy all cs old made) step h in
      record {
        listed = here.listed.1;
        written = λ new k.
            here.written new (adds_both (divisors_of_claim c) (divisors_of_claims (claim.claims_from next)) made grown new added k);
        before = λ w. here.before (inr w);
      }

  pub reached_by_end : (all rest : List claim.Claim) (old made : List plain.Formula) → rest ≡ [] → IsReachedBy all rest old made
      → AddsNonzero ns (divisors_of_claims (claim.claims_from all)) old made
  reached_by_end all rest old made step h =
      let here : IsReachedBy all [] old made = subst (λ cs. IsReachedBy all cs old made) step h in
      here.written made (adds_none made)

-- the divisors of a node with two parts
pub parts_of_expr : (e : Expr) (u v : Box Expr Global) (x y : Expr) → (e ≡ Sum u v) ⊎ ((e ≡ Diff u v) ⊎ (e ≡ Prod u v)) → x ≡ u.value → y ≡ v.value
    → divisors_of_expr (expr_of x) ++ divisors_of_expr (expr_of y) ≡ divisors_of_expr (expr_of e)
parts_of_expr e u v x y (inl is) first second = ap divisors_of_expr (tree-Sum e u v x y is first second)
parts_of_expr e u v x y (inr (inl is)) first second = ap divisors_of_expr (tree-Diff e u v x y is first second)
parts_of_expr e u v x y (inr (inr is)) first second = ap divisors_of_expr (tree-Prod e u v x y is first second)

pub parts_of_quotient : (e : Expr) (u v : Box Expr Global) (x y z : Expr) → e ≡ Quot u v → x ≡ u.value → y ≡ v.value → z ≡ v.value
    → (divisors_of_expr (expr_of x) ++ expr_of y ∷ []) ++ divisors_of_expr (expr_of z) ≡ divisors_of_expr (expr_of e)
parts_of_quotient e u v x y z is first second third =
    append_assoc (divisors_of_expr (expr_of x)) (expr_of y ∷ []) (divisors_of_expr (expr_of z))
    ∙ ap (λ (w : Expr). divisors_of_expr (expr_of x) ++ expr_of y ∷ divisors_of_expr (expr_of w)) (third ∙ sym second)
    ∙ ap divisors_of_expr (tree-Quot e u v x y is first second)

pub parts_of_claim : (c : Claim) (a b : Box Claim Global) (x y : Claim) → (c ≡ Implies a b) ⊎ (c ≡ Iff a b) → x ≡ a.value → y ≡ b.value
    → divisors_of_claim (claim_of x) ++ divisors_of_claim (claim_of y) ≡ divisors_of_claim (claim_of c)
parts_of_claim c a b x y (inl is) first second = ap divisors_of_claim (tree-Implies c a b x y is first second)
parts_of_claim c a b x y (inr is) first second = ap divisors_of_claim (tree-Iff c a b x y is first second)

-- the conditions stand before the formulas of the claims
before_from : (Ds Gs : List plain.Formula) → plain.formulas_from (Ds ++ Gs) ≡ before Ds (plain.formulas_from Gs)
before_from [] Gs = refl
before_from (D ∷ Ds) Gs = ap (plain.more D) (before_from Ds Gs)

pub lowered_members : (ns : List Name) (cs : List claim.Claim) (added made all : List Formula)
    → AddsNonzero ns (divisors_of_claims (claim.claims_from cs)) [] (map formula_of added)
    → AreFormulasOf ns (normal_forms (claim.claims_from cs)) (plain.formulas_from (map formula_of made)) → all ≡ added ++ made
    → IsLowered ns cs (plain.conjunction (plain.formulas_from (map formula_of all)))
lowered_members ns cs added made all h k is = (
  h.0,
  plain.formulas_from (map formula_of made),
  h.1,
  k,
  ap plain.conjunction
      (ap (λ (Fs : List Formula). plain.formulas_from (map formula_of Fs)) is
      ∙ ap plain.formulas_from (map-append formula_of added made ∙ ap (λ (Ds : List plain.Formula). Ds ++ map formula_of made) h.2)
      ∙ before_from h.0 (map formula_of made)),
)
