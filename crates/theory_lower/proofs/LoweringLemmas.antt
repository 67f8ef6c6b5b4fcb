-- The formula of an atom, of both or either of two claims, of an equivalence, and of a list, claim by claim.
use Rattle.std.proofs.Common.{◌≡◌, ℕ, ◌+◌, ◌<◌, ◌≤◌, Bool, true, false, not, List, [], ◌∷◌, ◌++◌, length, map, drop, get_or, refl, sym, ap, ◌∙◌, subst, inr, ⊎_elim, Result, Ok, Err, IfOk}
use Rattle.std.specs.Prelude.{if◌then◌else◌}
use Rattle.std.proofs.lemmas.List.{at_drop_more, append-nil, append_assoc, map-append}
use Rattle.theory_meaning.specs.declared.words.Rel.{Rel}
use Rattle.theory_meaning.specs.Point.{Name, Point}
use Rattle.theory_meaning.specs.Truth.{meets}
use Rattle.theory_lowering.proofs.LoweredAtoms.{lowered_named}
use Rattle.theory_lowering.proofs.LoweredLaws.{lowered_truth}
use Rattle.theory_lower.specs.declared.fault.LowerFault.{LowerFault}
use Rattle.theory_meaning.specs.Tree as claim
use Rattle.theory_points.specs.declared.limit.Limit.{Limit}
use Rattle.theory_lowering.specs.NormalForm.{opposite_rel, both, either}
use Rattle.theory_formula.specs.Formula as plain
use Rattle.theory_lowering.specs.Lowered.{values_of, IsComparison, IsFormulaOf, AreFormulasOf, IsLowered}
use Rattle.theory_lowering.specs.LoweringLimits.{IsWideClaim, IsWideAmong, AreListedClaims, AreListed}
use Rattle.theory_formula.specs.Symbols.{IsNamed}
use Rattle.theory_syntax.specs.declared.claim.Claim.{Claim, Claim-F, fold-roll-Claim}
use Rattle.theory_syntax.specs.declared.claim.Claim.TheVariants.{Atom, rolls-Atom}
use Rattle.theory_syntax.specs.declared.expr.Expr.{Expr}
use Rattle.theory_syntax.specs.Plain.{expr_of, claim_of, claim_step, claims_of}
use Rattle.theory_signs.specs.declared.formula.Formula.{Formula}
use Rattle.theory_lower.specs.Lowering.{form_of, forms_of, Joins}
use Rattle.theory_signs.specs.Plain.{formula_of}

pub tree-Atom : (c : Claim) (u : Expr) (rel : Rel) (v : Expr) → c ≡ Atom u rel v → claim.atom (expr_of u) rel (expr_of v) ≡ claim_of c
tree-Atom c u rel v is =
    sym (ap claim_of is ∙ ap claim_of (sym (rolls-Atom u rel v)) ∙ fold-roll-Claim claim.Claim claim_step (Claim-F.Atom u rel v))

-- the formula of an atom that stands or is negated
pub atom_written : (ns : List Name) (b : Bool) (u v : claim.Expr) (rel used : Rel) (result : Result Formula Limit)
    → used ≡ (if b then rel else opposite_rel rel)
    → IfOk result (λ F. IsComparison ns u used v (formula_of F)) → IfOk result (λ F. IsFormulaOf ns (form_of b (claim.atom u rel v)) (formula_of F))
atom_written ns true u v rel used (Ok F) is h = subst (λ r. IsComparison ns u r v (formula_of F)) is h
atom_written ns false u v rel used (Ok F) is h = subst (λ r. IsComparison ns u r v (formula_of F)) is h
atom_written ns b u v rel used (Err e) is h = tt

-- two results together
joined_claim : Bool → claim.Claim → claim.Claim → claim.Claim
joined_claim true A B = both A B
joined_claim false A B = either A B

join_written : (ns : List Name) (all : Bool) (A B : claim.Claim) (first second result : Result Formula Limit)
    → IfOk first (λ F. IsFormulaOf ns A (formula_of F))
    → IfOk second (λ F. IsFormulaOf ns B (formula_of F)) → Joins all first second result
    → IfOk result (λ F. IsFormulaOf ns (joined_claim all A B) (formula_of F))
unfolding joined_claim
join_written ns true A B (Ok F) (Ok G) (Ok H) a b h = (
  plain.more (formula_of F) (plain.more (formula_of G) plain.none),
  (formula_of F, plain.more (formula_of G) plain.none, a, (formula_of G, plain.none, b, refl, refl), refl),
  h,
)
join_written ns false A B (Ok F) (Ok G) (Ok H) a b h = (
  plain.more (formula_of F) (plain.more (formula_of G) plain.none),
  (formula_of F, plain.more (formula_of G) plain.none, a, (formula_of G, plain.none, b, refl, refl), refl),
  h,
)
join_written ns all A B (Ok F) (Ok G) (Err e) a b h = tt
join_written ns all A B (Ok F) (Err e) result a b h = subst (λ r. IfOk r (λ H. IsFormulaOf ns (joined_claim all A B) (formula_of H))) (sym h) tt
join_written ns all A B (Err e) second result a b h = subst (λ r. IfOk r (λ H. IsFormulaOf ns (joined_claim all A B) (formula_of H))) (sym h) tt

-- an equivalence
pub iff_written : (ns : List Name) (b : Bool) (x y : claim.Claim) (r₁ r₂ r₃ r₄ j₁ j₂ j₃ : Result Formula Limit)
    → IfOk r₁ (λ F. IsFormulaOf ns (form_of true x) (formula_of F)) → IfOk r₂ (λ F. IsFormulaOf ns (form_of b y) (formula_of F)) → Joins true r₁ r₂ j₁
    → IfOk r₃ (λ F. IsFormulaOf ns (form_of false x) (formula_of F)) → IfOk r₄ (λ F. IsFormulaOf ns (form_of (not b) y) (formula_of F)) → Joins true r₃ r₄ j₂
    → Joins false j₁ j₂ j₃ → IfOk j₃ (λ F. IsFormulaOf ns (form_of b (claim.equivalence x y)) (formula_of F))
unfolding joined_claim
iff_written ns true x y r₁ r₂ r₃ r₄ j₁ j₂ j₃ a b ab c d cd all =
    join_written ns false (both (form_of true x) (form_of true y)) (both (form_of false x) (form_of false y)) j₁ j₂ j₃
    (join_written ns true (form_of true x) (form_of true y) r₁ r₂ j₁ a b ab) (join_written ns true (form_of false x) (form_of false y) r₃ r₄ j₂ c d cd) all
iff_written ns false x y r₁ r₂ r₃ r₄ j₁ j₂ j₃ a b ab c d cd all =
    join_written ns false (both (form_of true x) (form_of false y)) (both (form_of false x) (form_of true y)) j₁ j₂ j₃
    (join_written ns true (form_of true x) (form_of false y) r₁ r₂ j₁ a b ab) (join_written ns true (form_of false x) (form_of true y) r₃ r₄ j₂ c d cd) all

-- the claims from one place on
pub drop_step : (cs : List Claim) (i : ℕ) (c : Claim) → i < length cs → c ≡ get_or cs i c → claims_of (drop i cs) ≡ claim_of c ∷ claims_of (drop (i + 1) cs)
drop_step cs i c within item =
    at_drop_more (λ (ds : List Claim). claims_of ds) cs i c within ∙ ap (λ (d : Claim). claims_of (d ∷ drop (i + 1) cs)) (sym item)

more_formulas : (ns : List Name) (b : Bool) (c : claim.Claim) (cs : claim.Claims) (F : plain.Formula) (Fs : plain.Formulas) → IsFormulaOf ns (form_of b c) F
    → AreFormulasOf ns (forms_of b cs) Fs → AreFormulasOf ns (forms_of b (claim.more c cs)) (plain.more F Fs)
more_formulas ns true c cs F Fs h k = (F, Fs, h, k, refl)
more_formulas ns false c cs F Fs h k = (F, Fs, h, k, refl)

none_left : (ns : List Name) (b : Bool) → AreFormulasOf ns (forms_of b claim.none) plain.none
none_left ns true = refl
none_left ns false = refl

-- what is known before one claim of a list
pub record IsReached (ns : List Name) (b : Bool) (all rest : List claim.Claim) (made : List plain.Formula) : Type 0 where
  pub listed : AreListedClaims ns (claim.claims_from rest)
  pub written : (Gs : List plain.Formula) → AreFormulasOf ns (forms_of b (claim.claims_from rest)) (plain.formulas_from Gs)
      → AreFormulasOf ns (forms_of b (claim.claims_from all)) (plain.formulas_from (made ++ Gs))
  pub later : IsWideAmong ns (claim.claims_from all) → IsWideAmong ns (claim.claims_from rest)
  pub before : IsWideAmong ns (claim.claims_from rest) → IsWideAmong ns (claim.claims_from all)

pub reached_more : (ns : List Name) (b : Bool) (all rest next : List claim.Claim) (made grown : List plain.Formula) (c : claim.Claim) (F : plain.Formula)
    → rest ≡ c ∷ next → ((Gs : List plain.Formula) → made ++ F ∷ Gs ≡ grown ++ Gs) → IsReached ns b all rest made → IsFormulaOf ns (form_of b c) F
    → ¬ IsWideClaim ns c
    → IsReached ns b all next grown
reached_more ns b all rest next made grown c F step same h written fits =
    let here : IsReached ns b all (c ∷ next) made = subst (λ cs. IsReached ns b all cs made) step h in
    record {
      listed = here.listed.1;
      written = λ Gs k. subst (λ Fs. AreFormulasOf ns (forms_of b (claim.claims_from all)) (plain.formulas_from Fs)) (same Gs)
          (here.written (F ∷ Gs) (more_formulas ns b c (claim.claims_from next) F (plain.formulas_from Gs) written k));
      later = λ w. ⊎_elim (λ (x : IsWideClaim ns c). absurd (fits x)) (λ (y : IsWideAmong ns (claim.claims_from next)). y) (here.later w);
      before = λ w. here.before (inr w);
    }

pub reached_end : (ns : List Name) (b : Bool) (all rest : List claim.Claim) (made : List plain.Formula) → rest ≡ [] → IsReached ns b all rest made
    → AreFormulasOf ns (forms_of b (claim.claims_from all)) (plain.formulas_from made)
reached_end ns b all rest made step h =
    let here : IsReached ns b all [] made = subst (λ cs. IsReached ns b all cs made) step h in
    subst (λ Fs. AreFormulasOf ns (forms_of b (claim.claims_from all)) (plain.formulas_from Fs)) (append-nil made) (here.written [] (none_left ns b))

-- a member more at the end
pub grown_by_one : (old new : List Formula) (F : Formula) (Gs : List plain.Formula) → new ≡ old ++ F ∷ []
    → map formula_of old ++ formula_of F ∷ Gs ≡ map formula_of new ++ Gs
grown_by_one old new F Gs is =
    sym (ap (λ (xs : List Formula). map formula_of xs ++ Gs) is ∙ ap (λ (ys : List plain.Formula). ys ++ Gs) (map-append formula_of old (F ∷ []))
    ∙ append_assoc (map formula_of old) (formula_of F ∷ []) Gs)

-- the lowered formula has the truth of the sentence
pub answers_lowered : (ns : List Name) (cs : List claim.Claim) (result : Result Formula LowerFault) → length ns ≤ 32 → AreListed ns cs
    → IfOk result (λ F. IsLowered ns cs (formula_of F))
    → IfOk result (λ F. (p : Point) → plain.truth_at (formula_of F) (values_of ns p) ≡ meets cs p)
answers_lowered ns cs (Ok F) few listed h = λ p. lowered_truth ns cs (formula_of F) p few listed h
answers_lowered ns cs (Err e) few listed h = tt

-- and each symbol that occurs in it has a name
pub answers_named : (ns : List Name) (cs : List claim.Claim) (result : Result Formula LowerFault) → AreListed ns cs
    → IfOk result (λ F. IsLowered ns cs (formula_of F)) → IfOk result (λ F. plain.EachAtom (IsNamed ns) (formula_of F))
answers_named ns cs (Ok F) listed h = lowered_named ns cs (formula_of F) listed h
answers_named ns cs (Err e) listed h = tt
