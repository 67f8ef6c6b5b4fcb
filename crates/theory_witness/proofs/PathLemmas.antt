-- The steps of a hit's path from one place on, and what is picked there.
use Rattle.std.proofs.Common.{◌≡◌, ℕ, zero, suc, ◌+◌, ◌<◌, ◌≤◌, false, List, [], ◌∷◌, map, drop, get_or}
use Rattle.std.proofs.Common.{length, ap, ◌∙◌, Err, Vec, Global, sym, subst, arith, inl, inr}
use Rattle.std.proofs.lemmas.Bool.{cases_lt}
use Rattle.std.proofs.lemmas.List.{at_drop_more}
use Rattle.theory_points.specs.declared.limit.Limit.{Limit}
use Rattle.theory_points.specs.declared.limit.Limit.TheVariants.{Wide, Memory}
use Rattle.theory_poly.specs.Answers.{WideWhere}
use Rattle.theory_signs.specs.declared.path.PathStep.{PathStep}
use Rattle.theory_meaning.specs.Fraction.{Fraction}
use Rattle.theory_formula.specs.Symbols.{IsFree, IsProper}
use Rattle.theory_polynomial.specs.PolynomialValue.{Values}
use Rattle.theory_elimination.proofs.BranchAtoms.{branch_proper}
use Rattle.theory_signed.proofs.KindAtoms.{kind_proper, kind_free}
use Rattle.theory_decision.specs.Choice.{Symbols, is_one_of}
use Rattle.theory_decision.specs.Search.{Step}
use Rattle.theory_decision.specs.Witness.{IsWitness, IsWideWitness, AddsValue}
use Rattle.theory_decision.proofs.Findings.{candidate_is_linear}
use Rattle.theory_decision.proofs.PickExists.{some_pick}
use Rattle.theory_decision.proofs.WitnessTruth.{branch_is_over, not_free}
use Rattle.theory_decision.proofs.OneWitness.{witness_not_wide}
use Rattle.theory_witness.specs.Path.{step_of, CanPick, IsWideAt, IsHitPath}

-- the path behind the first step is one too
behind : (n : ℕ) (s : Step) (path : List Step) → IsHitPath n (s ∷ path) → IsHitPath n path
behind n s path (kind, F, h, o, e) =
    let proper : IsProper s.formula = subst IsProper (sym e.0) (kind_proper kind F h) in
    (kind, e.3, branch_proper s.symbol s.formula e.2 e.3 proper e.4, branch_is_over kind n F e.3 s.formula s.symbol e.2 e.0 o e.4, e.5)

hit_from : (n i : ℕ) (path : List PathStep) → IsHitPath n (map step_of path) → i ≤ length path → IsHitPath n (map step_of (drop i path))
hit_from n zero path h l = h
hit_from n (suc i) [] h l = absurd (omega (arith, l))
hit_from n (suc i) (s ∷ path) h l = hit_from n i path (behind n (step_of s) (map step_of path) h) (omega (arith, l))

-- at a step of it some value is picked
pub can_pick : (n : ℕ) (s : Step) (path : List Step) (given : Symbols) (q : Values) → IsHitPath n (s ∷ path) → IsWitness n path given q → CanPick n s q
can_pick n s path given q (kind, F, h, o, e) w =
    let proper : IsProper s.formula = subst IsProper (sym e.0) (kind_proper kind F h) in
    record {
      proper = proper;
      over = λ y l. subst (IsFree y) (sym e.0) (kind_free y kind F (o y l));
      linear = candidate_is_linear [] s.formula s.symbol proper e.1;
      some = some_pick kind n F s path given q h o e w;
    }

-- and its symbol is among the first n
pub below_count : (n : ℕ) (s : Step) (path : List Step) → IsHitPath n (s ∷ path) → s.symbol < n
below_count n s path (kind, F, h, o, e) = elim (cases_lt s.symbol n) [
  | inl low ↦ low
  | inr high ↦ absurd (not_free s.symbol s.formula e.1.occurring
      (subst (IsFree s.symbol) (sym e.0) (kind_free s.symbol kind F (o s.symbol high))))
]

-- one step more, from the last
pub one_step : (n : ℕ) (s : Step) (path : List Step) (g given : Symbols) (q p : Values) → IsWitness n path g q
    → AddsValue (is_one_of g s.symbol) n s g q given p → IsWitness n (s ∷ path) given p
one_step n s path g given q p w a = (g, q, w, a)

pub wide_step : (n : ℕ) (s : Step) (path : List Step) (g : Symbols) (q : Values) → IsWitness n path g q → (is_one_of g s.symbol ≡ false) × IsWideAt n s q
    → IsWideWitness n (s ∷ path)
wide_step n s path g q w h = inr (g, q, w, h.0, h.1)

-- where steps further on are wide, the path is
pub wide_from : (n i : ℕ) (path : List PathStep) → IsWideWitness n (map step_of (drop i path)) → IsWideWitness n (map step_of path)
wide_from n zero path h = h
wide_from n (suc i) [] h = h
wide_from n (suc i) (s ∷ path) h = inl (wide_from n i path h)

-- the steps from one place on
place_step : (path : List PathStep) (i : ℕ) (s : PathStep) → i < length path → s ≡ get_or path i s
    → map step_of (drop i path) ≡ step_of s ∷ map step_of (drop (i + 1) path)
place_step path i s within item =
    at_drop_more (λ (ts : List PathStep). map step_of ts) path i s within ∙ ap (λ (t : PathStep). map step_of (t ∷ drop (i + 1) path)) (sym item)

module _ (n k m : ℕ) (path : List PathStep) (s : PathStep) (given : Symbols) (q : Values) (next : k + 1 ≡ m) (within : k < length path)
    (item : s ≡ get_or path k s) (h : IsHitPath n (map step_of path)) (w : IsWitness n (map step_of (drop m path)) given q) where
  steps_are : map step_of (drop k path) ≡ step_of s ∷ map step_of (drop m path)
  steps_are = place_step path k s within item ∙ ap (λ (i : ℕ). step_of s ∷ map step_of (drop i path)) next

  hit_here : IsHitPath n (step_of s ∷ map step_of (drop m path))
  hit_here = subst (IsHitPath n) steps_are (hit_from n k path h (omega (arith, within)))

  pub picks_here : CanPick n (step_of s) q
  picks_here = can_pick n (step_of s) (map step_of (drop m path)) given q hit_here w

  pub symbol_here : s.symbol < n
  symbol_here = below_count n (step_of s) (map step_of (drop m path)) hit_here

  pub added_here : (g : Symbols) (p : Values) → AddsValue (is_one_of given s.symbol) n (step_of s) given q g p → IsWitness n (map step_of (drop k path)) g p
  added_here g p a = subst (λ (ts : List Step). IsWitness n ts g p) (sym steps_are) (one_step n (step_of s) (map step_of (drop m path)) given g q p w a)

  pub wide_here : (is_one_of given s.symbol ≡ false) × IsWideAt n (step_of s) q → IsWideWitness n (map step_of path)
  wide_here a =
      wide_from n k path (subst (IsWideWitness n) (sym steps_are) (wide_step n (step_of s) (map step_of (drop m path)) given q w a))

-- after the first step
pub witness_found : (n m : ℕ) (path : List PathStep) (given : Symbols) (p : Values) → m ≤ 0 → IsWitness n (map step_of (drop m path)) given p
    → IsWitness n (map step_of path) given p
witness_found n zero path given p h w = w
witness_found n (suc m) path given p h w = absurd (omega (arith, h))

pub never_wide : (n : ℕ) (path : List Step) (given : Symbols) (p : Values) → IsWitness n path given p → ¬ IsWideWitness n path
never_wide n path given p w = witness_not_wide n path given p w

-- a limit is passed where another is
pub wide_exit : (A B : Type 0) → (A → B) → (limit : Limit) → WideWhere {T = Unit {0}} A (Err limit) → WideWhere {T = Vec Fraction Global} B (Err limit)
wide_exit A B f Wide h = f h
wide_exit A B f Memory h = tt
