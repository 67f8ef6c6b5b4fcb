-- The value of a step, by what is picked in its restricted formula.
use Rattle.std.proofs.Common.{◌≡◌, ℕ, zero, suc, ◌+◌, ◌≤◌, Bool, true, false, List, ◌∷◌, map, None, Some, subst, arith, inr, Err}
use Rattle.theory_points.specs.declared.limit.Limit.{Limit}
use Rattle.theory_points.specs.declared.limit.Limit.TheVariants.{Wide, Memory}
use Rattle.theory_poly.specs.Answers.{WideWhere}
use Rattle.std.specs.Prelude.{filter, cond, not, ◌==◌}
use Rattle.theory_meaning.specs.Fraction.{Fraction}
use Rattle.theory_formula.specs.Formula.{Formula}
use Rattle.theory_polynomial.specs.PolynomialValue.{Values, symbol_at}
use Rattle.theory_decision.specs.Choice.{symbols_from}
use Rattle.theory_decision.specs.Search.{Step}
use Rattle.theory_decision.specs.Witness.{IsPick, IsFormulaAtValues, other_values, IsWideStep, IsValue}
use Rattle.theory_decision.proofs.OneWitness.{value_not_wide}
use Rattle.theory_witness.specs.declared.picking.Picked.{Picked}
use Rattle.theory_witness.specs.declared.picking.Picked.TheVariants as picked
use Rattle.theory_witness.specs.Picked.{IsPicked}
use Rattle.theory_witness.specs.Restriction.{AreSymbols, IsWideFormulaAtValues}
use Rattle.theory_witness.specs.Path.{CanPick, IsWideAt}

-- the others are among the 32
small_symbols : (t : ℕ → Bool) (f : ℕ → Fraction) (a m : ℕ) → a + m ≤ 32 → AreSymbols (map (λ z. (z, f z)) (filter t (symbols_from a m)))
small_symbols t f a zero h = tt
small_symbols t f a (suc m) h =
    let rest = filter t (symbols_from (suc a) m) in
    let more_small : AreSymbols (map (λ z. (z, f z)) rest) = small_symbols t f (suc a) m (omega (arith, h)) in
    elim (t a) as (λ b. AreSymbols (map (λ z. (z, f z)) (cond b (a ∷ rest) rest))) [ true ↦ (omega (arith, h), more_small) | false ↦ more_small ]

pub others_small : (n x : ℕ) (p : Values) → n ≤ 32 → AreSymbols (other_values n x p)
others_small n x p h = small_symbols (λ y. not (y == x)) (λ y. symbol_at y p) 0 n (omega (arith, h))

-- nowhere is answered where nothing is picked
none_of_nowhere : (x : ℕ) (F : Formula) → IsPicked x F picked.Nowhere → IsPick x F None
none_of_nowhere x F (None, w, a) = w
none_of_nowhere x F (Some q, w, a) = absurd a

pub never_nowhere : (n : ℕ) (s : Step) (p : Values) (R : Formula) → CanPick n s p → IsFormulaAtValues (other_values n s.symbol p) s.formula R
    → IsPicked s.symbol R picked.Nowhere → ⊥
never_nowhere n s p R h made w = h.some (R, made, none_of_nowhere s.symbol R w)

-- a value that is answered is the step's
pub value_is : (n : ℕ) (s : Step) (p : Values) (R : Formula) (v : Fraction) → IsFormulaAtValues (other_values n s.symbol p) s.formula R
    → ¬ IsWideStep n s p → IsPicked s.symbol R (picked.Value v) → IsValue n s p v
value_is n s p R v made narrow (Some q, w, a) = record {
  picked = q;
  pick = (R, made, w);
  equal = a.equal;
  within = a.within;
  reduced = a.reduced;
  narrow = narrow;
}
value_is n s p R v made narrow (None, w, a) = absurd cc

pub value_narrow : (n : ℕ) (s : Step) (p : Values) (v : Fraction) → IsValue n s p v → ¬ IsWideAt n s p
value_narrow n s p v h w = value_not_wide n s p v h w

-- and where a wide one is, the step is wide
pub wide_pick : (n : ℕ) (s : Step) (p : Values) (R : Formula) → IsFormulaAtValues (other_values n s.symbol p) s.formula R
    → IsPicked s.symbol R picked.Wide → IsWideAt n s p
wide_pick n s p R made (Some q, w, a) = inr (q, (R, made, w), a)
wide_pick n s p R made (None, w, a) = absurd cc

module _ (n : ℕ) (s : Step) (p : Values) (vs : List (ℕ × Fraction)) (R : Formula) (a : Picked) (others : vs ≡ other_values n s.symbol p)
    (made : IsFormulaAtValues vs s.formula R) (w : IsPicked s.symbol R a) where
  made_there : IsFormulaAtValues (other_values n s.symbol p) s.formula R
  made_there = subst (λ (us : List (ℕ × Fraction)). IsFormulaAtValues us s.formula R) others made

  pub value_found : (v : Fraction) → ¬ IsWideFormulaAtValues vs s.formula → a ≡ picked.Value v → IsValue n s p v
  value_found v narrow is =
      value_is n s p R v made_there (subst (λ (us : List (ℕ × Fraction)). ¬ IsWideFormulaAtValues us s.formula) others narrow)
      (subst (IsPicked s.symbol R) is w)

  pub wide_found : a ≡ picked.Wide → IsWideAt n s p
  wide_found is = wide_pick n s p R made_there (subst (IsPicked s.symbol R) is w)

-- a limit is passed where another is
pub wide_err : (A B : Type 0) → (A → B) → (limit : Limit) → WideWhere {T = Fraction} A (Err limit) → WideWhere {T = Unit {0}} B (Err limit)
wide_err A B f Wide h = f h
wide_err A B f Memory h = tt
