-- Lines in which a kind of fault doesn't apply, from the first on.
use Rattle.std.proofs.Common.{◌≡◌, ℕ, Bool, true, false, cond, List, [], ◌∷◌, ◌++◌, Option, Some, None, refl, arith}
use Rattle.std.specs.List.{AllByRecursion}
use Rattle.theory_meaning.specs.declared.words.ModelKind.{ModelKind}
use Rattle.theory_meaning.specs.declared.words.ModelKind.TheVariants.{KeyTwice, UnknownName, BadArgument, NoShift, TooManySymbols}
use Rattle.theory_meaning.specs.Declarations.{or_else}
use Rattle.theory_meaning.specs.Edit.{IsModel}
use Rattle.theory_meaning.specs.ModelFault.{has_fault, first_that, line_with, fault_at, fault_among, model_kinds}
use Rattle.theory_meaning.specs.Text.{Numbered}

-- a choice that gives nothing has a false test, and nothing in the other case
none_chosen : {T : Type 0} (b : Bool) (x : T) (rest : Option T) → cond b (Some x) rest ≡ None → (b ≡ false) × (rest ≡ None)
none_chosen true x rest h = absurd (grind (arith, h))
none_chosen false x rest h = (refl, h)

-- where there is no fault, no line has one of any of the kinds
none_of_each : (kinds : List ModelKind) (lines : List Numbered) → fault_among kinds lines ≡ None →
    AllByRecursion (λ (kind : ModelKind). line_with kind lines ≡ None) kinds
none_of_each [] lines h = tt
none_of_each (kind ∷ kinds) lines h = by_line (line_with kind lines) h (none_of_each kinds lines)
  where
    by_line : (o : Option ℕ) → or_else (fault_at kind o) (fault_among kinds lines) ≡ None
        → (fault_among kinds lines ≡ None → AllByRecursion (λ (kind : ModelKind). line_with kind lines ≡ None) kinds)
        → (o ≡ None) × AllByRecursion (λ (kind : ModelKind). line_with kind lines ≡ None) kinds
    by_line None k rest = (refl, rest k)
    by_line (Some n) k rest = absurd (grind (arith, k))

-- the lines from here on, of which the first has these above it, have no fault of the kind
abbrev pub IsWithout : List Numbered → ModelKind → List Numbered → List Numbered → Type 0
IsWithout lines kind above ns = first_that (has_fault kind lines) above ns ≡ None

pub without_each : (lines : List Numbered) (kind : ModelKind) (above : List Numbered) (n : Numbered) (ns : List Numbered) → IsWithout lines kind above (n ∷ ns)
    → (has_fault kind lines above n.line ≡ false) × IsWithout lines kind (above ++ n ∷ []) ns
without_each lines kind above n ns h = none_chosen (has_fault kind lines above n.line) n.at (first_that (has_fault kind lines) (above ++ n ∷ []) ns) h

-- a model has no fault of these kinds
pub record IsFaultless (lines : List Numbered) : Type 0 where
  pub keys : IsWithout lines KeyTwice [] lines
  pub known : IsWithout lines UnknownName [] lines
  pub fit : IsWithout lines BadArgument [] lines
  pub plain : IsWithout lines NoShift [] lines
  pub few : IsWithout lines TooManySymbols [] lines

pub faultless : (lines : List Numbered) → IsModel lines → IsFaultless lines
faultless lines is =
    let each = none_of_each model_kinds lines is.faultless in
    record { keys = each.1.0; known = each.1.1.0; fit = each.1.1.1.0; plain = each.1.1.1.1.0; few = each.1.1.1.1.1.1.0 }
