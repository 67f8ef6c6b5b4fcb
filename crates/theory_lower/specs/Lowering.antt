-- What lowering answers, what two results give together, and what is added for divisors.
use Rattle.std.specs.Prelude.{◌≡◌, ◌++◌, Bool, true, false, List, Result, Ok, Err, map}
use Rattle.std.specs.declared.vec.Vec.{Vec}
use Rattle.std.specs.Global.{Global}
use Rattle.theory_meaning.specs.Point.{Name}
use Rattle.theory_meaning.specs.Tree as claim
use Rattle.theory_points.specs.declared.limit.Limit.{Limit}
use Rattle.theory_points.specs.declared.limit.Limit.TheVariants as limit
use Rattle.theory_lowering.specs.Lowered.{AreNonzeroOf}
use Rattle.theory_lowering.specs.NormalForm.{normal_form, negated_form, normal_forms, negated_forms}
use Rattle.theory_formula.specs.Formula as plain
use Rattle.theory_lower.specs.declared.fault.LowerFault.{LowerFault}
use Rattle.theory_lower.specs.declared.fault.LowerFault.TheVariants.{Large, Wide, Memory}
use Rattle.theory_signs.specs.declared.formula.Formula.{Formula}
use Rattle.theory_signs.specs.Plain.{formula_of}

-- Large exactly where that is so, and else Wide exactly where that is so, unless memory runs out
abbrev pub LowersWhere : {T : Type 0} → Type 0 → Type 0 → Result T LowerFault → Type 0
LowersWhere IsLarge IsWide (Ok F) = ¬ IsLarge × ¬ IsWide
LowersWhere IsLarge IsWide (Err Large) = IsLarge
LowersWhere IsLarge IsWide (Err Wide) = ¬ IsLarge × IsWide
LowersWhere IsLarge IsWide (Err Memory) = Unit {0}

-- the normal form of a claim, or of its negation
abbrev pub form_of : Bool → claim.Claim → claim.Claim
form_of true c = normal_form c
form_of false c = negated_form c

-- the normal forms of claims, or of their negations
abbrev pub forms_of : Bool → claim.Claims → claim.Claims
forms_of true cs = normal_forms cs
forms_of false cs = negated_forms cs

-- a list of formulas, all or some of which are to be true
abbrev pub joined : Bool → plain.Formulas → plain.Formula
joined true Fs = plain.conjunction Fs
joined false Fs = plain.disjunction Fs

-- two results give the formula of both or either, and else the first fault
abbrev pub Joins : Bool → Result Formula Limit → Result Formula Limit → Result Formula Limit → Type 0
Joins all (Ok F) (Ok G) (Ok H) = formula_of H ≡ joined all (plain.more (formula_of F) (plain.more (formula_of G) plain.none))
Joins all (Ok F) (Ok G) (Err fault) = fault ≡ limit.Memory
Joins all (Ok F) (Err fault) result = result ≡ Err fault
Joins all (Err fault) second result = result ≡ Err fault

-- a list that was made gives the formula of all or some of its members
abbrev pub Lists : Bool → Result (Vec Formula Global) Limit → Result Formula Limit → Type 0
Lists all (Ok Fs) (Ok F) = formula_of F ≡ joined all (plain.formulas_from (map formula_of Fs.items))
Lists all (Ok Fs) (Err fault) = ⊥
Lists all (Err fault) result = result ≡ Err fault

-- the conditions that these expressions aren't 0 were added at the end
abbrev pub AddsNonzero : List Name → List claim.Expr → List plain.Formula → List plain.Formula → Type 0
AddsNonzero ns vs old new = (Ds : List plain.Formula) × AreNonzeroOf ns vs Ds × (new ≡ old ++ Ds)

-- Wide only where that is so
abbrev pub WideOnlyWhere : {T : Type 0} → Type 0 → Result T Limit → Type 0
WideOnlyWhere Passes (Ok x) = Unit {0}
WideOnlyWhere Passes (Err limit.Wide) = Passes
WideOnlyWhere Passes (Err limit.Memory) = Unit {0}
