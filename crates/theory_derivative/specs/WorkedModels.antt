-- Worked models: a market under a tax, and one with two parameters.
use Rattle.std.specs.Prelude.{List, [], ◌∷◌, codes, Some}
use Rattle.theory_meaning.specs.declared.words.Rel.TheVariants.{Eq, Lt, Gt}
use Rattle.theory_meaning.specs.Text.{Numbered}
use Rattle.theory_meaning.specs.Tree.{symbol, difference, product, Claim, atom, conjunction, more, none, model, var, param, function, equation, assume, claim}
use Rattle.theory_derivative.specs.Differentiated.{Differentiated}
use Rattle.theory_derivative.specs.Worked.{p, r, t, demand, supply, dp, dr, demand_slope, supply_slope, zero, one}

-- the claim d.p > 0 and d.p < 1: a part of the tax is passed on
abbrev pub passed_on : Claim
passed_on = conjunction (more (atom dp Gt zero) (more (atom dp Lt one) none))

-- the lines of the tax model
abbrev pub tax_model : List Numbered
tax_model =
    record { at = 1; line = model (codes "tax") }
    ∷ record { at = 2; line = var (codes "p") }
    ∷ record { at = 3; line = var (codes "r") }
    ∷ record { at = 4; line = param (codes "t") }
    ∷ record { at = 5; line = function (codes "D") (codes "p" ∷ []) }
    ∷ record { at = 6; line = function (codes "S") (codes "r" ∷ []) }
    ∷ record { at = 7; line = equation (codes "net") r (difference p t) }
    ∷ record { at = 8; line = equation (codes "clear") demand supply }
    ∷ record { at = 9; line = assume (codes "A1") (atom demand_slope Lt zero) }
    ∷ record { at = 10; line = assume (codes "A2") (atom supply_slope Gt zero) }
    ∷ record { at = 11; line = claim (codes "C1") (Some (codes "t")) passed_on }
    ∷ []

-- its equations as claims: r = p - t, D = S
abbrev pub tax_equations : List Claim
tax_equations = atom r Eq (difference p t) ∷ atom demand Eq supply ∷ []

-- the same along t: d.r = d.p - 1, D.p*d.p = S.r*d.r
abbrev pub tax_slopes : List Claim
tax_slopes =
    atom dr Eq (difference dp one)
    ∷ atom (product demand_slope dp) Eq (product supply_slope dr) ∷ []

-- its assumptions: D.p < 0, S.r > 0
abbrev pub tax_assumptions : List Claim
tax_assumptions = atom demand_slope Lt zero ∷ atom supply_slope Gt zero ∷ []

-- the lines of `derive` of the tax model
abbrev pub tax_derived : List Differentiated
tax_derived =
    record { label = codes "net"; by = codes "t"; left = dr; right = difference dp one }
    ∷ record { label = codes "clear"; by = codes "t"; left = product demand_slope dp; right = product supply_slope dr }
    ∷ []

-- a variable p, parameters s and t, and a function f of s, t and p, with the equations a: p = s and b: s = t
abbrev pub plain_model : List Numbered
plain_model =
    record { at = 1; line = model (codes "q") }
    ∷ record { at = 2; line = var (codes "p") }
    ∷ record { at = 3; line = param (codes "s") }
    ∷ record { at = 4; line = equation (codes "a") p (symbol (codes "s")) }
    ∷ record { at = 5; line = param (codes "t") }
    ∷ record { at = 6; line = function (codes "f") (codes "s" ∷ codes "t" ∷ codes "p" ∷ []) }
    ∷ record { at = 7; line = equation (codes "b") (symbol (codes "s")) t }
    ∷ []

-- its lines of `derive`: a and b along s, then a and b along t
abbrev pub plain_derived : List Differentiated
plain_derived =
    record { label = codes "a"; by = codes "s"; left = dp; right = one }
    ∷ record { label = codes "b"; by = codes "s"; left = one; right = zero }
    ∷ record { label = codes "a"; by = codes "t"; left = dp; right = zero }
    ∷ record { label = codes "b"; by = codes "t"; left = zero; right = one }
    ∷ []

-- its equations as claims: p = s, s = t
abbrev pub plain_equations : List Claim
plain_equations = atom p Eq (symbol (codes "s")) ∷ atom (symbol (codes "s")) Eq t ∷ []

-- the same along t: d.p = 0, 0 = 1
abbrev pub plain_slopes : List Claim
plain_slopes = atom dp Eq zero ∷ atom zero Eq one ∷ []
