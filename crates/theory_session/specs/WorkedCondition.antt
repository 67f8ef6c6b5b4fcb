-- The condition of the tax model on its two slopes: as it is printed, and shorter.
use Rattle.std.specs.Prelude.{List, [], ◌∷◌, codes}
use Rattle.theory_meaning.specs.declared.words.Rel.{Rel}
use Rattle.theory_meaning.specs.declared.words.Rel.TheVariants.{Lt, Le, Gt, Ge}
use Rattle.theory_meaning.specs.Point.{Name}
use Rattle.theory_meaning.specs.Tree.{Expr, sum, difference, Claim, atom, conjunction, disjunction, claims_from}
use Rattle.theory_derivative.specs.Worked.{demand_slope, supply_slope, zero}

-- the names of the two slopes
abbrev pub slopes : List Name
slopes = codes "D.p" ∷ codes "S.r" ∷ []

-- how the slopes differ, and their sum
abbrev pub slope_gap : Expr
slope_gap = difference demand_slope supply_slope

abbrev pub slope_sum : Expr
slope_sum = sum demand_slope supply_slope

-- an assumption of the model fails: D.p >= 0, S.r <= 0
abbrev pub rising_demand : Claim
rising_demand = atom demand_slope Ge zero

abbrev pub falling_supply : Claim
falling_supply = atom supply_slope Le zero

-- one part of the printed condition, by its relations of the gap and of the sum to 0
abbrev pub printed_part : Rel → Rel → Claim
printed_part gap total = disjunction (claims_from
    (atom slope_gap gap zero ∷ rising_demand ∷ falling_supply ∷ atom slope_sum total zero ∷ []))

-- the condition as it is printed
abbrev pub printed_condition : Claim
printed_condition = conjunction (claims_from (printed_part Le Lt ∷ printed_part Ge Gt ∷ []))

-- D.p >= 0 or S.r <= 0 or D.p + S.r > 0
abbrev pub short_condition : Claim
short_condition = disjunction (claims_from (rising_demand ∷ falling_supply ∷ atom slope_sum Gt zero ∷ []))
