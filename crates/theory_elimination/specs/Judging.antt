-- What is known of the members of a list, and a way to judge them. Source: this project's own.
use Rattle.std.specs.Prelude.{Bool, true, false, List, [], ◌∷◌, map, Option, None, Some}
use Rattle.std.specs.Option.{option_and_then}
use Rattle.theory_formula.specs.declared.signs.Signs.{Signs}
use Rattle.theory_polynomial.specs.Terms.{Monomial}
use Rattle.theory_elimination.specs.Facts.{Facts, judged, with_fact}
use Rattle.theory_elimination.specs.Members.{Part, settled, condition, other, Waiting, undecided, gathered}

-- an atom as the facts say, if they say something
abbrev pub as_judged : {X : Type 0} → List Monomial → Signs → Option Bool → Part X
as_judged P S None = condition P S
as_judged P S (Some b) = settled b

-- a member as the facts say
abbrev pub by_facts : {X : Type 0} → Facts → Part X → Part X
by_facts K (settled b) = settled b
by_facts K (condition P S) = as_judged P S (judged K P S)
by_facts K (other x) = other x

-- the facts for the members of a conjunction: also its atoms
abbrev pub with_conditions : {X : Type 0} → List (Part X) → Facts → Facts
with_conditions [] K = K
with_conditions (condition P S ∷ ps) K = with_conditions ps (with_fact P S K)
with_conditions (settled b ∷ ps) K = with_conditions ps K
with_conditions (other x ∷ ps) K = with_conditions ps K

-- the facts for the members of a list: a disjunction adds none
abbrev pub facts_within : {X : Type 0} → Bool → List (Part X) → Facts → Facts
facts_within true ps K = with_conditions ps K
facts_within false ps K = K

-- the members that the facts leave open
abbrev pub left_open : Bool → Facts → List Waiting → Option (List Waiting)
left_open all K ps = option_and_then (λ qs. undecided all (map (by_facts K) qs)) (gathered all ps)

-- how conditions are judged: one that stands alone, and members that wait for facts, of which those that stay open are kept
pub record Judging : Type 0 where
  pub alone : Facts → List Monomial → Signs → Option Bool
  pub open_members : Bool → Facts → List Waiting → Option (List Waiting)

-- by the facts on the polynomial alone
abbrev pub by_known : Judging
by_known = record { alone = judged; open_members = left_open }
