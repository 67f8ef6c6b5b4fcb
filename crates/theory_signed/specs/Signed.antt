-- A way to judge conditions: by the facts on their polynomials, and then by the signs of their symbols. Source: this project's own.
use Rattle.std.specs.Prelude.{Bool, false, List, map, Option}
use Rattle.std.specs.List.{filter}
use Rattle.std.specs.Option.{option_or, option_and_then}
use Rattle.theory_elimination.specs.Facts.{Facts, judged}
use Rattle.theory_elimination.specs.Members.{Part, Waiting, settled, condition, other, undecided}
use Rattle.theory_elimination.specs.Judging.{as_judged, facts_within, left_open, Judging}
use Rattle.theory_signed.specs.PossibleSigns.{is_symbol, judged_by_signs}

-- a member as the signs of its symbols say
abbrev pub by_signs : {X : Type 0} → Facts → Part X → Part X
by_signs K (settled b) = settled b
by_signs K (condition P S) = as_judged P S (judged_by_signs K P S)
by_signs K (other x) = other x

-- the member is a condition on a single symbol
abbrev pub is_on_symbol : {X : Type 0} → Part X → Bool
is_on_symbol (settled b) = false
is_on_symbol (condition P S) = is_symbol P
is_on_symbol (other x) = false

-- the facts, and in a conjunction also its conditions on single symbols
abbrev pub facts_beside : {X : Type 0} → Bool → List (Part X) → Facts → Facts
facts_beside all ps K = facts_within all (filter is_on_symbol ps) K

-- the members that the signs of their symbols leave open
abbrev pub open_by_signs : Bool → Facts → List Waiting → Option (List Waiting)
open_by_signs all K ps = undecided all (map (by_signs (facts_beside all ps K)) ps)

-- by the facts on the polynomial, and what these leave open by the signs of its symbols
abbrev pub by_known_and_signs : Judging
by_known_and_signs = record {
  alone = λ K P S. option_or (judged K P S) (judged_by_signs K P S);
  open_members = λ all K ps. option_and_then (open_by_signs all K) (left_open all K ps);
}
