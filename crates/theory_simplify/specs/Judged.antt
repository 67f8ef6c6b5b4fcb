-- The two ways to judge members, before they wait for facts.
use Rattle.std.specs.Prelude.{Bool, List, map, Option, None}
use Rattle.std.specs.Option.{option_and_then}
use Rattle.theory_formula.specs.declared.signs.Signs.{Signs}
use Rattle.theory_polynomial.specs.Terms.{Monomial}
use Rattle.theory_formula.specs.Formula as plain
use Rattle.theory_formula.specs.Formula.{conjunction, disjunction, none, more}
use Rattle.theory_elimination.specs.Facts.{Facts, judged}
use Rattle.theory_elimination.specs.Judging.{Judging, by_known}
use Rattle.theory_elimination.specs.Simplified.{Part, settled, condition, other, as_judged, by_facts, undecided, gathered}
use Rattle.theory_signed.specs.PossibleSigns.{judged_by_signs}
use Rattle.theory_signed.specs.Signed.{by_signs, facts_beside, by_known_and_signs}
use Rattle.theory_simplify.specs.declared.judgement.Judgement.{Judgement}
use Rattle.theory_simplify.specs.declared.judgement.Judgement.TheVariants.{ByFacts, BySigns}
use Rattle.theory_simplify.specs.declared.judgement.Source.{Source}
use Rattle.theory_simplify.specs.declared.judgement.Source.TheVariants.{Polynomial, Symbols}

-- what the facts on its polynomial, or those on its symbols, say of a condition
abbrev pub said_by : Source → Facts → List Monomial → Signs → Option Bool
said_by Polynomial K P S = judged K P S
said_by Symbols K P S = judged_by_signs K P S

-- what they say of a member
abbrev pub judged_part : Source → Facts → Part plain.Formula → Option Bool
judged_part source K (settled b) = None
judged_part source K (condition P S) = said_by source K P S
judged_part source K (other F) = None

-- a member as they say
abbrev pub by_source : Source → Facts → Part plain.Formula → Part plain.Formula
by_source source K (settled b) = settled b
by_source source K (condition P S) = as_judged P S (said_by source K P S)
by_source source K (other F) = other F

-- a way to judge, as it is written
abbrev pub judging_of : Judgement → Judging
judging_of ByFacts = by_known
judging_of BySigns = by_known_and_signs

-- the members that the facts leave open, before they wait for facts
abbrev pub open_parts : Bool → Facts → List (Part plain.Formula) → Option (List (Part plain.Formula))
open_parts all K ps = option_and_then (λ qs. undecided all (map (by_facts K) qs)) (gathered all ps)

-- and those that the signs of their symbols leave open
abbrev pub open_beside : Bool → Facts → List (Part plain.Formula) → Option (List (Part plain.Formula))
open_beside all K ps = undecided all (map (by_signs (facts_beside all ps K)) ps)

-- the members that a way to judge leaves open, before they wait for facts
abbrev pub open_for : Judgement → Bool → Facts → List (Part plain.Formula) → Option (List (Part plain.Formula))
open_for ByFacts all K ps = open_parts all K ps
open_for BySigns all K ps = option_and_then (open_beside all K) (open_parts all K ps)
