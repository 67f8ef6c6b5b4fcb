-- The values that are tried for one symbol, in their order. Source: this project's own.
use Rattle.std.specs.Prelude.{◌≡◌, ℤ, pos, negsuc, Bool, List, [], ◌∷◌, ◌++◌}
use Rattle.theory_meaning.specs.Fraction.{Fraction, whole, IsBelow, below}
use Rattle.theory_meaning.specs.Between.{IsSimplestBetween, IsWholeBelow, IsWholeAbove}

-- upwards, each once
abbrev pub IsAscending : List Fraction → Type 0
IsAscending [] = Unit {0}
IsAscending (b ∷ []) = Unit {0}
IsAscending (b ∷ c ∷ bs) = IsBelow b c × IsAscending (c ∷ bs)

-- the small whole numbers that are tried first
abbrev pub small_wholes : List Fraction
small_wholes = whole (pos 0) ∷ whole (pos 1) ∷ whole (negsuc 0) ∷ whole (pos 2) ∷ whole (negsuc 1) ∷ []

-- the simplest fraction between each two neighbours
abbrev pub AreMiddles : List Fraction → List Fraction → Type 0
AreMiddles [] ms = ms ≡ []
AreMiddles (b ∷ []) ms = ms ≡ []
AreMiddles (b ∷ c ∷ bs) [] = ⊥
AreMiddles (b ∷ c ∷ bs) (m ∷ ms) = IsSimplestBetween b c m × AreMiddles (c ∷ bs) ms

-- the last of a list that begins with b
abbrev pub last_of : Fraction → List Fraction → Fraction
last_of b [] = b
last_of b (c ∷ bs) = last_of c bs

-- the whole number below the least and the one above the greatest
abbrev pub AreEnds : List Fraction → List Fraction → Type 0
AreEnds [] es = es ≡ []
AreEnds (b ∷ bs) es =
    (n : ℤ) × (m : ℤ) × IsWholeBelow b n × IsWholeAbove (last_of b bs) m × (es ≡ whole n ∷ whole m ∷ [])

-- the values that are tried, given the breakpoints upwards
abbrev pub AreCandidates : List Fraction → List Fraction → Type 0
AreCandidates bs cs =
    (ms : List Fraction) × (es : List Fraction) × AreMiddles bs ms × AreEnds bs es × (cs ≡ small_wholes ++ bs ++ ms ++ es)

-- the two values lie alike towards every breakpoint
abbrev pub LiesAlike : List Fraction → Fraction → Fraction → Type 0
LiesAlike [] q r = Unit {0}
LiesAlike (b ∷ bs) q r = (below q b ≡ below r b) × (below b q ≡ below b r) × LiesAlike bs q r

-- the test can change only where a breakpoint is passed
abbrev pub IsSteady : List Fraction → (Fraction → Bool) → Type 0
IsSteady bs test = (q r : Fraction) → LiesAlike bs q r → test q ≡ test r
