-- Sets of signs, neither empty nor full, and the sign of a fraction. Source: textbook.
use Rattle.std.specs.Prelude.{zero, suc, ℤ, pos, negsuc, Bool, true, false, ◌&&◌, ◌||◌, Option, Some, None}
use Rattle.theory_meaning.specs.Fraction.{Fraction}
use Rattle.theory_meaning.specs.declared.words.Rel.{Rel}
use Rattle.theory_meaning.specs.declared.words.Rel.TheVariants.{Eq, Ne, Lt, Le, Gt, Ge}
use Rattle.theory_meaning.specs.declared.words.Sign.{Sign}
use Rattle.theory_meaning.specs.declared.words.Sign.TheVariants.{Minus, Zero, Plus}
use Rattle.theory_formula.specs.declared.signs.Signs.{Signs}
use Rattle.theory_formula.specs.declared.signs.Signs.TheVariants as set

-- the set has the sign
abbrev pub has : Signs → Sign → Bool
has set.Neg Minus = true
has set.Neg _ = false
has set.Zero Zero = true
has set.Zero _ = false
has set.Pos Plus = true
has set.Pos _ = false
has set.NotPos Plus = false
has set.NotPos _ = true
has set.NonZero Zero = false
has set.NonZero _ = true
has set.NotNeg Minus = false
has set.NotNeg _ = true

-- the sign is zero
abbrev pub is_zero : Sign → Bool
is_zero Zero = true
is_zero _ = false

-- the set with these members among minus, zero and plus, and None where that is empty or full
abbrev pub set_of : Bool → Bool → Bool → Option Signs
set_of true false false = Some set.Neg
set_of false true false = Some set.Zero
set_of false false true = Some set.Pos
set_of true true false = Some set.NotPos
set_of true false true = Some set.NonZero
set_of false true true = Some set.NotNeg
set_of _ _ _ = None

-- the signs of the opposites
abbrev pub mirror : Signs → Signs
mirror set.Neg = set.Pos
mirror set.Zero = set.Zero
mirror set.Pos = set.Neg
mirror set.NotPos = set.NotNeg
mirror set.NonZero = set.NonZero
mirror set.NotNeg = set.NotPos

-- the other signs
abbrev pub complement : Signs → Signs
complement set.Neg = set.NotNeg
complement set.Zero = set.NonZero
complement set.Pos = set.NotPos
complement set.NotPos = set.Pos
complement set.NonZero = set.Zero
complement set.NotNeg = set.Neg

-- the set less zero; None where no sign is left
abbrev pub without_zero : Signs → Option Signs
without_zero S = set_of (has S Minus) false (has S Plus)

-- the common signs; None where no sign is left
abbrev pub meet : Signs → Signs → Option Signs
meet S T = set_of (has S Minus && has T Minus) (has S Zero && has T Zero) (has S Plus && has T Plus)

-- the signs of either; None where each sign is there
abbrev pub join : Signs → Signs → Option Signs
join S T = set_of (has S Minus || has T Minus) (has S Zero || has T Zero) (has S Plus || has T Plus)

-- the signs that a difference of two numbers has where they are in this relation
abbrev pub signs_of : Rel → Signs
signs_of Eq = set.Zero
signs_of Ne = set.NonZero
signs_of Lt = set.Neg
signs_of Le = set.NotPos
signs_of Gt = set.Pos
signs_of Ge = set.NotNeg

-- the sign of a whole number
abbrev pub sign_of_whole : ℤ → Sign
sign_of_whole (pos zero) = Zero
sign_of_whole (pos (suc n)) = Plus
sign_of_whole (negsuc n) = Minus

-- the sign of a fraction: that of its numerator
abbrev pub sign_of : Fraction → Sign
sign_of q = sign_of_whole q.num
