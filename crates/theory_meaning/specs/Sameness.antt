-- Operations that read a fraction as a number, however it is written. Source: textbook.
use Rattle.std.specs.Prelude.{ℕ, ℤ}
use Rattle.theory_meaning.specs.Fraction.{Fraction, IsSame}

-- the fraction n over d + 1
abbrev pub over : ℤ → ℕ → Fraction
over n d = record { num = n; less = d }

-- the operation gives the same number for the same numbers
abbrev pub RespectsSameness : (Fraction → Fraction → Fraction) → Type 0
RespectsSameness op = (q p r s : Fraction) → IsSame q p → IsSame r s → IsSame (op q r) (op p s)
