-- Values that pass the bound somewhere in an expression or a claim, also where they couldn't change the truth.
use Rattle.std.specs.Prelude.{◌⊎◌}
use Rattle.theory_meaning.specs.Limits.{IsWide}
use Rattle.theory_meaning.specs.Point.{Point, value_at}
use Rattle.theory_meaning.specs.Tree.{Expr, number, symbol, sum, difference, opposite, product, power, quotient, Claim, Claims, always, never, atom, negation, conjunction, disjunction, implication, equivalence, none, more}
use Rattle.theory_meaning.specs.Truth.{value_of}

-- the value of the expression or of a part of it passes the bound
abbrev pub HasWideValue : Expr → Point → Type 0
HasWideValue (number q) p = IsWide q
HasWideValue (symbol name) p = IsWide (value_at p name)
HasWideValue (sum u v) p = HasWideValue u p ⊎ (HasWideValue v p ⊎ IsWide (value_of (sum u v) p))
HasWideValue (difference u v) p = HasWideValue u p ⊎ (HasWideValue v p ⊎ IsWide (value_of (difference u v) p))
HasWideValue (opposite u) p = HasWideValue u p ⊎ IsWide (value_of (opposite u) p)
HasWideValue (product u v) p = HasWideValue u p ⊎ (HasWideValue v p ⊎ IsWide (value_of (product u v) p))
HasWideValue (power u k) p = HasWideValue u p ⊎ IsWide (value_of (power u k) p)
HasWideValue (quotient u v) p = HasWideValue u p ⊎ (HasWideValue v p ⊎ IsWide (value_of (quotient u v) p))

-- some expression in the claim has such a value; of a list, one in some claim of it
abbrev mutual
  pub HasWidePart : Claim → Point → Type 0
  HasWidePart always p = ⊥
  HasWidePart never p = ⊥
  HasWidePart (atom u rel v) p = HasWideValue u p ⊎ HasWideValue v p
  HasWidePart (negation c) p = HasWidePart c p
  HasWidePart (conjunction cs) p = SomeHasWidePart cs p
  HasWidePart (disjunction cs) p = SomeHasWidePart cs p
  HasWidePart (implication a b) p = HasWidePart a p ⊎ HasWidePart b p
  HasWidePart (equivalence a b) p = HasWidePart a p ⊎ HasWidePart b p

  pub SomeHasWidePart : Claims → Point → Type 0
  SomeHasWidePart none p = ⊥
  SomeHasWidePart (more c cs) p = HasWidePart c p ⊎ SomeHasWidePart cs p
