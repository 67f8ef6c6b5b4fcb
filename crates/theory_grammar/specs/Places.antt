-- What the machine of the grammar keeps of the tokens before an operand in its brackets.
use Rattle.std.specs.Prelude.{ℕ, zero, suc}
use Rattle.theory_meaning.specs.Tree.{Expr}
use Rattle.theory_meaning.specs.Tree as plain

-- the left side of a sum or difference, if any
pub data Left : Type 0 where
  alone : Left
  plus : Expr → Left
  minus : Expr → Left

-- the left side of a product or quotient, if any
pub data Product : Type 0 where
  leading : Product
  to_multiply : Expr → Product
  to_divide : Expr → Product

-- what stands before an operand in its brackets: sum, product, prefix signs, and signs open outside and in all
pub record Place : Type 0 where
  pub sum : Left
  pub product : Product
  pub minuses : ℕ
  pub base : ℕ
  pub depth : ℕ

-- a place with nothing before it, behind d open signs
abbrev pub fresh : ℕ → Place
fresh d = record { sum = alone; product = leading; minuses = 0; base = d; depth = d }

-- the place behind a prefix minus
abbrev pub opposed : Place → Place
opposed p = record p { minuses = suc p.minuses; depth = suc p.depth }

-- the place behind a factor
abbrev pub reset : Place → Place
reset p = record p { product = leading; minuses = 0; depth = p.base }

-- the place behind `*`
abbrev pub times : Expr → Place → Place
times x p = record (reset p) { product = to_multiply x }

-- the place behind `/`
abbrev pub over : Expr → Place → Place
over x p = record (reset p) { product = to_divide x }

-- the place behind `+` or `-`
abbrev pub behind : Left → Place → Place
behind left p = record (fresh p.base) { sum = left }

-- the operand with so many prefix signs
abbrev pub opposites : ℕ → Expr → Expr
opposites zero x = x
opposites (suc m) x = opposites m (plain.opposite x)

-- the product or quotient that ends with this factor
abbrev pub multiplied : Product → Expr → Expr
multiplied leading y = y
multiplied (to_multiply x) y = plain.product x y
multiplied (to_divide x) y = plain.quotient x y

-- the sum or difference that ends with this term
abbrev pub joined : Left → Expr → Expr
joined alone y = y
joined (plus x) y = plain.sum x y
joined (minus x) y = plain.difference x y

-- the term that ends with this factor
abbrev pub settled : Place → Expr → Expr
settled p x = multiplied p.product (opposites p.minuses x)
