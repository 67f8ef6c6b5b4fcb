-- The lines and edits that tokens spell, rule by rule. docs/MODEL_TEXT.md has the rules in words.
use Rattle.std.specs.Prelude.{◌≡◌, ◌*ℤ◌, ℕ, zero, suc, ◌-◌, ◌/◌, ◌%◌, pos, Bool, true, false, not, ◌&&◌, ◌||◌, nat_le, nat_lt, List, [], ◌∷◌, ◌++◌, map, None, Some, IsTrue, codes}
use Rattle.theory_meaning.specs.declared.words.Rel.{Rel}
use Rattle.theory_meaning.specs.declared.words.Rel.TheVariants as rel
use Rattle.theory_meaning.specs.Fraction.{Fraction, whole, den}
use Rattle.theory_meaning.specs.Limits.{IsReduced}
use Rattle.theory_meaning.specs.Point.{Name}
use Rattle.theory_meaning.specs.Tree.{Expr, Claim, Line, claims_from}
use Rattle.theory_meaning.specs.Tree as plain
use Rattle.theory_meaning.specs.Text as text
use Rattle.theory_grammar.specs.declared.words.Keyword.TheVariants as word
use Rattle.theory_grammar.specs.declared.words.Mark.TheVariants as sign
use Rattle.theory_grammar.specs.Token.{Token, keyword, name, dotted, number, mark, relation}

-- the limits that count: how many signs stand open, which exponents there are, and no 0 below
pub record Limits : Type 0 where
  pub depth : Bool
  pub exponent : Bool
  pub below : Bool

-- each limit counts
abbrev pub every : Limits
every = record { depth = true; exponent = true; below = true }

-- each limit counts but that of open signs
abbrev pub any_depth : Limits
any_depth = record every { depth = false }

-- no limit counts
abbrev pub unlimited : Limits
unlimited = record { depth = false; exponent = false; below = false }

-- behind d open signs one more may open, of `(`, `[`, prefix `-` and `not`
abbrev pub has_room : Limits → ℕ → Bool
has_room limits d = not limits.depth || nat_lt d 32

-- the number may be an exponent: from 1 to 8 where that limit counts
abbrev pub is_exponent : Limits → ℕ → Bool
is_exponent limits k = not limits.exponent || (nat_le 1 k && nat_le k 8)

-- the number may stand below in a fraction literal
abbrev pub is_below : Limits → ℕ → Bool
is_below limits d = not limits.below || nat_lt 0 d

-- the greatest common divisor by at most so many steps of Euclid's
abbrev pub euclid : ℕ → ℕ → ℕ → ℕ
euclid zero a b = a
euclid (suc steps) a zero = a
euclid (suc steps) a (suc b) = euclid steps (suc b) (a % suc b)

-- the greatest common divisor; b + 1 steps always suffice
abbrev pub common_divisor : ℕ → ℕ → ℕ
common_divisor a b = euclid (suc b) a b

-- n over d in lowest terms
unfoldable pub lowest : ℕ → ℕ → Fraction
lowest n d = record { num = pos (n / common_divisor n d); less = d / common_divisor n d - 1 }

-- the fraction is the number n over d, in lowest terms
pub record IsLowest (n d : ℕ) (q : Fraction) : Type 0 where
  pub same : q.num *ℤ pos d ≡ pos n *ℤ pos (den q)
  pub reduced : IsReduced q

-- what stands last among tokens: a number where a factor may begin, `^` or `/`, or something else
pub data Last : Type 0 where
  bare : Last
  tight : Last
  loose : Last

-- a number behind `^` or `/` begins no factor
abbrev pub number_behind : Last → Last
number_behind tight = loose
number_behind _ = bare

-- the last one with one token more
abbrev pub last_behind : Last → Token → Last
last_behind last (number n) = number_behind last
last_behind last (mark sign.Over) = tight
last_behind last (mark sign.Power) = tight
last_behind last _ = loose

-- and with further tokens
abbrev pub last_of : Last → List Token → Last
last_of last [] = last
last_of last (t ∷ ts) = last_of (last_behind last t) ts

-- the token is a number
abbrev pub is_number : Token → Bool
is_number (number n) = true
is_number _ = false

-- the first of the tokens is a number
abbrev pub begins_with_number : List Token → Bool
begins_with_number [] = false
begins_with_number (t ∷ ts) = is_number t

-- behind this last token and `/` these tokens may be a divisor: not a number where that ends a literal
abbrev pub may_divide : Last → List Token → Bool
may_divide bare ts = not (begins_with_number ts)
may_divide _ ts = true

-- the levels of expressions
pub data Level : Type 0 where
  sum : Level
  term : Level
  factor : Level
  power : Level
  primary : Level

-- behind d open signs the tokens spell an expression of this level; all rules but `divided` are those of texts in which nothing divides,
-- so that what such a text spelled before it spells still
pub data IsExpr (limits : Limits) : Level → ℕ → List Token → Expr → Type 0 where
  whole_number : {d n : ℕ} → IsExpr limits primary d (number n ∷ []) (plain.number (whole (pos n)))
  identifier : {d : ℕ} {x : Name} → IsExpr limits primary d (name x ∷ []) (plain.symbol x)
  dotted_name : {d : ℕ} {x : Name} → IsExpr limits primary d (dotted x ∷ []) (plain.symbol x)
  bracket : {d : ℕ} {ts : List Token} {x : Expr} → IsTrue (has_room limits d) → IsExpr limits sum (suc d) ts x
      → IsExpr limits primary d (mark sign.Open ∷ (ts ++ mark sign.Close ∷ [])) x
  one_primary : {d : ℕ} {ts : List Token} {x : Expr} → IsExpr limits primary d ts x
      → IsExpr limits power d ts x
  raised : {d : ℕ} {ts : List Token} {x : Expr} {k : ℕ} → IsTrue (is_exponent limits k) → IsExpr limits primary d ts x
      → IsExpr limits power d (ts ++ mark sign.Power ∷ number k ∷ []) (plain.power x k)
  one_power : {d : ℕ} {ts : List Token} {x : Expr} → IsExpr limits power d ts x → IsExpr limits factor d ts x
  fraction : {d m n : ℕ} → IsTrue (is_below limits n)
      → IsExpr limits factor d (number m ∷ mark sign.Over ∷ number n ∷ []) (plain.number (lowest m n))
  negated : {d : ℕ} {ts : List Token} {x : Expr} → IsTrue (has_room limits d) → IsExpr limits factor (suc d) ts x
      → IsExpr limits factor d (mark sign.Minus ∷ ts) (plain.opposite x)
  one_factor : {d : ℕ} {ts : List Token} {x : Expr} → IsExpr limits factor d ts x → IsExpr limits term d ts x
  times : {d : ℕ} {ts us : List Token} {x y : Expr} → IsExpr limits term d ts x → IsExpr limits factor d us y
      → IsExpr limits term d (ts ++ mark sign.Times ∷ us) (plain.product x y)
  divided : {d : ℕ} {ts us : List Token} {x y : Expr} → IsTrue (may_divide (last_of loose ts) us) → IsExpr limits term d ts x
      → IsExpr limits power d us y → IsExpr limits term d (ts ++ mark sign.Over ∷ us) (plain.quotient x y)
  one_term : {d : ℕ} {ts : List Token} {x : Expr} → IsExpr limits term d ts x → IsExpr limits sum d ts x
  plus : {d : ℕ} {ts us : List Token} {x y : Expr} → IsExpr limits sum d ts x → IsExpr limits term d us y
      → IsExpr limits sum d (ts ++ mark sign.Plus ∷ us) (plain.sum x y)
  minus : {d : ℕ} {ts us : List Token} {x y : Expr} → IsExpr limits sum d ts x → IsExpr limits term d us y
      → IsExpr limits sum d (ts ++ mark sign.Minus ∷ us) (plain.difference x y)

-- a chain of `and`: one member stands for itself
abbrev pub conjunction_of : List Claim → Claim
conjunction_of [] = plain.always
conjunction_of (c ∷ []) = c
conjunction_of (c ∷ b ∷ cs) = plain.conjunction (claims_from (c ∷ b ∷ cs))

-- a chain of `or`: one member stands for itself
abbrev pub disjunction_of : List Claim → Claim
disjunction_of [] = plain.never
disjunction_of (c ∷ []) = c
disjunction_of (c ∷ b ∷ cs) = plain.disjunction (claims_from (c ∷ b ∷ cs))

-- the levels of claims: around `iff`, around `implies`, a member of `or`, a member of `and`
pub data Rank : Type 0 where
  claim : Rank
  side : Rank
  premise : Rank
  disjunct : Rank
  conjunct : Rank

mutual
  -- behind d open signs the tokens spell a claim of this level
  pub data IsClaim (limits : Limits) : Rank → ℕ → List Token → Claim → Type 0 where
    truth : {d : ℕ} → IsClaim limits conjunct d (keyword word.True ∷ []) plain.always
    falsehood : {d : ℕ} → IsClaim limits conjunct d (keyword word.False ∷ []) plain.never
    atom : {d : ℕ} {ts us : List Token} {x y : Expr} {r : Rel} → IsExpr limits sum d ts x → IsExpr limits sum d us y
        → IsClaim limits conjunct d (ts ++ relation r ∷ us) (plain.atom x r y)
    negation : {d : ℕ} {ts : List Token} {c : Claim} → IsTrue (has_room limits d) → IsClaim limits conjunct (suc d) ts c
        → IsClaim limits conjunct d (keyword word.Not ∷ ts) (plain.negation c)
    bracketed : {d : ℕ} {ts : List Token} {c : Claim} → IsTrue (has_room limits d) → IsClaim limits claim (suc d) ts c
        → IsClaim limits conjunct d (mark sign.OpenSquare ∷ (ts ++ mark sign.CloseSquare ∷ [])) c
    conjunction : {d : ℕ} {ts : List Token} {cs : List Claim} → AreConjuncts limits d ts cs
        → IsClaim limits disjunct d ts (conjunction_of cs)
    disjunction : {d : ℕ} {ts : List Token} {cs : List Claim} → AreDisjuncts limits d ts cs
        → IsClaim limits premise d ts (disjunction_of cs)
    one_premise : {d : ℕ} {ts : List Token} {c : Claim} → IsClaim limits premise d ts c
        → IsClaim limits side d ts c
    implies : {d : ℕ} {ts us : List Token} {b c : Claim} → IsClaim limits premise d ts b → IsClaim limits side d us c
        → IsClaim limits side d (ts ++ keyword word.Implies ∷ us) (plain.implication b c)
    one_side : {d : ℕ} {ts : List Token} {c : Claim} → IsClaim limits side d ts c
        → IsClaim limits claim d ts c
    iff : {d : ℕ} {ts us : List Token} {b c : Claim} → IsClaim limits side d ts b → IsClaim limits side d us c
        → IsClaim limits claim d (ts ++ keyword word.Iff ∷ us) (plain.equivalence b c)

  -- the members of a chain of `and`, at least one
  pub data AreConjuncts (limits : Limits) : ℕ → List Token → List Claim → Type 0 where
    first_conjunct : {d : ℕ} {ts : List Token} {c : Claim} → IsClaim limits conjunct d ts c
        → AreConjuncts limits d ts (c ∷ [])
    next_conjunct : {d : ℕ} {ts us : List Token} {cs : List Claim} {c : Claim} → AreConjuncts limits d ts cs → IsClaim limits conjunct d us c
        → AreConjuncts limits d (ts ++ keyword word.And ∷ us) (cs ++ c ∷ [])

  -- the members of a chain of `or`, at least one
  pub data AreDisjuncts (limits : Limits) : ℕ → List Token → List Claim → Type 0 where
    first_disjunct : {d : ℕ} {ts : List Token} {c : Claim} → IsClaim limits disjunct d ts c
        → AreDisjuncts limits d ts (c ∷ [])
    next_disjunct : {d : ℕ} {ts us : List Token} {cs : List Claim} {c : Claim} → AreDisjuncts limits d ts cs → IsClaim limits disjunct d us c
        → AreDisjuncts limits d (ts ++ keyword word.Or ∷ us) (cs ++ c ∷ [])

-- the tokens spell a line of a model
pub data IsLine (limits : Limits) : List Token → Line → Type 0 where
  model_line : {x : Name} → IsLine limits (keyword word.Model ∷ name x ∷ []) (plain.model x)
  var_line : {x : Name} → IsLine limits (keyword word.Var ∷ name x ∷ []) (plain.var x)
  param_line : {x : Name} → IsLine limits (keyword word.Param ∷ name x ∷ []) (plain.param x)
  function_line : {f x : Name} {xs : List Name}
      → IsLine limits (keyword word.Fun ∷ name f ∷ keyword word.Of ∷ name x ∷ map name xs) (plain.function f (x ∷ xs))
  equation_line : {label : Name} {ts us : List Token} {x y : Expr} → IsExpr limits sum 0 ts x → IsExpr limits sum 0 us y
      → IsLine limits (keyword word.Eq ∷ name label ∷ mark sign.Colon ∷ (ts ++ relation rel.Eq ∷ us)) (plain.equation label x y)
  assume_line : {label : Name} {ts : List Token} {c : Claim} → IsClaim limits claim 0 ts c
      → IsLine limits (keyword word.Assume ∷ name label ∷ mark sign.Colon ∷ ts) (plain.assume label c)
  claim_line : {label : Name} {ts : List Token} {c : Claim} → IsClaim limits claim 0 ts c
      → IsLine limits (keyword word.Claim ∷ name label ∷ mark sign.Colon ∷ ts) (plain.claim label None c)
  shift_line : {label shift : Name} {ts : List Token} {c : Claim} → IsClaim limits claim 0 ts c
      → IsLine limits (keyword word.Claim ∷ name label ∷ keyword word.By ∷ name shift ∷ mark sign.Colon ∷ ts) (plain.claim label (Some shift) c)

-- the tokens spell an edit: a line to put, or the key of a line to drop
pub data IsOp (limits : Limits) : List Token → text.Op → Type 0 where
  put : {ts : List Token} {line : Line} → IsLine limits ts line
      → IsOp limits (name (codes "put") ∷ ts) (text.put_line line)
  drop : {x : Name} → IsOp limits (name (codes "drop") ∷ name x ∷ []) (text.drop_key x)
