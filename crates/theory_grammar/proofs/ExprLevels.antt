-- The levels at which expressions stand, with and without brackets.
use Rattle.std.proofs.Common.{◌≡◌, ℕ, suc, Bool, true, false, cond, List, [], ◌∷◌, ◌++◌, refl, subst, ap}
use Rattle.std.proofs.lemmas.Bool.{false≢true, and_parts}
use Rattle.std.specs.Prelude.{not, ◌&&◌}
use Rattle.theory_meaning.specs.Tree.{Expr}
use Rattle.theory_meaning.specs.Tree as plain
use Rattle.theory_grammar.specs.declared.words.Mark.{Mark}
use Rattle.theory_grammar.specs.declared.words.Mark.TheVariants as sign
use Rattle.theory_grammar.specs.Token.{Token, mark}
use Rattle.theory_grammar.specs.Opened.{one_more_unless, open_in_expr}
use Rattle.theory_grammar.specs.Spelled.{Limits, Last, bare, tight, loose, last_of, begins_with_number, may_divide, Level, sum, term, factor, power, primary, IsExpr, bracket, one_primary, one_power, one_factor, one_term}
use Rattle.theory_grammar.specs.Printed.{round_unless, is_term, is_factor, is_primary, is_power, is_divisor, begins_with_digit, expr_text}
use Rattle.theory_grammar.proofs.Opening.{limited, Fits, room, inside}
use Rattle.theory_grammar.proofs.LeadLaws.{Leads, joined_by, closed_by, nothing_more, any_open, mark_leads, apart}

-- the level at which an expression stands without brackets
abbrev pub own : Expr → Level
own (plain.number q) = cond (is_primary (plain.number q)) primary factor
own (plain.symbol x) = primary
own (plain.sum u v) = sum
own (plain.difference u v) = sum
own (plain.opposite u) = factor
own (plain.product u v) = term
own (plain.quotient u v) = term
own (plain.power u k) = power

-- and whether it stands so at a level
abbrev pub stands : Level → Expr → Bool
stands sum x = true
stands term x = is_term x
stands factor x = is_factor x
stands power x = is_power x
stands primary x = is_primary x

-- the levels at which everything of a level stands too
abbrev pub reaches : Level → Level → Bool
reaches primary L = true
reaches power primary = false
reaches power L = true
reaches factor primary = false
reaches factor power = false
reaches factor L = true
reaches term sum = true
reaches term term = true
reaches term L = false
reaches sum sum = true
reaches sum L = false

-- what stands at a level stands at those that it reaches
pub lift : (M L : Level) {limits : Limits} {d : ℕ} {ts : List Token} {x : Expr} → reaches M L ≡ true → IsExpr limits M d ts x → IsExpr limits L d ts x
lift primary primary h k = k
lift primary power h k = one_primary k
lift primary factor h k = one_power (one_primary k)
lift primary term h k = one_factor (one_power (one_primary k))
lift primary sum h k = one_term (one_factor (one_power (one_primary k)))
lift power primary h k = absurd (false≢true h)
lift power power h k = k
lift power factor h k = one_power k
lift power term h k = one_factor (one_power k)
lift power sum h k = one_term (one_factor (one_power k))
lift factor primary h k = absurd (false≢true h)
lift factor power h k = absurd (false≢true h)
lift factor factor h k = k
lift factor term h k = one_factor k
lift factor sum h k = one_term (one_factor k)
lift term primary h k = absurd (false≢true h)
lift term power h k = absurd (false≢true h)
lift term factor h k = absurd (false≢true h)
lift term term h k = k
lift term sum h k = one_term k
lift sum primary h k = absurd (false≢true h)
lift sum power h k = absurd (false≢true h)
lift sum factor h k = absurd (false≢true h)
lift sum term h k = absurd (false≢true h)
lift sum sum h k = k

-- each level reaches that of sums
pub reaches_sum : (M : Level) → reaches M sum ≡ true
reaches_sum sum = refl
reaches_sum term = refl
reaches_sum factor = refl
reaches_sum power = refl
reaches_sum primary = refl

number_reaches : (t : Bool) (L : Level) → (L ≡ primary → t ≡ true) → (L ≡ power → t ≡ true) → reaches (cond t primary factor) L ≡ true
number_reaches true L h k = refl
number_reaches false sum h k = refl
number_reaches false term h k = refl
number_reaches false factor h k = refl
number_reaches false power h k = absurd (false≢true (k refl))
number_reaches false primary h k = absurd (false≢true (h refl))

-- what stands at a level has a level that reaches it
pub stands_reaches : (L : Level) (x : Expr) → stands L x ≡ true → reaches (own x) L ≡ true
stands_reaches L (plain.number q) h =
    number_reaches (is_primary (plain.number q)) L
    (λ e. subst (λ M. stands M (plain.number q) ≡ true) e h) (λ e. subst (λ M. stands M (plain.number q) ≡ true) e h)
stands_reaches L (plain.symbol x) h = refl
stands_reaches sum (plain.sum u v) h = refl
stands_reaches term (plain.sum u v) h = h
stands_reaches factor (plain.sum u v) h = h
stands_reaches power (plain.sum u v) h = h
stands_reaches primary (plain.sum u v) h = h
stands_reaches sum (plain.difference u v) h = refl
stands_reaches term (plain.difference u v) h = h
stands_reaches factor (plain.difference u v) h = h
stands_reaches power (plain.difference u v) h = h
stands_reaches primary (plain.difference u v) h = h
stands_reaches sum (plain.opposite u) h = refl
stands_reaches term (plain.opposite u) h = refl
stands_reaches factor (plain.opposite u) h = refl
stands_reaches power (plain.opposite u) h = h
stands_reaches primary (plain.opposite u) h = h
stands_reaches sum (plain.product u v) h = refl
stands_reaches term (plain.product u v) h = refl
stands_reaches factor (plain.product u v) h = h
stands_reaches power (plain.product u v) h = h
stands_reaches primary (plain.product u v) h = h
stands_reaches sum (plain.quotient u v) h = refl
stands_reaches term (plain.quotient u v) h = refl
stands_reaches factor (plain.quotient u v) h = h
stands_reaches power (plain.quotient u v) h = h
stands_reaches primary (plain.quotient u v) h = h
stands_reaches sum (plain.power u k) h = refl
stands_reaches term (plain.power u k) h = refl
stands_reaches factor (plain.power u k) h = refl
stands_reaches power (plain.power u k) h = refl
stands_reaches primary (plain.power u k) h = h

-- tokens that begin with a number, and whether they may stand behind `/`
pub is_first_number : (ts us : List Token) (s : Mark) → begins_with_number (ts ++ mark s ∷ us) ≡ true → begins_with_number ts ≡ true
is_first_number [] us s h = absurd (false≢true h)
is_first_number (t ∷ ts) us s h = h

no_number : (last : Last) (us : List Token) → begins_with_number us ≡ false → may_divide last us ≡ true
no_number bare us h = ap not h
no_number tight us h = refl
no_number loose us h = refl

pub before_divisor : (ts us : List Token) → begins_with_number us ≡ false → may_divide (last_of loose ts) us ≡ true
before_divisor ts us h = no_number (last_of loose ts) us h

module _ (deep : Bool) where
  -- the printed form without brackets around it is read as tokens of its own level
  pub record Bare (d : ℕ) (x : Expr) : Type 0 where
    pub tokens : List Token
    pub spells : IsExpr (limited deep) (own x) d tokens x
    pub leads : Leads true tokens (expr_text x)
    pub digit : begins_with_number tokens ≡ true → begins_with_digit x ≡ true

  -- wherever there is room for it
  abbrev pub Printable : Expr → Type 0
  Printable x = (d : ℕ) → Fits deep d (open_in_expr x) → Bare d x

  -- the printed form at a level, in brackets unless the test holds
  pub record Printed (L : Level) (t : Bool) (d : ℕ) (x : Expr) : Type 0 where
    pub tokens : List Token
    pub spells : IsExpr (limited deep) L d tokens x
    pub leads : Leads true tokens (round_unless t (expr_text x))
    pub digit : begins_with_number tokens ≡ true → (t && begins_with_digit x) ≡ true

  -- the printed form at a level where what passes the test stands at it
  pub printed : (L : Level) (t : Bool) (d : ℕ) (x : Expr) → (t ≡ true → reaches (own x) L ≡ true) → Fits deep d (one_more_unless t (open_in_expr x))
      → Printable x → Printed L t d x
  printed L true d x at fits p =
      let b = p d fits in
      record { tokens = b.tokens; spells = lift (own x) L (at refl) b.spells; leads = nothing_more b.leads; digit = b.digit }
  printed L false d x at fits p =
      let b = p (suc d) (inside deep d (open_in_expr x) fits) in
      record {
        tokens = mark sign.Open ∷ (b.tokens ++ mark sign.Close ∷ []);
        spells = lift primary L refl (bracket (room deep d (open_in_expr x) fits) (lift (own x) sum (reaches_sum (own x)) b.spells));
        leads = joined_by (mark_leads sign.Open) (closed_by b.leads (any_open (mark_leads sign.Close)) (λ rest. apart refl));
        digit = λ e. absurd (false≢true e);
      }

  pub printed_at : (L : Level) (d : ℕ) (x : Expr) → Fits deep d (one_more_unless (stands L x) (open_in_expr x)) → Printable x → Printed L (stands L x) d x
  printed_at L d x fits p = printed L (stands L x) d x (stands_reaches L x) fits p

-- a divisor stands as a power and doesn't begin with a digit
divisor_reaches : (x : Expr) → is_divisor x ≡ true → reaches (own x) power ≡ true
divisor_reaches x h = stands_reaches power x (and_parts (is_power x) (not (begins_with_digit x)) h).0

never_both : (t s : Bool) → ((t && not s) && s) ≡ true → ⊥
never_both true true h = false≢true h
never_both true false h = false≢true h
never_both false s h = false≢true h

no_digit : (t s n : Bool) → (n ≡ true → ((t && not s) && s) ≡ true) → n ≡ false
no_digit t s true h = absurd (never_both t s (h refl))
no_digit t s false h = refl

module _ (deep : Bool) where
  -- the printed form as a divisor
  pub printed_divisor : (d : ℕ) (x : Expr) → Fits deep d (one_more_unless (is_divisor x) (open_in_expr x)) → Printable deep x
      → Printed deep power (is_divisor x) d x
  printed_divisor d x fits p = printed deep power (is_divisor x) d x (divisor_reaches x) fits p

  pub divisor_first : (d : ℕ) (x : Expr) (p : Printed deep power (is_divisor x) d x) → begins_with_number p.tokens ≡ false
  divisor_first d x p = no_digit (is_power x) (begins_with_digit x) (begins_with_number p.tokens) p.digit
