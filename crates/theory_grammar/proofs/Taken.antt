-- What is spelled as an expression the machine takes.
use Rattle.std.specs.Prelude.{pos}
use Rattle.std.proofs.Common.{◌≡◌, ℕ, suc, Bool, true, List, [], ◌∷◌, ◌++◌, Option, None, IsTrue, refl, sym, ap, subst, ◌∙◌, append_assoc}
use Rattle.theory_meaning.specs.Fraction.{whole}
use Rattle.theory_meaning.specs.Tree.{Expr, Claim, Line}
use Rattle.theory_meaning.specs.Tree as plain
use Rattle.theory_grammar.specs.declared.words.Mark.TheVariants as sign
use Rattle.theory_grammar.specs.declared.words.LineFaultKind.{LineFaultKind}
use Rattle.theory_grammar.specs.declared.words.LineFaultKind.TheVariants.{ZeroBelow, Exponent, Deep}
use Rattle.theory_grammar.specs.Token.{Token, number, mark}
use Rattle.theory_grammar.specs.Spelled.{Limits, Last, bare, tight, loose, last_of, begins_with_number, may_divide, has_room, is_exponent, is_below, lowest, Level, IsExpr}
use Rattle.theory_grammar.specs.Spelled as rule
use Rattle.theory_grammar.specs.Machine.{State, Left, alone, plus, minus, Place, Context, gate, step, ended, and_then}
use Rattle.theory_grammar.specs.Machine as m
use Rattle.theory_grammar.proofs.Following.{runs}
use Rattle.theory_grammar.proofs.Reached.{is_bare}
use Rattle.theory_grammar.proofs.Ends.{last_both}

-- signs that would go on with a number, with a factor and with a term
abbrev pub NotOver : List Token → Type 0
NotOver (mark sign.Over ∷ ts) = ⊥
NotOver _ = Unit {0}

abbrev pub NotPower : List Token → Type 0
NotPower (mark sign.Power ∷ ts) = ⊥
NotPower _ = Unit {0}

abbrev pub NotTimes : List Token → Type 0
NotTimes (mark sign.Times ∷ ts) = ⊥
NotTimes _ = Unit {0}

-- `/` and a number, which make a literal of a number before them
abbrev pub NotBelow : List Token → Type 0
NotBelow (mark sign.Over ∷ number n ∷ ts) = ⊥
NotBelow _ = Unit {0}

not_below : (ts : List Token) → NotOver ts → NotBelow ts
not_below [] h = tt
not_below (mark sign.Over ∷ ts) h = elim h [ ]
not_below (t ∷ ts) h = tt

-- behind these tokens the further ones end no literal
abbrev pub Apart : List Token → List Token → Type 0
Apart ts rest = is_bare (last_of loose ts) ≡ true → NotBelow rest

apart : (ts rest : List Token) → NotOver rest → Apart ts rest
apart ts rest h = λ e. not_below rest h

apart_divisor : (last : Last) (us rest : List Token) → begins_with_number (us ++ rest) ≡ begins_with_number us → IsTrue (may_divide last us)
    → is_bare last ≡ true → NotBelow (mark sign.Over ∷ (us ++ rest))
apart_divisor tight us rest e h k = absurd cc
apart_divisor loose us rest e h k = absurd cc
apart_divisor bare [] [] e h k = tt
apart_divisor bare [] (number n ∷ rest) e h k = absurd cc
apart_divisor bare [] (t ∷ rest) e h k = tt
apart_divisor bare (number n ∷ us) rest e h k = absurd cc
apart_divisor bare (t ∷ us) rest e h k = tt

abbrev pub EndsExpr : List Token → Type 0
EndsExpr ts = NotOver ts × NotPower ts × NotTimes ts

-- a place in a sum
abbrev pub in_sum : Left → ℕ → Place
in_sum s d = record (m.fresh d) { sum = s }

module _ (limits : Limits) where
  abbrev pub run : State → List Token → Option Line
  run = runs step ended limits

  pub opened : (b : Bool) (kind : LineFaultKind) (st : State) (ts : List Token) → IsTrue b
      → and_then (gate b kind st) (λ st'. run st' ts) (λ k. None) ≡ run st ts
  opened b kind st ts h = ap (λ (c : Bool). and_then (gate c kind st) (λ st'. run st' ts) (λ k. None)) h

  integer_closed : (n : ℕ) (p : Place) (o : List Place) (ctx : Context) (rest : List Token) → NotBelow rest
      → run (m.integer n p o ctx) rest ≡ run (m.closed (plain.number (whole (pos n))) p o ctx) rest
  integer_closed n p o ctx [] h = refl
  integer_closed n p o ctx (mark sign.Over ∷ []) h = refl
  integer_closed n p o ctx (mark sign.Over ∷ number k ∷ ts) h = elim h [ ]
  integer_closed n p o ctx (mark sign.Over ∷ t ∷ ts) h = refl
  integer_closed n p o ctx (t ∷ ts) h = refl

  closed_factor : (x : Expr) (p : Place) (o : List Place) (ctx : Context) (rest : List Token) → NotPower rest
      → run (m.closed x p o ctx) rest ≡ run (m.factored x p o ctx) rest
  closed_factor x p o ctx [] h = refl
  closed_factor x p o ctx (mark sign.Power ∷ ts) h = elim h [ ]
  closed_factor x p o ctx (t ∷ ts) h = refl

  term_joined : (y : Expr) (s : Left) (d : ℕ) (o : List Place) (ctx : Context) (rest : List Token) → NotOver rest → NotTimes rest
      → run (m.term y (in_sum s d) o ctx) rest ≡ run (m.term (m.joined s y) (m.fresh d) o ctx) rest
  term_joined y s d o ctx [] g h = refl
  term_joined y s d o ctx (mark sign.Over ∷ ts) g h = elim g [ ]
  term_joined y s d o ctx (mark sign.Times ∷ ts) g h = elim h [ ]
  term_joined y s d o ctx (t ∷ ts) g h = refl

  -- what becomes of the tokens of each level
  abbrev pub Taken : Level → ℕ → List Token → Expr → Type 0
  Taken rule.primary d ts x = (p : Place) (o : List Place) (ctx : Context) (rest : List Token) → p.depth ≡ d → Apart ts rest
      → run (m.operand p o ctx) (ts ++ rest) ≡ run (m.closed x p o ctx) rest
  Taken rule.power d ts x = (p : Place) (o : List Place) (ctx : Context) (rest : List Token) → p.depth ≡ d → Apart ts rest → NotPower rest
      → run (m.operand p o ctx) (ts ++ rest) ≡ run (m.factored x p o ctx) rest
  Taken rule.factor d ts x = (p : Place) (o : List Place) (ctx : Context) (rest : List Token) → p.depth ≡ d → Apart ts rest → NotPower rest
      → run (m.operand p o ctx) (ts ++ rest) ≡ run (m.factored x p o ctx) rest
  Taken rule.term d ts x = (s : Left) (o : List Place) (ctx : Context) (rest : List Token) → Apart ts rest → NotPower rest
      → run (m.operand (in_sum s d) o ctx) (ts ++ rest) ≡ run (m.term x (in_sum s d) o ctx) rest
  Taken rule.sum d ts x = (o : List Place) (ctx : Context) (rest : List Token) → EndsExpr rest
      → run (m.operand (m.fresh d) o ctx) (ts ++ rest) ≡ run (m.term x (m.fresh d) o ctx) rest

  room_at : (d e : ℕ) → d ≡ e → IsTrue (has_room limits e) → IsTrue (has_room limits d)
  room_at d e h r = subst (λ (k : ℕ). IsTrue (has_room limits k)) (sym h) r

  regroup : (st : State) (ts us rest : List Token) (t : Token) → run st ((ts ++ t ∷ us) ++ rest) ≡ run st (ts ++ t ∷ (us ++ rest))
  regroup st ts us rest t = ap (run st) (append_assoc ts (t ∷ us) rest)

  -- what becomes of the tokens of a divisor
  abbrev TakenBelow : Level → ℕ → List Token → Expr → Type 0
  TakenBelow rule.primary d ts x = (p : Place) (o : List Place) (ctx : Context) (rest : List Token) → p.depth ≡ d
      → run (m.divisor p o ctx) (ts ++ rest) ≡ run (m.closed x p o ctx) rest
  TakenBelow rule.power d ts x = (p : Place) (o : List Place) (ctx : Context) (rest : List Token) → p.depth ≡ d → NotPower rest
      → run (m.divisor p o ctx) (ts ++ rest) ≡ run (m.factored x p o ctx) rest
  TakenBelow _ d ts x = Unit {0}

  -- the first token isn't behind the last
  first_same : {d : ℕ} {us : List Token} {x : Expr} (rest : List Token) → IsExpr limits rule.power d us x
      → begins_with_number (us ++ rest) ≡ begins_with_number us
  first_same rest (rule.one_primary rule.whole_number) = refl
  first_same rest (rule.one_primary rule.identifier) = refl
  first_same rest (rule.one_primary rule.dotted_name) = refl
  first_same rest (rule.one_primary (rule.bracket room u)) = refl
  first_same rest (rule.raised fits rule.whole_number) = refl
  first_same rest (rule.raised fits rule.identifier) = refl
  first_same rest (rule.raised fits rule.dotted_name) = refl
  first_same rest (rule.raised fits (rule.bracket room u)) = refl

  -- what stands apart from a product stands apart from its last factor
  apart_last : (ts us rest : List Token) → Apart (ts ++ mark sign.Times ∷ us) rest → Apart us rest
  apart_last ts us rest h = λ e. h (ap is_bare (last_both loose ts (mark sign.Times ∷ us)) ∙ e)

  mutual
    taken_below : {level : Level} {d : ℕ} {ts : List Token} {x : Expr} → IsExpr limits level d ts x → TakenBelow level d ts x
    taken_below (rule.whole_number {n = n}) = λ p o ctx rest e. refl
    taken_below rule.identifier = λ p o ctx rest e. refl
    taken_below rule.dotted_name = λ p o ctx rest e. refl
    taken_below (rule.bracket {d = d} {ts = ts} {x = x} room u) = λ p o ctx rest e.
        opened (has_room limits p.depth) Deep (m.operand (m.fresh (suc p.depth)) (p ∷ o) ctx) ((ts ++ mark sign.Close ∷ []) ++ rest) (room_at p.depth d e room)
        ∙ regroup (m.operand (m.fresh (suc p.depth)) (p ∷ o) ctx) ts [] rest (mark sign.Close)
        ∙ ap (λ (k : ℕ). run (m.operand (m.fresh (suc k)) (p ∷ o) ctx) (ts ++ mark sign.Close ∷ rest)) e
        ∙ taken u (p ∷ o) ctx (mark sign.Close ∷ rest) (tt, tt, tt)
    taken_below (rule.one_primary {x = x} u) = λ p o ctx rest e h. taken_below u p o ctx rest e ∙ closed_factor x p o ctx rest h
    taken_below (rule.raised {ts = ts} {x = x} {k = k} fits u) = λ p o ctx rest e h.
        regroup (m.divisor p o ctx) ts (number k ∷ []) rest (mark sign.Power)
        ∙ taken_below u p o ctx (mark sign.Power ∷ number k ∷ rest) e
        ∙ opened (is_exponent limits k) Exponent (m.factored (plain.power x k) p o ctx) rest fits
    taken_below (rule.one_power u) = tt
    taken_below (rule.fraction fits) = tt
    taken_below (rule.negated room u) = tt
    taken_below (rule.one_factor u) = tt
    taken_below (rule.times u v) = tt
    taken_below (rule.divided fits u v) = tt
    taken_below (rule.one_term u) = tt
    taken_below (rule.plus u v) = tt
    taken_below (rule.minus u v) = tt

    pub taken : {level : Level} {d : ℕ} {ts : List Token} {x : Expr} → IsExpr limits level d ts x → Taken level d ts x
    taken (rule.whole_number {n = n}) = λ p o ctx rest e h. integer_closed n p o ctx rest (h refl)
    taken rule.identifier = λ p o ctx rest e h. refl
    taken rule.dotted_name = λ p o ctx rest e h. refl
    taken (rule.bracket {d = d} {ts = ts} {x = x} room u) = λ p o ctx rest e h.
        opened (has_room limits p.depth) Deep (m.operand (m.fresh (suc p.depth)) (p ∷ o) ctx) ((ts ++ mark sign.Close ∷ []) ++ rest) (room_at p.depth d e room)
        ∙ regroup (m.operand (m.fresh (suc p.depth)) (p ∷ o) ctx) ts [] rest (mark sign.Close)
        ∙ ap (λ (k : ℕ). run (m.operand (m.fresh (suc k)) (p ∷ o) ctx) (ts ++ mark sign.Close ∷ rest)) e
        ∙ taken u (p ∷ o) ctx (mark sign.Close ∷ rest) (tt, tt, tt)
    taken (rule.one_primary {x = x} u) = λ p o ctx rest e h k. taken u p o ctx rest e h ∙ closed_factor x p o ctx rest k
    taken (rule.raised {ts = ts} {x = x} {k = k} fits u) = λ p o ctx rest e h h'.
        regroup (m.operand p o ctx) ts (number k ∷ []) rest (mark sign.Power)
        ∙ taken u p o ctx (mark sign.Power ∷ number k ∷ rest) e (λ e'. tt)
        ∙ opened (is_exponent limits k) Exponent (m.factored (plain.power x k) p o ctx) rest fits
    taken (rule.one_power u) = λ p o ctx rest e h k. taken u p o ctx rest e h k
    taken (rule.fraction {m = a} {n = b} fits) =
        λ p o ctx rest e h k. opened (is_below limits b) ZeroBelow (m.factored (plain.number (lowest a b)) p o ctx) rest fits
    taken (rule.negated {d = d} {ts = ts} {x = x} room u) = λ p o ctx rest e h k.
        opened (has_room limits p.depth) Deep (m.operand (m.opposed p) o ctx) (ts ++ rest) (room_at p.depth d e room)
        ∙ taken u (m.opposed p) o ctx rest (ap suc e) h k
    taken (rule.one_factor {d = d} u) = λ s o ctx rest h k. taken u (in_sum s d) o ctx rest refl h k
    taken (rule.times {d = d} {ts = ts} {us = us} {x = x} u v) = λ s o ctx rest h k.
        regroup (m.operand (in_sum s d) o ctx) ts us rest (mark sign.Times)
        ∙ taken u s o ctx (mark sign.Times ∷ (us ++ rest)) (λ e. tt) tt
        ∙ taken v (m.times x (in_sum s d)) o ctx rest refl (apart_last ts us rest h) k
    taken (rule.divided {d = d} {ts = ts} {us = us} {x = x} fits u v) = λ s o ctx rest h k.
        regroup (m.operand (in_sum s d) o ctx) ts us rest (mark sign.Over)
        ∙ taken u s o ctx (mark sign.Over ∷ (us ++ rest)) (apart_divisor (last_of loose ts) us rest (first_same rest v) fits) tt
        ∙ taken_below v (m.over x (in_sum s d)) o ctx rest refl k
    taken (rule.one_term {ts = ts} u) = λ o ctx rest h. taken u alone o ctx rest (apart ts rest h.0) h.1
    taken (rule.plus {d = d} {ts = ts} {us = us} {x = x} {y = y} u v) = λ o ctx rest h.
        regroup (m.operand (m.fresh d) o ctx) ts us rest (mark sign.Plus)
        ∙ taken u o ctx (mark sign.Plus ∷ (us ++ rest)) (tt, tt, tt)
        ∙ taken v (plus x) o ctx rest (apart us rest h.0) h.1
        ∙ term_joined y (plus x) d o ctx rest h.0 h.2
    taken (rule.minus {d = d} {ts = ts} {us = us} {x = x} {y = y} u v) = λ o ctx rest h.
        regroup (m.operand (m.fresh d) o ctx) ts us rest (mark sign.Minus)
        ∙ taken u o ctx (mark sign.Minus ∷ (us ++ rest)) (tt, tt, tt)
        ∙ taken v (minus x) o ctx rest (apart us rest h.0) h.1
        ∙ term_joined y (minus x) d o ctx rest h.0 h.2
