-- What the tokens behind a state of the machine spell.
use Rattle.std.proofs.Common.{◌≡◌, ℕ, zero, suc, List, [], ◌∷◌, ◌++◌, map, Bool, true, false, Option, None, Some, IsTrue}
use Rattle.theory_meaning.specs.declared.words.Rel.TheVariants as rel
use Rattle.theory_meaning.specs.Point.{Name}
use Rattle.theory_meaning.specs.Tree.{Expr, Claim}
use Rattle.theory_grammar.specs.declared.words.Keyword.TheVariants as word
use Rattle.theory_grammar.specs.declared.words.Mark.TheVariants as sign
use Rattle.theory_grammar.specs.Token.{Token, keyword, name, number, mark, relation}
use Rattle.theory_grammar.specs.Spelled.{Limits, has_room, Last, bare, tight, loose, last_of, may_divide, IsExpr, IsClaim, AreConjuncts, AreDisjuncts, IsLine}
use Rattle.theory_grammar.specs.Spelled as rule
use Rattle.theory_grammar.specs.Machine.{State, Left, alone, plus, minus, Product, leading, to_multiply, to_divide, Place, ClaimPlace, Heading, assumption, assertion, Context, left_of_equation, right_of_equation, left_of_atom, right_of_atom}
use Rattle.theory_grammar.specs.Machine as m

-- the last token isn't a number where a factor may begin
abbrev pub is_bare : Last → Bool
is_bare bare = true
is_bare _ = false

-- what stands here is no divisor; a divisor has no sign before it
abbrev pub NoDivisor : Product → Type 0
NoDivisor (to_divide x) = ⊥
NoDivisor _ = Unit {0}

abbrev pub Signless : Product → ℕ → Type 0
Signless (to_divide x) n = n ≡ zero
Signless _ n = Unit {0}

-- behind these tokens, which end with `/`, a divisor may be a number, and these tokens may be a divisor
abbrev pub Dividing : Product → List Token → Type 0
Dividing (to_divide x) ts = (vs : List Token) → ts ≡ vs ++ mark sign.Over ∷ [] → is_bare (last_of loose vs) ≡ false
Dividing _ ts = ⊥

abbrev pub Fits : Product → List Token → List Token → Type 0
Fits (to_divide x) ts us = (vs : List Token) → ts ≡ vs ++ mark sign.Over ∷ [] → IsTrue (may_divide (last_of loose vs) us)
Fits _ ts us = Unit {0}

-- these tokens of an operand end in no number that a `/` could make a literal of
abbrev pub Solid : Product → List Token → Type 0
Solid (to_divide x) us = is_bare (last_of tight us) ≡ false
Solid _ us = (last : Last) → is_bare (last_of last us) ≡ false

module _ (limits : Limits) where
  -- the left side of a sum with its sign
  abbrev pub Sums : ℕ → Left → List Token → Type 0
  Sums base alone ts = ts ≡ []
  Sums base (plus x) ts = (us : List Token) × IsExpr limits rule.sum base us x × (ts ≡ us ++ mark sign.Plus ∷ [])
  Sums base (minus x) ts = (us : List Token) × IsExpr limits rule.sum base us x × (ts ≡ us ++ mark sign.Minus ∷ [])

  -- the left side of a product or quotient with its sign
  abbrev pub Products : ℕ → Product → List Token → Type 0
  Products base leading ts = ts ≡ []
  Products base (to_multiply x) ts = (us : List Token) × IsExpr limits rule.term base us x × (ts ≡ us ++ mark sign.Times ∷ [])
  Products base (to_divide x) ts = (us : List Token) × IsExpr limits rule.term base us x × (ts ≡ us ++ mark sign.Over ∷ [])

  -- signs that stand one before the other, each with room
  abbrev pub Signs : Token → ℕ → ℕ → ℕ → List Token → Type 0
  Signs t base zero depth ts = (depth ≡ base) × (ts ≡ [])
  Signs t base (suc n) depth ts = (d : ℕ) × (us : List Token) × (depth ≡ suc d) × IsTrue (has_room limits d) × Signs t base n d us × (ts ≡ us ++ t ∷ [])

  -- the tokens before an operand
  pub record InPlace (Outside : ℕ → List Token → Type 0) (p : Place) (before : List Token) : Type 0 where
    pub outside : List Token
    pub sums : List Token
    pub products : List Token
    pub minuses : List Token
    pub parts : before ≡ outside ++ (sums ++ (products ++ minuses))
    pub around : Outside p.base outside
    pub in_sum : Sums p.base p.sum sums
    pub in_product : Products p.base p.product products
    pub signless : Signless p.product p.minuses
    pub in_signs : Signs (mark sign.Minus) p.base p.minuses p.depth minuses

  -- the left side of an equivalence with its sign
  abbrev pub Others : ℕ → Option Claim → List Token → Type 0
  Others base None ts = ts ≡ []
  Others base (Some c) ts = (us : List Token) × IsClaim limits rule.side base us c × (ts ≡ us ++ keyword word.Iff ∷ [])

  abbrev pub Premises : ℕ → List Claim → List Token → Type 0
  Premises base [] ts = ts ≡ []
  Premises base (c ∷ cs) ts =
      (us vs : List Token) × Premises base cs us × IsClaim limits rule.premise base vs c × (ts ≡ us ++ (vs ++ keyword word.Implies ∷ []))

  abbrev pub Disjuncts : ℕ → List Claim → List Token → Type 0
  Disjuncts base [] ts = ts ≡ []
  Disjuncts base (c ∷ cs) ts = (us : List Token) × AreDisjuncts limits base us (c ∷ cs) × (ts ≡ us ++ keyword word.Or ∷ [])

  abbrev pub Conjuncts : ℕ → List Claim → List Token → Type 0
  Conjuncts base [] ts = ts ≡ []
  Conjuncts base (c ∷ cs) ts = (us : List Token) × AreConjuncts limits base us (c ∷ cs) × (ts ≡ us ++ keyword word.And ∷ [])

  -- the tokens before a claim
  pub record InClaimPlace (Outside : ℕ → List Token → Type 0) (q : ClaimPlace) (before : List Token) : Type 0 where
    pub outside : List Token
    pub others : List Token
    pub premises : List Token
    pub disjuncts : List Token
    pub conjuncts : List Token
    pub nots : List Token
    pub parts : before ≡ outside ++ (others ++ (premises ++ (disjuncts ++ (conjuncts ++ nots))))
    pub around : Outside q.base outside
    pub in_iff : Others q.base q.other others
    pub in_implies : Premises q.base q.premises premises
    pub in_or : Disjuncts q.base q.disjuncts disjuncts
    pub in_and : Conjuncts q.base q.conjuncts conjuncts
    pub in_signs : Signs (keyword word.Not) q.base q.nots q.depth nots

  -- the words before a claim
  abbrev pub Heads : Heading → List Token → Type 0
  Heads (assumption label) ts = ts ≡ keyword word.Assume ∷ name label ∷ mark sign.Colon ∷ []
  Heads (assertion label None) ts = ts ≡ keyword word.Claim ∷ name label ∷ mark sign.Colon ∷ []
  Heads (assertion label (Some shift)) ts = ts ≡ keyword word.Claim ∷ name label ∷ keyword word.By ∷ name shift ∷ mark sign.Colon ∷ []

  -- the tokens before a claim with its open brackets
  abbrev pub ClaimOutside : Heading → List ClaimPlace → ℕ → List Token → Type 0
  ClaimOutside h [] d ts = (d ≡ 0) × Heads h ts
  ClaimOutside h (q ∷ qs) d ts =
      (us : List Token) × InClaimPlace (ClaimOutside h qs) q us × IsTrue (has_room limits q.depth) × (d ≡ suc q.depth) ×
      (ts ≡ us ++ mark sign.OpenSquare ∷ [])

  -- the tokens before an expression outside all brackets
  abbrev pub InContext : Context → ℕ → List Token → Type 0
  InContext (left_of_equation label) d ts = (d ≡ 0) × (ts ≡ keyword word.Eq ∷ name label ∷ mark sign.Colon ∷ [])
  InContext (right_of_equation label x) d ts =
      (us : List Token) × IsExpr limits rule.sum 0 us x × (d ≡ 0) × (ts ≡ keyword word.Eq ∷ name label ∷ mark sign.Colon ∷ (us ++ relation rel.Eq ∷ []))
  InContext (left_of_atom h q qs) d ts = (d ≡ q.depth) × InClaimPlace (ClaimOutside h qs) q ts
  InContext (right_of_atom x r h q qs) d ts =
      (us vs : List Token) × (d ≡ q.depth) × InClaimPlace (ClaimOutside h qs) q us × IsExpr limits rule.sum q.depth vs x × (ts ≡ us ++
      (vs ++ relation r ∷ []))

  -- the tokens before an expression with its open brackets
  abbrev pub Outside : List Place → Context → ℕ → List Token → Type 0
  Outside [] ctx d ts = InContext ctx d ts
  Outside (p ∷ o) ctx d ts =
      (us : List Token) × InPlace (Outside o ctx) p us × IsTrue (has_room limits p.depth) × (d ≡ suc p.depth) × (ts ≡ us ++ mark sign.Open ∷ [])

  -- the tokens behind an operand
  pub record Behind (level : rule.Level) (p : Place) (o : List Place) (ctx : Context) (x : Expr) (before : List Token) : Type 0 where
    pub front : List Token
    pub own : List Token
    pub parts : before ≡ front ++ own
    pub place : InPlace (Outside o ctx) p front
    pub spelled : IsExpr limits level p.depth own x
    pub fits : Fits p.product place.products own

  -- the tokens behind a term
  pub record BehindTerm (p : Place) (o : List Place) (ctx : Context) (x : Expr) (before : List Token) : Type 0 where
    pub outside : List Token
    pub sums : List Token
    pub own : List Token
    pub parts : before ≡ outside ++ (sums ++ own)
    pub around : Outside o ctx p.base outside
    pub in_sum : Sums p.base p.sum sums
    pub spelled : IsExpr limits rule.term p.base own x

  -- the tokens behind a claim
  pub record BehindClaim (h : Heading) (q : ClaimPlace) (qs : List ClaimPlace) (c : Claim) (before : List Token) : Type 0 where
    pub front : List Token
    pub own : List Token
    pub parts : before ≡ front ++ own
    pub place : InClaimPlace (ClaimOutside h qs) q front
    pub spelled : IsClaim limits rule.conjunct q.depth own c

  -- the tokens behind a state
  abbrev pub Reached : State → List Token → Type 0
  Reached m.start ts = ts ≡ []
  Reached m.name_of_model ts = ts ≡ keyword word.Model ∷ []
  Reached m.name_of_var ts = ts ≡ keyword word.Var ∷ []
  Reached m.name_of_param ts = ts ≡ keyword word.Param ∷ []
  Reached m.name_of_function ts = ts ≡ keyword word.Fun ∷ []
  Reached (m.word_of f) ts = ts ≡ keyword word.Fun ∷ name f ∷ []
  Reached (m.first_argument f) ts = ts ≡ keyword word.Fun ∷ name f ∷ keyword word.Of ∷ []
  Reached (m.arguments f xs) ts = (y : Name) × (ys : List Name) × (xs ≡ y ∷ ys) × (ts ≡ keyword word.Fun ∷ name f ∷ keyword word.Of ∷ name y ∷ map name ys)
  Reached m.label_of_equation ts = ts ≡ keyword word.Eq ∷ []
  Reached (m.colon_of_equation label) ts = ts ≡ keyword word.Eq ∷ name label ∷ []
  Reached m.label_of_assumption ts = ts ≡ keyword word.Assume ∷ []
  Reached m.label_of_claim ts = ts ≡ keyword word.Claim ∷ []
  Reached (m.by_or_colon label) ts = ts ≡ keyword word.Claim ∷ name label ∷ []
  Reached (m.name_of_shift label) ts = ts ≡ keyword word.Claim ∷ name label ∷ keyword word.By ∷ []
  Reached (m.colon h) ts = Heads h (ts ++ mark sign.Colon ∷ [])
  Reached (m.finished line) ts = IsLine limits ts line
  Reached (m.want_claim h q qs) ts = InClaimPlace (ClaimOutside h qs) q ts
  Reached (m.have_claim c h q qs) ts = BehindClaim h q qs c ts
  Reached (m.operand p o ctx) ts = InPlace (Outside o ctx) p ts × NoDivisor p.product
  Reached (m.integer n p o ctx) ts = (us : List Token) × InPlace (Outside o ctx) p us × NoDivisor p.product × (ts ≡ us ++ number n ∷ [])
  Reached (m.closed x p o ctx) ts = (b : Behind rule.primary p o ctx x ts) × Solid p.product b.own
  Reached (m.exponent x p o ctx) ts = (us : List Token) × Behind rule.primary p o ctx x us × (ts ≡ us ++ mark sign.Power ∷ [])
  Reached (m.below n p o ctx) ts = (us : List Token) × InPlace (Outside o ctx) p us × NoDivisor p.product × (ts ≡ us ++ number n ∷ mark sign.Over ∷ [])
  Reached (m.divisor p o ctx) ts = (b : InPlace (Outside o ctx) p ts) × Dividing p.product b.products
  Reached (m.term x p o ctx) ts = (b : BehindTerm p o ctx x ts) × (is_bare (last_of loose b.own) ≡ false)
