-- What the tokens before and behind an operand or a claim spell together.
use Rattle.std.proofs.Common.{◌≡◌, ℕ, zero, suc, false, List, [], ◌∷◌, ◌++◌, Option, None, Some, refl, sym, ap, subst, ◌∙◌, append_assoc}
use Rattle.theory_meaning.specs.Tree.{Expr, Claim}
use Rattle.theory_meaning.specs.Tree as plain
use Rattle.theory_grammar.specs.declared.words.Keyword.TheVariants as word
use Rattle.theory_grammar.specs.declared.words.Mark.TheVariants as sign
use Rattle.theory_grammar.specs.Token.{Token, keyword, mark}
use Rattle.theory_grammar.specs.Spelled.{Limits, has_room, Last, loose, tight, last_of, IsExpr, IsClaim, AreConjuncts, AreDisjuncts, conjunction_of, disjunction_of}
use Rattle.theory_grammar.specs.Spelled as rule
use Rattle.theory_grammar.specs.Machine.{Left, alone, plus, minus, Product, leading, to_multiply, to_divide, Place, ClaimPlace, Heading, Context}
use Rattle.theory_grammar.specs.Machine as m
use Rattle.theory_grammar.proofs.Reached.{is_bare, NoDivisor, Signless, Fits, Solid, InPlace, Sums, Products, Signs, Others, Premises, Disjuncts, Conjuncts, Outside, Behind, BehindTerm, BehindClaim}

-- the last of tokens in two parts
pub last_both : (last : Last) (ts us : List Token) → last_of last (ts ++ us) ≡ last_of (last_of last ts) us
last_both last [] us = refl
last_both last (t ∷ ts) us = last_both (rule.last_behind last t) ts us

module _ (limits : Limits) where
  pub as_expr : (level : rule.Level) (d : ℕ) (ts us : List Token) (x : Expr) → ts ≡ us → IsExpr limits level d us x → IsExpr limits level d ts x
  as_expr level d ts us x e h = subst (λ (vs : List Token). IsExpr limits level d vs x) (sym e) h

  pub as_claim : (rank : rule.Rank) (d : ℕ) (ts us : List Token) (c : Claim) → ts ≡ us → IsClaim limits rank d us c → IsClaim limits rank d ts c
  as_claim rank d ts us c e h = subst (λ (vs : List Token). IsClaim limits rank d vs c) (sym e) h

  regroup : (ts us vs : List Token) (t : Token) → ts ≡ us ++ t ∷ [] → ts ++ vs ≡ us ++ t ∷ vs
  regroup ts us vs t e = ap (λ (xs : List Token). xs ++ vs) e ∙ append_assoc us (t ∷ []) vs

  -- a factor behind prefix signs
  pub opposed : (n base depth : ℕ) (ts us : List Token) (x : Expr) → Signs limits (mark sign.Minus) base n depth ts → IsExpr limits rule.factor depth us x
      → IsExpr limits rule.factor base (ts ++ us) (m.opposites n x)
  opposed zero base depth ts us x h e =
      as_expr rule.factor base (ts ++ us) us x (ap (λ (vs : List Token). vs ++ us) h.1) (subst (λ (d : ℕ). IsExpr limits rule.factor d us x) h.0 e)
  opposed (suc n) base depth ts us x h e =
      let inner : IsExpr limits rule.factor (suc h.0) us x = subst (λ (d : ℕ). IsExpr limits rule.factor d us x) h.2 e in
      as_expr rule.factor base (ts ++ us) (h.1 ++ mark sign.Minus ∷ us) (m.opposites n (plain.opposite x)) (regroup ts h.1 us (mark sign.Minus) h.5)
      (opposed n base h.0 h.1 (mark sign.Minus ∷ us) (plain.opposite x) h.4 (rule.negated h.3 inner))

  -- a factor behind a product
  pub multiplied : (base : ℕ) (p : Product) (ts us : List Token) (y : Expr) → NoDivisor p → Products limits base p ts → IsExpr limits rule.factor base us y
      → IsExpr limits rule.term base (ts ++ us) (m.multiplied p y)
  multiplied base (to_divide x) ts us y free h e = elim free [ ]
  multiplied base leading ts us y free h e = as_expr rule.term base (ts ++ us) us y (ap (λ (vs : List Token). vs ++ us) h) (rule.one_factor e)
  multiplied base (to_multiply x) ts us y free h e =
      as_expr rule.term base (ts ++ us) (h.0 ++ mark sign.Times ∷ us) (plain.product x y) (regroup ts h.0 us (mark sign.Times) h.2) (rule.times h.1 e)

  -- a term behind a sum
  pub joined : (base : ℕ) (s : Left) (ts us : List Token) (y : Expr) → Sums limits base s ts → IsExpr limits rule.term base us y
      → IsExpr limits rule.sum base (ts ++ us) (m.joined s y)
  joined base alone ts us y h e = as_expr rule.sum base (ts ++ us) us y (ap (λ (vs : List Token). vs ++ us) h) (rule.one_term e)
  joined base (plus x) ts us y h e =
      as_expr rule.sum base (ts ++ us) (h.0 ++ mark sign.Plus ∷ us) (plain.sum x y) (regroup ts h.0 us (mark sign.Plus) h.2) (rule.plus h.1 e)
  joined base (minus x) ts us y h e =
      as_expr rule.sum base (ts ++ us) (h.0 ++ mark sign.Minus ∷ us) (plain.difference x y) (regroup ts h.0 us (mark sign.Minus) h.2) (rule.minus h.1 e)

  -- a power behind a product or as a divisor
  pub divided : (f : Product) (n base depth : ℕ) (ps ms us : List Token) (y : Expr) → Products limits base f ps → Signless f n
      → Signs limits (mark sign.Minus) base n depth ms → Fits f ps us → IsExpr limits rule.power depth us y
      → IsExpr limits rule.term base (ps ++ (ms ++ us)) (m.multiplied f (m.opposites n y))
  divided leading n base depth ps ms us y h s g fits e =
      multiplied base leading ps (ms ++ us) (m.opposites n y) tt h (opposed n base depth ms us y g (rule.one_power e))
  divided (to_multiply x) n base depth ps ms us y h s g fits e =
      multiplied base (to_multiply x) ps (ms ++ us) (m.opposites n y) tt h (opposed n base depth ms us y g (rule.one_power e))
  divided (to_divide x) zero base depth ps ms us y h s g fits e =
      let inner : IsExpr limits rule.power base us y = subst (λ (d : ℕ). IsExpr limits rule.power d us y) g.0 e in
      as_expr rule.term base (ps ++ (ms ++ us)) (h.0 ++ mark sign.Over ∷ us) (plain.quotient x y)
      (ap (λ (vs : List Token). ps ++ (vs ++ us)) g.1 ∙ regroup ps h.0 us (mark sign.Over) h.2) (rule.divided (fits h.0 h.2) h.1 inner)
  divided (to_divide x) (suc n) base depth ps ms us y h s g fits e = absurd cc

  -- and what stands last
  ends_solid : (f : Product) (n base depth : ℕ) (ps ms us : List Token) → Products limits base f ps → Signless f n
      → Signs limits (mark sign.Minus) base n depth ms → Solid f us → is_bare (last_of loose (ps ++ (ms ++ us))) ≡ false
  ends_solid leading n base depth ps ms us h s g solid =
      ap is_bare (last_both loose ps (ms ++ us) ∙ last_both (last_of loose ps) ms us) ∙ solid (last_of (last_of loose ps) ms)
  ends_solid (to_multiply x) n base depth ps ms us h s g solid =
      ap is_bare (last_both loose ps (ms ++ us) ∙ last_both (last_of loose ps) ms us) ∙ solid (last_of (last_of loose ps) ms)
  ends_solid (to_divide x) zero base depth ps ms us h s g solid =
      ap (λ (vs : List Token). is_bare (last_of loose (ps ++ (vs ++ us)))) g.1
      ∙ ap (λ (vs : List Token). is_bare (last_of loose vs)) (regroup ps h.0 us (mark sign.Over) h.2)
      ∙ ap is_bare (last_both loose h.0 (mark sign.Over ∷ us)) ∙ solid
  ends_solid (to_divide x) (suc n) base depth ps ms us h s g solid = absurd cc

  -- what ends a term
  abbrev pub behind_term : (p : Place) (o : List Place) (ctx : Context) (y : Expr) (before front own : List Token) → before ≡ front ++ own
      → (place : InPlace limits (Outside limits o ctx) p front) → IsExpr limits rule.term p.base (place.products ++ (place.minuses ++ own)) y
      → BehindTerm limits (m.reset p) o ctx y before
  behind_term p o ctx y before front own e place h = record {
    outside = place.outside;
    sums = place.sums;
    own = place.products ++ (place.minuses ++ own);
    parts = e ∙ ap (λ (ts : List Token). ts ++ own) place.parts ∙ simp append_assoc;
    around = place.around;
    in_sum = place.in_sum;
    spelled = h;
  }

  abbrev pub factored : (p : Place) (o : List Place) (ctx : Context) (x : Expr) (before : List Token) → Behind limits rule.power p o ctx x before
      → BehindTerm limits (m.reset p) o ctx (m.settled p x) before
  factored p o ctx x before h = behind_term p o ctx (m.settled p x) before h.front h.own h.parts h.place
      (divided p.product p.minuses p.base p.depth h.place.products h.place.minuses h.own x h.place.in_product h.place.signless h.place.in_signs
      h.fits h.spelled)

  pub factored_solid : (p : Place) (o : List Place) (ctx : Context) (x : Expr) (before : List Token) (h : Behind limits rule.power p o ctx x before)
      → Solid p.product h.own → is_bare (last_of loose (h.place.products ++ (h.place.minuses ++ h.own))) ≡ false
  factored_solid p o ctx x before h solid =
      ends_solid p.product p.minuses p.base p.depth h.place.products h.place.minuses h.own h.place.in_product h.place.signless h.place.in_signs solid

  -- a literal ends a term
  abbrev pub literal : (p : Place) (o : List Place) (ctx : Context) (x : Expr) (before front own : List Token) → before ≡ front ++ own
      → (place : InPlace limits (Outside limits o ctx) p front) → NoDivisor p.product → IsExpr limits rule.factor p.depth own x
      → BehindTerm limits (m.reset p) o ctx (m.settled p x) before
  literal p o ctx x before front own e place free h = behind_term p o ctx (m.settled p x) before front own e place
      (multiplied p.base p.product place.products (place.minuses ++ own) (m.opposites p.minuses x) free place.in_product
      (opposed p.minuses p.base p.depth place.minuses own x place.in_signs h))

  pub literal_solid : (p : Place) (o : List Place) (ctx : Context) (front own : List Token) (place : InPlace limits (Outside limits o ctx) p front)
      → Solid p.product own → is_bare (last_of loose (place.products ++ (place.minuses ++ own))) ≡ false
  literal_solid p o ctx front own place solid =
      ends_solid p.product p.minuses p.base p.depth place.products place.minuses own place.in_product place.signless place.in_signs solid

  -- the tokens behind a whole expression
  pub record BehindExpr (base : ℕ) (o : List Place) (ctx : Context) (x : Expr) (before : List Token) : Type 0 where
    pub front : List Token
    pub own : List Token
    pub parts : before ≡ front ++ own
    pub around : Outside limits o ctx base front
    pub spelled : IsExpr limits rule.sum base own x

  -- a term ends an expression
  pub summed : (p : Place) (o : List Place) (ctx : Context) (x : Expr) (before : List Token) → BehindTerm limits p o ctx x before
      → BehindExpr p.base o ctx (m.joined p.sum x) before
  summed p o ctx x before h = record {
    front = h.outside;
    own = h.sums ++ h.own;
    parts = h.parts;
    around = h.around;
    spelled = joined p.base p.sum h.sums h.own x h.in_sum h.spelled;
  }

  -- a claim behind `not`
  denied : (n base depth : ℕ) (ts us : List Token) (c : Claim) → Signs limits (keyword word.Not) base n depth ts → IsClaim limits rule.conjunct depth us c
      → IsClaim limits rule.conjunct base (ts ++ us) (m.negations n c)
  denied zero base depth ts us c h e =
      as_claim rule.conjunct base (ts ++ us) us c (ap (λ (vs : List Token). vs ++ us) h.1) (subst (λ (d : ℕ). IsClaim limits rule.conjunct d us c) h.0 e)
  denied (suc n) base depth ts us c h e =
      let inner : IsClaim limits rule.conjunct (suc h.0) us c = subst (λ (d : ℕ). IsClaim limits rule.conjunct d us c) h.2 e in
      as_claim rule.conjunct base (ts ++ us) (h.1 ++ keyword word.Not ∷ us) (m.negations n (plain.negation c)) (regroup ts h.1 us (keyword word.Not) h.5)
      (denied n base h.0 h.1 (keyword word.Not ∷ us) (plain.negation c) h.4 (rule.negation h.3 inner))

  as_conjuncts : (d : ℕ) (ts us : List Token) (cs : List Claim) → ts ≡ us → AreConjuncts limits d us cs → AreConjuncts limits d ts cs
  as_conjuncts d ts us cs e h = subst (λ (vs : List Token). AreConjuncts limits d vs cs) (sym e) h

  as_disjuncts : (d : ℕ) (ts us : List Token) (cs : List Claim) → ts ≡ us → AreDisjuncts limits d us cs → AreDisjuncts limits d ts cs
  as_disjuncts d ts us cs e h = subst (λ (vs : List Token). AreDisjuncts limits d vs cs) (sym e) h

  -- one more member of a chain
  next_conjunct : (base : ℕ) (cs : List Claim) (ts us : List Token) (c : Claim) → Conjuncts limits base cs ts → IsClaim limits rule.conjunct base us c
      → AreConjuncts limits base (ts ++ us) (cs ++ c ∷ [])
  next_conjunct base [] ts us c h e = as_conjuncts base (ts ++ us) us (c ∷ []) (ap (λ (vs : List Token). vs ++ us) h) (rule.first_conjunct e)
  next_conjunct base (b ∷ bs) ts us c h e =
      as_conjuncts base (ts ++ us) (h.0 ++ keyword word.And ∷ us) ((b ∷ bs) ++ c ∷ []) (regroup ts h.0 us (keyword word.And) h.2) (rule.next_conjunct h.1 e)

  next_disjunct : (base : ℕ) (cs : List Claim) (ts us : List Token) (c : Claim) → Disjuncts limits base cs ts → IsClaim limits rule.disjunct base us c
      → AreDisjuncts limits base (ts ++ us) (cs ++ c ∷ [])
  next_disjunct base [] ts us c h e = as_disjuncts base (ts ++ us) us (c ∷ []) (ap (λ (vs : List Token). vs ++ us) h) (rule.first_disjunct e)
  next_disjunct base (b ∷ bs) ts us c h e =
      as_disjuncts base (ts ++ us) (h.0 ++ keyword word.Or ∷ us) ((b ∷ bs) ++ c ∷ []) (regroup ts h.0 us (keyword word.Or) h.2) (rule.next_disjunct h.1 e)

  -- a side behind premises
  implied : (base : ℕ) (bs : List Claim) (ts us : List Token) (c : Claim) → Premises limits base bs ts → IsClaim limits rule.side base us c
      → IsClaim limits rule.side base (ts ++ us) (m.implied bs c)
  implied base [] ts us c h e = as_claim rule.side base (ts ++ us) us c (ap (λ (vs : List Token). vs ++ us) h) e
  implied base (b ∷ bs) ts us c h e =
      let tokens : ts ++ us ≡ h.0 ++ (h.1 ++ keyword word.Implies ∷ us) = ap (λ (vs : List Token). vs ++ us) h.4 ∙ simp append_assoc in
      as_claim rule.side base (ts ++ us) (h.0 ++ (h.1 ++ keyword word.Implies ∷ us)) (m.implied bs (plain.implication b c)) tokens
      (implied base bs h.0 (h.1 ++ keyword word.Implies ∷ us) (plain.implication b c) h.2 (rule.implies h.3 e))

  -- a side behind the other one
  paired : (base : ℕ) (other : Option Claim) (ts us : List Token) (c : Claim) → Others limits base other ts → IsClaim limits rule.side base us c
      → IsClaim limits rule.claim base (ts ++ us) (m.paired other c)
  paired base None ts us c h e = as_claim rule.claim base (ts ++ us) us c (ap (λ (vs : List Token). vs ++ us) h) (rule.one_side e)
  paired base (Some b) ts us c h e =
      as_claim rule.claim base (ts ++ us) (h.0 ++ keyword word.Iff ∷ us) (plain.equivalence b c) (regroup ts h.0 us (keyword word.Iff) h.2) (rule.iff h.1 e)

  module _ (h : Heading) (q : ClaimPlace) (qs : List ClaimPlace) (c : Claim) (before : List Token) (b : BehindClaim limits h q qs c before) where
    -- the chains that a claim ends
    pub conjuncts : AreConjuncts limits q.base (b.place.conjuncts ++ (b.place.nots ++ b.own)) (m.all_conjuncts q c)
    conjuncts = next_conjunct q.base q.conjuncts b.place.conjuncts (b.place.nots ++ b.own) (m.negations q.nots c) b.place.in_and
        (denied q.nots q.base q.depth b.place.nots b.own c b.place.in_signs b.spelled)

    pub disjuncts : AreDisjuncts limits q.base (b.place.disjuncts ++ (b.place.conjuncts ++ (b.place.nots ++ b.own))) (m.all_disjuncts q c)
    disjuncts = next_disjunct q.base q.disjuncts b.place.disjuncts _ (conjunction_of (m.all_conjuncts q c)) b.place.in_or (rule.conjunction conjuncts)

    pub premise : IsClaim limits rule.premise q.base (b.place.disjuncts ++ (b.place.conjuncts ++ (b.place.nots ++ b.own))) (m.premise q c)
    premise = rule.disjunction disjuncts

    pub side : IsClaim limits rule.side q.base (b.place.premises ++ (b.place.disjuncts ++ (b.place.conjuncts ++ (b.place.nots ++ b.own)))) (m.side q c)
    side = implied q.base q.premises b.place.premises _ (m.premise q c) b.place.in_implies (rule.one_premise premise)

    pub claim : IsClaim limits rule.claim q.base (b.place.others ++ (b.place.premises ++ (b.place.disjuncts ++ (b.place.conjuncts ++
        (b.place.nots ++ b.own))))) (m.whole_claim q c)
    claim = paired q.base q.other b.place.others _ (m.side q c) b.place.in_iff side

    -- and its tokens
    pub tokens : before ≡ b.place.outside ++ (b.place.others ++ (b.place.premises ++ (b.place.disjuncts ++ (b.place.conjuncts ++ (b.place.nots ++ b.own)))))
    tokens = b.parts ∙ ap (λ (ts : List Token). ts ++ b.own) b.place.parts ∙ simp append_assoc
