-- What is spelled as a claim the machine takes.
use Rattle.std.proofs.Common.{◌≡◌, ℕ, suc, List, [], ◌∷◌, ◌++◌, Option, None, Some, IsTrue, refl, sym, ap, subst, ◌∙◌, append_assoc}
use Rattle.theory_meaning.specs.declared.words.Rel.{Rel}
use Rattle.theory_meaning.specs.Tree.{Expr, Claim, Line}
use Rattle.theory_meaning.specs.Tree as plain
use Rattle.theory_grammar.specs.declared.words.Keyword.TheVariants as word
use Rattle.theory_grammar.specs.declared.words.Mark.TheVariants as sign
use Rattle.theory_grammar.specs.declared.words.LineFaultKind.TheVariants.{Deep}
use Rattle.theory_grammar.specs.Token.{Token, keyword, name, dotted, number, mark, relation, stray}
use Rattle.theory_grammar.specs.Spelled.{Limits, has_room, Level, IsExpr, Rank, IsClaim, AreConjuncts, AreDisjuncts, conjunction_of, disjunction_of}
use Rattle.theory_grammar.specs.Spelled as rule
use Rattle.theory_grammar.specs.Machine.{State, ClaimPlace, Heading, left_of_atom, right_of_atom}
use Rattle.theory_grammar.specs.Machine as m
use Rattle.theory_grammar.proofs.Taken.{run, opened, EndsExpr, taken}

-- no sign that would go on with an expression stands first
abbrev pub EndsSum : List Token → Type 0
EndsSum (mark sign.Over ∷ ts) = ⊥
EndsSum (mark sign.Power ∷ ts) = ⊥
EndsSum (mark sign.Times ∷ ts) = ⊥
EndsSum (mark sign.Plus ∷ ts) = ⊥
EndsSum (mark sign.Minus ∷ ts) = ⊥
EndsSum _ = Unit {0}

ends_expr : (ts : List Token) → EndsSum ts → EndsExpr ts
ends_expr [] h = (tt, tt, tt)
ends_expr (mark sign.Over ∷ ts) h = elim h [ ]
ends_expr (mark sign.Power ∷ ts) h = elim h [ ]
ends_expr (mark sign.Times ∷ ts) h = elim h [ ]
ends_expr (t ∷ ts) h = (tt, tt, tt)

-- connectives that would go on with a claim
abbrev pub NotAnd : List Token → Type 0
NotAnd (keyword word.And ∷ ts) = ⊥
NotAnd _ = Unit {0}

abbrev pub NotOr : List Token → Type 0
NotOr (keyword word.Or ∷ ts) = ⊥
NotOr _ = Unit {0}

abbrev pub NotImplies : List Token → Type 0
NotImplies (keyword word.Implies ∷ ts) = ⊥
NotImplies _ = Unit {0}

abbrev pub NotIff : List Token → Type 0
NotIff (keyword word.Iff ∷ ts) = ⊥
NotIff _ = Unit {0}

-- the tokens behind a claim of each level
abbrev pub EndsClaim : Rank → List Token → Type 0
EndsClaim rule.conjunct ts = EndsSum ts
EndsClaim rule.disjunct ts = EndsSum ts × NotAnd ts
EndsClaim rule.premise ts = EndsSum ts × NotAnd ts × NotOr ts
EndsClaim rule.side ts = EndsSum ts × NotAnd ts × NotOr ts × NotImplies ts
EndsClaim rule.claim ts = EndsSum ts × NotAnd ts × NotOr ts × NotImplies ts × NotIff ts

-- a place behind these parts
abbrev pub place : Option Claim → List Claim → List Claim → List Claim → ℕ → ClaimPlace
place other premises disjuncts conjuncts d = record {
  other = other;
  premises = premises;
  disjuncts = disjuncts;
  conjuncts = conjuncts;
  nots = 0;
  base =
      d;
  depth = d;
}

-- the first token of an expression
abbrev Opens : Token → Type 0
Opens (number n) = Unit {0}
Opens (name x) = Unit {0}
Opens (dotted x) = Unit {0}
Opens (mark sign.Open) = Unit {0}
Opens (mark sign.Minus) = Unit {0}
Opens _ = ⊥

abbrev IsFirst : List Token → Type 0
IsFirst [] = ⊥
IsFirst (t ∷ ts) = Opens t

first_of_more : (ts us : List Token) → IsFirst ts → IsFirst (ts ++ us)
first_of_more [] us h = elim h [ ]
first_of_more (t ∷ ts) us h = h

module _ (limits : Limits) where
  is_first : {level : Level} {d : ℕ} {ts : List Token} {x : Expr} → IsExpr limits level d ts x → IsFirst ts
  is_first rule.whole_number = tt
  is_first rule.identifier = tt
  is_first rule.dotted_name = tt
  is_first (rule.bracket room u) = tt
  is_first (rule.one_primary u) = is_first u
  is_first (rule.raised {ts = ts} fits u) = first_of_more ts _ (is_first u)
  is_first (rule.one_power u) = is_first u
  is_first (rule.fraction fits) = tt
  is_first (rule.negated room u) = tt
  is_first (rule.one_factor u) = is_first u
  is_first (rule.times {ts = ts} u v) = first_of_more ts _ (is_first u)
  is_first (rule.divided {ts = ts} fits u v) = first_of_more ts _ (is_first u)
  is_first (rule.one_term u) = is_first u
  is_first (rule.plus {ts = ts} u v) = first_of_more ts _ (is_first u)
  is_first (rule.minus {ts = ts} u v) = first_of_more ts _ (is_first u)

  -- a claim that begins as an expression
  begins : (h : Heading) (q : ClaimPlace) (qs : List ClaimPlace) (ts : List Token) → IsFirst ts
      → run limits (m.want_claim h q qs) ts ≡ run limits (m.operand (m.fresh q.depth) [] (left_of_atom h q qs)) ts
  begins h q qs (number n ∷ ts) e = refl
  begins h q qs (name x ∷ ts) e = refl
  begins h q qs (dotted x ∷ ts) e = refl
  begins h q qs (mark sign.Open ∷ ts) e = refl
  begins h q qs (mark sign.Minus ∷ ts) e = refl
  begins h q qs [] e = elim e [ ]
  begins h q qs (keyword k ∷ ts) e = elim e [ ]
  begins h q qs (mark sign.Close ∷ ts) e = elim e [ ]
  begins h q qs (mark sign.OpenSquare ∷ ts) e = elim e [ ]
  begins h q qs (mark sign.CloseSquare ∷ ts) e = elim e [ ]
  begins h q qs (mark sign.Plus ∷ ts) e = elim e [ ]
  begins h q qs (mark sign.Times ∷ ts) e = elim e [ ]
  begins h q qs (mark sign.Over ∷ ts) e = elim e [ ]
  begins h q qs (mark sign.Power ∷ ts) e = elim e [ ]
  begins h q qs (mark sign.Colon ∷ ts) e = elim e [ ]
  begins h q qs (relation r ∷ ts) e = elim e [ ]
  begins h q qs (stray ∷ ts) e = elim e [ ]

  -- a comparison is a claim where nothing goes on with its right side
  compared : (x y : Expr) (r : Rel) (d : ℕ) (h : Heading) (q : ClaimPlace) (qs : List ClaimPlace) (rest : List Token) → EndsSum rest
      → run limits (m.term y (m.fresh d) [] (right_of_atom x r h q qs)) rest ≡ run limits (m.have_claim (plain.atom x r y) h q qs) rest
  compared x y r d h q qs [] e = refl
  compared x y r d h q qs (mark sign.Over ∷ ts) e = elim e [ ]
  compared x y r d h q qs (mark sign.Power ∷ ts) e = elim e [ ]
  compared x y r d h q qs (mark sign.Times ∷ ts) e = elim e [ ]
  compared x y r d h q qs (mark sign.Plus ∷ ts) e = elim e [ ]
  compared x y r d h q qs (mark sign.Minus ∷ ts) e = elim e [ ]
  compared x y r d h q qs (t ∷ ts) e = refl

  -- a claim behind `not` is its negation
  as_negation : (c : Claim) (h : Heading) (q : ClaimPlace) (qs : List ClaimPlace) (rest : List Token)
      → run limits (m.have_claim c h (m.denied q) qs) rest ≡ run limits (m.have_claim (plain.negation c) h q qs) rest
  as_negation c h q qs [] = refl
  as_negation c h q qs (keyword word.And ∷ ts) = refl
  as_negation c h q qs (mark sign.CloseSquare ∷ ts) = refl
  as_negation c h q qs (t ∷ ts) = refl

  module _ (h : Heading) (d : ℕ) (qs : List ClaimPlace) (c : Claim) where
    -- the last conjunct stands for the chain, the last disjunct for its chain, and so on
    as_conjunction : (other : Option Claim) (ps ds bs : List Claim) (rest : List Token) → NotAnd rest
        → run limits (m.have_claim c h (place other ps ds bs d) qs) rest ≡ run limits (m.have_claim (conjunction_of (bs ++ c ∷ [])) h
        (place other ps ds [] d) qs) rest
    as_conjunction other ps ds bs [] e = refl
    as_conjunction other ps ds bs (keyword word.And ∷ ts) e = elim e [ ]
    as_conjunction other ps ds bs (t ∷ ts) e = refl

    as_disjunction : (other : Option Claim) (ps bs : List Claim) (rest : List Token) → NotAnd rest → NotOr rest
        → run limits (m.have_claim c h (place other ps bs [] d) qs) rest ≡ run limits (m.have_claim (disjunction_of (bs ++ c ∷ [])) h
        (place other ps [] [] d) qs) rest
    as_disjunction other ps bs [] e e' = refl
    as_disjunction other ps bs (keyword word.And ∷ ts) e e' = elim e [ ]
    as_disjunction other ps bs (keyword word.Or ∷ ts) e e' = elim e' [ ]
    as_disjunction other ps bs (t ∷ ts) e e' = refl

    as_implication : (other : Option Claim) (b : Claim) (ps : List Claim) (rest : List Token) → EndsClaim rule.side rest
        → run limits (m.have_claim c h (place other (b ∷ ps) [] [] d) qs) rest ≡ run limits (m.have_claim (plain.implication b c) h
        (place other ps [] [] d) qs) rest
    as_implication other b ps [] e = refl
    as_implication other b ps (keyword word.And ∷ ts) e = elim e.1 [ ]
    as_implication other b ps (keyword word.Or ∷ ts) e = elim e.2 [ ]
    as_implication other b ps (keyword word.Implies ∷ ts) e = elim e.3 [ ]
    as_implication other b ps (t ∷ ts) e = refl

    as_equivalence : (b : Claim) (rest : List Token) → EndsClaim rule.claim rest
        → run limits (m.have_claim c h (place (Some b) [] [] [] d) qs) rest ≡ run limits (m.have_claim (plain.equivalence b c) h (m.fresh_claim d) qs) rest
    as_equivalence b [] e = refl
    as_equivalence b (keyword word.And ∷ ts) e = elim e.1 [ ]
    as_equivalence b (keyword word.Or ∷ ts) e = elim e.2 [ ]
    as_equivalence b (keyword word.Implies ∷ ts) e = elim e.3 [ ]
    as_equivalence b (keyword word.Iff ∷ ts) e = elim e.4 [ ]
    as_equivalence b (t ∷ ts) e = refl

  -- what becomes of the tokens of each level
  abbrev pub TakenClaim : Rank → ℕ → List Token → Claim → Type 0
  TakenClaim rule.conjunct d ts c = (h : Heading) (q : ClaimPlace) (qs : List ClaimPlace) (rest : List Token) → q.depth ≡ d → EndsClaim rule.conjunct rest
      → run limits (m.want_claim h q qs) (ts ++ rest) ≡ run limits (m.have_claim c h q qs) rest
  TakenClaim rule.disjunct d ts c = (h : Heading) (other : Option Claim) (ps ds : List Claim) (qs : List ClaimPlace) (rest : List Token)
      → EndsClaim rule.disjunct rest
      → run limits (m.want_claim h (place other ps ds [] d) qs) (ts ++ rest) ≡ run limits (m.have_claim c h (place other ps ds [] d) qs) rest
  TakenClaim rule.premise d ts c = (h : Heading) (other : Option Claim) (ps : List Claim) (qs : List ClaimPlace) (rest : List Token)
      → EndsClaim rule.premise rest
      → run limits (m.want_claim h (place other ps [] [] d) qs) (ts ++ rest) ≡ run limits (m.have_claim c h (place other ps [] [] d) qs) rest
  TakenClaim rule.side d ts c = (h : Heading) (other : Option Claim) (ps : List Claim) (qs : List ClaimPlace) (rest : List Token) → EndsClaim rule.side rest
      → run limits (m.want_claim h (place other ps [] [] d) qs) (ts ++ rest) ≡ run limits (m.have_claim c h (place other ps [] [] d) qs) rest
  TakenClaim rule.claim d ts c = (h : Heading) (qs : List ClaimPlace) (rest : List Token) → EndsClaim rule.claim rest
      → run limits (m.want_claim h (m.fresh_claim d) qs) (ts ++ rest) ≡ run limits (m.have_claim c h (m.fresh_claim d) qs) rest

  -- chains end with a last member
  abbrev pub TakenConjuncts : ℕ → List Token → List Claim → Type 0
  TakenConjuncts d ts cs = (bs : List Claim) × (c : Claim) × (cs ≡ bs ++ c ∷ []) × ((h : Heading) (other : Option Claim) (ps ds : List Claim)
      (qs : List ClaimPlace) (rest : List Token) → EndsClaim rule.conjunct rest
      → run limits (m.want_claim h (place other ps ds [] d) qs) (ts ++ rest) ≡ run limits (m.have_claim c h (place other ps ds bs d) qs) rest)

  abbrev pub TakenDisjuncts : ℕ → List Token → List Claim → Type 0
  TakenDisjuncts d ts cs = (bs : List Claim) × (c : Claim) × (cs ≡ bs ++ c ∷ []) × ((h : Heading) (other : Option Claim) (ps : List Claim)
      (qs : List ClaimPlace) (rest : List Token) → EndsClaim rule.disjunct rest
      → run limits (m.want_claim h (place other ps [] [] d) qs) (ts ++ rest) ≡ run limits (m.have_claim c h (place other ps bs [] d) qs) rest)

  room_at : (d e : ℕ) → d ≡ e → IsTrue (has_room limits e) → IsTrue (has_room limits d)
  room_at d e h r = subst (λ (k : ℕ). IsTrue (has_room limits k)) (sym h) r

  regroup : (st : State) (ts us rest : List Token) (t : Token) → run limits st ((ts ++ t ∷ us) ++ rest) ≡ run limits st (ts ++ t ∷ (us ++ rest))
  regroup st ts us rest t = ap (run limits st) (append_assoc ts (t ∷ us) rest)

  -- the two sides of a comparison
  atom_taken : (d : ℕ) (ts us : List Token) (x y : Expr) (r : Rel) → IsExpr limits rule.sum d ts x → IsExpr limits rule.sum d us y
      → TakenClaim rule.conjunct d (ts ++ relation r ∷ us) (plain.atom x r y)
  atom_taken d ts us x y r u v = λ h q qs rest e f.
      regroup (m.want_claim h q qs) ts us rest (relation r)
      ∙ begins h q qs (ts ++ relation r ∷ (us ++ rest)) (first_of_more ts (relation r ∷ (us ++ rest)) (is_first u))
      ∙ ap (λ (k : ℕ). run limits (m.operand (m.fresh k) [] (left_of_atom h q qs)) (ts ++ relation r ∷ (us ++ rest))) e
      ∙ taken limits u [] (left_of_atom h q qs) (relation r ∷ (us ++ rest)) (tt, tt, tt)
      ∙ ap (λ (k : ℕ). run limits (m.operand (m.fresh k) [] (right_of_atom x r h q qs)) (us ++ rest)) e
      ∙ taken limits v [] (right_of_atom x r h q qs) rest (ends_expr rest f)
      ∙ compared x y r d h q qs rest f

  mutual
    pub taken_claim : {rank : Rank} {d : ℕ} {ts : List Token} {c : Claim} → IsClaim limits rank d ts c → TakenClaim rank d ts c
    taken_claim rule.truth = λ h q qs rest e f. refl
    taken_claim rule.falsehood = λ h q qs rest e f. refl
    taken_claim (rule.atom {d = d} {ts = ts} {us = us} {x = x} {y = y} {r = r} u v) = atom_taken d ts us x y r u v
    taken_claim (rule.negation {d = d} {ts = ts} {c = c} room u) = λ h q qs rest e f.
        opened limits (has_room limits q.depth) Deep (m.want_claim h (m.denied q) qs) (ts ++ rest) (room_at q.depth d e room)
        ∙ taken_claim u h (m.denied q) qs rest (ap suc e) f
        ∙ as_negation c h q qs rest
    taken_claim (rule.bracketed {d = d} {ts = ts} {c = c} room u) = λ h q qs rest e f.
        opened limits (has_room limits q.depth) Deep (m.want_claim h (m.fresh_claim (suc q.depth)) (q ∷ qs)) ((ts ++ mark sign.CloseSquare ∷ []) ++ rest)
        (room_at q.depth d e room)
        ∙ regroup (m.want_claim h (m.fresh_claim (suc q.depth)) (q ∷ qs)) ts [] rest (mark sign.CloseSquare)
        ∙ ap (λ (k : ℕ). run limits (m.want_claim h (m.fresh_claim (suc k)) (q ∷ qs)) (ts ++ mark sign.CloseSquare ∷ rest)) e
        ∙ taken_claim u h (q ∷ qs) (mark sign.CloseSquare ∷ rest) (tt, tt, tt, tt, tt)
    taken_claim (rule.conjunction {d = d} {ts = ts} {cs = cs} u) = λ h other ps ds qs rest f.
        let w = taken_conjuncts u in
        w.3 h other ps ds qs rest f.0 ∙ as_conjunction h d qs w.1 other ps ds w.0 rest f.1
        ∙ ap (λ (bs : List Claim). run limits (m.have_claim (conjunction_of bs) h (place other ps ds [] d) qs) rest) (sym w.2)
    taken_claim (rule.disjunction {d = d} {ts = ts} {cs = cs} u) = λ h other ps qs rest f.
        let w = taken_disjuncts u in
        w.3 h other ps qs rest (f.0, f.1) ∙ as_disjunction h d qs w.1 other ps w.0 rest f.1 f.2
        ∙ ap (λ (bs : List Claim). run limits (m.have_claim (disjunction_of bs) h (place other ps [] [] d) qs) rest) (sym w.2)
    taken_claim (rule.one_premise u) = λ h other ps qs rest f. taken_claim u h other ps qs rest (f.0, f.1, f.2)
    taken_claim (rule.implies {d = d} {ts = ts} {us = us} {b = b} {c = c} u v) = λ h other ps qs rest f.
        regroup (m.want_claim h (place other ps [] [] d) qs) ts us rest (keyword word.Implies)
        ∙ taken_claim u h other ps qs (keyword word.Implies ∷ (us ++ rest)) (tt, tt, tt)
        ∙ taken_claim v h other (b ∷ ps) qs rest f
        ∙ as_implication h d qs c other b ps rest f
    taken_claim (rule.one_side u) = λ h qs rest f. taken_claim u h None [] qs rest (f.0, f.1, f.2, f.3)
    taken_claim (rule.iff {d = d} {ts = ts} {us = us} {b = b} {c = c} u v) = λ h qs rest f.
        regroup (m.want_claim h (m.fresh_claim d) qs) ts us rest (keyword word.Iff)
        ∙ taken_claim u h None [] qs (keyword word.Iff ∷ (us ++ rest)) (tt, tt, tt, tt)
        ∙ taken_claim v h (Some b) [] qs rest (f.0, f.1, f.2, f.3)
        ∙ as_equivalence h d qs c b rest f

    pub taken_conjuncts : {d : ℕ} {ts : List Token} {cs : List Claim} → AreConjuncts limits d ts cs → TakenConjuncts d ts cs
    taken_conjuncts (rule.first_conjunct {d = d} {ts = ts} {c = c} u) =
        ([], c, refl, λ h other ps ds qs rest f. taken_claim u h (place other ps ds [] d) qs rest refl f)
    taken_conjuncts (rule.next_conjunct {d = d} {ts = ts} {us = us} {cs = cs} {c = c} u v) =
        let w = taken_conjuncts u in (
          w.0 ++ w.1 ∷ [],
          c,
          ap (λ (bs : List Claim). bs ++ c ∷ []) w.2,
          λ h other ps ds qs rest f.
              regroup (m.want_claim h (place other ps ds [] d) qs) ts us rest (keyword word.And)
              ∙ w.3 h other ps ds qs (keyword word.And ∷ (us ++ rest)) tt
              ∙ taken_claim v h (place other ps ds (w.0 ++ w.1 ∷ []) d) qs rest refl f,
        )

    pub taken_disjuncts : {d : ℕ} {ts : List Token} {cs : List Claim} → AreDisjuncts limits d ts cs → TakenDisjuncts d ts cs
    taken_disjuncts (rule.first_disjunct {d = d} {ts = ts} {c = c} u) = ([], c, refl, λ h other ps qs rest f. taken_claim u h other ps [] qs rest f)
    taken_disjuncts (rule.next_disjunct {d = d} {ts = ts} {us = us} {cs = cs} {c = c} u v) =
        let w = taken_disjuncts u in (
          w.0 ++ w.1 ∷ [],
          c,
          ap (λ (bs : List Claim). bs ++ c ∷ []) w.2,
          λ h other ps qs rest f.
              regroup (m.want_claim h (place other ps [] [] d) qs) ts us rest (keyword word.Or)
              ∙ w.3 h other ps qs (keyword word.Or ∷ (us ++ rest)) (tt, tt)
              ∙ taken_claim v h other ps (w.0 ++ w.1 ∷ []) qs rest f,
        )
