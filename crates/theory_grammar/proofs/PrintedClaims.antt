-- The printed form of a claim that tokens spell: it is read as tokens that spell the same one.
use Rattle.std.proofs.Common.{◌≡◌, ℕ, suc, Bool, true, false, List, [], ◌∷◌, ◌++◌, refl, sym, ap, ◌∙◌, subst, append_assoc}
use Rattle.std.specs.Prelude.{codes}
use Rattle.std.proofs.lemmas.List.{append-nil}
use Rattle.theory_meaning.specs.Tree.{Claim, claims_from}
use Rattle.theory_grammar.specs.declared.words.Keyword.TheVariants as word
use Rattle.theory_grammar.specs.declared.words.Mark.TheVariants as sign
use Rattle.theory_grammar.specs.Token.{Token, keyword, mark, relation}
use Rattle.theory_grammar.specs.Opened.{one_more_unless, open_in_expr, open_in_claim, open_in_conjuncts, open_in_disjuncts}
use Rattle.theory_grammar.specs.Spelled.{every, conjunction_of, disjunction_of, Rank, claim, side, premise, disjunct, conjunct, IsClaim, truth, falsehood, atom, negation, bracketed, conjunction, disjunction, one_premise, implies, one_side, iff, AreConjuncts, first_conjunct, next_conjunct, AreDisjuncts, first_disjunct, next_disjunct}
use Rattle.theory_grammar.specs.Printed.{square_unless, is_conjunct, is_disjunct, is_premise, is_side, further, joined, claim_text, conjuncts, disjuncts}
use Rattle.theory_grammar.proofs.Opening.{limited, Fits, room, inside, in_left, in_right}
use Rattle.theory_grammar.proofs.LeadLaws.{Leads, joined_by, closed_by, between, nothing_more, blank_leads, keyword_leads, apart}
use Rattle.theory_grammar.proofs.MeantLaws.{AreMeant, meant_front, meant_behind}
use Rattle.theory_grammar.proofs.PrintedExprs.{whole_expr, sides_lead}
use Rattle.theory_grammar.proofs.ClaimLevels.{own, lift, reaches_claim, Printable, Printed, printed_at}

-- words as they are printed
and_between : Leads false (keyword word.And ∷ []) (codes " and ")
and_between = joined_by blank_leads (closed_by (keyword_leads word.And) blank_leads (λ rest. apart refl))

or_between : Leads false (keyword word.Or ∷ []) (codes " or ")
or_between = joined_by blank_leads (closed_by (keyword_leads word.Or) blank_leads (λ rest. apart refl))

implies_between : Leads false (keyword word.Implies ∷ []) (codes " implies ")
implies_between = joined_by blank_leads (closed_by (keyword_leads word.Implies) blank_leads (λ rest. apart refl))

iff_between : Leads false (keyword word.Iff ∷ []) (codes " iff ")
iff_between = joined_by blank_leads (closed_by (keyword_leads word.Iff) blank_leads (λ rest. apart refl))

not_before : Leads false (keyword word.Not ∷ []) (codes "not ")
not_before = closed_by (keyword_leads word.Not) blank_leads (λ rest. apart refl)

-- parts with a word between them, and one part more
regrouped : (a b w t : List ℕ) → a ++ ((b ++ w) ++ t) ≡ ((a ++ b) ++ w) ++ t
regrouped a b w t = simp append_assoc

further_push : (w : List ℕ) (ps : List (List ℕ)) (t : List ℕ) → further w (ps ++ t ∷ []) ≡ (further w ps ++ w) ++ t
further_push w [] t = append-nil (w ++ t)
further_push w (p ∷ ps) t = ap (λ (bs : List ℕ). (w ++ p) ++ bs) (further_push w ps t) ∙ regrouped (w ++ p) (further w ps) w t

joined_push : (e w p : List ℕ) (ps : List (List ℕ)) (t : List ℕ) → joined e w ((p ∷ ps) ++ t ∷ []) ≡ (joined e w (p ∷ ps) ++ w) ++ t
joined_push e w p ps t = ap (λ (bs : List ℕ). p ++ bs) (further_push w ps t) ∙ regrouped p (further w ps) w t

-- each member can be printed
abbrev AllPrintable : Bool → List Claim → Type 0
AllPrintable deep [] = Unit {0}
AllPrintable deep (c ∷ cs) = Printable deep c × AllPrintable deep cs

all_push : (deep : Bool) (cs : List Claim) (c : Claim) → AllPrintable deep cs → Printable deep c → AllPrintable deep (cs ++ c ∷ [])
all_push deep [] c h k = (k, tt)
all_push deep (b ∷ cs) c h k = (h.0, all_push deep cs c h.1 k)

-- the text of a chain of `and` with one member more
conjuncts_push : (cs : List Claim) (b : Claim) →
    conjuncts (claims_from (cs ++ b ∷ [])) ≡ conjuncts (claims_from cs) ++ square_unless (is_conjunct b) (claim_text b) ∷ []
conjuncts_push [] b = refl
conjuncts_push (c ∷ cs) b = ap (λ (ps : List (List ℕ)). square_unless (is_conjunct c) (claim_text c) ∷ ps) (conjuncts_push cs b)

conjuncts_text : (c : Claim) (cs : List Claim) (b : Claim) →
    (joined (codes "true") (codes " and ") (conjuncts (claims_from (c ∷ cs))) ++ codes " and ") ++ square_unless (is_conjunct b) (claim_text b)
    ≡ joined (codes "true") (codes " and ") (conjuncts (claims_from (c ∷ (cs ++ b ∷ []))))
conjuncts_text c cs b =
    let first = square_unless (is_conjunct c) (claim_text c) in
    sym (ap (λ (ps : List (List ℕ)). joined (codes "true") (codes " and ") (first ∷ ps)) (conjuncts_push cs b)
    ∙ joined_push (codes "true") (codes " and ") first (conjuncts (claims_from cs)) (square_unless (is_conjunct b) (claim_text b)))

-- the text of a chain of `or` with one member more
disjuncts_push : (cs : List Claim) (b : Claim) →
    disjuncts (claims_from (cs ++ b ∷ [])) ≡ disjuncts (claims_from cs) ++ square_unless (is_disjunct b) (claim_text b) ∷ []
disjuncts_push [] b = refl
disjuncts_push (c ∷ cs) b = ap (λ (ps : List (List ℕ)). square_unless (is_disjunct c) (claim_text c) ∷ ps) (disjuncts_push cs b)

disjuncts_text : (c : Claim) (cs : List Claim) (b : Claim) →
    (joined (codes "false") (codes " or ") (disjuncts (claims_from (c ∷ cs))) ++ codes " or ") ++ square_unless (is_disjunct b) (claim_text b)
    ≡ joined (codes "false") (codes " or ") (disjuncts (claims_from (c ∷ (cs ++ b ∷ []))))
disjuncts_text c cs b =
    let first = square_unless (is_disjunct c) (claim_text c) in
    sym (ap (λ (ps : List (List ℕ)). joined (codes "false") (codes " or ") (first ∷ ps)) (disjuncts_push cs b)
    ∙ joined_push (codes "false") (codes " or ") first (disjuncts (claims_from cs)) (square_unless (is_disjunct b) (claim_text b)))

module _ (deep : Bool) (d : ℕ) where
  -- the first members of a chain of `and`, printed
  record ConjunctsPrinted (c : Claim) (cs : List Claim) : Type 0 where
    tokens : List Token
    spells : AreConjuncts (limited deep) d tokens (c ∷ cs)
    leads : Leads true tokens (joined (codes "true") (codes " and ") (conjuncts (claims_from (c ∷ cs))))

  one_more_conjunct : (c : Claim) (cs : List Claim) (b : Claim) → ConjunctsPrinted c cs → Printed deep conjunct (is_conjunct b) d b
      → ConjunctsPrinted c (cs ++ b ∷ [])
  one_more_conjunct c cs b h p = record {
    tokens = h.tokens ++ keyword word.And ∷ p.tokens;
    spells = next_conjunct h.spells p.spells;
    leads = subst (Leads true (h.tokens ++ keyword word.And ∷ p.tokens)) (conjuncts_text c cs b)
        (between h.leads and_between p.leads (λ rest. apart refl));
  }

  all_conjuncts : (c : Claim) (cs bs : List Claim) → ConjunctsPrinted c cs → AllPrintable deep bs → Fits deep d (open_in_conjuncts (claims_from bs))
      → ConjunctsPrinted c (cs ++ bs)
  all_conjuncts c cs [] h all fits = subst (ConjunctsPrinted c) (sym (append-nil cs)) h
  all_conjuncts c cs (b ∷ bs) h all fits =
      let m = one_more_unless (is_conjunct b) (open_in_claim b) in
      let n = open_in_conjuncts (claims_from bs) in
      let p = printed_at deep conjunct d b (in_left deep d m n fits) all.0 in
      subst (ConjunctsPrinted c) (append_assoc cs (b ∷ []) bs)
      (all_conjuncts c (cs ++ b ∷ []) bs (one_more_conjunct c cs b h p) all.1 (in_right deep d m n fits))

  -- the first members of a chain of `or`, printed
  record DisjunctsPrinted (c : Claim) (cs : List Claim) : Type 0 where
    tokens : List Token
    spells : AreDisjuncts (limited deep) d tokens (c ∷ cs)
    leads : Leads true tokens (joined (codes "false") (codes " or ") (disjuncts (claims_from (c ∷ cs))))

  one_more_disjunct : (c : Claim) (cs : List Claim) (b : Claim) → DisjunctsPrinted c cs → Printed deep disjunct (is_disjunct b) d b
      → DisjunctsPrinted c (cs ++ b ∷ [])
  one_more_disjunct c cs b h p = record {
    tokens = h.tokens ++ keyword word.Or ∷ p.tokens;
    spells = next_disjunct h.spells p.spells;
    leads = subst (Leads true (h.tokens ++ keyword word.Or ∷ p.tokens)) (disjuncts_text c cs b)
        (between h.leads or_between p.leads (λ rest. apart refl));
  }

  all_disjuncts : (c : Claim) (cs bs : List Claim) → DisjunctsPrinted c cs → AllPrintable deep bs → Fits deep d (open_in_disjuncts (claims_from bs))
      → DisjunctsPrinted c (cs ++ bs)
  all_disjuncts c cs [] h all fits = subst (DisjunctsPrinted c) (sym (append-nil cs)) h
  all_disjuncts c cs (b ∷ bs) h all fits =
      let m = one_more_unless (is_disjunct b) (open_in_claim b) in
      let n = open_in_disjuncts (claims_from bs) in
      let p = printed_at deep disjunct d b (in_left deep d m n fits) all.0 in
      subst (DisjunctsPrinted c) (append_assoc cs (b ∷ []) bs)
      (all_disjuncts c (cs ++ b ∷ []) bs (one_more_disjunct c cs b h p) all.1 (in_right deep d m n fits))

module _ (deep : Bool) where
  conjunction_printable : (cs : List Claim) → AllPrintable deep cs → Printable deep (conjunction_of cs)
  conjunction_printable [] all d fits = record { tokens = keyword word.True ∷ []; spells = truth; leads = keyword_leads word.True }
  conjunction_printable (c ∷ []) all d fits = all.0 d fits
  conjunction_printable (c ∷ b ∷ cs) all d fits =
      let m = one_more_unless (is_conjunct c) (open_in_claim c) in
      let n = open_in_conjuncts (claims_from (b ∷ cs)) in
      let p = printed_at deep conjunct d c (in_left deep d m n fits) all.0 in
      let first : ConjunctsPrinted deep d c [] = record { tokens = p.tokens; spells = first_conjunct p.spells; leads = nothing_more p.leads } in
      let chain = all_conjuncts deep d c [] (b ∷ cs) first all.1 (in_right deep d m n fits) in
      record { tokens = chain.tokens; spells = conjunction chain.spells; leads = chain.leads }

  disjunction_printable : (cs : List Claim) → AllPrintable deep cs → Printable deep (disjunction_of cs)
  disjunction_printable [] all d fits = record { tokens = keyword word.False ∷ []; spells = falsehood; leads = keyword_leads word.False }
  disjunction_printable (c ∷ []) all d fits = all.0 d fits
  disjunction_printable (c ∷ b ∷ cs) all d fits =
      let m = one_more_unless (is_disjunct c) (open_in_claim c) in
      let n = open_in_disjuncts (claims_from (b ∷ cs)) in
      let p = printed_at deep disjunct d c (in_left deep d m n fits) all.0 in
      let first : DisjunctsPrinted deep d c [] = record { tokens = p.tokens; spells = first_disjunct p.spells; leads = nothing_more p.leads } in
      let chain = all_disjuncts deep d c [] (b ∷ cs) first all.1 (in_right deep d m n fits) in
      record { tokens = chain.tokens; spells = disjunction chain.spells; leads = chain.leads }

  -- what tokens spell within all limits can be printed wherever there is room for it
  mutual
    printable_claim : {R : Rank} {ts : List Token} {c : Claim} (e : ℕ) → IsClaim every R e ts c → AreMeant ts → Printable deep c
    printable_claim e (truth) h d fits = record { tokens = keyword word.True ∷ []; spells = truth; leads = keyword_leads word.True }
    printable_claim e (falsehood) h d fits = record { tokens = keyword word.False ∷ []; spells = falsehood; leads = keyword_leads word.False }
    printable_claim e (atom {ts = ts} {us = us} {x = x} {y = y} {r = r} k l) h d fits =
        let p = whole_expr deep e d k (meant_front ts (relation r ∷ us) h) (in_left deep d (open_in_expr x) (open_in_expr y) fits) in
        let q = whole_expr deep e d l (meant_behind ts (relation r ∷ us) h).1 (in_right deep d (open_in_expr x) (open_in_expr y) fits) in
        record { tokens = p.tokens ++ relation r ∷ q.tokens; spells = atom p.spells q.spells; leads = sides_lead p r q }
    printable_claim e (negation {c = c} opens k) h d fits =
        let n = one_more_unless (is_conjunct c) (open_in_claim c) in
        let p = printed_at deep conjunct (suc d) c (inside deep d n fits) (printable_claim (suc e) k h.1) in
        record { tokens = keyword word.Not ∷ p.tokens; spells = negation (room deep d n fits) p.spells; leads = joined_by not_before p.leads }
    printable_claim e (bracketed {ts = ts} opens k) h d fits = printable_claim (suc e) k (meant_front ts (mark sign.CloseSquare ∷ []) h.1) d fits
    printable_claim e (conjunction {cs = cs} k) h d fits = conjunction_printable cs (printable_conjuncts e k h) d fits
    printable_claim e (disjunction {cs = cs} k) h d fits = disjunction_printable cs (printable_disjuncts e k h) d fits
    printable_claim e (one_premise k) h d fits = printable_claim e k h d fits
    printable_claim e (implies {ts = ts} {us = us} {b = b} {c = c} k l) h d fits =
        let m = one_more_unless (is_premise b) (open_in_claim b) in
        let n = one_more_unless (is_side c) (open_in_claim c) in
        let p = printed_at deep premise d b (in_left deep d m n fits) (printable_claim e k (meant_front ts (keyword word.Implies ∷ us) h)) in
        let q = printed_at deep side d c (in_right deep d m n fits) (printable_claim e l (meant_behind ts (keyword word.Implies ∷ us) h).1) in
        record {
          tokens = p.tokens ++ keyword word.Implies ∷ q.tokens;
          spells = implies p.spells q.spells;
          leads = between p.leads implies_between q.leads (λ rest. apart refl);
        }
    printable_claim e (one_side k) h d fits = printable_claim e k h d fits
    printable_claim e (iff {ts = ts} {us = us} {b = b} {c = c} k l) h d fits =
        let m = one_more_unless (is_side b) (open_in_claim b) in
        let n = one_more_unless (is_side c) (open_in_claim c) in
        let p = printed_at deep side d b (in_left deep d m n fits) (printable_claim e k (meant_front ts (keyword word.Iff ∷ us) h)) in
        let q = printed_at deep side d c (in_right deep d m n fits) (printable_claim e l (meant_behind ts (keyword word.Iff ∷ us) h).1) in
        record {
          tokens = p.tokens ++ keyword word.Iff ∷ q.tokens;
          spells = iff p.spells q.spells;
          leads = between p.leads iff_between q.leads (λ rest. apart refl);
        }

    printable_conjuncts : {ts : List Token} {cs : List Claim} (e : ℕ) → AreConjuncts every e ts cs → AreMeant ts → AllPrintable deep cs
    printable_conjuncts e (first_conjunct k) h = (printable_claim e k h, tt)
    printable_conjuncts e (next_conjunct {ts = ts} {us = us} {cs = cs} {c = c} k l) h =
        all_push deep cs c (printable_conjuncts e k (meant_front ts (keyword word.And ∷ us) h))
        (printable_claim e l (meant_behind ts (keyword word.And ∷ us) h).1)

    printable_disjuncts : {ts : List Token} {cs : List Claim} (e : ℕ) → AreDisjuncts every e ts cs → AreMeant ts → AllPrintable deep cs
    printable_disjuncts e (first_disjunct k) h = (printable_claim e k h, tt)
    printable_disjuncts e (next_disjunct {ts = ts} {us = us} {cs = cs} {c = c} k l) h =
        all_push deep cs c (printable_disjuncts e k (meant_front ts (keyword word.Or ∷ us) h))
        (printable_claim e l (meant_behind ts (keyword word.Or ∷ us) h).1)

  -- a claim on its own
  pub record WholeClaim (c : Claim) : Type 0 where
    pub tokens : List Token
    pub spells : IsClaim (limited deep) claim 0 tokens c
    pub leads : Leads true tokens (claim_text c)

  pub whole_claim : {ts : List Token} {c : Claim} → IsClaim every claim 0 ts c → AreMeant ts → Fits deep 0 (open_in_claim c) → WholeClaim c
  whole_claim {ts} {c} k h fits =
      let b = printable_claim 0 k h 0 fits in
      record { tokens = b.tokens; spells = lift (own c) claim (reaches_claim (own c)) b.spells; leads = b.leads }
