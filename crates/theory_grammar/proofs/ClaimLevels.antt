-- The levels at which claims stand, with and without brackets.
use Rattle.std.proofs.Common.{◌≡◌, ℕ, suc, Bool, true, false, List, [], ◌∷◌, ◌++◌, refl}
use Rattle.std.proofs.lemmas.Bool.{false≢true}
use Rattle.theory_meaning.specs.Tree.{Claim, Claims, claims_from}
use Rattle.theory_meaning.specs.Tree as plain
use Rattle.theory_grammar.specs.declared.words.Mark.TheVariants as sign
use Rattle.theory_grammar.specs.Token.{Token, mark}
use Rattle.theory_grammar.specs.Opened.{one_more_unless, open_in_claim}
use Rattle.theory_grammar.specs.Spelled.{Limits, Rank, claim, side, premise, disjunct, conjunct, IsClaim, bracketed, conjunction, disjunction, one_premise, one_side, first_conjunct, first_disjunct}
use Rattle.theory_grammar.specs.Printed.{square_unless, is_conjunct, is_disjunct, is_premise, is_side, claim_text}
use Rattle.theory_grammar.proofs.Opening.{limited, Fits, room, inside}
use Rattle.theory_grammar.proofs.LeadLaws.{Leads, joined_by, closed_by, nothing_more, any_open, mark_leads, apart}

-- the level at which a claim stands without brackets
abbrev pub own : Claim → Rank
own plain.always = conjunct
own plain.never = conjunct
own (plain.atom u r v) = conjunct
own (plain.negation c) = conjunct
own (plain.conjunction cs) = disjunct
own (plain.disjunction cs) = premise
own (plain.implication a b) = side
own (plain.equivalence a b) = claim

-- and whether it stands so at a level
abbrev pub stands : Rank → Claim → Bool
stands claim c = true
stands side c = is_side c
stands premise c = is_premise c
stands disjunct c = is_disjunct c
stands conjunct c = is_conjunct c

-- the levels at which everything of a level stands too
abbrev pub reaches : Rank → Rank → Bool
reaches conjunct R = true
reaches disjunct conjunct = false
reaches disjunct R = true
reaches premise conjunct = false
reaches premise disjunct = false
reaches premise R = true
reaches side claim = true
reaches side side = true
reaches side R = false
reaches claim claim = true
reaches claim R = false

-- what stands at a level stands at those that it reaches
from_conjunct : (R : Rank) {limits : Limits} {d : ℕ} {ts : List Token} {c : Claim} → IsClaim limits conjunct d ts c → IsClaim limits R d ts c
from_conjunct conjunct k = k
from_conjunct disjunct k = conjunction (first_conjunct k)
from_conjunct premise k = disjunction (first_disjunct (conjunction (first_conjunct k)))
from_conjunct side k = one_premise (disjunction (first_disjunct (conjunction (first_conjunct k))))
from_conjunct claim k = one_side (one_premise (disjunction (first_disjunct (conjunction (first_conjunct k)))))

pub lift : (M R : Rank) {limits : Limits} {d : ℕ} {ts : List Token} {c : Claim} → reaches M R ≡ true → IsClaim limits M d ts c → IsClaim limits R d ts c
lift conjunct R h k = from_conjunct R k
lift disjunct conjunct h k = absurd (false≢true h)
lift disjunct disjunct h k = k
lift disjunct premise h k = disjunction (first_disjunct k)
lift disjunct side h k = one_premise (disjunction (first_disjunct k))
lift disjunct claim h k = one_side (one_premise (disjunction (first_disjunct k)))
lift premise conjunct h k = absurd (false≢true h)
lift premise disjunct h k = absurd (false≢true h)
lift premise premise h k = k
lift premise side h k = one_premise k
lift premise claim h k = one_side (one_premise k)
lift side conjunct h k = absurd (false≢true h)
lift side disjunct h k = absurd (false≢true h)
lift side premise h k = absurd (false≢true h)
lift side side h k = k
lift side claim h k = one_side k
lift claim conjunct h k = absurd (false≢true h)
lift claim disjunct h k = absurd (false≢true h)
lift claim premise h k = absurd (false≢true h)
lift claim side h k = absurd (false≢true h)
lift claim claim h k = k

-- each level reaches that of claims
pub reaches_claim : (M : Rank) → reaches M claim ≡ true
reaches_claim conjunct = refl
reaches_claim disjunct = refl
reaches_claim premise = refl
reaches_claim side = refl
reaches_claim claim = refl

-- what stands at a level has a level that reaches it
stands_reaches : (R : Rank) (c : Claim) → stands R c ≡ true → reaches (own c) R ≡ true
stands_reaches R plain.always h = refl
stands_reaches R plain.never h = refl
stands_reaches R (plain.atom u r v) h = refl
stands_reaches R (plain.negation c) h = refl
stands_reaches claim (plain.conjunction cs) h = refl
stands_reaches side (plain.conjunction cs) h = refl
stands_reaches premise (plain.conjunction cs) h = refl
stands_reaches disjunct (plain.conjunction cs) h = refl
stands_reaches conjunct (plain.conjunction cs) h = h
stands_reaches claim (plain.disjunction cs) h = refl
stands_reaches side (plain.disjunction cs) h = refl
stands_reaches premise (plain.disjunction cs) h = refl
stands_reaches disjunct (plain.disjunction cs) h = h
stands_reaches conjunct (plain.disjunction cs) h = h
stands_reaches claim (plain.implication a b) h = refl
stands_reaches side (plain.implication a b) h = refl
stands_reaches premise (plain.implication a b) h = h
stands_reaches disjunct (plain.implication a b) h = h
stands_reaches conjunct (plain.implication a b) h = h
stands_reaches claim (plain.equivalence a b) h = refl
stands_reaches side (plain.equivalence a b) h = h
stands_reaches premise (plain.equivalence a b) h = h
stands_reaches disjunct (plain.equivalence a b) h = h
stands_reaches conjunct (plain.equivalence a b) h = h

module _ (deep : Bool) where
  -- the printed form without brackets around it is read as tokens of its own level
  pub record Bare (d : ℕ) (c : Claim) : Type 0 where
    pub tokens : List Token
    pub spells : IsClaim (limited deep) (own c) d tokens c
    pub leads : Leads true tokens (claim_text c)

  -- wherever there is room for it
  abbrev pub Printable : Claim → Type 0
  Printable c = (d : ℕ) → Fits deep d (open_in_claim c) → Bare d c

  -- the printed form at a level, in brackets unless the test holds
  pub record Printed (R : Rank) (t : Bool) (d : ℕ) (c : Claim) : Type 0 where
    pub tokens : List Token
    pub spells : IsClaim (limited deep) R d tokens c
    pub leads : Leads true tokens (square_unless t (claim_text c))

  printed : (R : Rank) (t : Bool) (d : ℕ) (c : Claim) → (t ≡ true → reaches (own c) R ≡ true) → Fits deep d (one_more_unless t (open_in_claim c))
      → Printable c → Printed R t d c
  printed R true d c at fits p =
      let b = p d fits in
      record { tokens = b.tokens; spells = lift (own c) R (at refl) b.spells; leads = nothing_more b.leads }
  printed R false d c at fits p =
      let b = p (suc d) (inside deep d (open_in_claim c) fits) in
      record {
        tokens = mark sign.OpenSquare ∷ (b.tokens ++ mark sign.CloseSquare ∷ []);
        spells = from_conjunct R (bracketed (room deep d (open_in_claim c) fits) (lift (own c) claim (reaches_claim (own c)) b.spells));
        leads = joined_by (mark_leads sign.OpenSquare) (closed_by b.leads (any_open (mark_leads sign.CloseSquare)) (λ rest. apart refl));
      }

  pub printed_at : (R : Rank) (d : ℕ) (c : Claim) → Fits deep d (one_more_unless (stands R c) (open_in_claim c)) → Printable c → Printed R (stands R c) d c
  printed_at R d c fits p = printed R (stands R c) d c (stands_reaches R c) fits p
