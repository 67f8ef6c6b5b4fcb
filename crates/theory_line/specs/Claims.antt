-- What is read of each level of a claim, for the clauses of private functions.
use Rattle.std.specs.Prelude.{◌≡◌, ℕ, List, [], ◌∷◌, Option, Result}
use Rattle.std.specs.Borrow.{Bor}
use Rattle.theory_meaning.specs.Tree.{Claim}
use Rattle.theory_meaning.specs.Tree as plain
use Rattle.theory_grammar.specs.Machine.{Heading, ClaimPlace, want_claim, have_claim, fresh_claim, implied}
use Rattle.theory_syntax.specs.declared.claim.Claim as node
use Rattle.theory_syntax.specs.Plain.{claim_of}
use Rattle.theory_tokens.specs.declared.token.Token as source
use Rattle.theory_tokens.specs.Plain.{plain_tokens}
use Rattle.theory_line.specs.declared.fault.ParseFault.{ParseFault}
use Rattle.theory_line.specs.Reading.{Parses, reading}
use Rattle.theory_line.specs.Behind.{in_claim, behind_claim, behind_side, behind_premise, behind_disjunct}

-- the claim of a chain of `implies`, of which the last part comes first
abbrev pub concluded : List Claim → Claim
concluded [] = plain.always
concluded (c ∷ premises) = implied premises c

-- a claim and the tokens behind it, or a fault
abbrev pub Answer : Type 0
Answer = Result (node.Claim × Bor (List source.Token)) ParseFault

-- whatever the claim is a part of, the whole is read as what stands behind each level, or stops as told
abbrev pub ParsesClaim : ℕ → List source.Token → Answer → Type 0
ParsesClaim d ts r = (h : Heading) (qs : List ClaimPlace) →
    Parses claim_of (reading (want_claim h (fresh_claim d) qs) (plain_tokens ts)) (λ c rest. behind_claim c h qs rest) ts r

-- likewise a side
abbrev pub ParsesSide : ℕ → List source.Token → Answer → Type 0
ParsesSide d ts r = (other : Option Claim) (h : Heading) (qs : List ClaimPlace) →
    Parses claim_of (reading (want_claim h (in_claim other [] [] [] d) qs) (plain_tokens ts)) (λ c rest. behind_side c other d h qs rest) ts r

-- likewise a premise
abbrev pub ParsesPremise : ℕ → List source.Token → Answer → Type 0
ParsesPremise d ts r = (other : Option Claim) (premises : List Claim) (h : Heading) (qs : List ClaimPlace) →
    Parses claim_of (reading (want_claim h (in_claim other premises [] [] d) qs) (plain_tokens ts))
    (λ c rest. behind_premise c other premises d h qs rest) ts r

-- likewise a disjunct
abbrev pub ParsesDisjunct : ℕ → List source.Token → Answer → Type 0
ParsesDisjunct d ts r = (other : Option Claim) (premises disjuncts : List Claim) (h : Heading) (qs : List ClaimPlace) →
    Parses claim_of (reading (want_claim h (in_claim other premises disjuncts [] d) qs) (plain_tokens ts))
    (λ c rest. behind_disjunct c other premises disjuncts d h qs rest) ts r

-- likewise a conjunct, in so many open signs
abbrev pub ParsesConjunct : ℕ → List source.Token → Answer → Type 0
ParsesConjunct d ts r = (h : Heading) (q : ClaimPlace) (qs : List ClaimPlace) → q.depth ≡ d →
    Parses claim_of (reading (want_claim h q qs) (plain_tokens ts)) (λ c rest. reading (have_claim c h q qs) rest) ts r

-- a claim up to a closing bracket, in so many open signs with that bracket
abbrev pub ParsesBracketed : ℕ → List source.Token → Answer → Type 0
ParsesBracketed d ts r = (h : Heading) (q : ClaimPlace) (qs : List ClaimPlace) →
    Parses claim_of (reading (want_claim h (fresh_claim d) (q ∷ qs)) (plain_tokens ts)) (λ c rest. reading (have_claim c h q qs) rest) ts r
