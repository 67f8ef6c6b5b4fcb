-- Chains of claims, read member by member.
use Rattle.std.proofs.Common.{◌≡◌, ℕ, ◌<◌, List, [], ◌∷◌, ◌++◌, length, reverse, Option, None, Ok, Err, refl, sym, ap, ◌∙◌, arith}
use Rattle.std.specs.Prelude.{All}
use Rattle.std.specs.Borrow.{Bor}
use Rattle.std.proofs.lemmas.List.{map-append, reverse-append}
use Rattle.theory_meaning.specs.Tree.{Claim}
use Rattle.theory_grammar.specs.declared.words.Keyword.TheVariants as word
use Rattle.theory_grammar.specs.Token.{keyword}
use Rattle.theory_grammar.specs.Scan.{IsFit}
use Rattle.theory_grammar.specs.Spelled.{conjunction_of, disjunction_of}
use Rattle.theory_grammar.specs.Machine.{Heading, assumption, ClaimPlace, want_claim, have_claim}
use Rattle.theory_syntax.specs.declared.claim.Claim as node
use Rattle.theory_syntax.specs.Plain.{claim_of, claims_of}
use Rattle.theory_tokens.specs.declared.token.Token as source
use Rattle.theory_tokens.specs.Plain.{plain_tokens}
use Rattle.theory_line.specs.declared.fault.ParseFault.{ParseFault}
use Rattle.theory_line.specs.Reading.{reading}
use Rattle.theory_line.specs.Behind.{in_claim, behind_side, behind_premise, behind_disjunct}
use Rattle.theory_line.specs.Claims.{Answer, concluded, ParsesSide, ParsesPremise, ParsesDisjunct, ParsesConjunct}
use Rattle.theory_line.specs.First.{IsNotFirst}
use Rattle.theory_line.proofs.ClaimReading.{behind_conjuncts, behind_disjuncts, behind_parts, next_conjunct, next_disjunct, next_part, ends_disjunct, ends_premise, ends_side}
use Rattle.theory_line.proofs.ParsesLaws.{IsFault, passed_by, shorter}

-- the members up to these tokens
pub record AreConjuncts (d : ℕ) (ts us : List source.Token) (cs : List Claim) : Type 0 where
  pub reads : (other : Option Claim) (premises disjuncts : List Claim) (h : Heading) (qs : List ClaimPlace)
      → reading (want_claim h (in_claim other premises disjuncts [] d) qs) (plain_tokens ts)
      ≡ behind_conjuncts cs other premises disjuncts d h qs (plain_tokens us)
  pub shorter : length us < length ts
  pub fit : All IsFit (plain_tokens us)

pub record AreDisjuncts (d : ℕ) (ts us : List source.Token) (cs : List Claim) : Type 0 where
  pub reads : (other : Option Claim) (premises : List Claim) (h : Heading) (qs : List ClaimPlace)
      → reading (want_claim h (in_claim other premises [] [] d) qs) (plain_tokens ts) ≡ behind_disjuncts cs other premises d h qs (plain_tokens us)
  pub shorter : length us < length ts
  pub fit : All IsFit (plain_tokens us)

-- the last part comes first
pub record AreParts (d : ℕ) (ts us : List source.Token) (cs : List Claim) : Type 0 where
  pub reads : (other : Option Claim) (h : Heading) (qs : List ClaimPlace)
      → reading (want_claim h (in_claim other [] [] [] d) qs) (plain_tokens ts) ≡ behind_parts cs other d h qs (plain_tokens us)
  pub shorter : length us < length ts
  pub fit : All IsFit (plain_tokens us)

-- one claim more at the end
kept_at_end : (old new : List node.Claim) (c : node.Claim) → new ≡ old ++ c ∷ [] → claims_of old ++ claim_of c ∷ [] ≡ claims_of new
kept_at_end old new c is = sym (ap claims_of is ∙ map-append claim_of old (c ∷ []))

kept_in_front : (old new : List node.Claim) (c : node.Claim) → new ≡ old ++ c ∷ [] → claim_of c ∷ reverse (claims_of old) ≡ reverse (claims_of new)
kept_in_front old new c is =
    sym (ap reverse (sym (kept_at_end old new c is)) ∙ reverse-append (claims_of old) (claim_of c ∷ []))

-- a chain of `and`
pub stop_first_conjunct : (d : ℕ) (ts : List source.Token) (fault : ParseFault) (r : Answer) → IsFault fault r → ParsesConjunct d ts (Err fault)
    → ParsesDisjunct d ts r
stop_first_conjunct d ts fault r is h = λ other premises disjuncts g qs. passed_by claim_of claim_of
    (reading (want_claim g (in_claim other premises disjuncts [] d) qs) (plain_tokens ts))
    (reading (want_claim g (in_claim other premises disjuncts [] d) qs) (plain_tokens ts))
    (λ c rest. reading (have_claim c g (in_claim other premises disjuncts [] d) qs) rest) (λ c rest. behind_disjunct c other premises disjuncts d g qs rest)
    ts ts fault r is refl (h g (in_claim other premises disjuncts [] d) qs refl)

pub first_conjunct : (d : ℕ) (ts : List source.Token) (us : Bor (List source.Token)) (c : node.Claim) (new : List node.Claim)
    → ParsesConjunct d ts (Ok (c, us)) → All IsFit (plain_tokens us.now) → new ≡ [] ++ c ∷ [] → AreConjuncts d ts us.now (claims_of new)
first_conjunct d ts us c new h fit is = record {
  reads = λ other premises disjuncts g qs. (h g (in_claim other premises disjuncts [] d) qs refl).0
      ∙ next_conjunct (claim_of c) other premises disjuncts [] d g qs (plain_tokens us.now)
      ∙ ap (λ (cs : List Claim). behind_conjuncts cs other premises disjuncts d g qs (plain_tokens us.now)) (kept_at_end [] new c is);
  shorter = (h (assumption []) (in_claim None [] [] [] d) [] refl).1;
  fit = fit;
}

pub stop_next_conjunct : (d : ℕ) (ts us vs : List source.Token) (cs : List Claim) (fault : ParseFault) (r : Answer) → AreConjuncts d ts us cs
    → plain_tokens us ≡ keyword word.And ∷ plain_tokens vs → IsFault fault r → ParsesConjunct d vs (Err fault) → ParsesDisjunct d ts r
stop_next_conjunct d ts us vs cs fault r are follows is h = λ other premises disjuncts g qs. passed_by claim_of claim_of
    (reading (want_claim g (in_claim other premises disjuncts cs d) qs) (plain_tokens vs))
    (reading (want_claim g (in_claim other premises disjuncts [] d) qs) (plain_tokens ts))
    (λ c rest. reading (have_claim c g (in_claim other premises disjuncts cs d) qs) rest)
    (λ c rest. behind_disjunct c other premises disjuncts d g qs rest) vs ts fault r is
    (are.reads other premises disjuncts g qs ∙ ap (behind_conjuncts cs other premises disjuncts d g qs) follows)
    (h g (in_claim other premises disjuncts cs d) qs refl)

pub fewer_behind_conjunct : (d : ℕ) (us vs : List source.Token) (ws : Bor (List source.Token)) (c : node.Claim)
    → plain_tokens us ≡ keyword word.And ∷ plain_tokens vs → ParsesConjunct d vs (Ok (c, ws)) → length ws.now < length us
fewer_behind_conjunct d us vs ws c follows h = omega (arith, shorter us vs (keyword word.And) follows, (h (assumption []) (in_claim None [] [] [] d) [] refl).1)

pub next_of_conjuncts : (d : ℕ) (ts us vs : List source.Token) (ws : Bor (List source.Token)) (c : node.Claim) (old new : List node.Claim)
    → AreConjuncts d ts us (claims_of old) → plain_tokens us ≡ keyword word.And ∷ plain_tokens vs → ParsesConjunct d vs (Ok (c, ws))
    → All IsFit (plain_tokens ws.now) → new ≡ old ++ c ∷ [] → AreConjuncts d ts ws.now (claims_of new)
next_of_conjuncts d ts us vs ws c old new are follows h fit is = record {
  reads = λ other premises disjuncts g qs. are.reads other premises disjuncts g qs
      ∙ ap (behind_conjuncts (claims_of old) other premises disjuncts d g qs) follows ∙ (h g (in_claim other premises disjuncts (claims_of old) d) qs refl).0
      ∙ next_conjunct (claim_of c) other premises disjuncts (claims_of old) d g qs (plain_tokens ws.now)
      ∙ ap (λ (cs : List Claim). behind_conjuncts cs other premises disjuncts d g qs (plain_tokens ws.now)) (kept_at_end old new c is);
  shorter = let less = fewer_behind_conjunct d us vs ws c follows h in let before = are.shorter in omega arith;
  fit = fit;
}

pub whole_disjunct : (d : ℕ) (ts : List source.Token) (us : Bor (List source.Token)) (cs : List Claim) (c : node.Claim) → AreConjuncts d ts us.now cs
    → IsNotFirst (keyword word.And) (plain_tokens us.now) → claim_of c ≡ conjunction_of cs → ParsesDisjunct d ts (Ok (c, us))
whole_disjunct d ts us cs c are ends is = λ other premises disjuncts g qs. (
  are.reads other premises disjuncts g qs ∙ ends_disjunct cs other premises disjuncts d g qs (plain_tokens us.now) ends
      ∙ ap (λ (b : Claim). behind_disjunct b other premises disjuncts d g qs (plain_tokens us.now)) (sym is),
  are.shorter,
)

-- a chain of `or`
pub stop_first_disjunct : (d : ℕ) (ts : List source.Token) (fault : ParseFault) (r : Answer) → IsFault fault r → ParsesDisjunct d ts (Err fault)
    → ParsesPremise d ts r
stop_first_disjunct d ts fault r is h = λ other premises g qs. passed_by claim_of claim_of
    (reading (want_claim g (in_claim other premises [] [] d) qs) (plain_tokens ts))
    (reading (want_claim g (in_claim other premises [] [] d) qs) (plain_tokens ts))
    (λ c rest. behind_disjunct c other premises [] d g qs rest) (λ c rest. behind_premise c other premises d g qs rest) ts ts fault r is refl
    (h other premises [] g qs)

pub first_disjunct : (d : ℕ) (ts : List source.Token) (us : Bor (List source.Token)) (c : node.Claim) (new : List node.Claim)
    → ParsesDisjunct d ts (Ok (c, us)) → All IsFit (plain_tokens us.now) → new ≡ [] ++ c ∷ [] → AreDisjuncts d ts us.now (claims_of new)
first_disjunct d ts us c new h fit is = record {
  reads = λ other premises g qs. (h other premises [] g qs).0
      ∙ next_disjunct (claim_of c) other premises [] d g qs (plain_tokens us.now)
      ∙ ap (λ (cs : List Claim). behind_disjuncts cs other premises d g qs (plain_tokens us.now)) (kept_at_end [] new c is);
  shorter = (h None [] [] (assumption []) []).1;
  fit = fit;
}

pub stop_next_disjunct : (d : ℕ) (ts us vs : List source.Token) (cs : List Claim) (fault : ParseFault) (r : Answer) → AreDisjuncts d ts us cs
    → plain_tokens us ≡ keyword word.Or ∷ plain_tokens vs → IsFault fault r → ParsesDisjunct d vs (Err fault) → ParsesPremise d ts r
stop_next_disjunct d ts us vs cs fault r are follows is h = λ other premises g qs. passed_by claim_of claim_of
    (reading (want_claim g (in_claim other premises cs [] d) qs) (plain_tokens vs))
    (reading (want_claim g (in_claim other premises [] [] d) qs) (plain_tokens ts))
    (λ c rest. behind_disjunct c other premises cs d g qs rest) (λ c rest. behind_premise c other premises d g qs rest) vs ts fault r is
    (are.reads other premises g qs ∙ ap (behind_disjuncts cs other premises d g qs) follows) (h other premises cs g qs)

pub fewer_behind_disjunct : (d : ℕ) (us vs : List source.Token) (ws : Bor (List source.Token)) (c : node.Claim)
    → plain_tokens us ≡ keyword word.Or ∷ plain_tokens vs → ParsesDisjunct d vs (Ok (c, ws)) → length ws.now < length us
fewer_behind_disjunct d us vs ws c follows h = omega (arith, shorter us vs (keyword word.Or) follows, (h None [] [] (assumption []) []).1)

pub next_of_disjuncts : (d : ℕ) (ts us vs : List source.Token) (ws : Bor (List source.Token)) (c : node.Claim) (old new : List node.Claim)
    → AreDisjuncts d ts us (claims_of old) → plain_tokens us ≡ keyword word.Or ∷ plain_tokens vs → ParsesDisjunct d vs (Ok (c, ws))
    → All IsFit (plain_tokens ws.now) → new ≡ old ++ c ∷ [] → AreDisjuncts d ts ws.now (claims_of new)
next_of_disjuncts d ts us vs ws c old new are follows h fit is = record {
  reads = λ other premises g qs. are.reads other premises g qs
      ∙ ap (behind_disjuncts (claims_of old) other premises d g qs) follows ∙ (h other premises (claims_of old) g qs).0
      ∙ next_disjunct (claim_of c) other premises (claims_of old) d g qs (plain_tokens ws.now)
      ∙ ap (λ (cs : List Claim). behind_disjuncts cs other premises d g qs (plain_tokens ws.now)) (kept_at_end old new c is);
  shorter = let less = fewer_behind_disjunct d us vs ws c follows h in let before = are.shorter in omega arith;
  fit = fit;
}

pub whole_premise : (d : ℕ) (ts : List source.Token) (us : Bor (List source.Token)) (cs : List Claim) (c : node.Claim) → AreDisjuncts d ts us.now cs
    → IsNotFirst (keyword word.Or) (plain_tokens us.now) → claim_of c ≡ disjunction_of cs → ParsesPremise d ts (Ok (c, us))
whole_premise d ts us cs c are ends is = λ other premises g qs. (
  are.reads other premises g qs ∙ ends_premise cs other premises d g qs (plain_tokens us.now) ends
      ∙ ap (λ (b : Claim). behind_premise b other premises d g qs (plain_tokens us.now)) (sym is),
  are.shorter,
)

-- a chain of `implies`
pub stop_first_premise : (d : ℕ) (ts : List source.Token) (fault : ParseFault) (r : Answer) → IsFault fault r → ParsesPremise d ts (Err fault)
    → ParsesSide d ts r
stop_first_premise d ts fault r is h = λ other g qs. passed_by claim_of claim_of
    (reading (want_claim g (in_claim other [] [] [] d) qs) (plain_tokens ts)) (reading (want_claim g (in_claim other [] [] [] d) qs) (plain_tokens ts))
    (λ c rest. behind_premise c other [] d g qs rest) (λ c rest. behind_side c other d g qs rest) ts ts fault r is refl (h other [] g qs)

pub first_premise : (d : ℕ) (ts : List source.Token) (us : Bor (List source.Token)) (c : node.Claim) (new : List node.Claim)
    → ParsesPremise d ts (Ok (c, us)) → All IsFit (plain_tokens us.now) → new ≡ [] ++ c ∷ [] → AreParts d ts us.now (reverse (claims_of new))
first_premise d ts us c new h fit is = record {
  reads = λ other g qs. (h other [] g qs).0
      ∙ next_part (claim_of c) other [] d g qs (plain_tokens us.now)
      ∙ ap (λ (cs : List Claim). behind_parts cs other d g qs (plain_tokens us.now)) (kept_in_front [] new c is);
  shorter = (h None [] (assumption []) []).1;
  fit = fit;
}

pub stop_next_premise : (d : ℕ) (ts us vs : List source.Token) (cs : List Claim) (fault : ParseFault) (r : Answer) → AreParts d ts us cs
    → plain_tokens us ≡ keyword word.Implies ∷ plain_tokens vs → IsFault fault r → ParsesPremise d vs (Err fault) → ParsesSide d ts r
stop_next_premise d ts us vs cs fault r are follows is h = λ other g qs. passed_by claim_of claim_of
    (reading (want_claim g (in_claim other cs [] [] d) qs) (plain_tokens vs)) (reading (want_claim g (in_claim other [] [] [] d) qs) (plain_tokens ts))
    (λ c rest. behind_premise c other cs d g qs rest) (λ c rest. behind_side c other d g qs rest) vs ts fault r is
    (are.reads other g qs ∙ ap (behind_parts cs other d g qs) follows) (h other cs g qs)

pub fewer_behind_premise : (d : ℕ) (us vs : List source.Token) (ws : Bor (List source.Token)) (c : node.Claim)
    → plain_tokens us ≡ keyword word.Implies ∷ plain_tokens vs → ParsesPremise d vs (Ok (c, ws)) → length ws.now < length us
fewer_behind_premise d us vs ws c follows h = omega (arith, shorter us vs (keyword word.Implies) follows, (h None [] (assumption []) []).1)

pub next_of_premises : (d : ℕ) (ts us vs : List source.Token) (ws : Bor (List source.Token)) (c : node.Claim) (old new : List node.Claim)
    → AreParts d ts us (reverse (claims_of old)) → plain_tokens us ≡ keyword word.Implies ∷ plain_tokens vs → ParsesPremise d vs (Ok (c, ws))
    → All IsFit (plain_tokens ws.now) → new ≡ old ++ c ∷ [] → AreParts d ts ws.now (reverse (claims_of new))
next_of_premises d ts us vs ws c old new are follows h fit is = record {
  reads = λ other g qs. are.reads other g qs
      ∙ ap (behind_parts (reverse (claims_of old)) other d g qs) follows ∙ (h other (reverse (claims_of old)) g qs).0
      ∙ next_part (claim_of c) other (reverse (claims_of old)) d g qs (plain_tokens ws.now)
      ∙ ap (λ (cs : List Claim). behind_parts cs other d g qs (plain_tokens ws.now)) (kept_in_front old new c is);
  shorter = let less = fewer_behind_premise d us vs ws c follows h in let before = are.shorter in omega arith;
  fit = fit;
}

pub whole_side : (d : ℕ) (ts : List source.Token) (us : Bor (List source.Token)) (cs : List Claim) (c : node.Claim) → AreParts d ts us.now cs
    → IsNotFirst (keyword word.Implies) (plain_tokens us.now) → claim_of c ≡ concluded cs → ParsesSide d ts (Ok (c, us))
whole_side d ts us cs c are ends is = λ other g qs. (
  are.reads other g qs ∙ ends_side cs other d g qs (plain_tokens us.now) ends
      ∙ ap (λ (b : Claim). behind_side b other d g qs (plain_tokens us.now)) (sym is),
  are.shorter,
)
