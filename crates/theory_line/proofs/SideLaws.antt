-- Sides, negations and brackets, read part by part.
use Rattle.std.proofs.Common.{◌≡◌, ℕ, suc, ◌+◌, ◌<◌, Bool, List, [], ◌∷◌, length, None, Some, Ok, Err, refl, sym, ap, ◌∙◌, arith}
use Rattle.std.specs.Borrow.{Bor}
use Rattle.std.specs.Prelude.{nat_lt}
use Rattle.std.proofs.lemmas.Bool.{lt-ltb}
use Rattle.theory_meaning.specs.Tree.{Claim}
use Rattle.theory_meaning.specs.Tree as plain
use Rattle.theory_grammar.specs.declared.words.Keyword.TheVariants as word
use Rattle.theory_grammar.specs.declared.words.Mark.TheVariants as sign
use Rattle.theory_grammar.specs.declared.words.LineFaultKind.TheVariants.{Deep}
use Rattle.theory_grammar.specs.Token.{Token, keyword, mark}
use Rattle.theory_grammar.specs.Machine.{State, Heading, ClaimPlace, gate, want_claim, have_claim, fresh_claim, denied, and_then}
use Rattle.theory_syntax.specs.declared.claim.Claim as node
use Rattle.theory_syntax.specs.Plain.{claim_of}
use Rattle.theory_tokens.specs.declared.token.Token as source
use Rattle.theory_tokens.specs.Plain.{plain_tokens}
use Rattle.theory_line.specs.declared.fault.ParseFault.{ParseFault}
use Rattle.theory_line.specs.Reading.{stopped, reading}
use Rattle.theory_line.specs.Behind.{in_claim, behind_side, behind_claim}
use Rattle.theory_line.specs.Claims.{Answer, ParsesClaim, ParsesSide, ParsesConjunct, ParsesBracketed}
use Rattle.theory_line.specs.First.{IsNotFirst}
use Rattle.theory_line.proofs.ClaimReading.{ends_claim, ends_second, ends_negation}
use Rattle.theory_line.proofs.ParsesLaws.{IsFault, passed_on, passed_by, shorter}

-- a claim of one side or two
pub stop_left : (d : ℕ) (ts : List source.Token) (fault : ParseFault) (r : Answer) → IsFault fault r → ParsesSide d ts (Err fault) → ParsesClaim d ts r
stop_left d ts fault r is h = λ g qs. passed_by claim_of claim_of
    (reading (want_claim g (fresh_claim d) qs) (plain_tokens ts)) (reading (want_claim g (fresh_claim d) qs) (plain_tokens ts))
    (λ c rest. behind_side c None d g qs rest) (λ c rest. behind_claim c g qs rest) ts ts fault r is refl (h None g qs)

pub one_side : (d : ℕ) (ts : List source.Token) (us : Bor (List source.Token)) (c : node.Claim) → ParsesSide d ts (Ok (c, us))
    → IsNotFirst (keyword word.Iff) (plain_tokens us.now) → ParsesClaim d ts (Ok (c, us))
one_side d ts us c h ends = λ g qs.
    let side = h None g qs in (side.0 ∙ ends_claim (claim_of c) d g qs (plain_tokens us.now) ends, side.1)

pub stop_right : (d : ℕ) (ts : List source.Token) (us : Bor (List source.Token)) (vs : List source.Token) (b : node.Claim) (fault : ParseFault)
    (r : Answer) → ParsesSide d ts (Ok (b, us)) → plain_tokens us.now ≡ keyword word.Iff ∷ plain_tokens vs → IsFault fault r
    → ParsesSide d vs (Err fault) → ParsesClaim d ts r
stop_right d ts us vs b fault r left follows is h = λ g qs. passed_by claim_of claim_of
    (reading (want_claim g (in_claim (Some (claim_of b)) [] [] [] d) qs) (plain_tokens vs))
    (reading (want_claim g (fresh_claim d) qs) (plain_tokens ts))
    (λ c rest. behind_side c (Some (claim_of b)) d g qs rest) (λ c rest. behind_claim c g qs rest) vs ts fault r is
    ((left None g qs).0 ∙ ap (behind_side (claim_of b) None d g qs) follows) (h (Some (claim_of b)) g qs)

pub both_sides : (d : ℕ) (ts : List source.Token) (us : Bor (List source.Token)) (vs : List source.Token) (ws : Bor (List source.Token))
    (b c both : node.Claim) → ParsesSide d ts (Ok (b, us)) → plain_tokens us.now ≡ keyword word.Iff ∷ plain_tokens vs
    → ParsesSide d vs (Ok (c, ws)) → claim_of both ≡ plain.equivalence (claim_of b) (claim_of c) → ParsesClaim d ts (Ok (both, ws))
both_sides d ts us vs ws b c both left follows right is = λ g qs.
    let first = left None g qs in
    let second = right (Some (claim_of b)) g qs in (
      first.0 ∙ ap (behind_side (claim_of b) None d g qs) follows ∙ second.0
          ∙ ends_second (claim_of b) (claim_of c) d g qs (plain_tokens ws.now)
          ∙ ap (λ (a : Claim). behind_claim a g qs (plain_tokens ws.now)) (sym is),
      omega (arith, first.1, second.1, shorter us.now vs (keyword word.Iff) follows),
    )

-- one open sign more
opened : (d e : ℕ) (st : State) (k : ℕ) (ts : List Token) → d ≡ e → e < 32
    → and_then (gate (nat_lt d 32) Deep st) (λ st'. reading st' ts) (λ kind. stopped kind k) ≡ reading st ts
opened d e st k ts same few =
    ap (λ (b : Bool). and_then (gate b Deep st) (λ st'. reading st' ts) (λ kind. stopped kind k))
    (ap (λ (n : ℕ). nat_lt n 32) same ∙ lt-ltb e 32 few)

below_not : (d : ℕ) (ts vs : List Token) (h : Heading) (q : ClaimPlace) (qs : List ClaimPlace) → q.depth ≡ d → d < 32 → ts ≡ keyword word.Not ∷ vs
    → reading (want_claim h q qs) ts ≡ reading (want_claim h (denied q) qs) vs
below_not d ts vs h q qs e few is =
    ap (reading (want_claim h q qs)) is ∙ opened q.depth d (want_claim h (denied q) qs) (suc (length vs)) vs e few

deeper : (d : ℕ) (q : ClaimPlace) → q.depth ≡ d → suc q.depth ≡ d + 1
deeper d q e = omega (arith, e)

pub stop_negation : (d : ℕ) (ts vs : List source.Token) (fault : ParseFault) (r : Answer) → plain_tokens ts ≡ keyword word.Not ∷ plain_tokens vs
    → d < 32 → IsFault fault r → ParsesConjunct (d + 1) vs (Err fault) → ParsesConjunct d ts r
stop_negation d ts vs fault r first few is h = λ g q qs e. passed_by claim_of claim_of
    (reading (want_claim g (denied q) qs) (plain_tokens vs)) (reading (want_claim g q qs) (plain_tokens ts))
    (λ c rest. reading (have_claim c g (denied q) qs) rest) (λ c rest. reading (have_claim c g q qs) rest) vs ts fault r is
    (below_not d (plain_tokens ts) (plain_tokens vs) g q qs e few first) (h g (denied q) qs (deeper d q e))

pub negated : (d : ℕ) (ts vs : List source.Token) (us : Bor (List source.Token)) (a c : node.Claim)
    → plain_tokens ts ≡ keyword word.Not ∷ plain_tokens vs → d < 32 → ParsesConjunct (d + 1) vs (Ok (a, us))
    → claim_of c ≡ plain.negation (claim_of a) → ParsesConjunct d ts (Ok (c, us))
negated d ts vs us a c first few h is = λ g q qs e.
    let inner = h g (denied q) qs (deeper d q e) in (
      below_not d (plain_tokens ts) (plain_tokens vs) g q qs e few first ∙ inner.0
          ∙ ends_negation (claim_of a) g q qs (plain_tokens us.now)
          ∙ ap (λ (b : Claim). reading (have_claim b g q qs) (plain_tokens us.now)) (sym is),
      omega (arith, inner.1, shorter ts vs (keyword word.Not) first),
    )

below_bracket : (d : ℕ) (ts vs : List Token) (h : Heading) (q : ClaimPlace) (qs : List ClaimPlace) → q.depth ≡ d → d < 32
    → ts ≡ mark sign.OpenSquare ∷ vs → reading (want_claim h q qs) ts ≡ reading (want_claim h (fresh_claim (d + 1)) (q ∷ qs)) vs
below_bracket d ts vs h q qs e few is =
    ap (reading (want_claim h q qs)) is ∙ opened q.depth d (want_claim h (fresh_claim (suc q.depth)) (q ∷ qs)) (suc (length vs)) vs e few
    ∙ ap (λ (n : ℕ). reading (want_claim h (fresh_claim n) (q ∷ qs)) vs) (deeper d q e)

pub bracket_first : (d : ℕ) (ts vs : List source.Token) (r : Answer) → plain_tokens ts ≡ mark sign.OpenSquare ∷ plain_tokens vs → d < 32
    → ParsesBracketed (d + 1) vs r → ParsesConjunct d ts r
bracket_first d ts vs (Ok (c, us)) first few h = λ g q qs e.
    let inner = h g q qs in (
      below_bracket d (plain_tokens ts) (plain_tokens vs) g q qs e few first ∙ inner.0,
      omega (arith, inner.1, shorter ts vs (mark sign.OpenSquare) first),
    )
bracket_first d ts vs (Err fault) first few h = λ g q qs e. passed_on claim_of claim_of
    (reading (want_claim g (fresh_claim (d + 1)) (q ∷ qs)) (plain_tokens vs)) (reading (want_claim g q qs) (plain_tokens ts))
    (λ c rest. reading (have_claim c g q qs) rest) (λ c rest. reading (have_claim c g q qs) rest) vs ts fault
    (below_bracket d (plain_tokens ts) (plain_tokens vs) g q qs e few first) (h g q qs)

-- a claim up to its closing bracket
pub stop_inner : (d : ℕ) (ts : List source.Token) (fault : ParseFault) (r : Answer) → IsFault fault r → ParsesClaim d ts (Err fault)
    → ParsesBracketed d ts r
stop_inner d ts fault r is h = λ g q qs. passed_by claim_of claim_of
    (reading (want_claim g (fresh_claim d) (q ∷ qs)) (plain_tokens ts)) (reading (want_claim g (fresh_claim d) (q ∷ qs)) (plain_tokens ts))
    (λ c rest. behind_claim c g (q ∷ qs) rest) (λ c rest. reading (have_claim c g q qs) rest) ts ts fault r is refl (h g (q ∷ qs))

pub closed : (d : ℕ) (ts : List source.Token) (us vs : Bor (List source.Token)) (c : node.Claim) → ParsesClaim d ts (Ok (c, us))
    → plain_tokens us.now ≡ mark sign.CloseSquare ∷ plain_tokens vs.now → ParsesBracketed d ts (Ok (c, vs))
closed d ts us vs c h follows = λ g q qs.
    let inner = h g (q ∷ qs) in
    (inner.0 ∙ ap (behind_claim (claim_of c) g (q ∷ qs)) follows, omega (arith, inner.1, shorter us.now vs.now (mark sign.CloseSquare) follows))
