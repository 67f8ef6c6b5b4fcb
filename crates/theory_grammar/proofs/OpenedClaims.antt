-- A claim, a line or an edit in which nothing divides: its printed form opens no more signs than there is room for.
use Rattle.std.proofs.Common.{◌≡◌, ℕ, suc, ◌+◌, ◌≤◌, true, List, [], ◌∷◌, ◌++◌, refl, arith}
use Rattle.std.proofs.lemmas.Bool.{ltb-true}
use Rattle.std.proofs.Math.Nat.{le-max_left, le-max_right}
use Rattle.theory_meaning.specs.Divisors.{divisors_of_expr, divisors_of_claim, divisors_of_claims, divisors_of_line}
use Rattle.theory_meaning.specs.Tree.{Claim, Claims, claims_from, Line}
use Rattle.theory_meaning.specs.Tree as plain
use Rattle.theory_meaning.specs.Text.{Op}
use Rattle.theory_grammar.specs.Opened.{one_more_unless, open_in_expr, open_in_claim, open_in_conjuncts, open_in_disjuncts, open_in_line, open_in_op}
use Rattle.theory_grammar.specs.Printed.{is_conjunct, is_disjunct, is_premise, is_side}
use Rattle.theory_grammar.specs.RoundTrip.{NothingDividesInEdit}
use Rattle.theory_grammar.specs.Spelled.{every, conjunction_of, disjunction_of, Rank, claim, side, premise, disjunct, conjunct, IsClaim, truth, falsehood, atom, negation, bracketed, conjunction, disjunction, one_premise, implies, one_side, iff, AreConjuncts, first_conjunct, next_conjunct, AreDisjuncts, first_disjunct, next_disjunct, IsLine, model_line, var_line, param_line, function_line, equation_line, assume_line, claim_line, shift_line, IsOp, put, drop}
use Rattle.theory_grammar.specs.Token.{Token}
use Rattle.theory_grammar.proofs.ClaimLevels.{stands}
use Rattle.theory_grammar.proofs.OpenedExprs.{both_empty, both_fit, no_more, at_most_one, opens_few}

-- what stands at a level stands at the next looser one
conjunct_is_disjunct : (c : Claim) → is_conjunct c ≡ true → is_disjunct c ≡ true
conjunct_is_disjunct plain.always h = refl
conjunct_is_disjunct plain.never h = refl
conjunct_is_disjunct (plain.atom u r v) h = refl
conjunct_is_disjunct (plain.negation c) h = refl
conjunct_is_disjunct (plain.conjunction cs) h = refl
conjunct_is_disjunct (plain.disjunction cs) h = h
conjunct_is_disjunct (plain.implication a b) h = h
conjunct_is_disjunct (plain.equivalence a b) h = h

disjunct_is_premise : (c : Claim) → is_disjunct c ≡ true → is_premise c ≡ true
disjunct_is_premise plain.always h = refl
disjunct_is_premise plain.never h = refl
disjunct_is_premise (plain.atom u r v) h = refl
disjunct_is_premise (plain.negation c) h = refl
disjunct_is_premise (plain.conjunction cs) h = refl
disjunct_is_premise (plain.disjunction cs) h = refl
disjunct_is_premise (plain.implication a b) h = h
disjunct_is_premise (plain.equivalence a b) h = h

premise_is_side : (c : Claim) → is_premise c ≡ true → is_side c ≡ true
premise_is_side plain.always h = refl
premise_is_side plain.never h = refl
premise_is_side (plain.atom u r v) h = refl
premise_is_side (plain.negation c) h = refl
premise_is_side (plain.conjunction cs) h = refl
premise_is_side (plain.disjunction cs) h = refl
premise_is_side (plain.implication a b) h = refl
premise_is_side (plain.equivalence a b) h = h

-- as many may be open behind d signs as there is room for
abbrev pub HasRoom : ℕ → Rank → Claim → Type 0
HasRoom d R c = d + one_more_unless (stands R c) (open_in_claim c) ≤ 32

at_looser : (R S : Rank) (d : ℕ) (c : Claim) → (stands R c ≡ true → stands S c ≡ true) → HasRoom d R c → HasRoom d S c
at_looser R S d c h k = let fewer = no_more (stands R c) (stands S c) (open_in_claim c) h in omega arith

-- so many in each member of a chain
abbrev ConjunctsFit : ℕ → List Claim → Type 0
ConjunctsFit d cs = d + open_in_conjuncts (claims_from cs) ≤ 32

abbrev DisjunctsFit : ℕ → List Claim → Type 0
DisjunctsFit d cs = d + open_in_disjuncts (claims_from cs) ≤ 32

conjuncts_push : (d : ℕ) (cs : List Claim) (c : Claim) → ConjunctsFit d cs → HasRoom d conjunct c → ConjunctsFit d (cs ++ c ∷ [])
conjuncts_push d [] c h k = both_fit d (one_more_unless (is_conjunct c) (open_in_claim c)) 0 k h
conjuncts_push d (b ∷ cs) c h k =
    let m = one_more_unless (is_conjunct b) (open_in_claim b) in
    let left = le-max_left m (open_in_conjuncts (claims_from cs)) in
    let right = le-max_right m (open_in_conjuncts (claims_from cs)) in
    both_fit d m (open_in_conjuncts (claims_from (cs ++ c ∷ []))) (omega arith) (conjuncts_push d cs c (omega arith) k)

disjuncts_push : (d : ℕ) (cs : List Claim) (c : Claim) → DisjunctsFit d cs → HasRoom d disjunct c → DisjunctsFit d (cs ++ c ∷ [])
disjuncts_push d [] c h k = both_fit d (one_more_unless (is_disjunct c) (open_in_claim c)) 0 k h
disjuncts_push d (b ∷ cs) c h k =
    let m = one_more_unless (is_disjunct b) (open_in_claim b) in
    let left = le-max_left m (open_in_disjuncts (claims_from cs)) in
    let right = le-max_right m (open_in_disjuncts (claims_from cs)) in
    both_fit d m (open_in_disjuncts (claims_from (cs ++ c ∷ []))) (omega arith) (disjuncts_push d cs c (omega arith) k)

-- a chain at its own level
conjunction_fits : (d : ℕ) (cs : List Claim) → d ≤ 32 → ConjunctsFit d cs → HasRoom d disjunct (conjunction_of cs)
conjunction_fits d [] h k = omega arith
conjunction_fits d (c ∷ []) h k =
    let m = one_more_unless (is_conjunct c) (open_in_claim c) in
    let left = le-max_left m 0 in
    at_looser conjunct disjunct d c (conjunct_is_disjunct c) (omega arith)
conjunction_fits d (c ∷ b ∷ cs) h k = k

disjunction_fits : (d : ℕ) (cs : List Claim) → d ≤ 32 → DisjunctsFit d cs → HasRoom d premise (disjunction_of cs)
disjunction_fits d [] h k = omega arith
disjunction_fits d (c ∷ []) h k =
    let m = one_more_unless (is_disjunct c) (open_in_claim c) in
    let left = le-max_left m 0 in
    at_looser disjunct premise d c (disjunct_is_premise c) (omega arith)
disjunction_fits d (c ∷ b ∷ cs) h k = k

-- the divisors of a chain are those of its members
abbrev NoneDivide : List Claim → Type 0
NoneDivide [] = Unit {0}
NoneDivide (c ∷ cs) = (divisors_of_claim c ≡ []) × NoneDivide cs

none_divide : (cs : List Claim) → divisors_of_claims (claims_from cs) ≡ [] → NoneDivide cs
none_divide [] h = tt
none_divide (c ∷ cs) h = let parts = both_empty (divisors_of_claim c) (divisors_of_claims (claims_from cs)) h in (parts.0, none_divide cs parts.1)

none_in_conjunction : (cs : List Claim) → divisors_of_claim (conjunction_of cs) ≡ [] → NoneDivide cs
none_in_conjunction [] h = tt
none_in_conjunction (c ∷ []) h = (h, tt)
none_in_conjunction (c ∷ b ∷ cs) h = none_divide (c ∷ b ∷ cs) h

none_in_disjunction : (cs : List Claim) → divisors_of_claim (disjunction_of cs) ≡ [] → NoneDivide cs
none_in_disjunction [] h = tt
none_in_disjunction (c ∷ []) h = (h, tt)
none_in_disjunction (c ∷ b ∷ cs) h = none_divide (c ∷ b ∷ cs) h

none_before : (cs : List Claim) (c : Claim) → NoneDivide (cs ++ c ∷ []) → NoneDivide cs × (divisors_of_claim c ≡ [])
none_before [] c h = (tt, h.0)
none_before (b ∷ cs) c h = let k = none_before cs c h.1 in ((h.0, k.0), k.1)

mutual
  pub claim_opens_few : {R : Rank} {ts : List Token} {c : Claim} (d : ℕ) → d ≤ 32 → IsClaim every R d ts c → divisors_of_claim c ≡ [] → HasRoom d R c
  claim_opens_few d h (truth) none = omega arith
  claim_opens_few d h (falsehood) none = omega arith
  claim_opens_few d h (atom {x = x} {y = y} k l) none =
      let parts = both_empty (divisors_of_expr x) (divisors_of_expr y) none in
      both_fit d _ _ (opens_few d h k parts.0) (opens_few d h l parts.1)
  claim_opens_few d h (negation room k) none =
      let less = ltb-true d 32 room in
      let inner = claim_opens_few (suc d) (omega arith) k none in
      omega arith
  claim_opens_few d h (bracketed {c = c} room k) none =
      let less = ltb-true d 32 room in
      let inner = claim_opens_few (suc d) (omega arith) k none in
      let brackets = at_most_one (is_conjunct c) (open_in_claim c) in
      omega arith
  claim_opens_few d h (conjunction {cs = cs} k) none = conjunction_fits d cs h (conjuncts_open_few d h k (none_in_conjunction cs none))
  claim_opens_few d h (disjunction {cs = cs} k) none = disjunction_fits d cs h (disjuncts_open_few d h k (none_in_disjunction cs none))
  claim_opens_few d h (one_premise {c = c} k) none = at_looser premise side d c (premise_is_side c) (claim_opens_few d h k none)
  claim_opens_few d h (implies {b = b} {c = c} k l) none =
      let parts = both_empty (divisors_of_claim b) (divisors_of_claim c) none in
      both_fit d _ _ (claim_opens_few d h k parts.0) (claim_opens_few d h l parts.1)
  claim_opens_few d h (one_side {c = c} k) none = at_looser side claim d c (λ e. refl) (claim_opens_few d h k none)
  claim_opens_few d h (iff {b = b} {c = c} k l) none =
      let parts = both_empty (divisors_of_claim b) (divisors_of_claim c) none in
      both_fit d _ _ (claim_opens_few d h k parts.0) (claim_opens_few d h l parts.1)

  conjuncts_open_few : {ts : List Token} {cs : List Claim} (d : ℕ) → d ≤ 32 → AreConjuncts every d ts cs → NoneDivide cs → ConjunctsFit d cs
  conjuncts_open_few d h (first_conjunct {c = c} k) none =
      both_fit d (one_more_unless (is_conjunct c) (open_in_claim c)) 0 (claim_opens_few d h k none.0) (omega arith)
  conjuncts_open_few d h (next_conjunct {cs = cs} {c = c} k l) none =
      let parts = none_before cs c none in
      conjuncts_push d cs c (conjuncts_open_few d h k parts.0) (claim_opens_few d h l parts.1)

  disjuncts_open_few : {ts : List Token} {cs : List Claim} (d : ℕ) → d ≤ 32 → AreDisjuncts every d ts cs → NoneDivide cs → DisjunctsFit d cs
  disjuncts_open_few d h (first_disjunct {c = c} k) none =
      both_fit d (one_more_unless (is_disjunct c) (open_in_claim c)) 0 (claim_opens_few d h k none.0) (omega arith)
  disjuncts_open_few d h (next_disjunct {cs = cs} {c = c} k l) none =
      let parts = none_before cs c none in
      disjuncts_push d cs c (disjuncts_open_few d h k parts.0) (claim_opens_few d h l parts.1)

-- a line and an edit
pub line_opens_few : {ts : List Token} {l : Line} → IsLine every ts l → divisors_of_line l ≡ [] → open_in_line l ≤ 32
line_opens_few (model_line) none = omega arith
line_opens_few (var_line) none = omega arith
line_opens_few (param_line) none = omega arith
line_opens_few (function_line) none = omega arith
line_opens_few (equation_line {x = x} {y = y} k l) none =
    let parts = both_empty (divisors_of_expr x) (divisors_of_expr y) none in
    let fit = both_fit 0 (open_in_expr x) (open_in_expr y) (opens_few 0 (omega arith) k parts.0) (opens_few 0 (omega arith) l parts.1) in
    omega arith
line_opens_few (assume_line k) none = let fit = claim_opens_few 0 (omega arith) k none in omega arith
line_opens_few (claim_line k) none = let fit = claim_opens_few 0 (omega arith) k none in omega arith
line_opens_few (shift_line k) none = let fit = claim_opens_few 0 (omega arith) k none in omega arith

pub op_opens_few : {ts : List Token} {op : Op} → IsOp every ts op → NothingDividesInEdit op → open_in_op op ≤ 32
op_opens_few (put k) none = line_opens_few k none
op_opens_few (drop) none = omega arith
