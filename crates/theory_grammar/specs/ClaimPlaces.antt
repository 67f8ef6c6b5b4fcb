-- What the machine of the grammar keeps of the tokens before a claim in its brackets.
use Rattle.std.specs.Prelude.{ℕ, zero, suc, List, [], ◌∷◌, ◌++◌, Option, None, Some}
use Rattle.theory_meaning.specs.Tree.{Claim}
use Rattle.theory_meaning.specs.Tree as plain
use Rattle.theory_grammar.specs.Spelled.{conjunction_of, disjunction_of}

-- what stands before a claim in its brackets; the last premise comes first
pub record ClaimPlace : Type 0 where
  pub other : Option Claim
  pub premises : List Claim
  pub disjuncts : List Claim
  pub conjuncts : List Claim
  pub nots : ℕ
  pub base : ℕ
  pub depth : ℕ

-- a place with nothing before it, behind d open signs
abbrev pub fresh_claim : ℕ → ClaimPlace
fresh_claim d = record { other = None; premises = []; disjuncts = []; conjuncts = []; nots = 0; base = d; depth = d }

-- the place behind a `not`
abbrev pub denied : ClaimPlace → ClaimPlace
denied q = record q { nots = suc q.nots; depth = suc q.depth }

-- the claim with so many `not` before it
abbrev pub negations : ℕ → Claim → Claim
negations zero c = c
negations (suc m) c = negations m (plain.negation c)

-- the conjuncts that end with this claim
abbrev pub all_conjuncts : ClaimPlace → Claim → List Claim
all_conjuncts q c = q.conjuncts ++ negations q.nots c ∷ []

-- the disjuncts that end with it
abbrev pub all_disjuncts : ClaimPlace → Claim → List Claim
all_disjuncts q c = q.disjuncts ++ conjunction_of (all_conjuncts q c) ∷ []

-- the chain of `or` that ends with it
abbrev pub premise : ClaimPlace → Claim → Claim
premise q c = disjunction_of (all_disjuncts q c)

-- the implication of so many premises
abbrev pub implied : List Claim → Claim → Claim
implied [] c = c
implied (b ∷ bs) c = implied bs (plain.implication b c)

-- the side of `iff` that ends with it
abbrev pub side : ClaimPlace → Claim → Claim
side q c = implied q.premises (premise q c)

-- the equivalence that ends with this side, if any
abbrev pub paired : Option Claim → Claim → Claim
paired None c = c
paired (Some b) c = plain.equivalence b c

-- the whole claim that ends with it
abbrev pub whole_claim : ClaimPlace → Claim → Claim
whole_claim q c = paired q.other (side q c)

-- the place behind `and`
abbrev pub behind_and : ClaimPlace → Claim → ClaimPlace
behind_and q c = record q { conjuncts = all_conjuncts q c; nots = 0; depth = q.base }

-- the place behind `or`
abbrev pub behind_or : ClaimPlace → Claim → ClaimPlace
behind_or q c = record q { disjuncts = all_disjuncts q c; conjuncts = []; nots = 0; depth = q.base }

-- the place behind `implies`
abbrev pub behind_implies : ClaimPlace → Claim → ClaimPlace
behind_implies q c = record (fresh_claim q.base) { other = q.other; premises = premise q c ∷ q.premises }

-- the place behind `iff`
abbrev pub behind_iff : ClaimPlace → Claim → ClaimPlace
behind_iff q c = record (fresh_claim q.base) { other = Some (side q c) }
