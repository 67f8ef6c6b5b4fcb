-- What is read behind a part of a line, for the clauses of private functions.
use Rattle.std.specs.Prelude.{ℕ, List, [], ◌∷◌, ◌++◌, Option, Some, Ok}
use Rattle.theory_meaning.specs.Tree.{Expr, Claim}
use Rattle.theory_grammar.specs.declared.words.Keyword.TheVariants as word
use Rattle.theory_grammar.specs.declared.words.Mark.TheVariants as sign
use Rattle.theory_grammar.specs.Token.{Token, keyword, mark}
use Rattle.theory_grammar.specs.Spelled.{disjunction_of}
use Rattle.theory_grammar.specs.Machine.{Left, plus, minus, Place, fresh, ClaimPlace, Heading, Context, Move, unexpected, operand, want_claim, close_expr, close_claim, second_side, expr_ended, claim_ended, implied, paired}
use Rattle.theory_line.specs.Reading.{Reading, at_end, reading, reading_on}

-- a place behind this left side of a sum, in so many open signs
abbrev pub in_sum : Left → ℕ → Place
in_sum left d = record (fresh d) { sum = left }

-- behind a sum of terms, where no factor may follow
abbrev pub behind_term : Expr → ℕ → List Place → Context → List Token → Reading
behind_term x d o ctx [] = at_end (expr_ended x o ctx)
behind_term x d o ctx (mark sign.Plus ∷ ts) = reading (operand (in_sum (plus x) d) o ctx) ts
behind_term x d o ctx (mark sign.Minus ∷ ts) = reading (operand (in_sum (minus x) d) o ctx) ts
behind_term x d o ctx (t ∷ ts) = reading_on (close_expr x t o ctx) ts

-- behind an expression, where no further term may follow
abbrev pub behind_expr : Expr → List Place → Context → List Token → Reading
behind_expr x o ctx [] = at_end (expr_ended x o ctx)
behind_expr x o ctx (t ∷ ts) = reading_on (close_expr x t o ctx) ts

-- a place behind what was read of the claim, in so many open signs
abbrev pub in_claim : Option Claim → List Claim → List Claim → List Claim → ℕ → ClaimPlace
in_claim other premises disjuncts conjuncts d =
    record { other = other; premises = premises; disjuncts = disjuncts; conjuncts = conjuncts; nots = 0; base = d; depth = d }

-- what follows a premise
abbrev pub after_premise : Claim → Option Claim → List Claim → ℕ → Heading → List ClaimPlace → Token → Move
after_premise c other premises d h qs (keyword word.Implies) = Ok (want_claim h (in_claim other (c ∷ premises) [] [] d) qs)
after_premise c other premises d h qs (keyword word.Iff) = second_side other (want_claim h (in_claim (Some (implied premises c)) [] [] [] d) qs)
after_premise c other premises d h qs (mark sign.CloseSquare) = close_claim (paired other (implied premises c)) h qs
after_premise c other premises d h qs _ = unexpected

-- what follows a side
abbrev pub after_side : Claim → Option Claim → ℕ → Heading → List ClaimPlace → Token → Move
after_side c other d h qs (keyword word.Iff) = second_side other (want_claim h (in_claim (Some c) [] [] [] d) qs)
after_side c other d h qs (mark sign.CloseSquare) = close_claim (paired other c) h qs
after_side c other d h qs _ = unexpected

-- what follows a whole claim
abbrev pub after_whole : Claim → Heading → List ClaimPlace → Token → Move
after_whole c h qs (mark sign.CloseSquare) = close_claim c h qs
after_whole c h qs _ = unexpected

-- behind a disjunct
abbrev pub behind_disjunct : Claim → Option Claim → List Claim → List Claim → ℕ → Heading → List ClaimPlace → List Token → Reading
behind_disjunct c other premises disjuncts d h qs [] =
    at_end (claim_ended (paired other (implied premises (disjunction_of (disjuncts ++ c ∷ [])))) h qs)
behind_disjunct c other premises disjuncts d h qs (keyword word.Or ∷ ts) =
    reading (want_claim h (in_claim other premises (disjuncts ++ c ∷ []) [] d) qs) ts
behind_disjunct c other premises disjuncts d h qs (t ∷ ts) =
    reading_on (after_premise (disjunction_of (disjuncts ++ c ∷ [])) other premises d h qs t) ts

-- behind a premise
abbrev pub behind_premise : Claim → Option Claim → List Claim → ℕ → Heading → List ClaimPlace → List Token → Reading
behind_premise c other premises d h qs [] = at_end (claim_ended (paired other (implied premises c)) h qs)
behind_premise c other premises d h qs (t ∷ ts) = reading_on (after_premise c other premises d h qs t) ts

-- behind a side
abbrev pub behind_side : Claim → Option Claim → ℕ → Heading → List ClaimPlace → List Token → Reading
behind_side c other d h qs [] = at_end (claim_ended (paired other c) h qs)
behind_side c other d h qs (t ∷ ts) = reading_on (after_side c other d h qs t) ts

-- behind a whole claim
abbrev pub behind_claim : Claim → Heading → List ClaimPlace → List Token → Reading
behind_claim c h qs [] = at_end (claim_ended c h qs)
behind_claim c h qs (t ∷ ts) = reading_on (after_whole c h qs t) ts
