-- Where no connective follows, what is read behind a part is read behind the part around it.
use Rattle.std.proofs.Common.{◌≡◌, ℕ, suc, List, [], ◌∷◌, ◌++◌, length, Option, None, Some, refl, ap, ◌∙◌}
use Rattle.theory_meaning.specs.declared.words.Rel.{Rel}
use Rattle.theory_meaning.specs.Tree.{Expr, Claim}
use Rattle.theory_meaning.specs.Tree as plain
use Rattle.theory_grammar.specs.declared.words.Keyword.TheVariants as word
use Rattle.theory_grammar.specs.declared.words.Mark.TheVariants as sign
use Rattle.theory_grammar.specs.declared.words.LineFaultKind.TheVariants.{Unexpected, Deep}
use Rattle.theory_grammar.specs.Token.{Token, keyword, mark, relation}
use Rattle.theory_grammar.specs.Spelled.{every, has_room, conjunction_of, disjunction_of}
use Rattle.theory_grammar.specs.Machine.{Heading, ClaimPlace, gate, operand, fresh, fresh_claim, want_claim, have_claim, denied, left_of_atom, right_of_atom, and_then}
use Rattle.theory_line.specs.Reading.{Reading, stopped, reading}
use Rattle.theory_line.specs.Behind.{in_claim, behind_expr, behind_disjunct, behind_premise, behind_side, behind_claim}
use Rattle.theory_line.specs.Claims.{concluded}
use Rattle.theory_line.specs.First.{IsNotFirst, HasNoRelation, BeginsNoClaim}

-- behind so many members of a chain, where one more may follow
abbrev pub behind_conjuncts : List Claim → Option Claim → List Claim → List Claim → ℕ → Heading → List ClaimPlace → List Token → Reading
behind_conjuncts cs other premises disjuncts d h qs (keyword word.And ∷ ts) = reading (want_claim h (in_claim other premises disjuncts cs d) qs) ts
behind_conjuncts cs other premises disjuncts d h qs ts = behind_disjunct (conjunction_of cs) other premises disjuncts d h qs ts

abbrev pub behind_disjuncts : List Claim → Option Claim → List Claim → ℕ → Heading → List ClaimPlace → List Token → Reading
behind_disjuncts cs other premises d h qs (keyword word.Or ∷ ts) = reading (want_claim h (in_claim other premises cs [] d) qs) ts
behind_disjuncts cs other premises d h qs ts = behind_premise (disjunction_of cs) other premises d h qs ts

-- the last part comes first
abbrev pub behind_parts : List Claim → Option Claim → ℕ → Heading → List ClaimPlace → List Token → Reading
behind_parts cs other d h qs (keyword word.Implies ∷ ts) = reading (want_claim h (in_claim other cs [] [] d) qs) ts
behind_parts cs other d h qs ts = behind_side (concluded cs) other d h qs ts

-- one member more
pub next_conjunct : (c : Claim) (other : Option Claim) (premises disjuncts cs : List Claim) (d : ℕ) (h : Heading) (qs : List ClaimPlace)
    (ts : List Token) → reading (have_claim c h (in_claim other premises disjuncts cs d) qs) ts
    ≡ behind_conjuncts (cs ++ c ∷ []) other premises disjuncts d h qs ts
next_conjunct c other premises disjuncts cs d h qs [] = refl
next_conjunct c other premises disjuncts cs d h qs (keyword word.And ∷ ts) = refl
next_conjunct c other premises disjuncts cs d h qs (keyword word.Or ∷ ts) = refl
next_conjunct c other premises disjuncts cs d h qs (keyword word.Implies ∷ ts) = refl
next_conjunct c other premises disjuncts cs d h qs (keyword word.Iff ∷ ts) = refl
next_conjunct c other premises disjuncts cs d h qs (mark sign.CloseSquare ∷ ts) = refl
next_conjunct c other premises disjuncts cs d h qs (t ∷ ts) = refl

pub next_disjunct : (c : Claim) (other : Option Claim) (premises cs : List Claim) (d : ℕ) (h : Heading) (qs : List ClaimPlace)
    (ts : List Token) → behind_disjunct c other premises cs d h qs ts ≡ behind_disjuncts (cs ++ c ∷ []) other premises d h qs ts
next_disjunct c other premises cs d h qs [] = refl
next_disjunct c other premises cs d h qs (keyword word.Or ∷ ts) = refl
next_disjunct c other premises cs d h qs (t ∷ ts) = refl

pub next_part : (c : Claim) (other : Option Claim) (cs : List Claim) (d : ℕ) (h : Heading) (qs : List ClaimPlace)
    (ts : List Token) → behind_premise c other cs d h qs ts ≡ behind_parts (c ∷ cs) other d h qs ts
next_part c other cs d h qs [] = refl
next_part c other cs d h qs (keyword word.Implies ∷ ts) = refl
next_part c other cs d h qs (t ∷ ts) = refl

-- the whole chain, where no member follows
pub ends_disjunct : (cs : List Claim) (other : Option Claim) (premises disjuncts : List Claim) (d : ℕ) (h : Heading) (qs : List ClaimPlace)
    (ts : List Token) → IsNotFirst (keyword word.And) ts
    → behind_conjuncts cs other premises disjuncts d h qs ts ≡ behind_disjunct (conjunction_of cs) other premises disjuncts d h qs ts
ends_disjunct cs other premises disjuncts d h qs [] no_word = refl
ends_disjunct cs other premises disjuncts d h qs (keyword word.And ∷ ts) no_word = absurd (no_word refl)
ends_disjunct cs other premises disjuncts d h qs (t ∷ ts) no_word = refl

pub ends_premise : (cs : List Claim) (other : Option Claim) (premises : List Claim) (d : ℕ) (h : Heading) (qs : List ClaimPlace)
    (ts : List Token) → IsNotFirst (keyword word.Or) ts
    → behind_disjuncts cs other premises d h qs ts ≡ behind_premise (disjunction_of cs) other premises d h qs ts
ends_premise cs other premises d h qs [] no_word = refl
ends_premise cs other premises d h qs (keyword word.Or ∷ ts) no_word = absurd (no_word refl)
ends_premise cs other premises d h qs (t ∷ ts) no_word = refl

pub ends_side : (cs : List Claim) (other : Option Claim) (d : ℕ) (h : Heading) (qs : List ClaimPlace)
    (ts : List Token) → IsNotFirst (keyword word.Implies) ts → behind_parts cs other d h qs ts ≡ behind_side (concluded cs) other d h qs ts
ends_side cs other d h qs [] no_word = refl
ends_side cs other d h qs (keyword word.Implies ∷ ts) no_word = absurd (no_word refl)
ends_side cs other d h qs (t ∷ ts) no_word = refl

-- a side, behind which no `iff` follows
pub ends_claim : (c : Claim) (d : ℕ) (h : Heading) (qs : List ClaimPlace) (ts : List Token) → IsNotFirst (keyword word.Iff) ts
    → behind_side c None d h qs ts ≡ behind_claim c h qs ts
ends_claim c d h qs [] no_word = refl
ends_claim c d h qs (keyword word.Iff ∷ ts) no_word = absurd (no_word refl)
ends_claim c d h qs (t ∷ ts) no_word = refl

-- the second side, behind which no `iff` may follow
pub ends_second : (b c : Claim) (d : ℕ) (h : Heading) (qs : List ClaimPlace) (ts : List Token)
    → behind_side c (Some b) d h qs ts ≡ behind_claim (plain.equivalence b c) h qs ts
ends_second b c d h qs [] = refl
ends_second b c d h qs (keyword word.Iff ∷ ts) = refl
ends_second b c d h qs (mark sign.CloseSquare ∷ ts) = refl
ends_second b c d h qs (t ∷ ts) = refl

-- a negated conjunct
pub ends_negation : (c : Claim) (h : Heading) (q : ClaimPlace) (qs : List ClaimPlace) (ts : List Token)
    → reading (have_claim c h (denied q) qs) ts ≡ reading (have_claim (plain.negation c) h q qs) ts
ends_negation c h q qs [] = refl
ends_negation c h q qs (keyword word.And ∷ ts) = refl
ends_negation c h q qs (keyword word.Or ∷ ts) = refl
ends_negation c h q qs (keyword word.Implies ∷ ts) = refl
ends_negation c h q qs (keyword word.Iff ∷ ts) = refl
ends_negation c h q qs (mark sign.CloseSquare ∷ ts) = refl
ends_negation c h q qs (t ∷ ts) = refl

-- a claim in brackets that no bracket closes
pub unclosed : (c : Claim) (h : Heading) (q : ClaimPlace) (qs : List ClaimPlace) (ts : List Token) → IsNotFirst (mark sign.CloseSquare) ts
    → behind_claim c h (q ∷ qs) ts ≡ stopped Unexpected (length ts)
unclosed c h q qs [] no_mark = refl
unclosed c h q qs (mark sign.CloseSquare ∷ ts) no_mark = absurd (no_mark refl)
unclosed c h q qs (t ∷ ts) no_mark = refl

-- a claim that begins as an expression does
begins_here : (h : Heading) (q : ClaimPlace) (qs : List ClaimPlace) (ts : List Token) → BeginsNoClaim ts
    → reading (want_claim h q qs) ts ≡ reading (operand (fresh q.depth) [] (left_of_atom h q qs)) ts
begins_here h q qs [] begins = refl
begins_here h q qs (keyword word.True ∷ ts) begins = elim begins [ ]
begins_here h q qs (keyword word.False ∷ ts) begins = elim begins [ ]
begins_here h q qs (keyword word.Not ∷ ts) begins = elim begins [ ]
begins_here h q qs (mark sign.OpenSquare ∷ ts) begins = elim begins [ ]
begins_here h q qs (t ∷ ts) begins = refl

pub begins_expr : (h : Heading) (q : ClaimPlace) (qs : List ClaimPlace) (d : ℕ) (ts : List Token) → q.depth ≡ d → BeginsNoClaim ts
    → reading (want_claim h q qs) ts ≡ reading (operand (fresh d) [] (left_of_atom h q qs)) ts
begins_expr h q qs d ts e begins = begins_here h q qs ts begins ∙ ap (λ (k : ℕ). reading (operand (fresh k) [] (left_of_atom h q qs)) ts) e

pub begins_no_claim : (ts : List Token) → IsNotFirst (keyword word.True) ts → IsNotFirst (keyword word.False) ts → IsNotFirst (keyword word.Not) ts
    → IsNotFirst (mark sign.OpenSquare) ts → BeginsNoClaim ts
begins_no_claim [] a b c d = tt
begins_no_claim (keyword word.True ∷ ts) a b c d = a refl
begins_no_claim (keyword word.False ∷ ts) a b c d = b refl
begins_no_claim (keyword word.Not ∷ ts) a b c d = c refl
begins_no_claim (mark sign.OpenSquare ∷ ts) a b c d = d refl
begins_no_claim (t ∷ ts) a b c d = tt

-- the left side of a comparison that no relation follows
pub unrelated : (x : Expr) (h : Heading) (q : ClaimPlace) (qs : List ClaimPlace) (ts : List Token) → HasNoRelation ts
    → behind_expr x [] (left_of_atom h q qs) ts ≡ stopped Unexpected (length ts)
unrelated x h q qs [] none = refl
unrelated x h q qs (relation r ∷ ts) none = elim none [ ]
unrelated x h q qs (t ∷ ts) none = refl

-- behind a relation the right side begins
pub related : (x : Expr) (r : Rel) (h : Heading) (q : ClaimPlace) (qs : List ClaimPlace) (d : ℕ) (ts us : List Token) → q.depth ≡ d
    → ts ≡ relation r ∷ us
    → behind_expr x [] (left_of_atom h q qs) ts ≡ reading (operand (fresh d) [] (right_of_atom x r h q qs)) us
related x r h q qs d ts us e is =
    ap (behind_expr x [] (left_of_atom h q qs)) is ∙ ap (λ (k : ℕ). reading (operand (fresh k) [] (right_of_atom x r h q qs)) us) e

-- a whole comparison
pub ends_atom : (x : Expr) (r : Rel) (y : Expr) (h : Heading) (q : ClaimPlace) (qs : List ClaimPlace) (ts : List Token)
    → behind_expr y [] (right_of_atom x r h q qs) ts ≡ reading (have_claim (plain.atom x r y) h q qs) ts
ends_atom x r y h q qs [] = refl
ends_atom x r y h q qs (t ∷ ts) = refl

-- one sign more than may be open
pub deep_not : (h : Heading) (q : ClaimPlace) (qs : List ClaimPlace) (ts : List Token) → q.depth ≡ 32
    → reading (want_claim h q qs) (keyword word.Not ∷ ts) ≡ stopped Deep (suc (length ts))
deep_not h q qs ts e =
    ap (λ (d : ℕ). and_then (gate (has_room every d) Deep (want_claim h (denied q) qs)) (λ st. reading st ts) (λ kind. stopped kind (suc (length ts)))) e

pub deep_bracket : (h : Heading) (q : ClaimPlace) (qs : List ClaimPlace) (ts : List Token) → q.depth ≡ 32
    → reading (want_claim h q qs) (mark sign.OpenSquare ∷ ts) ≡ stopped Deep (suc (length ts))
deep_bracket h q qs ts e =
    ap (λ (d : ℕ). and_then (gate (has_room every d) Deep (want_claim h (fresh_claim (suc d)) (q ∷ qs))) (λ st. reading st ts) (λ kind. stopped kind (suc
    (length ts)))) e
