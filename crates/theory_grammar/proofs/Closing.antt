-- Tokens behind which each state of the machine ends.
use Rattle.std.specs.Prelude.{not, ◌||◌, pos, codes}
use Rattle.std.proofs.Common.{◌≡◌, ℕ, Bool, true, false, List, [], ◌∷◌, Option, None, Some, Ok, refl, ◌∙◌}
use Rattle.theory_meaning.specs.declared.words.Rel.TheVariants as rel
use Rattle.theory_meaning.specs.Fraction.{whole}
use Rattle.theory_meaning.specs.Tree.{Expr, Claim, Line}
use Rattle.theory_meaning.specs.Tree as plain
use Rattle.theory_grammar.specs.declared.words.Keyword.TheVariants as word
use Rattle.theory_grammar.specs.declared.words.Mark.TheVariants as sign
use Rattle.theory_grammar.specs.declared.words.LineFaultKind.{LineFaultKind}
use Rattle.theory_grammar.specs.declared.words.LineFaultKind.TheVariants.{ZeroBelow, Exponent}
use Rattle.theory_grammar.specs.Token.{Token, keyword, name, number, mark, relation}
use Rattle.theory_grammar.specs.Spelled.{Limits, lowest}
use Rattle.theory_grammar.specs.Machine.{State, Place, ClaimPlace, Heading, assumption, assertion, Context, left_of_equation, right_of_equation, left_of_atom, right_of_atom, gate, step, ended, and_then}
use Rattle.theory_grammar.specs.Machine as m
use Rattle.theory_grammar.proofs.Following.{runs}

module _ (limits : Limits) where
  abbrev tree : State → List Token → Option Line
  tree = runs step ended limits

  abbrev Ends : State → List Token → Type 0
  Ends st ts = (line : Line) × (tree st ts ≡ Some line)

  -- closing signs for claims and expressions
  abbrev claim_end : List ClaimPlace → List Token
  claim_end [] = []
  claim_end (q ∷ qs) = mark sign.CloseSquare ∷ claim_end qs

  abbrev context_end : Context → List Token
  context_end (left_of_equation label) = relation rel.Eq ∷ number 1 ∷ []
  context_end (right_of_equation label x) = []
  context_end (left_of_atom h q qs) = relation rel.Eq ∷ number 1 ∷ claim_end qs
  context_end (right_of_atom x r h q qs) = claim_end qs

  abbrev expr_end : List Place → Context → List Token
  expr_end [] ctx = context_end ctx
  expr_end (p ∷ o) ctx = mark sign.Close ∷ expr_end o ctx

  claim_ends : (c : Claim) (h : Heading) (q : ClaimPlace) (qs : List ClaimPlace) → Ends (m.have_claim c h q qs) (claim_end qs)
  claim_ends c h q [] = (m.line_with h (m.whole_claim q c), refl)
  claim_ends c h q (q' ∷ qs) = claim_ends (m.whole_claim q c) h q' qs

  -- a comparison ends as the claim that it is
  compared_ends : (y : Expr) (p : Place) (x : Expr) (r : _) (h : Heading) (q : ClaimPlace) (qs : List ClaimPlace)
      → Ends (m.term y p [] (right_of_atom x r h q qs)) (claim_end qs)
  compared_ends y p x r h q [] = (m.line_with h (m.whole_claim q (plain.atom x r (m.joined p.sum y))), refl)
  compared_ends y p x r h q (q' ∷ qs) = claim_ends (m.whole_claim q (plain.atom x r (m.joined p.sum y))) h q' qs

  closed_same : (x : Expr) (p : Place) (o : List Place) (ctx : Context)
      → tree (m.closed x p o ctx) (expr_end o ctx) ≡ tree (m.term (m.settled p x) (m.reset p) o ctx) (expr_end o ctx)
  closed_same x p [] (left_of_equation label) = refl
  closed_same x p [] (right_of_equation label y) = refl
  closed_same x p [] (left_of_atom h q qs) = refl
  closed_same x p [] (right_of_atom y r h q []) = refl
  closed_same x p [] (right_of_atom y r h q (q' ∷ qs)) = refl
  closed_same x p (p' ∷ o) ctx = refl

  integer_same : (n : ℕ) (p : Place) (o : List Place) (ctx : Context)
      → tree (m.integer n p o ctx) (expr_end o ctx) ≡ tree (m.closed (plain.number (whole (pos n))) p o ctx) (expr_end o ctx)
  integer_same n p [] (left_of_equation label) = refl
  integer_same n p [] (right_of_equation label y) = refl
  integer_same n p [] (left_of_atom h q qs) = refl
  integer_same n p [] (right_of_atom y r h q []) = refl
  integer_same n p [] (right_of_atom y r h q (q' ∷ qs)) = refl
  integer_same n p (p' ∷ o) ctx = refl

  moved : (st st' : State) (ts : List Token) → tree st ts ≡ tree st' ts → Ends st' ts → Ends st ts
  moved st st' ts e h = (h.0, e ∙ h.1)

  term_ends : (x : Expr) (p : Place) (o : List Place) (ctx : Context) → Ends (m.term x p o ctx) (expr_end o ctx)
  term_ends x p [] (left_of_equation label) = (_, refl)
  term_ends y p [] (right_of_equation label x) = (_, refl)
  term_ends x p [] (left_of_atom h q []) = (_, refl)
  term_ends x p [] (left_of_atom h q (q' ∷ qs)) = claim_ends (m.whole_claim q (plain.atom (m.joined p.sum x) rel.Eq (plain.number (whole (pos 1))))) h q' qs
  term_ends y p [] (right_of_atom x r h q qs) = compared_ends y p x r h q qs
  term_ends x p (p' ∷ o) ctx =
      moved _ _ (expr_end o ctx) (closed_same (m.joined p.sum x) p' o ctx) (term_ends (m.settled p' (m.joined p.sum x)) (m.reset p') o ctx)

  closed_ends : (x : Expr) (p : Place) (o : List Place) (ctx : Context) → Ends (m.closed x p o ctx) (expr_end o ctx)
  closed_ends x p o ctx = moved (m.closed x p o ctx) (m.term (m.settled p x) (m.reset p) o ctx) (expr_end o ctx) (closed_same x p o ctx) (term_ends
      (m.settled p x) (m.reset p) o ctx)

  through : (b : Bool) (kind : LineFaultKind) (st : State) → gate (b || true) kind st ≡ Ok st
  through true kind st = refl
  through false kind st = refl

  -- a number behind `^` and behind `/`
  number_ends : (b : Bool) (kind : LineFaultKind) (x : Expr) (p : Place) (o : List Place) (ctx : Context)
      → (line : Line) × (and_then (gate (b || true) kind (m.term x p o ctx)) (λ st. tree st (expr_end o ctx)) (λ k. None) ≡ Some line)
  number_ends true kind x p o ctx = term_ends x p o ctx
  number_ends false kind x p o ctx = term_ends x p o ctx

  abbrev Closes : State → Type 0
  Closes st = (more : List Token) × (line : Line) × (tree st more ≡ Some line)

  -- behind each state something is spelled
  pub closes : (st : State) → Closes st
  closes m.start = (keyword word.Model ∷ name (codes "x") ∷ [], plain.model (codes "x"), refl)
  closes m.name_of_model = (name (codes "x") ∷ [], plain.model (codes "x"), refl)
  closes m.name_of_var = (name (codes "x") ∷ [], plain.var (codes "x"), refl)
  closes m.name_of_param = (name (codes "x") ∷ [], plain.param (codes "x"), refl)
  closes m.name_of_function = (name (codes "x") ∷ keyword word.Of ∷ name (codes "x") ∷ [], _, refl)
  closes (m.word_of f) = (keyword word.Of ∷ name (codes "x") ∷ [], _, refl)
  closes (m.first_argument f) = (name (codes "x") ∷ [], _, refl)
  closes (m.arguments f xs) = ([], _, refl)
  closes m.label_of_equation = (name (codes "x") ∷ mark sign.Colon ∷ number 1 ∷ relation rel.Eq ∷ number 1 ∷ [], _, refl)
  closes (m.colon_of_equation label) = (mark sign.Colon ∷ number 1 ∷ relation rel.Eq ∷ number 1 ∷ [], _, refl)
  closes m.label_of_assumption = (name (codes "x") ∷ mark sign.Colon ∷ keyword word.True ∷ [], _, refl)
  closes m.label_of_claim = (name (codes "x") ∷ mark sign.Colon ∷ keyword word.True ∷ [], _, refl)
  closes (m.by_or_colon label) = (mark sign.Colon ∷ keyword word.True ∷ [], _, refl)
  closes (m.name_of_shift label) = (name (codes "x") ∷ mark sign.Colon ∷ keyword word.True ∷ [], _, refl)
  closes (m.colon h) = (mark sign.Colon ∷ keyword word.True ∷ [], _, refl)
  closes (m.finished line) = ([], line, refl)
  closes (m.want_claim h q qs) = let e = claim_ends plain.always h q qs in (keyword word.True ∷ claim_end qs, e.0, e.1)
  closes (m.have_claim c h q qs) = let e = claim_ends c h q qs in (claim_end qs, e.0, e.1)
  closes (m.operand p o ctx) = let e = closed_ends (plain.symbol (codes "x")) p o ctx in (name (codes "x") ∷ expr_end o ctx, e.0, e.1)
  closes (m.integer n p o ctx) =
      let e = moved (m.integer n p o ctx) (m.closed (plain.number (whole (pos n))) p o ctx) (expr_end o ctx) (integer_same n p o ctx) (closed_ends
      (plain.number (whole (pos n))) p o ctx) in
      (expr_end o ctx, e.0, e.1)
  closes (m.closed x p o ctx) = let e = closed_ends x p o ctx in (expr_end o ctx, e.0, e.1)
  closes (m.exponent x p o ctx) =
      let e = number_ends (not limits.exponent) Exponent (m.settled p (plain.power x 1)) (m.reset p) o ctx in (number 1 ∷ expr_end o ctx, e.0, e.1)
  closes (m.below n p o ctx) =
      let e = number_ends (not limits.below) ZeroBelow (m.settled p (plain.number (lowest n 1))) (m.reset p) o ctx in (number 1 ∷ expr_end o ctx, e.0, e.1)
  closes (m.divisor p o ctx) = let e = closed_ends (plain.symbol (codes "x")) p o ctx in (name (codes "x") ∷ expr_end o ctx, e.0, e.1)
  closes (m.term x p o ctx) = let e = term_ends x p o ctx in (expr_end o ctx, e.0, e.1)
