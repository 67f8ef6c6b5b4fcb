-- The lines that the machine reads are spelled.
use Rattle.std.specs.Prelude.{pos}
use Rattle.std.proofs.Common.{◌≡◌, ℕ, List, [], ◌∷◌, ◌++◌, map, Option, None, Some, refl, sym, ap, subst, ◌∙◌, append_assoc}
use Rattle.theory_meaning.specs.Fraction.{whole}
use Rattle.theory_meaning.specs.Point.{Name}
use Rattle.theory_meaning.specs.Tree.{Expr, Claim, Line}
use Rattle.theory_meaning.specs.Tree as plain
use Rattle.theory_grammar.specs.declared.words.Keyword.TheVariants as word
use Rattle.theory_grammar.specs.declared.words.Mark.TheVariants as sign
use Rattle.theory_grammar.specs.Token.{Token, keyword, name, mark}
use Rattle.theory_grammar.specs.Spelled.{Limits, IsExpr, IsClaim, IsLine}
use Rattle.theory_grammar.specs.Spelled as rule
use Rattle.theory_grammar.specs.Machine.{State, Place, ClaimPlace, Heading, assumption, assertion, Context, left_of_equation, right_of_equation, left_of_atom, right_of_atom, step, ended}
use Rattle.theory_grammar.specs.Machine as m
use Rattle.theory_grammar.proofs.Following.{Goes}
use Rattle.theory_grammar.proofs.Reached.{Outside, BehindTerm, BehindClaim, Heads, Reached}
use Rattle.theory_grammar.proofs.Ends as ends
use Rattle.theory_grammar.proofs.Ends.{BehindExpr}
use Rattle.theory_grammar.proofs.Sound as sound
use Rattle.theory_grammar.proofs.SoundClaims as claims
use Rattle.theory_grammar.proofs.SoundPlaces as places

module _ (limits : Limits) where
  as_line : (ts us : List Token) (line : Line) → ts ≡ us → IsLine limits us line → IsLine limits ts line
  as_line ts us line e h = subst (λ (vs : List Token). IsLine limits vs line) (sym e) h

  -- one token more
  then : (before us : List Token) (t : Token) → before ≡ us → before ++ t ∷ [] ≡ us ++ t ∷ []
  then before us t e = ap (λ (ts : List Token). ts ++ t ∷ []) e

  map-append : (ys : List Name) (x : Name) → map name (ys ++ x ∷ []) ≡ map name ys ++ name x ∷ []
  map-append [] x = refl
  map-append (y ∷ ys) x = ap (λ (ts : List Token). name y ∷ ts) (map-append ys x)

  more_arguments : (f x : Name) (xs : List Name) (before : List Token) → Reached limits (m.arguments f xs) before
      → Reached limits (m.arguments f (xs ++ x ∷ [])) (before ++ name x ∷ [])
  more_arguments f x xs before b = (
    b.0,
    b.1 ++ x ∷ [],
    ap (λ (ys : List Name). ys ++ x ∷ []) b.2,
    ap (λ (ts : List Token). ts ++ name x ∷ []) b.3
        ∙ ap (λ (ts : List Token). keyword word.Fun ∷ name f ∷ keyword word.Of ∷ name b.0 ∷ ts) (sym (map-append b.1 x)),
  )

  sound_of : (f : Name) (t : Token) (before : List Token) → Reached limits (m.word_of f) before → Goes (Reached limits) (before ++ t ∷ []) (m.at_of f t)
  sound_of f (keyword word.Of) before b = then before _ (keyword word.Of) b
  sound_of f _ before b = tt

  sound_by : (label : Name) (t : Token) (before : List Token) → Reached limits (m.by_or_colon label) before
      → Goes (Reached limits) (before ++ t ∷ []) (m.at_by label t)
  sound_by label (keyword word.By) before b = then before _ (keyword word.By) b
  sound_by label t before b =
      places.sound_colon limits (m.claim_of_line (assertion label None)) t before
      (places.heads_claim limits (assertion label None) (before ++ mark sign.Colon ∷ []) (then before _ (mark sign.Colon) b))

  sound_start : (t : Token) (before : List Token) → before ≡ [] → Goes (Reached limits) (before ++ t ∷ []) (m.at_start t)
  sound_start (keyword word.Model) before b = then before _ (keyword word.Model) b
  sound_start (keyword word.Var) before b = then before _ (keyword word.Var) b
  sound_start (keyword word.Param) before b = then before _ (keyword word.Param) b
  sound_start (keyword word.Fun) before b = then before _ (keyword word.Fun) b
  sound_start (keyword word.Eq) before b = then before _ (keyword word.Eq) b
  sound_start (keyword word.Assume) before b = then before _ (keyword word.Assume) b
  sound_start (keyword word.Claim) before b = then before _ (keyword word.Claim) b
  sound_start _ before b = tt

  -- each step keeps what the tokens spell
  pub goes : (st : State) (t : Token) (before : List Token) → Reached limits st before → Goes (Reached limits) (before ++ t ∷ []) (step limits st t)
  goes m.start t before b = sound_start t before b
  goes m.name_of_model t before b =
      places.sound_name limits (λ x. m.finished (plain.model x)) t before (λ x. as_line _ _ _ (then before _ (name x) b) rule.model_line)
  goes m.name_of_var t before b =
      places.sound_name limits (λ x. m.finished (plain.var x)) t before (λ x. as_line _ _ _ (then before _ (name x) b) rule.var_line)
  goes m.name_of_param t before b =
      places.sound_name limits (λ x. m.finished (plain.param x)) t before (λ x. as_line _ _ _ (then before _ (name x) b) rule.param_line)
  goes m.name_of_function t before b = places.sound_name limits m.word_of t before (λ x. then before _ (name x) b)
  goes (m.word_of f) t before b = sound_of f t before b
  goes (m.first_argument f) t before b = places.sound_name limits (λ x. m.arguments f (x ∷ [])) t before (λ x. (x, [], refl, then before _ (name x) b))
  goes (m.arguments f xs) t before b = places.sound_name limits (λ x. m.arguments f (xs ++ x ∷ [])) t before (λ x. more_arguments f x xs before b)
  goes m.label_of_equation t before b = places.sound_name limits m.colon_of_equation t before (λ x. then before _ (name x) b)
  goes (m.colon_of_equation label) t before b =
      places.sound_colon limits (m.operand (m.fresh 0) [] (left_of_equation label)) t before
      (places.starts limits (Outside limits [] (left_of_equation label)) 0 (before ++ mark sign.Colon ∷ []) (refl, then before _ (mark sign.Colon) b))
  goes m.label_of_assumption t before b =
      places.sound_name limits (λ x. m.colon (assumption x)) t before (λ x. then _ _ (mark sign.Colon) (then before _ (name x) b))
  goes m.label_of_claim t before b = places.sound_name limits m.by_or_colon t before (λ x. then before _ (name x) b)
  goes (m.by_or_colon label) t before b = sound_by label t before b
  goes (m.name_of_shift label) t before b =
      places.sound_name limits (λ x. m.colon (assertion label (Some x))) t before (λ x. then _ _ (mark sign.Colon) (then before _ (name x) b))
  goes (m.colon h) t before b = places.sound_colon limits (m.claim_of_line h) t before (places.heads_claim limits h (before ++ mark sign.Colon ∷ []) b)
  goes (m.finished line) t before b = tt
  goes (m.want_claim h q qs) t before b = sound.sound_want limits h q qs t before b
  goes (m.have_claim c h q qs) t before b = claims.sound_claim limits c h q qs t before b
  goes (m.operand p o ctx) t before b = sound.sound_operand limits p o ctx t before b
  goes (m.integer n p o ctx) t before b = sound.sound_integer limits n p o ctx t before b
  goes (m.closed x p o ctx) t before b = sound.after_closed limits x p o ctx t before b
  goes (m.exponent x p o ctx) t before b = sound.sound_exponent limits x p o ctx t before b
  goes (m.below n p o ctx) t before b = sound.sound_below limits n p o ctx t before b
  goes (m.divisor p o ctx) t before b = sound.after_over limits p o ctx t before b
  goes (m.term x p o ctx) t before b = sound.after_term limits x p o ctx t before b

  -- the line that ends here, if one does, is spelled
  abbrev EndsWell : List Token → Option Line → Type 0
  EndsWell ts None = Unit {0}
  EndsWell ts (Some line) = IsLine limits ts line

  claim_line : (h : Heading) (ts own : List Token) (d : ℕ) (c : Claim) (before : List Token) → Heads limits h ts → d ≡ 0 → before ≡ ts ++ own
      → IsClaim limits rule.claim d own c → IsLine limits before (m.line_with h c)
  claim_line (assumption label) ts own d c before heads zero e h =
      as_line before _ _ (e ∙ ap (λ (us : List Token). us ++ own) heads) (rule.assume_line (subst (λ (k : ℕ). IsClaim limits rule.claim k own c) zero h))
  claim_line (assertion label None) ts own d c before heads zero e h =
      as_line before _ _ (e ∙ ap (λ (us : List Token). us ++ own) heads) (rule.claim_line (subst (λ (k : ℕ). IsClaim limits rule.claim k own c) zero h))
  claim_line (assertion label (Some shift)) ts own d c before heads zero e h =
      as_line before _ _ (e ∙ ap (λ (us : List Token). us ++ own) heads) (rule.shift_line (subst (λ (k : ℕ). IsClaim limits rule.claim k own c) zero h))

  claim_ends : (c : Claim) (h : Heading) (q : ClaimPlace) (qs : List ClaimPlace) (before : List Token) → BehindClaim limits h q qs c before
      → EndsWell before (m.claim_ended (m.whole_claim q c) h qs)
  claim_ends c h q [] before b =
      claim_line h b.place.outside _ q.base (m.whole_claim q c) before b.place.around.1 b.place.around.0 (ends.tokens limits h q [] c before b)
      (ends.claim limits h q [] c before b)
  claim_ends c h q (q' ∷ qs) before b = tt

  expr_ends : (x : Expr) (o : List Place) (ctx : Context) (d : ℕ) (before : List Token) → BehindExpr limits d o ctx x before
      → EndsWell before (m.expr_ended x o ctx)
  expr_ends x [] (left_of_equation label) d before b = tt
  expr_ends y [] (right_of_equation label x) d before b =
      let right : IsExpr limits rule.sum 0 b.own y = subst (λ (k : ℕ). IsExpr limits rule.sum k b.own y) b.around.2 b.spelled in
      as_line before _ _ (b.parts ∙ ap (λ (ts : List Token). ts ++ b.own) b.around.3 ∙ simp append_assoc) (rule.equation_line b.around.1 right)
  expr_ends x [] (left_of_atom h q qs) d before b = tt
  expr_ends y [] (right_of_atom x r h q qs) d before b = claim_ends (plain.atom x r y) h q qs before (claims.compared limits x y r h q qs d before b)
  expr_ends x (p ∷ o) ctx d before b = tt

  term_ends : (x : Expr) (p : Place) (o : List Place) (ctx : Context) (before : List Token) → BehindTerm limits p o ctx x before
      → EndsWell before (m.expr_ended (m.joined p.sum x) o ctx)
  term_ends x p o ctx before b = expr_ends (m.joined p.sum x) o ctx p.base before (ends.summed limits p o ctx x before b)

  well : (st : State) (before : List Token) → Reached limits st before → EndsWell before (ended st)
  well (m.arguments f xs) before b =
      as_line before _ _ b.3 (subst (λ (ys : List Name). IsLine limits (keyword word.Fun ∷ name f ∷ keyword word.Of ∷ name b.0 ∷ map name b.1)
      (plain.function f ys)) (sym b.2) rule.function_line)
  well (m.finished line) before b = b
  well (m.have_claim c h q qs) before b = claim_ends c h q qs before b
  well (m.integer n p o ctx) before b =
      term_ends (m.settled p (plain.number (whole (pos n)))) (m.reset p) o ctx before (ends.factored limits p o ctx _ before
      (sound.one_power limits p o ctx _ before (sound.integer_closed limits n p o ctx before b)))
  well (m.closed x p o ctx) before b =
      term_ends (m.settled p x) (m.reset p) o ctx before (ends.factored limits p o ctx x before (sound.one_power limits p o ctx x before b.0))
  well (m.term x p o ctx) before b = term_ends x p o ctx before b.0
  well _ before b = tt

  pub ends_well : (st : State) (before : List Token) (line : Line) → Reached limits st before → ended st ≡ Some line → IsLine limits before line
  ends_well st before line b e = subst (EndsWell before) e (well st before b)
