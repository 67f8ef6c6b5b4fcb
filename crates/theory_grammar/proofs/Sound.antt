-- What the machine reads of terms, operands and divisors is spelled.
use Rattle.std.specs.Prelude.{pos}
use Rattle.std.proofs.Common.{◌≡◌, ℕ, suc, false, List, [], ◌∷◌, ◌++◌, refl, sym, ap, subst, ◌∙◌, append_assoc}
use Rattle.std.proofs.lemmas.List.{append-nil}
use Rattle.theory_meaning.specs.Fraction.{whole}
use Rattle.theory_meaning.specs.Point.{Name}
use Rattle.theory_meaning.specs.Tree.{Expr, Claim, Line}
use Rattle.theory_meaning.specs.Tree as plain
use Rattle.theory_grammar.specs.declared.words.Keyword.TheVariants as word
use Rattle.theory_grammar.specs.declared.words.Mark.TheVariants as sign
use Rattle.theory_grammar.specs.Token.{Token, keyword, name, dotted, number, mark}
use Rattle.theory_grammar.specs.Spelled.{Limits, has_room, Last, bare, tight, loose, last_of, begins_with_number, may_divide, is_exponent, is_below, lowest, IsExpr, IsClaim, AreConjuncts, AreDisjuncts, IsLine}
use Rattle.theory_grammar.specs.Spelled as rule
use Rattle.theory_grammar.specs.Machine.{State, Left, alone, plus, minus, Product, leading, to_multiply, to_divide, Place, ClaimPlace, Heading, assumption, assertion, Context, left_of_equation, right_of_equation, left_of_atom, right_of_atom, Move, gate, step, ended}
use Rattle.theory_grammar.specs.Machine as m
use Rattle.theory_grammar.proofs.Reached.{is_bare, NoDivisor, Dividing, Solid, InPlace, InClaimPlace, ClaimOutside, Outside, Behind, BehindTerm, Reached}
use Rattle.theory_grammar.proofs.Ends as ends
use Rattle.theory_grammar.proofs.Ends.{BehindExpr, last_both}
use Rattle.theory_grammar.proofs.SoundPlaces.{others_fit, operand_fits, number_fits, number_solid, solid_any, signless_operand, dividing, longer_fits, Sound, starts, starts_claim, sound_gate}
use Rattle.theory_grammar.proofs.SoundClaims.{sound_close_expr}

-- facts that count at one token alone
abbrev IfOver : Token → Type 0 → Type 0
IfOver (mark sign.Over) A = A
IfOver _ A = Unit {0}

abbrev IfNumber : Token → Type 0 → Type 0
IfNumber (number n) A = A
IfNumber _ A = Unit {0}

module _ (limits : Limits) where
  -- a term with `/` behind it
  abbrev over_term : (x : Expr) (p : Place) (o : List Place) (ctx : Context) (before : List Token) → BehindTerm limits p o ctx x before
      → InPlace limits (Outside limits o ctx) (m.over x p) (before ++ mark sign.Over ∷ [])
  over_term x p o ctx before b = record {
    outside = b.outside;
    sums = b.sums;
    products = b.own ++ mark sign.Over ∷ [];
    minuses = [];
    parts = ap (λ (ts : List Token). ts ++ mark sign.Over ∷ []) b.parts ∙ simp (append_assoc, append-nil);
    around = b.around;
    in_sum = b.in_sum;
    in_product = (b.own, b.spelled, refl);
    signless = refl;
    in_signs = (refl, refl);
  }

  -- a term with a sign behind it
  pub sound_term : (x : Expr) (p : Place) (o : List Place) (ctx : Context) (t : Token) (before : List Token) (b : BehindTerm limits p o ctx x before)
      → IfOver t (is_bare (last_of loose b.own) ≡ false) → Sound limits (before ++ t ∷ []) (m.after_term x p o ctx t)
  sound_term x p o ctx (mark sign.Times) before b h = (
    record {
      outside = b.outside;
      sums = b.sums;
      products = b.own ++ mark sign.Times ∷ [];
      minuses = [];
      parts = ap (λ (ts : List Token). ts ++ mark sign.Times ∷ []) b.parts ∙ simp (append_assoc, append-nil);
      around = b.around;
      in_sum = b.in_sum;
      in_product = (b.own, b.spelled, refl);
      signless = tt;
      in_signs = (refl, refl);
    },
    tt,
  )
  sound_term x p o ctx (mark sign.Over) before b h = (over_term x p o ctx before b, dividing b.own h)
  sound_term x p o ctx (mark sign.Plus) before b h =
      let e = ends.summed limits p o ctx x before b in (
        record {
          outside = e.front;
          sums = e.own ++ mark sign.Plus ∷ [];
          products = [];
          minuses = [];
          parts = ap (λ (ts : List Token). ts ++ mark sign.Plus ∷ []) e.parts ∙ simp (append_assoc, append-nil);
          around = e.around;
          in_sum = (e.own, e.spelled, refl);
          in_product = refl;
          signless = tt;
          in_signs = (refl, refl);
        },
        tt,
      )
  sound_term x p o ctx (mark sign.Minus) before b h =
      let e = ends.summed limits p o ctx x before b in (
        record {
          outside = e.front;
          sums = e.own ++ mark sign.Minus ∷ [];
          products = [];
          minuses = [];
          parts = ap (λ (ts : List Token). ts ++ mark sign.Minus ∷ []) e.parts ∙ simp (append_assoc, append-nil);
          around = e.around;
          in_sum = (e.own, e.spelled, refl);
          in_product = refl;
          signless = tt;
          in_signs = (refl, refl);
        },
        tt,
      )
  sound_term x p o ctx t before b h = sound_close_expr limits (m.joined p.sum x) t o ctx p.base before (ends.summed limits p o ctx x before b)

  abbrev pub one_power : (p : Place) (o : List Place) (ctx : Context) (x : Expr) (before : List Token) → Behind limits rule.primary p o ctx x before
      → Behind limits rule.power p o ctx x before
  one_power p o ctx x before b = record {
    front = b.front;
    own = b.own;
    parts = b.parts;
    place = b.place;
    spelled = rule.one_primary b.spelled;
    fits = b.fits;
  }

  pub sound_closed : (x : Expr) (p : Place) (o : List Place) (ctx : Context) (t : Token) (before : List Token)
      (b : Behind limits rule.primary p o ctx x before) → IfOver t (Solid p.product b.own) → Sound limits (before ++ t ∷ []) (m.after_closed x p o ctx t)
  sound_closed x p o ctx (mark sign.Power) before b h = (before, b, refl)
  sound_closed x p o ctx (mark sign.Over) before b h =
      let c = one_power p o ctx x before b in
      sound_term (m.settled p x) (m.reset p) o ctx (mark sign.Over) before (ends.factored limits p o ctx x before c)
      (ends.factored_solid limits p o ctx x before c h)
  sound_closed x p o ctx t before b h =
      sound_term (m.settled p x) (m.reset p) o ctx t before (ends.factored limits p o ctx x before (one_power p o ctx x before b)) tt

  pub after_closed : (x : Expr) (p : Place) (o : List Place) (ctx : Context) (t : Token) (before : List Token) → Reached limits (m.closed x p o ctx) before
      → Sound limits (before ++ t ∷ []) (m.after_closed x p o ctx t)
  after_closed x p o ctx (mark sign.Over) before b = sound_closed x p o ctx (mark sign.Over) before b.0 b.1
  after_closed x p o ctx t before b = sound_closed x p o ctx t before b.0 tt

  pub after_term : (x : Expr) (p : Place) (o : List Place) (ctx : Context) (t : Token) (before : List Token) → Reached limits (m.term x p o ctx) before
      → Sound limits (before ++ t ∷ []) (m.after_term x p o ctx t)
  after_term x p o ctx (mark sign.Over) before b = sound_term x p o ctx (mark sign.Over) before b.0 b.1
  after_term x p o ctx t before b = sound_term x p o ctx t before b.0 tt

  abbrev pub HasInteger : ℕ → Place → List Place → Context → List Token → Type 0
  HasInteger n p o ctx before = (us : List Token) × InPlace limits (Outside limits o ctx) p us × NoDivisor p.product × (before ≡ us ++ number n ∷ [])

  pub integer_closed : (n : ℕ) (p : Place) (o : List Place) (ctx : Context) (before : List Token) → HasInteger n p o ctx before
      → Behind limits rule.primary p o ctx (plain.number (whole (pos n))) before
  integer_closed n p o ctx before b = record {
    front = b.0;
    own = number n ∷ [];
    parts = b.3;
    place = b.1;
    spelled = rule.whole_number;
    fits = operand_fits p.product b.1.products (number n ∷ []) b.2;
  }

  pub sound_integer : (n : ℕ) (p : Place) (o : List Place) (ctx : Context) (t : Token) (before : List Token) → HasInteger n p o ctx before
      → Sound limits (before ++ t ∷ []) (m.after_integer n p o ctx t)
  sound_integer n p o ctx (mark sign.Over) before b = (
    b.0,
    b.1,
    b.2,
    ap (λ (ts : List Token). ts ++ mark sign.Over ∷ []) b.3
        ∙ append_assoc b.0 (number n ∷ []) (mark sign.Over ∷ []),
  )
  sound_integer n p o ctx t before b = sound_closed (plain.number (whole (pos n))) p o ctx t before (integer_closed n p o ctx before b) tt

  raised_solid : (x : Expr) (p : Place) (o : List Place) (ctx : Context) (k : ℕ) (before own : List Token)
      (b : Behind limits rule.power p o ctx (plain.power x k) before) → b.own ≡ own ++ mark sign.Power ∷ number k ∷ []
      → Reached limits (m.factored (plain.power x k) p o ctx) before
  raised_solid x p o ctx k before own b e = (
    ends.factored limits p o ctx (plain.power x k) before b,
    ends.factored_solid limits p o ctx (plain.power x k) before b (solid_any p.product b.own (λ last.
        ap (λ (ts : List Token). is_bare (last_of last ts)) e ∙ ap is_bare (last_both last own (mark sign.Power ∷ number k ∷ [])))),
  )

  -- an exponent and the second number of a fraction literal
  pub sound_exponent : (x : Expr) (p : Place) (o : List Place) (ctx : Context) (t : Token) (before : List Token)
      → Reached limits (m.exponent x p o ctx) before → Sound limits (before ++ t ∷ []) (m.at_exponent limits x p o ctx t)
  sound_exponent x p o ctx (number k) before b =
      sound_gate limits (is_exponent limits k) _ (m.factored (plain.power x k) p o ctx) (before ++ number k ∷ []) (λ fits.
      raised_solid x p o ctx k (before ++ number k ∷ []) b.1.own (record {
        front = b.1.front;
        own = b.1.own ++ mark sign.Power ∷ number k ∷ [];
        parts = ap (λ (ts : List Token). ts ++ number k ∷ []) (b.2 ∙ ap (λ (ts : List Token). ts ++ mark sign.Power ∷ []) b.1.parts) ∙ simp append_assoc;
        place = b.1.place;
        spelled = rule.raised fits b.1.spelled;
        fits = longer_fits limits p.product b.1.place.products p.depth b.1.own (mark sign.Power ∷ number k ∷ []) x b.1.spelled b.1.fits;
      }) refl)
  sound_exponent x p o ctx _ before b = tt

  -- a name
  named : (p : Place) (o : List Place) (ctx : Context) (x : Name) (before : List Token) → InPlace limits (Outside limits o ctx) p before
      → Reached limits (m.closed (plain.symbol x) p o ctx) (before ++ name x ∷ [])
  named p o ctx x before b = (
    record {
      front = before;
      own = name x ∷ [];
      parts = refl;
      place = b;
      spelled = rule.identifier;
      fits = others_fit p.product b.products (name x ∷ []) refl;
    },
    solid_any p.product (name x ∷ []) (λ last. refl),
  )

  dotted_named : (p : Place) (o : List Place) (ctx : Context) (x : Name) (before : List Token) → InPlace limits (Outside limits o ctx) p before
      → Reached limits (m.closed (plain.symbol x) p o ctx) (before ++ dotted x ∷ [])
  dotted_named p o ctx x before b = (
    record {
      front = before;
      own = dotted x ∷ [];
      parts = refl;
      place = b;
      spelled = rule.dotted_name;
      fits = others_fit p.product b.products (dotted x ∷ []) refl;
    },
    solid_any p.product (dotted x ∷ []) (λ last. refl),
  )

  -- a divisor
  pub sound_divisor : (p : Place) (o : List Place) (ctx : Context) (t : Token) (before : List Token) (b : InPlace limits (Outside limits o ctx) p before)
      → IfNumber t (Dividing p.product b.products) → Sound limits (before ++ t ∷ []) (m.at_divisor limits p o ctx t)
  sound_divisor p o ctx (mark sign.Open) before b h =
      sound_gate limits (has_room limits p.depth) _ (m.operand (m.fresh (suc p.depth)) (p ∷ o) ctx) (before ++ mark sign.Open ∷ []) (λ room.
      starts limits (Outside limits (p ∷ o) ctx) (suc p.depth) (before ++ mark sign.Open ∷ []) (before, b, room, refl, refl))
  sound_divisor p o ctx (number n) before b h = (
    record {
      front = before;
      own = number n ∷ [];
      parts = refl;
      place = b;
      spelled = rule.whole_number;
      fits = number_fits p.product b.products n h;
    },
    number_solid p.product b.products n h,
  )
  sound_divisor p o ctx (name x) before b h = named p o ctx x before b
  sound_divisor p o ctx (dotted x) before b h = dotted_named p o ctx x before b
  sound_divisor p o ctx _ before b h = tt

  pub after_over : (p : Place) (o : List Place) (ctx : Context) (t : Token) (before : List Token) → Reached limits (m.divisor p o ctx) before
      → Sound limits (before ++ t ∷ []) (m.at_divisor limits p o ctx t)
  after_over p o ctx (number n) before b = sound_divisor p o ctx (number n) before b.0 b.1
  after_over p o ctx t before b = sound_divisor p o ctx t before b.0 tt

  -- a number with `/` behind it that begins no literal
  below_divisor : (n : ℕ) (p : Place) (o : List Place) (ctx : Context) (before : List Token) → Reached limits (m.below n p o ctx) before
      → InPlace limits (Outside limits o ctx) (m.over (m.settled p (plain.number (whole (pos n)))) p) before
  below_divisor n p o ctx before b =
      let us : List Token = b.0 ++ number n ∷ [] in
      let c = one_power p o ctx (plain.number (whole (pos n))) us (integer_closed n p o ctx us (b.0, b.1, b.2, refl)) in
      subst (λ (ts : List Token). InPlace limits (Outside limits o ctx) (m.over (m.settled p (plain.number (whole (pos n)))) p) ts)
      (append_assoc b.0 (number n ∷ []) (mark sign.Over ∷ []) ∙ sym b.3)
      (over_term (m.settled p (plain.number (whole (pos n)))) (m.reset p) o ctx us (ends.factored limits p o ctx (plain.number (whole (pos n))) us c))

  pub sound_below : (n : ℕ) (p : Place) (o : List Place) (ctx : Context) (t : Token) (before : List Token) → Reached limits (m.below n p o ctx) before
      → Sound limits (before ++ t ∷ []) (m.at_below limits n p o ctx t)
  sound_below n p o ctx (number k) before b =
      sound_gate limits (is_below limits k) _ (m.factored (plain.number (lowest n k)) p o ctx) (before ++ number k ∷ []) (λ fits.
      let own : List Token = number n ∷ mark sign.Over ∷ number k ∷ [] in (
        ends.literal limits p o ctx (plain.number (lowest n k)) (before ++ number k ∷ []) b.0 own
            (ap (λ (ts : List Token). ts ++ number k ∷ []) b.3 ∙ append_assoc b.0 (number n ∷ mark sign.Over ∷ []) (number k ∷ []))
            b.1 b.2 (rule.fraction fits),
        ends.literal_solid limits p o ctx b.0 own b.1 (solid_any p.product own (λ last. refl)),
      ))
  sound_below n p o ctx t before b = sound_divisor (m.over (m.settled p (plain.number (whole (pos n)))) p) o ctx t before (below_divisor n p o ctx before b) tt

  -- an operand
  pub sound_operand : (p : Place) (o : List Place) (ctx : Context) (t : Token) (before : List Token) → Reached limits (m.operand p o ctx) before
      → Sound limits (before ++ t ∷ []) (m.at_operand limits p o ctx t)
  sound_operand p o ctx (mark sign.Minus) before (b, free) =
      sound_gate limits (has_room limits p.depth) _ (m.operand (m.opposed p) o ctx) (before ++ mark sign.Minus ∷ []) (λ room. (
        record {
          outside = b.outside;
          sums = b.sums;
          products = b.products;
          minuses = b.minuses ++ mark sign.Minus ∷ [];
          parts = ap (λ (ts : List Token). ts ++ mark sign.Minus ∷ []) b.parts ∙ simp append_assoc;
          around = b.around;
          in_sum = b.in_sum;
          in_product = b.in_product;
          signless = signless_operand p.product (suc p.minuses) free;
          in_signs = (p.depth, b.minuses, refl, room, b.in_signs, refl);
        },
        free,
      ))
  sound_operand p o ctx (mark sign.Open) before (b, free) =
      sound_gate limits (has_room limits p.depth) _ (m.operand (m.fresh (suc p.depth)) (p ∷ o) ctx) (before ++ mark sign.Open ∷ []) (λ room.
      starts limits (Outside limits (p ∷ o) ctx) (suc p.depth) (before ++ mark sign.Open ∷ []) (before, b, room, refl, refl))
  sound_operand p o ctx (number n) before (b, free) = (before, b, free, refl)
  sound_operand p o ctx (name x) before (b, free) = named p o ctx x before b
  sound_operand p o ctx (dotted x) before (b, free) = dotted_named p o ctx x before b
  sound_operand p o ctx _ before b = tt

  -- the beginning of a claim
  pub sound_want : (h : Heading) (q : ClaimPlace) (qs : List ClaimPlace) (t : Token) (before : List Token)
      → InClaimPlace limits (ClaimOutside limits h qs) q before → Sound limits (before ++ t ∷ []) (m.at_claim limits h q qs t)
  sound_want h q qs (keyword word.True) before b = record { front = before; own = keyword word.True ∷ []; parts = refl; place = b; spelled = rule.truth }
  sound_want h q qs (keyword word.False) before b = record {
    front = before;
    own = keyword word.False ∷ [];
    parts = refl;
    place = b;
    spelled =
        rule.falsehood;
  }
  sound_want h q qs (keyword word.Not) before b =
      sound_gate limits (has_room limits q.depth) _ (m.want_claim h (m.denied q) qs) (before ++ keyword word.Not ∷ []) (λ room. record {
        outside = b.outside;
        others = b.others;
        premises = b.premises;
        disjuncts = b.disjuncts;
        conjuncts = b.conjuncts;
        nots = b.nots ++ keyword word.Not ∷ [];
        parts = ap (λ (ts : List Token). ts ++ keyword word.Not ∷ []) b.parts ∙ simp append_assoc;
        around = b.around;
        in_iff = b.in_iff;
        in_implies = b.in_implies;
        in_or = b.in_or;
        in_and = b.in_and;
        in_signs = (q.depth, b.nots, refl, room, b.in_signs, refl);
      })
  sound_want h q qs (mark sign.OpenSquare) before b =
      sound_gate limits (has_room limits q.depth) _ (m.want_claim h (m.fresh_claim (suc q.depth)) (q ∷ qs)) (before ++ mark sign.OpenSquare ∷ []) (λ room.
      starts_claim limits (ClaimOutside limits h (q ∷ qs)) (suc q.depth) (before ++ mark sign.OpenSquare ∷ []) (before, b, room, refl, refl))
  sound_want h q qs t before b =
      sound_operand (m.fresh q.depth) [] (left_of_atom h q qs) t before (starts limits (Outside limits [] (left_of_atom h q qs)) q.depth before (refl, b))
