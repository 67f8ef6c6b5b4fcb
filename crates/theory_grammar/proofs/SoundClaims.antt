-- What the machine reads behind a claim and behind a whole expression is spelled.
use Rattle.std.proofs.Common.{◌≡◌, ℕ, suc, List, [], ◌∷◌, ◌++◌, Option, None, Some, refl, ap, subst, ◌∙◌, append_assoc}
use Rattle.std.proofs.lemmas.List.{append-nil}
use Rattle.theory_meaning.specs.declared.words.Rel.{Rel}
use Rattle.theory_meaning.specs.declared.words.Rel.TheVariants as rel
use Rattle.theory_meaning.specs.Point.{Name}
use Rattle.theory_meaning.specs.Tree.{Expr, Claim, Line}
use Rattle.theory_meaning.specs.Tree as plain
use Rattle.theory_grammar.specs.declared.words.Keyword.TheVariants as word
use Rattle.theory_grammar.specs.declared.words.Mark.TheVariants as sign
use Rattle.theory_grammar.specs.Token.{Token, keyword, name, mark, relation}
use Rattle.theory_grammar.specs.Spelled.{Limits, has_room, Last, bare, tight, loose, last_of, begins_with_number, may_divide, is_exponent, is_below, lowest, IsExpr, IsClaim, AreConjuncts, AreDisjuncts, IsLine}
use Rattle.theory_grammar.specs.Spelled as rule
use Rattle.theory_grammar.specs.Machine.{State, Left, alone, plus, minus, Product, leading, to_multiply, to_divide, Place, ClaimPlace, Heading, assumption, assertion, Context, left_of_equation, right_of_equation, left_of_atom, right_of_atom, Move, gate, step, ended}
use Rattle.theory_grammar.specs.Machine as m
use Rattle.theory_grammar.proofs.Reached.{is_bare, Others, Outside, BehindClaim, Reached}
use Rattle.theory_grammar.proofs.Ends as ends
use Rattle.theory_grammar.proofs.Ends.{BehindExpr, last_both}
use Rattle.theory_grammar.proofs.SoundPlaces.{others_fit, solid_any, Sound, starts, some_conjuncts, some_disjuncts}

module _ (limits : Limits) where
  -- a closed claim, and a second side of `iff`
  pub sound_close : (c : Claim) (h : Heading) (q : ClaimPlace) (qs : List ClaimPlace) (before : List Token) → BehindClaim limits h q qs c before
      → Sound limits (before ++ mark sign.CloseSquare ∷ []) (m.close_claim (m.whole_claim q c) h qs)
  sound_close c h q [] before b = tt
  sound_close c h q (q' ∷ qs) before b =
      let o = b.place.around in
      let e = ends.tokens limits h q (q' ∷ qs) c before b in
      let own : List Token = b.place.others ++ (b.place.premises ++ (b.place.disjuncts ++ (b.place.conjuncts ++ (b.place.nots ++ b.own)))) in
      let inside : IsClaim limits rule.claim (suc q'.depth) own (m.whole_claim q c) =
      subst (λ (d : ℕ). IsClaim limits rule.claim d own (m.whole_claim q c)) o.3 (ends.claim limits h q (q' ∷ qs) c before b) in
      record {
        front = o.0;
        own = mark sign.OpenSquare ∷ (own ++ mark sign.CloseSquare ∷ []);
        parts = ap (λ (ts : List Token). ts ++ mark sign.CloseSquare ∷ []) (e ∙ ap (λ (ts : List Token). ts ++ own) o.4) ∙ simp append_assoc;
        place = o.1;
        spelled = rule.bracketed o.2 inside;
      }

  pub sound_iff : (other : Option Claim) (st : State) (ts : List Token) → (other ≡ None → Reached limits st ts) → Sound limits ts (m.second_side other st)
  sound_iff None st ts h = h refl
  sound_iff (Some b) st ts h = tt

  -- what follows a claim
  pub sound_claim : (c : Claim) (h : Heading) (q : ClaimPlace) (qs : List ClaimPlace) (t : Token) (before : List Token)
      → BehindClaim limits h q qs c before → Sound limits (before ++ t ∷ []) (m.after_claim c h q qs t)
  sound_claim c h q qs (keyword word.And) before b =
      let own : List Token = b.place.conjuncts ++ (b.place.nots ++ b.own) in
      record {
        outside = b.place.outside;
        others = b.place.others;
        premises = b.place.premises;
        disjuncts = b.place.disjuncts;
        conjuncts = own ++ keyword word.And ∷ [];
        nots = [];
        parts = ap (λ (ts : List Token). ts ++ keyword word.And ∷ []) (ends.tokens limits h q qs c before b) ∙ simp (append_assoc, append-nil);
        around = b.place.around;
        in_iff = b.place.in_iff;
        in_implies = b.place.in_implies;
        in_or = b.place.in_or;
        in_and = some_conjuncts limits q.base own q.conjuncts (m.negations q.nots c) (ends.conjuncts limits h q qs c before b);
        in_signs = (refl, refl);
      }
  sound_claim c h q qs (keyword word.Or) before b =
      let own : List Token = b.place.disjuncts ++ (b.place.conjuncts ++ (b.place.nots ++ b.own)) in
      record {
        outside = b.place.outside;
        others = b.place.others;
        premises = b.place.premises;
        disjuncts = own ++ keyword word.Or ∷ [];
        conjuncts = [];
        nots = [];
        parts = ap (λ (ts : List Token). ts ++ keyword word.Or ∷ []) (ends.tokens limits h q qs c before b) ∙ simp (append_assoc, append-nil);
        around = b.place.around;
        in_iff = b.place.in_iff;
        in_implies = b.place.in_implies;
        in_or = some_disjuncts limits q.base own q.disjuncts (rule.conjunction_of (m.all_conjuncts q c)) (ends.disjuncts limits h q qs c before b);
        in_and = refl;
        in_signs = (refl, refl);
      }
  sound_claim c h q qs (keyword word.Implies) before b =
      let own : List Token = b.place.disjuncts ++ (b.place.conjuncts ++ (b.place.nots ++ b.own)) in
      record {
        outside = b.place.outside;
        others = b.place.others;
        premises = b.place.premises ++ (own ++ keyword word.Implies ∷ []);
        disjuncts = [];
        conjuncts = [];
        nots = [];
        parts = ap (λ (ts : List Token). ts ++ keyword word.Implies ∷ []) (ends.tokens limits h q qs c before b) ∙ simp (append_assoc, append-nil);
        around = b.place.around;
        in_iff = b.place.in_iff;
        in_implies = (b.place.premises, own, b.place.in_implies, ends.premise limits h q qs c before b, refl);
        in_or = refl;
        in_and = refl;
        in_signs = (refl, refl);
      }
  sound_claim c h q qs (keyword word.Iff) before b =
      sound_iff q.other (m.want_claim h (m.behind_iff q c) qs) (before ++ keyword word.Iff ∷ []) (λ none.
      let own : List Token = b.place.premises ++ (b.place.disjuncts ++ (b.place.conjuncts ++ (b.place.nots ++ b.own))) in
      let no_other : b.place.others ≡ [] = subst (λ (other : Option Claim). Others limits q.base other b.place.others) none b.place.in_iff in
      record {
        outside = b.place.outside;
        others = own ++ keyword word.Iff ∷ [];
        premises = [];
        disjuncts = [];
        conjuncts = [];
        nots = [];
        parts = ap (λ (ts : List Token). ts ++ keyword word.Iff ∷ []) (ends.tokens limits h q qs c before b
            ∙ ap (λ (ts : List Token). b.place.outside ++ (ts ++ own)) no_other) ∙ simp (append_assoc, append-nil);
        around = b.place.around;
        in_iff = (own, ends.side limits h q qs c before b, refl);
        in_implies = refl;
        in_or = refl;
        in_and = refl;
        in_signs = (refl, refl);
      })
  sound_claim c h q qs (mark sign.CloseSquare) before b = sound_close c h q qs before b
  sound_claim c h q qs _ before b = tt

  -- what follows a whole expression
  pub compared : (x y : Expr) (r : Rel) (h : Heading) (q : ClaimPlace) (qs : List ClaimPlace) (d : ℕ) (before : List Token)
      → BehindExpr limits d [] (right_of_atom x r h q qs) y before → BehindClaim limits h q qs (plain.atom x r y) before
  compared x y r h q qs d before b =
      let a = b.around in
      let right : IsExpr limits rule.sum q.depth b.own y = subst (λ (k : ℕ). IsExpr limits rule.sum k b.own y) a.2 b.spelled in
      record {
        front = a.0;
        own = a.1 ++ relation r ∷ b.own;
        parts = b.parts ∙ ap (λ (ts : List Token). ts ++ b.own) a.5 ∙ simp append_assoc;
        place = a.3;
        spelled = rule.atom a.4 right;
      }

  pub sound_sign : (label : Name) (x : Expr) (r : Rel) (d : ℕ) (before : List Token) → BehindExpr limits d [] (left_of_equation label) x before
      → Sound limits (before ++ relation r ∷ []) (m.equation_sign label x r)
  sound_sign label x rel.Eq d before b =
      let left : IsExpr limits rule.sum 0 b.own x = subst (λ (k : ℕ). IsExpr limits rule.sum k b.own x) b.around.0 b.spelled in
      let tokens : before ++ relation rel.Eq ∷ [] ≡ keyword word.Eq ∷ name label ∷ mark sign.Colon ∷ (b.own ++ relation rel.Eq ∷ []) =
      ap (λ (ts : List Token). ts ++ relation rel.Eq ∷ []) (b.parts ∙ ap (λ (ts : List Token). ts ++ b.own) b.around.1) in
      starts limits (Outside limits [] (right_of_equation label x)) 0 (before ++ relation rel.Eq ∷ []) (b.own, left, refl, tokens)
  sound_sign label x _ d before b = tt

  pub sound_expr : (x : Expr) (ctx : Context) (t : Token) (d : ℕ) (before : List Token) → BehindExpr limits d [] ctx x before
      → Sound limits (before ++ t ∷ []) (m.after_expr x ctx t)
  sound_expr x (left_of_equation label) (relation r) d before b = sound_sign label x r d before b
  sound_expr x (left_of_equation label) _ d before b = tt
  sound_expr y (right_of_equation label x) t d before b = tt
  sound_expr x (left_of_atom h q qs) (relation r) d before b =
      let left : IsExpr limits rule.sum q.depth b.own x = subst (λ (k : ℕ). IsExpr limits rule.sum k b.own x) b.around.0 b.spelled in
      starts limits (Outside limits [] (right_of_atom x r h q qs)) q.depth (before ++ relation r ∷ [])
      (b.front, b.own, refl, b.around.1, left, ap (λ (ts : List Token). ts ++ relation r ∷ []) b.parts ∙ append_assoc b.front b.own (relation r ∷ []))
  sound_expr x (left_of_atom h q qs) _ d before b = tt
  sound_expr y (right_of_atom x r h q qs) t d before b = sound_claim (plain.atom x r y) h q qs t before (compared x y r h q qs d before b)

  pub sound_close_expr : (x : Expr) (t : Token) (o : List Place) (ctx : Context) (d : ℕ) (before : List Token) → BehindExpr limits d o ctx x before
      → Sound limits (before ++ t ∷ []) (m.close_expr x t o ctx)
  sound_close_expr x t [] ctx d before b = sound_expr x ctx t d before b
  sound_close_expr x (mark sign.Close) (p ∷ o) ctx d before b =
      let inside : IsExpr limits rule.sum (suc p.depth) b.own x = subst (λ (k : ℕ). IsExpr limits rule.sum k b.own x) b.around.3 b.spelled in (
        record {
          front = b.around.0;
          own = mark sign.Open ∷ (b.own ++ mark sign.Close ∷ []);
          parts = ap (λ (ts : List Token). ts ++ mark sign.Close ∷ []) (b.parts ∙ ap (λ (ts : List Token). ts ++ b.own) b.around.4) ∙ simp append_assoc;
          place = b.around.1;
          spelled = rule.bracket b.around.2 inside;
          fits = others_fit p.product b.around.1.products _ refl;
        },
        solid_any p.product _ (λ last. ap is_bare (last_both (last_of last (mark sign.Open ∷ [])) b.own (mark sign.Close ∷ []))),
      )
  sound_close_expr x _ (p ∷ o) ctx d before b = tt
