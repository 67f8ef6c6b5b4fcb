-- Places that just begin, and what may stand as a divisor: what the machine reads there is spelled.
use Rattle.std.proofs.Common.{◌≡◌, ℕ, Bool, true, false, List, [], ◌∷◌, ◌++◌, IsTrue, refl, sym, ap, subst}
use Rattle.std.specs.Prelude.{not}
use Rattle.std.proofs.lemmas.List.{append-nil, append_cancel_right}
use Rattle.theory_meaning.specs.Point.{Name}
use Rattle.theory_meaning.specs.Tree.{Expr, Claim}
use Rattle.theory_grammar.specs.declared.words.Keyword.TheVariants as word
use Rattle.theory_grammar.specs.declared.words.Mark.TheVariants as sign
use Rattle.theory_grammar.specs.declared.words.LineFaultKind.{LineFaultKind}
use Rattle.theory_grammar.specs.Token.{Token, keyword, name, dotted, number, mark, relation, stray}
use Rattle.theory_grammar.specs.Spelled.{Limits, has_room, Last, bare, tight, loose, last_of, begins_with_number, may_divide, is_exponent, is_below, lowest, IsExpr, IsClaim, AreConjuncts, AreDisjuncts, IsLine}
use Rattle.theory_grammar.specs.Spelled as rule
use Rattle.theory_grammar.specs.Machine.{State, Left, alone, plus, minus, Product, leading, to_multiply, to_divide, Place, ClaimPlace, Heading, assumption, assertion, Context, left_of_equation, right_of_equation, left_of_atom, right_of_atom, Move, gate, step, ended}
use Rattle.theory_grammar.specs.Machine as m
use Rattle.theory_grammar.proofs.Following.{Goes}
use Rattle.theory_grammar.proofs.Reached.{is_bare, NoDivisor, Signless, Dividing, Fits, Solid, InPlace, Disjuncts, Conjuncts, InClaimPlace, Heads, ClaimOutside, Reached}

-- what isn't bare goes before every divisor, and what begins with no number goes behind everything
pub divides : (last : Last) (us : List Token) → is_bare last ≡ false → IsTrue (may_divide last us)
divides bare us h = absurd cc
divides tight us h = refl
divides loose us h = refl

pub no_number : (last : Last) (us : List Token) → begins_with_number us ≡ false → IsTrue (may_divide last us)
no_number bare us h = ap not h
no_number tight us h = refl
no_number loose us h = refl

pub others_fit : (f : Product) (ts us : List Token) → begins_with_number us ≡ false → Fits f ts us
others_fit leading ts us h = tt
others_fit (to_multiply x) ts us h = tt
others_fit (to_divide x) ts us h = λ vs e. no_number (last_of loose vs) us h

pub operand_fits : (f : Product) (ts us : List Token) → NoDivisor f → Fits f ts us
operand_fits leading ts us h = tt
operand_fits (to_multiply x) ts us h = tt
operand_fits (to_divide x) ts us h = elim h [ ]

pub number_fits : (f : Product) (ts : List Token) (n : ℕ) → Dividing f ts → Fits f ts (number n ∷ [])
number_fits leading ts n h = tt
number_fits (to_multiply x) ts n h = tt
number_fits (to_divide x) ts n h = λ vs e. divides (last_of loose vs) (number n ∷ []) (h vs e)

pub number_solid : (f : Product) (ts : List Token) (n : ℕ) → Dividing f ts → Solid f (number n ∷ [])
number_solid leading ts n h = elim h [ ]
number_solid (to_multiply x) ts n h = elim h [ ]
number_solid (to_divide x) ts n h = refl

pub solid_any : (f : Product) (us : List Token) → ((last : Last) → is_bare (last_of last us) ≡ false) → Solid f us
solid_any leading us h = h
solid_any (to_multiply x) us h = h
solid_any (to_divide x) us h = h tight

pub signless_operand : (f : Product) (n : ℕ) → NoDivisor f → Signless f n
signless_operand leading n h = tt
signless_operand (to_multiply x) n h = tt
signless_operand (to_divide x) n h = elim h [ ]

-- what stands before a `/` is what was read
pub dividing : (us : List Token) → is_bare (last_of loose us) ≡ false → (vs : List Token) → us ++ mark sign.Over ∷ [] ≡ vs ++ mark sign.Over ∷ []
    → is_bare (last_of loose vs) ≡ false
dividing us h vs e = subst (λ (ts : List Token). is_bare (last_of loose ts) ≡ false) (append_cancel_right us vs (mark sign.Over ∷ []) e) h

module _ (limits : Limits) where
  pub longer : (last : Last) (d : ℕ) (us more : List Token) (x : Expr) → IsExpr limits rule.primary d us x → IsTrue (may_divide last us)
      → IsTrue (may_divide last (us ++ more))
  longer tight d us more x k h = refl
  longer loose d us more x k h = refl
  longer bare d us more x rule.whole_number h = h
  longer bare d us more x rule.identifier h = h
  longer bare d us more x rule.dotted_name h = h
  longer bare d us more x (rule.bracket room k) h = h

  pub longer_fits : (f : Product) (ts : List Token) (d : ℕ) (us more : List Token) (x : Expr) → IsExpr limits rule.primary d us x → Fits f ts us
      → Fits f ts (us ++ more)
  longer_fits leading ts d us more x k h = tt
  longer_fits (to_multiply y) ts d us more x k h = tt
  longer_fits (to_divide y) ts d us more x k h = λ vs e. longer (last_of loose vs) d us more x k (h vs e)

  abbrev pub Sound : List Token → Move → Type 0
  Sound = Goes (Reached limits)

  -- nothing stands in a place that is just opened
  pub starts : (Out : ℕ → List Token → Type 0) (d : ℕ) (ts : List Token) → Out d ts → InPlace limits Out (m.fresh d) ts × Unit {0}
  starts Out d ts h = (
    record {
      outside = ts;
      sums = [];
      products = [];
      minuses = [];
      parts = sym (append-nil ts);
      around = h;
      in_sum = refl;
      in_product = refl;
      signless = tt;
      in_signs = (refl, refl);
    },
    tt,
  )

  pub starts_claim : (Out : ℕ → List Token → Type 0) (d : ℕ) (ts : List Token) → Out d ts → InClaimPlace limits Out (m.fresh_claim d) ts
  starts_claim Out d ts h = record {
    outside = ts;
    others = [];
    premises = [];
    disjuncts = [];
    conjuncts = [];
    nots = [];
    parts = sym (append-nil ts);
    around = h;
    in_iff = refl;
    in_implies = refl;
    in_or = refl;
    in_and = refl;
    in_signs = (refl, refl);
  }

  pub sound_gate : (b : Bool) (kind : LineFaultKind) (st : State) (ts : List Token) → (IsTrue b → Reached limits st ts) → Sound ts (gate b kind st)
  sound_gate true kind st ts h = h refl
  sound_gate false kind st ts h = tt

  pub sound_name : (next : Name → State) (t : Token) (before : List Token) → ((x : Name) → Reached limits (next x) (before ++ name x ∷ []))
      → Sound (before ++ t ∷ []) (m.at_name next t)
  sound_name next (name x) before h = h x
  sound_name next (keyword k) before h = tt
  sound_name next (dotted x) before h = tt
  sound_name next (number n) before h = tt
  sound_name next (mark s) before h = tt
  sound_name next (relation r) before h = tt
  sound_name next stray before h = tt

  pub sound_colon : (next : State) (t : Token) (before : List Token) → Reached limits next (before ++ mark sign.Colon ∷ [])
      → Sound (before ++ t ∷ []) (m.at_colon next t)
  sound_colon next (mark sign.Colon) before h = h
  sound_colon next _ before h = tt

  pub heads_claim : (h : Heading) (ts : List Token) → Heads limits h ts → Reached limits (m.claim_of_line h) ts
  heads_claim h ts e = starts_claim (ClaimOutside limits h []) 0 ts (refl, e)

  pub some_conjuncts : (d : ℕ) (ts : List Token) (cs : List Claim) (c : Claim) → AreConjuncts limits d ts (cs ++ c ∷ [])
      → Conjuncts limits d (cs ++ c ∷ []) (ts ++ keyword word.And ∷ [])
  some_conjuncts d ts [] c h = (ts, h, refl)
  some_conjuncts d ts (b ∷ bs) c h = (ts, h, refl)

  pub some_disjuncts : (d : ℕ) (ts : List Token) (cs : List Claim) (c : Claim) → AreDisjuncts limits d ts (cs ++ c ∷ [])
      → Disjuncts limits d (cs ++ c ∷ []) (ts ++ keyword word.Or ∷ [])
  some_disjuncts d ts [] c h = (ts, h, refl)
  some_disjuncts d ts (b ∷ bs) c h = (ts, h, refl)
