-- Names among listed ones, points that agree on them, and claims that hold them alone.
use Rattle.std.proofs.Common.{◌≡◌, ◌⊎◌, zero, suc, ◌<◌, length, List, [], ◌∷◌, ◌++◌, sym, subst, arith, inl, inr}
use Rattle.std.specs.Prelude.{Contains}
use Rattle.std.proofs.lemmas.List.Elements.{Contains-append_cases, Contains-append_right, Contains-push_cases, Contains-get_or}
use Rattle.theory_meaning.specs.Declarations.{symbols_of_expr, symbols_of_claim, symbols_of_claims}
use Rattle.theory_meaning.specs.Fraction.{IsSame}
use Rattle.theory_meaning.specs.Point.{Name, Point, value_at}
use Rattle.theory_meaning.specs.Region.{AreAmong, HoldsOnly, AgreeOn}
use Rattle.theory_meaning.specs.Tree.{Expr, number, symbol, sum, difference, opposite, product, power, quotient, Claim, Claims, always, never, atom, negation, conjunction, disjunction, implication, equivalence, none, more}
use Rattle.theory_lowering.specs.Lowered.{place_of}
use Rattle.theory_lowering.specs.LoweringLimits.{IsListedExpr, IsListedClaim, AreListedClaims}
use Rattle.theory_decision.proofs.ConditionNames.{name_at, own_place, later_place}

-- each of the names has a place
abbrev pub AreListedNames : List Name → List Name → Type 0
AreListedNames ns [] = Unit {0}
AreListedNames ns (n ∷ on) = (place_of n ns < length ns) × AreListedNames ns on

-- the points give the same values, name by name
abbrev pub AgreeAt : List Name → Point → Point → Type 0
AgreeAt [] p q = Unit {0}
AgreeAt (n ∷ on) p q = IsSame (value_at p n) (value_at q n) × AgreeAt on p q

first_of_list : (x : Name) (ns : List Name) → Contains (x ∷ ns) x
first_of_list x ns = Contains-get_or (x ∷ ns) zero x (omega arith)

first_or_later : (x y : Name) (ns : List Name) → Contains (y ∷ ns) x → (y ≡ x) ⊎ Contains ns x
first_or_later x y ns i =
    elim (Contains-append_cases (y ∷ []) ns x i) [
      | inl k ↦ elim (Contains-push_cases [] y x k) [ inl n ↦ absurd (let m = n.1 in omega arith) | inr same ↦ inl same ]
      | inr k ↦ inr k
    ]

-- a name of the list has a place in it, and one that has a place is of the list
place_in : (x : Name) (ns : List Name) → Contains ns x → place_of x ns < length ns
place_in x [] h = absurd (let l = h.1 in omega arith)
place_in x (y ∷ ns) h =
    elim (first_or_later x y ns h) [
      | inl same ↦ subst (λ (z : Name). place_of x (z ∷ ns) < suc (length ns)) (sym same) (own_place x ns)
      | inr later ↦ later_place x y ns (place_in x ns later)
    ]

name_in : (x : Name) (ns : List Name) → place_of x ns < length ns → Contains ns x
name_in x ns l = subst (Contains ns) (name_at x ns l) (Contains-get_or ns (place_of x ns) [] l)

pub places_of_names : (ns on : List Name) → AreAmong on ns → AreListedNames ns on
places_of_names ns [] h = tt
places_of_names ns (n ∷ on) h = (
  place_in n ns (h n (first_of_list n on)),
  places_of_names ns on (λ x i. h x (Contains-append_right (n ∷ []) on x i)),
)

-- agreement name by name
pub agree_at : (on : List Name) (p q : Point) → AgreeOn on p q → AgreeAt on p q
agree_at [] p q h = tt
agree_at (n ∷ on) p q h = (h n (first_of_list n on), agree_at on p q (λ x i. h x (Contains-append_right (n ∷ []) on x i)))

pub agree_on : (on : List Name) (p q : Point) → AgreeAt on p q → AgreeOn on p q
agree_on [] p q h x i = absurd (let l = i.1 in omega arith)
agree_on (n ∷ on) p q h x i =
    elim (first_or_later x n on i) [
      | inl same ↦ subst (λ (z : Name). IsSame (value_at p z) (value_at q z)) same h.0
      | inr later ↦ agree_on on p q h.1 x later
    ]

-- what is listed holds these names alone
module _ (ns : List Name) where
  both_among : (some others : List Name) → AreAmong some ns → AreAmong others ns → AreAmong (some ++ others) ns
  both_among some others h k x i =
      elim (Contains-append_cases some others x i) [ inl early ↦ h x early | inr late ↦ k x late ]

  none_among : AreAmong [] ns
  none_among x i = absurd (let l = i.1 in omega arith)

  expr_among : (u : Expr) → IsListedExpr ns u → AreAmong (symbols_of_expr u) ns
  expr_among (number q) h = none_among
  expr_among (symbol y) h = λ x i.
      elim (first_or_later x y [] i) [
        | inl same ↦ subst (Contains ns) same (name_in y ns h)
        | inr later ↦ none_among x later
      ]
  expr_among (sum u v) h = both_among (symbols_of_expr u) (symbols_of_expr v) (expr_among u h.0) (expr_among v h.1)
  expr_among (difference u v) h = both_among (symbols_of_expr u) (symbols_of_expr v) (expr_among u h.0) (expr_among v h.1)
  expr_among (opposite u) h = expr_among u h
  expr_among (product u v) h = both_among (symbols_of_expr u) (symbols_of_expr v) (expr_among u h.0) (expr_among v h.1)
  expr_among (power u k) h = expr_among u h
  expr_among (quotient u v) h = both_among (symbols_of_expr u) (symbols_of_expr v) (expr_among u h.0) (expr_among v h.1)

  mutual
    pub claim_among : (c : Claim) → IsListedClaim ns c → HoldsOnly ns c
    claim_among always h = none_among
    claim_among never h = none_among
    claim_among (atom u rel v) h = both_among (symbols_of_expr u) (symbols_of_expr v) (expr_among u h.0) (expr_among v h.1)
    claim_among (negation c) h = claim_among c h
    claim_among (conjunction cs) h = claims_among cs h
    claim_among (disjunction cs) h = claims_among cs h
    claim_among (implication a b) h = both_among (symbols_of_claim a) (symbols_of_claim b) (claim_among a h.0) (claim_among b h.1)
    claim_among (equivalence a b) h = both_among (symbols_of_claim a) (symbols_of_claim b) (claim_among a h.0) (claim_among b h.1)

    claims_among : (cs : Claims) → AreListedClaims ns cs → AreAmong (symbols_of_claims cs) ns
    claims_among none h = none_among
    claims_among (more c cs) h = both_among (symbols_of_claim c) (symbols_of_claims cs) (claim_among c h.0) (claims_among cs h.1)
