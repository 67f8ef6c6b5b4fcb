-- What sets of signs that are put together, and facts, say of the truth of a condition.
use Rattle.std.proofs.Common.{◌≡◌, Bool, true, false, not, None, Some, refl, sym, ap, ◌∙◌}
use Rattle.std.specs.Prelude.{◌&&◌, ◌||◌, MatchOption}
use Rattle.theory_meaning.specs.declared.words.Sign.{Sign}
use Rattle.theory_meaning.specs.declared.words.Sign.TheVariants.{Minus, Zero, Plus}
use Rattle.theory_formula.specs.declared.signs.Signs.{Signs}
use Rattle.theory_formula.specs.declared.signs.Signs.TheVariants as set
use Rattle.theory_formula.specs.Signs.{has, set_of}
use Rattle.theory_elimination.specs.Simplified.{put_together}

-- all or some of two truths
abbrev pub combined : Bool → Bool → Bool → Bool
combined true a b = a && b
combined false a b = a || b

-- the sign is in the set with these members
abbrev pub picked : Bool → Bool → Bool → Sign → Bool
picked a b c Minus = a
picked a b c Zero = b
picked a b c Plus = c

-- a set has the signs that it was made of
pub made_of : (a b c : Bool) (R : Signs) (s : Sign) → set_of a b c ≡ Some R → has R s ≡ picked a b c s
made_of true false false R Minus e = let same : set.Neg ≡ R = cc in ap (λ (S : Signs). has S Minus) (sym same)
made_of true false false R Zero e = let same : set.Neg ≡ R = cc in ap (λ (S : Signs). has S Zero) (sym same)
made_of true false false R Plus e = let same : set.Neg ≡ R = cc in ap (λ (S : Signs). has S Plus) (sym same)
made_of false true false R Minus e = let same : set.Zero ≡ R = cc in ap (λ (S : Signs). has S Minus) (sym same)
made_of false true false R Zero e = let same : set.Zero ≡ R = cc in ap (λ (S : Signs). has S Zero) (sym same)
made_of false true false R Plus e = let same : set.Zero ≡ R = cc in ap (λ (S : Signs). has S Plus) (sym same)
made_of false false true R Minus e = let same : set.Pos ≡ R = cc in ap (λ (S : Signs). has S Minus) (sym same)
made_of false false true R Zero e = let same : set.Pos ≡ R = cc in ap (λ (S : Signs). has S Zero) (sym same)
made_of false false true R Plus e = let same : set.Pos ≡ R = cc in ap (λ (S : Signs). has S Plus) (sym same)
made_of true true false R Minus e = let same : set.NotPos ≡ R = cc in ap (λ (S : Signs). has S Minus) (sym same)
made_of true true false R Zero e = let same : set.NotPos ≡ R = cc in ap (λ (S : Signs). has S Zero) (sym same)
made_of true true false R Plus e = let same : set.NotPos ≡ R = cc in ap (λ (S : Signs). has S Plus) (sym same)
made_of true false true R Minus e = let same : set.NonZero ≡ R = cc in ap (λ (S : Signs). has S Minus) (sym same)
made_of true false true R Zero e = let same : set.NonZero ≡ R = cc in ap (λ (S : Signs). has S Zero) (sym same)
made_of true false true R Plus e = let same : set.NonZero ≡ R = cc in ap (λ (S : Signs). has S Plus) (sym same)
made_of false true true R Minus e = let same : set.NotNeg ≡ R = cc in ap (λ (S : Signs). has S Minus) (sym same)
made_of false true true R Zero e = let same : set.NotNeg ≡ R = cc in ap (λ (S : Signs). has S Zero) (sym same)
made_of false true true R Plus e = let same : set.NotNeg ≡ R = cc in ap (λ (S : Signs). has S Plus) (sym same)
made_of true true true R s e = absurd cc
made_of false false false R s e = absurd cc

-- where there is no such set, each sign is in it or none is
pub none_made : (a b c : Bool) (s t : Sign) → set_of a b c ≡ None → picked a b c s ≡ picked a b c t
none_made true true true Minus Minus e = refl
none_made true true true Minus Zero e = refl
none_made true true true Minus Plus e = refl
none_made true true true Zero Minus e = refl
none_made true true true Zero Zero e = refl
none_made true true true Zero Plus e = refl
none_made true true true Plus Minus e = refl
none_made true true true Plus Zero e = refl
none_made true true true Plus Plus e = refl
none_made false false false Minus Minus e = refl
none_made false false false Minus Zero e = refl
none_made false false false Minus Plus e = refl
none_made false false false Zero Minus e = refl
none_made false false false Zero Zero e = refl
none_made false false false Zero Plus e = refl
none_made false false false Plus Minus e = refl
none_made false false false Plus Zero e = refl
none_made false false false Plus Plus e = refl
none_made true true false s t e = absurd cc
none_made true false true s t e = absurd cc
none_made true false false s t e = absurd cc
none_made false true true s t e = absurd cc
none_made false true false s t e = absurd cc
none_made false false true s t e = absurd cc

-- some sign is in a set, and some isn't
a_sign_out : (T : Signs) → (s : Sign) × (has T s ≡ false)
a_sign_out set.Neg = (Zero, refl)
a_sign_out set.Zero = (Minus, refl)
a_sign_out set.Pos = (Minus, refl)
a_sign_out set.NotPos = (Plus, refl)
a_sign_out set.NonZero = (Zero, refl)
a_sign_out set.NotNeg = (Minus, refl)

a_sign_in : (T : Signs) → (s : Sign) × (has T s ≡ true)
a_sign_in set.Neg = (Minus, refl)
a_sign_in set.Zero = (Zero, refl)
a_sign_in set.Pos = (Plus, refl)
a_sign_in set.NotPos = (Minus, refl)
a_sign_in set.NonZero = (Minus, refl)
a_sign_in set.NotNeg = (Zero, refl)

picks : (f : Sign → Bool) (s : Sign) → picked (f Minus) (f Zero) (f Plus) s ≡ f s
picks f Minus = refl
picks f Zero = refl
picks f Plus = refl

-- the members of what is put together
abbrev members : Bool → Signs → Signs → Sign → Bool
members all T S s = combined all (has T s) (has S s)

is_set_of : (all : Bool) (T S : Signs) → put_together all T S ≡ set_of (members all T S Minus) (members all T S Zero) (members all T S Plus)
is_set_of true T S = refl
is_set_of false T S = refl

one_out : (all : Bool) (T S : Signs) → (s : Sign) × (members all T S s ≡ not all)
one_out true T S = let o = a_sign_out T in (o.0, ap (λ (b : Bool). b && has S o.0) o.1)
one_out false T S = let o = a_sign_in T in (o.0, ap (λ (b : Bool). b || has S o.0) o.1)

-- a set that is put together of two has the sign where both or either have it, and where there is none that is decided
pub put_together_has : (all : Bool) (T S : Signs) (s : Sign) → MatchOption (put_together all T S) (combined all (has T s) (has S s) ≡ not all)
    (λ R. has R s ≡ combined all (has T s) (has S s))
put_together_has all T S s =
    elim (put_together all T S) as (λ m. put_together all T S ≡ m → MatchOption m (combined all (has T s) (has S s) ≡ not all)
    (λ R. has R s ≡ combined all (has T s) (has S s))) [
      | None ↦ λ e.
          let o = one_out all T S in
          sym (picks (members all T S) s) ∙ none_made (members all T S Minus) (members all T S Zero) (members all T S Plus) s o.0 (sym (is_set_of all T S) ∙ e)
          ∙ picks (members all T S) o.0 ∙ o.1
      | Some R ↦ λ e. made_of (members all T S Minus) (members all T S Zero) (members all T S Plus) R s (sym (is_set_of all T S) ∙ e)
          ∙ picks (members all T S) s
    ] refl
