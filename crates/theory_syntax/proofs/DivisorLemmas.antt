-- Divisors of two parts: none of them is 0, and there are some.
use Rattle.std.proofs.Common.{◌≡◌, ◌≢◌, ◌↔◌, ℕ, ◌+◌, ◌<◌, suc, IsTrue, length, get_or, drop, add-one, drop-cons, pos, Bool, true, false, not, ◌&&◌, List, [], ◌∷◌, ◌++◌, refl, sym, ap, ap₂, ◌∙◌, arith, rules, inr}
use Rattle.theory_meaning.specs.Divisors.{divisors_of_claim, divisors_of_claims}
use Rattle.theory_meaning.specs.Fraction.{Fraction, whole, same, IsSame}
use Rattle.theory_meaning.specs.Point.{Point}
use Rattle.theory_meaning.specs.Tree as plain
use Rattle.theory_meaning.specs.Tree.{Expr}
use Rattle.theory_meaning.specs.Truth.{value_of, are_nonzero, meets}
use Rattle.theory_meaning.specs.Wide.{SomeHasWidePart}
use Rattle.theory_meaning.proofs.OrderLaws.{same_itself, same_both}
use Rattle.theory_syntax.specs.declared.claim.Claim.{Claim}
use Rattle.theory_syntax.specs.Plain.{claim_of, members_of}

-- `and` is associative
and_assoc : (a b c : Bool) → (a && (b && c)) ≡ ((a && b) && c)
and_assoc true b c = refl
and_assoc false b c = refl

-- the value isn't 0
abbrev is_nonzero : Fraction → Bool
is_nonzero q = not (same q (whole (pos 0)))

-- none of two lists is 0 where none of each is
pub are_nonzero-append : (us vs : List Expr) (p : Point) → are_nonzero (us ++ vs) p ≡ (are_nonzero us p && are_nonzero vs p)
are_nonzero-append [] vs p = refl
are_nonzero-append (u ∷ us) vs p =
    ap (λ b. is_nonzero (value_of u p) && b) (are_nonzero-append us vs p)
    ∙ and_assoc (is_nonzero (value_of u p)) (are_nonzero us p) (are_nonzero vs p)

-- the tests of two parts are that of the whole
pub nonzero_of_parts : (us vs ws : List Expr) (p : Point) (a b : Bool) → us ++ vs ≡ ws → a ≡ are_nonzero us p → b ≡ are_nonzero vs p
    → (a && b) ≡ are_nonzero ws p
nonzero_of_parts us vs ws p a b whole_is left right =
    ap₂ (λ s t. s && t) left right ∙ sym (are_nonzero-append us vs p) ∙ ap (λ ds. are_nonzero ds p) whole_is

-- and with the divisor between them
pub nonzero_of_quotient : (us vs ws : List Expr) (v : Expr) (p : Point) (a t b : Bool) (f : Fraction) → us ++ v ∷ vs ≡ ws
    → a ≡ are_nonzero us p → t ≡ is_nonzero f → IsSame f (value_of v p) → b ≡ are_nonzero vs p → ((a && t) && b) ≡ are_nonzero ws p
nonzero_of_quotient us vs ws v p a t b f whole_is left tested equal right =
    let zero = whole (pos 0) in
    let test : t ≡ is_nonzero (value_of v p) = tested ∙ ap not (same_both f (value_of v p) zero zero equal (same_itself zero)) in
    sym (and_assoc a t b) ∙ nonzero_of_parts us (v ∷ vs) ws p a (t && b) whole_is left (ap₂ (λ s r. s && r) test right)

-- what was found so far and the rest decide the whole, and only the rest can still have a wide part
pub record IsLeftDefined (so_far : Bool) (rest whole : plain.Claims) (p : Point) : Type 0 where
  pub defined : (so_far && are_nonzero (divisors_of_claims rest) p) ≡ are_nonzero (divisors_of_claims whole) p
  pub wide : SomeHasWidePart rest p → SomeHasWidePart whole p

-- the members from one on
pub members_ahead : (cs : List Claim) (i : ℕ) (c : Claim) → i < length cs → c ≡ get_or cs i c
    → members_of (drop i cs) ≡ plain.more (claim_of c) (members_of (drop (i + 1) cs))
members_ahead cs i c within is =
    rw (add-one, drop-cons cs i c) (ap (λ (d : Claim). plain.more (claim_of d) (members_of (drop (suc i) cs))) (sym is))

-- one member on
pub left_defined : (so_far a : Bool) (c : plain.Claim) (rest whole : plain.Claims) (p : Point) → IsLeftDefined so_far (plain.more c rest) whole p
    → a ≡ are_nonzero (divisors_of_claim c) p → IsLeftDefined (so_far && a) rest whole p
left_defined so_far a c rest whole p left is =
    let both = nonzero_of_parts (divisors_of_claim c) (divisors_of_claims rest) (divisors_of_claims (plain.more c rest)) p
    a (are_nonzero (divisors_of_claims rest) p) refl is refl in
    record {
      defined = sym (and_assoc so_far a (are_nonzero (divisors_of_claims rest) p)) ∙ ap (λ b. so_far && b) both ∙ left.defined;
      wide = λ h. left.wide (inr h);
    }

-- whether the point meets the claims, by what was found so far and those that are left
pub record IsLeftMet (so_far : Bool) (rest whole : List plain.Claim) (p : Point) : Type 0 where
  pub met : (so_far && meets rest p) ≡ meets whole p
  pub wide : SomeHasWidePart (plain.claims_from rest) p → SomeHasWidePart (plain.claims_from whole) p
  pub narrow : SomeHasWidePart (plain.claims_from whole) p → SomeHasWidePart (plain.claims_from rest) p

-- the first part of an empty list is empty
left_of_none : (us vs : List Expr) → us ++ vs ≡ [] → us ≡ []
left_of_none [] vs e = refl
left_of_none (u ∷ us) vs e = absurd (grind (arith, e))

-- true is true
is_true : IsTrue true
is_true = search rules

-- where the first part has divisors, the whole does
pub divides_on_the_left : (us vs ws : List Expr) (t : Bool) → us ++ vs ≡ ws → IsTrue t → (IsTrue t ↔ (us ≢ [])) → (IsTrue t ↔ (ws ≢ []))
divides_on_the_left us vs ws t whole_is told found = (λ _ none. found.0 told (left_of_none us vs (whole_is ∙ none)), λ _. told)

-- where there is one in the middle, there are some
middle_is_there : (us vs : List Expr) (v : Expr) → us ++ v ∷ vs ≢ []
middle_is_there [] vs v e = absurd (grind (arith, e))
middle_is_there (u ∷ us) vs v e = absurd (grind (arith, e))

-- a quotient has a divisor
pub divides_itself : (us vs ws : List Expr) (v : Expr) → us ++ v ∷ vs ≡ ws → (IsTrue true ↔ (ws ≢ []))
divides_itself us vs ws v whole_is = (λ _ none. middle_is_there us vs v (whole_is ∙ none), λ _. is_true)

-- an empty list before a list changes nothing
none_before : (us vs : List Expr) → ¬ (us ≢ []) → us ++ vs ≡ vs
none_before [] vs h = refl
none_before (u ∷ us) vs h = absurd (h (λ e. grind (arith, e)))

-- a claim of the list from one on divides, so the list does
pub divides_from : (cs : List Claim) (i : ℕ) (c : Claim) (t : Bool) → i < length cs → c ≡ get_or cs i c
    → divisors_of_claims (members_of (drop i cs)) ≡ divisors_of_claims (members_of cs) → IsTrue t
    → (IsTrue t ↔ (divisors_of_claim (claim_of c) ≢ [])) → (IsTrue true ↔ (divisors_of_claims (members_of cs) ≢ []))
divides_from cs i c t within is left told found =
    let whole_is = sym (ap divisors_of_claims (members_ahead cs i c within is)) ∙ left in
    let some = divides_on_the_left (divisors_of_claim (claim_of c)) (divisors_of_claims (members_of (drop (i + 1) cs))) (divisors_of_claims (members_of cs)) t
    whole_is told found in
    (λ _. some.0 told, λ _. is_true)

-- and false isn't
not_true : (t : Bool) → t ≡ false → ¬ IsTrue t
not_true t e told = absurd (grind (arith, e, told))

-- it doesn't, so all divisors are those of the rest
pub left_undivided : (cs : List Claim) (i : ℕ) (c : Claim) (t : Bool) → i < length cs → c ≡ get_or cs i c
    → divisors_of_claims (members_of (drop i cs)) ≡ divisors_of_claims (members_of cs) → t ≡ false
    → (IsTrue t ↔ (divisors_of_claim (claim_of c) ≢ [])) → divisors_of_claims (members_of (drop (i + 1) cs)) ≡ divisors_of_claims (members_of cs)
left_undivided cs i c t within is left untold found =
    let rest = divisors_of_claims (members_of (drop (i + 1) cs)) in
    sym (none_before (divisors_of_claim (claim_of c)) rest (λ some. not_true t untold (found.1 some)))
    ∙ sym (ap divisors_of_claims (members_ahead cs i c within is)) ∙ left
