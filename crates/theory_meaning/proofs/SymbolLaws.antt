-- Values and truth read the symbols that occur, and nothing is met where a divisor is 0.
use Rattle.std.proofs.Common.{◌≡◌, ◌<◌, pos, arith, subst, Bool, true, false, not, ◌&&◌, ◌||◌, List, [], ◌∷◌, ◌++◌, refl, sym, ap, ap₂, ◌∙◌, ◌⊎◌, inl, inr, ⊎_elim}
use Rattle.std.specs.List.{Contains}
use Rattle.std.proofs.lemmas.List.Elements.{Contains-append_left, Contains-append_right, Contains-append_cases, Contains-push_cases}
use Rattle.std.specs.Bool.{beq}
use Rattle.std.proofs.lemmas.Bool.{and_parts, both_ways}
use Rattle.theory_meaning.specs.declared.words.Rel.{Rel}
use Rattle.theory_meaning.specs.declared.words.Rel.TheVariants.{Eq, Ne, Lt, Le, Gt, Ge}
use Rattle.theory_meaning.specs.Divisors.{divisors_of_claim}
use Rattle.theory_meaning.specs.Declarations.{symbols_of_expr, symbols_of_claim, symbols_of_claims}
use Rattle.theory_meaning.specs.Fraction.{Fraction, whole, same, IsSame}
use Rattle.theory_meaning.specs.Point.{Name, Point, value_at}
use Rattle.theory_meaning.specs.Tree.{Expr, number, symbol, sum, difference, opposite, product, power, quotient, Claim, Claims, always, never, atom, negation, conjunction, disjunction, implication, equivalence, none, more}
use Rattle.theory_meaning.specs.Truth.{holds, value_of, truth_of, all_of, some_of, are_nonzero, stands, Meets}
use Rattle.theory_meaning.proofs.OrderLaws.{same_itself, same_both, below_both, same_from_fact}
use Rattle.theory_meaning.proofs.ValueLaws.{sum_respects, difference_respects, opposite_respects, product_respects, power_respects, quotient_respects}

-- the points give the same values to the names of the list
abbrev Agree : Point → Point → List Name → Type 0
Agree p q names = (x : Name) → Contains names x → IsSame (value_at p x) (value_at q x)

front : (p q : Point) (xs ys : List Name) → Agree p q (xs ++ ys) → Agree p q xs
front p q xs ys h x k = h x (Contains-append_left xs ys x k)

behind : (p q : Point) (xs ys : List Name) → Agree p q (xs ++ ys) → Agree p q ys
behind p q xs ys h x k = h x (Contains-append_right xs ys x k)

-- the value of an expression reads its symbols
value : (e : Expr) (p q : Point) → Agree p q (symbols_of_expr e) → IsSame (value_of e p) (value_of e q)
value (number r) p q h = same_itself r
value (symbol x) p q h = h x (0, grind arith, refl)
value (sum u v) p q h =
    sum_respects (value_of u p) (value_of u q) (value_of v p) (value_of v q)
    (value u p q (front p q (symbols_of_expr u) (symbols_of_expr v) h)) (value v p q (behind p q (symbols_of_expr u) (symbols_of_expr v) h))
value (difference u v) p q h =
    difference_respects (value_of u p) (value_of u q) (value_of v p) (value_of v q)
    (value u p q (front p q (symbols_of_expr u) (symbols_of_expr v) h)) (value v p q (behind p q (symbols_of_expr u) (symbols_of_expr v) h))
value (opposite u) p q h = opposite_respects (value_of u p) (value_of u q) (value u p q h)
value (product u v) p q h =
    product_respects (value_of u p) (value_of u q) (value_of v p) (value_of v q)
    (value u p q (front p q (symbols_of_expr u) (symbols_of_expr v) h)) (value v p q (behind p q (symbols_of_expr u) (symbols_of_expr v) h))
value (power u k) p q h = power_respects (value_of u p) (value_of u q) k (value u p q h)
value (quotient u v) p q h =
    quotient_respects (value_of u p) (value_of u q) (value_of v p) (value_of v q)
    (value u p q (front p q (symbols_of_expr u) (symbols_of_expr v) h)) (value v p q (behind p q (symbols_of_expr u) (symbols_of_expr v) h))

-- a relation reads the numbers
relation : (rel : Rel) (a b c d : Fraction) → IsSame a b → IsSame c d → holds rel a c ≡ holds rel b d
relation Eq a b c d h k = same_both a b c d h k
relation Ne a b c d h k = ap not (same_both a b c d h k)
relation Lt a b c d h k = below_both a b c d h k
relation Le a b c d h k = ap not (below_both c d a b k h)
relation Gt a b c d h k = below_both c d a b k h
relation Ge a b c d h k = ap not (below_both a b c d h k)

-- the truth of a claim reads its symbols
mutual
  pub truth : (c : Claim) (p q : Point) → Agree p q (symbols_of_claim c) → truth_of c p ≡ truth_of c q
  truth always p q h = refl
  truth never p q h = refl
  truth (atom u rel v) p q h =
      relation rel (value_of u p) (value_of u q) (value_of v p) (value_of v q)
      (value u p q (front p q (symbols_of_expr u) (symbols_of_expr v) h)) (value v p q (behind p q (symbols_of_expr u) (symbols_of_expr v) h))
  truth (negation c) p q h = ap not (truth c p q h)
  truth (conjunction cs) p q h = (truths cs p q h).0
  truth (disjunction cs) p q h = (truths cs p q h).1
  truth (implication a b) p q h =
      ap₂ (λ (s t : Bool). not s || t) (truth a p q (front p q (symbols_of_claim a) (symbols_of_claim b) h))
      (truth b p q (behind p q (symbols_of_claim a) (symbols_of_claim b) h))
  truth (equivalence a b) p q h =
      ap₂ beq (truth a p q (front p q (symbols_of_claim a) (symbols_of_claim b) h))
      (truth b p q (behind p q (symbols_of_claim a) (symbols_of_claim b) h))

  truths : (cs : Claims) (p q : Point) → Agree p q (symbols_of_claims cs) → (all_of cs p ≡ all_of cs q) × (some_of cs p ≡ some_of cs q)
  truths none p q h = (refl, refl)
  truths (more c cs) p q h =
      let first = truth c p q (front p q (symbols_of_claim c) (symbols_of_claims cs) h) in
      let rest = truths cs p q (behind p q (symbols_of_claim c) (symbols_of_claims cs) h) in
      (ap₂ ◌&&◌ first rest.0, ap₂ ◌||◌ first rest.1)

and_false : (t : Bool) → (t && false) ≡ false
and_false true = refl
and_false false = refl

-- the first of a list or a later one
first_or_later : (w : Expr) (ws : List Expr) (v : Expr) → Contains (w ∷ ws) v → (v ≡ w) ⊎ Contains ws v
first_or_later w ws v h = ⊎_elim (λ k. inl (sym (only w v k))) inr (Contains-append_cases (w ∷ []) ws v h)
  where
    only : (w v : Expr) → Contains (w ∷ []) v → w ≡ v
    only w v k = ⊎_elim (λ n. absurd (let less : n.0 < 0 = n.1 in omega (arith, less))) (λ e. e) (Contains-push_cases [] w v k)

-- where one of the expressions is 0, not all are different from 0
zero_among : (vs : List Expr) (v : Expr) (p : Point) → Contains vs v → IsSame (value_of v p) (whole (pos 0)) → are_nonzero vs p ≡ false
zero_among [] v p h e = absurd (let less : h.0 < 0 = h.1 in omega (arith, less))
zero_among (w ∷ ws) v p h e =
    ⊎_elim (λ first. first_zero (subst (λ x. same (value_of x p) (whole (pos 0)) ≡ true) first (same_from_fact (value_of v p) (whole (pos 0)) e)))
    (λ later. later_zero (zero_among ws v p later e)) (first_or_later w ws v h)
  where
    first_zero : same (value_of w p) (whole (pos 0)) ≡ true → are_nonzero (w ∷ ws) p ≡ false
    first_zero k = ap (λ (t : Bool). not t && are_nonzero ws p) k

    later_zero : are_nonzero ws p ≡ false → are_nonzero (w ∷ ws) p ≡ false
    later_zero k = ap (λ (t : Bool). not (same (value_of w p) (whole (pos 0))) && t) k ∙ and_false (not (same (value_of w p) (whole (pos 0))))

pub over_zero : (c : Claim) (v : Expr) (p : Point) → Contains (divisors_of_claim c) v → IsSame (value_of v p) (whole (pos 0)) → ¬ Meets (c ∷ []) p
over_zero c v p h e met =
    both_ways (are_nonzero (divisors_of_claim c) p) (zero_among (divisors_of_claim c) v p h e)
    (and_parts (truth_of c p) (are_nonzero (divisors_of_claim c) p) (and_parts (stands c p) true met).0).1
