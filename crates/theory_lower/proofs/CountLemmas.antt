-- A claim and its negation have as many atoms in their normal forms; how many a comparison counts.
use Rattle.std.proofs.Common.{◌≡◌, ◌≢◌, ℕ, ◌+◌, ◌⊎◌, min, List, [], ◌∷◌, ◌++◌, length, refl, sym, ap, ap₂, arith, inl, inr}
use Rattle.theory_meaning.specs.declared.words.Rel.{Rel}
use Rattle.theory_meaning.specs.declared.words.Rel.TheVariants.{Eq, Ne, Lt, Le, Gt, Ge}
use Rattle.theory_meaning.specs.Divisors.{divisors_of_expr}
use Rattle.theory_meaning.specs.Tree.{Expr, Claim, Claims, always, never, atom, negation, conjunction, disjunction, implication, equivalence, none, more}
use Rattle.theory_lowering.specs.NormalForm.{opposite_rel, normal_form, negated_form, normal_forms, negated_forms, comparison_count, atom_count, atom_count_of_all}

-- a relation and the opposite one count the same
opposite_count : (rel : Rel) (vs : List Expr) → comparison_count (opposite_rel rel) vs ≡ comparison_count rel vs
opposite_count rel [] = refl
opposite_count Eq (v ∷ vs) = refl
opposite_count Ne (v ∷ vs) = refl
opposite_count Lt (v ∷ vs) = refl
opposite_count Le (v ∷ vs) = refl
opposite_count Gt (v ∷ vs) = refl
opposite_count Ge (v ∷ vs) = refl

mutual
  pub negated_count : (c : Claim) → atom_count (negated_form c) ≡ atom_count (normal_form c)
  negated_count always = refl
  negated_count never = refl
  negated_count (atom u rel v) = opposite_count rel (divisors_of_expr u ++ divisors_of_expr v)
  negated_count (negation c) = sym (negated_count c)
  negated_count (conjunction cs) = negated_counts cs
  negated_count (disjunction cs) = negated_counts cs
  negated_count (implication a b) = let first = negated_count a in let second = negated_count b in omega (arith, first, second)
  negated_count (equivalence a b) = let first = negated_count a in let second = negated_count b in omega (arith, first, second)

  negated_counts : (cs : Claims) → atom_count_of_all (negated_forms cs) ≡ atom_count_of_all (normal_forms cs)
  negated_counts none = refl
  negated_counts (more c cs) = ap₂ ◌+◌ (negated_count c) (negated_counts cs)

-- the count of an implication and of an equivalence, as far as 513
pub implication_count : (a b : Claim) (m n k : ℕ) → m ≡ min 513 (atom_count (normal_form a)) → n ≡ min 513 (atom_count (normal_form b)) → k ≡ min 513 (m + n)
    → k ≡ min 513 (atom_count (normal_form (implication a b)))
implication_count a b m n k first second h = let turned = negated_count a in omega (arith, first, second, h, turned)

pub equivalence_count : (a b : Claim) (m n once k : ℕ) → m ≡ min 513 (atom_count (normal_form a)) → n ≡ min 513 (atom_count (normal_form b))
    → once ≡ min 513 (m + n)
    → k ≡ min 513 (once + once) → k ≡ min 513 (atom_count (normal_form (equivalence a b)))
equivalence_count a b m n once k first second h i =
    let turned = negated_count a in
    let other = negated_count b in
    omega (arith, first, second, h, i, turned, other)

-- a comparison of an order with divisors
four : (rel : Rel) (v : Expr) (vs : List Expr) → ((rel ≡ Lt) ⊎ ((rel ≡ Le) ⊎ ((rel ≡ Gt) ⊎ (rel ≡ Ge)))) → 4 ≡ comparison_count rel (v ∷ vs)
four rel v vs (inl e) = ap (λ r. comparison_count r (v ∷ vs)) (sym e)
four rel v vs (inr (inl e)) = ap (λ r. comparison_count r (v ∷ vs)) (sym e)
four rel v vs (inr (inr (inl e))) = ap (λ r. comparison_count r (v ∷ vs)) (sym e)
four rel v vs (inr (inr (inr e))) = ap (λ r. comparison_count r (v ∷ vs)) (sym e)

pub count_of_order : (rel : Rel) (vs ws : List Expr) (m n k : ℕ) → m ≡ min 513 (length vs) → n ≡ min 513 (length ws) → k ≡ min 513 (m + n) → k ≢ 0
    → ((rel ≡ Lt) ⊎ ((rel ≡ Le) ⊎ ((rel ≡ Gt) ⊎ (rel ≡ Ge)))) → 4 ≡ comparison_count rel (vs ++ ws)
count_of_order rel [] [] m n k h i j some is = absurd (some (omega (arith, h, i, j)))
count_of_order rel [] (w ∷ ws) m n k h i j some is = four rel w ws is
count_of_order rel (v ∷ vs) ws m n k h i j some is = four rel v (vs ++ ws) is
