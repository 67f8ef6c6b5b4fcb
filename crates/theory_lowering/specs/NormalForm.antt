-- Claims with negation pushed to their atoms. Source: textbook (negation normal form).
use Rattle.std.specs.Prelude.{ℕ, ◌+◌, ◌<◌, List, [], ◌∷◌, ◌++◌, length}
use Rattle.theory_meaning.specs.declared.words.Rel.{Rel}
use Rattle.theory_meaning.specs.declared.words.Rel.TheVariants.{Eq, Ne, Lt, Le, Gt, Ge}
use Rattle.theory_meaning.specs.Divisors.{divisors_of_expr, divisors_of_claims}
use Rattle.theory_meaning.specs.Tree.{Expr, Claim, Claims, always, never, atom, negation, conjunction, disjunction, implication, equivalence, none, more, claims_from}

-- the relation that is true where this one is false
abbrev pub opposite_rel : Rel → Rel
opposite_rel Eq = Ne
opposite_rel Ne = Eq
opposite_rel Lt = Ge
opposite_rel Le = Gt
opposite_rel Gt = Le
opposite_rel Ge = Lt

-- both claims are true
abbrev pub both : Claim → Claim → Claim
both a b = conjunction (more a (more b none))

-- at least one of two claims is true
abbrev pub either : Claim → Claim → Claim
either a b = disjunction (more a (more b none))

-- the normal form of a claim and of its negation, and of each claim of a list
abbrev mutual
  pub normal_form : Claim → Claim
  normal_form always = always
  normal_form never = never
  normal_form (atom u rel v) = atom u rel v
  normal_form (negation c) = negated_form c
  normal_form (conjunction cs) = conjunction (normal_forms cs)
  normal_form (disjunction cs) = disjunction (normal_forms cs)
  normal_form (implication a b) = either (negated_form a) (normal_form b)
  normal_form (equivalence a b) = either (both (normal_form a) (normal_form b)) (both (negated_form a) (negated_form b))

  pub negated_form : Claim → Claim
  negated_form always = never
  negated_form never = always
  negated_form (atom u rel v) = atom u (opposite_rel rel) v
  negated_form (negation c) = normal_form c
  negated_form (conjunction cs) = disjunction (negated_forms cs)
  negated_form (disjunction cs) = conjunction (negated_forms cs)
  negated_form (implication a b) = both (normal_form a) (negated_form b)
  negated_form (equivalence a b) = either (both (normal_form a) (negated_form b)) (both (negated_form a) (normal_form b))

  pub normal_forms : Claims → Claims
  normal_forms none = none
  normal_forms (more c cs) = more (normal_form c) (normal_forms cs)

  pub negated_forms : Claims → Claims
  negated_forms none = none
  negated_forms (more c cs) = more (negated_form c) (negated_forms cs)

-- the atoms that a comparison with these divisors may become: four for an order, where there are any
abbrev pub comparison_count : Rel → List Expr → ℕ
comparison_count rel [] = 1
comparison_count Eq (v ∷ vs) = 1
comparison_count Ne (v ∷ vs) = 1
comparison_count Lt (v ∷ vs) = 4
comparison_count Le (v ∷ vs) = 4
comparison_count Gt (v ∷ vs) = 4
comparison_count Ge (v ∷ vs) = 4

-- the number of atoms of a claim, with true and false counted 1 each
abbrev mutual
  pub atom_count : Claim → ℕ
  atom_count always = 1
  atom_count never = 1
  atom_count (atom u rel v) = comparison_count rel (divisors_of_expr u ++ divisors_of_expr v)
  atom_count (negation c) = atom_count c
  atom_count (conjunction cs) = atom_count_of_all cs
  atom_count (disjunction cs) = atom_count_of_all cs
  atom_count (implication a b) = atom_count a + atom_count b
  atom_count (equivalence a b) = atom_count a + atom_count b

  pub atom_count_of_all : Claims → ℕ
  atom_count_of_all none = 0
  atom_count_of_all (more c cs) = atom_count c + atom_count_of_all cs

-- one for each divisor, and the atoms of the normal forms: more than 512, before anything is dropped
abbrev pub IsLarge : List Claim → Type 0
IsLarge cs = 512 < length (divisors_of_claims (claims_from cs)) + atom_count_of_all (normal_forms (claims_from cs))
