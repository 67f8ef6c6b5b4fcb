-- Along a path there is one witness, or a step passes a limit, and not both.
use Rattle.std.proofs.Common.{◌≡◌, ℕ, ◌⊎◌, ◌+◌, ◌*◌, ℤ, pos, ◌*ℤ◌, unsigned_abs, Bool, true, false, List, [], ◌∷◌, Option, Some, sym, ap, ap₂, ◌∙◌, subst, arith, inl, inr}
use Rattle.std.specs.Prelude.{Contains, find}
use Rattle.std.proofs.Math.Nat.{dvd-mul_right}
use Rattle.std.proofs.lemmas.Int.{ints, unsigned_abs-mul}
use Prim.Native.Nat.{◌∣◌}
use Rattle.theory_meaning.specs.Fraction.{Fraction, den, IsSame}
use Rattle.theory_meaning.specs.Limits.{IsReduced, IsWide}
use Rattle.theory_meaning.proofs.OrderLaws.{same_turned, same_trans}
use Rattle.theory_decision.proofs.CandidateLaws.{Contains-first, Contains-rest}
use Rattle.theory_polynomial.specs.Polynomial.{Monomial, degree_in}
use Rattle.theory_polynomial.specs.PolynomialValue.{Values, restriction_step}
use Rattle.theory_polynomial.proofs.SingleForms.{primitive_single}
use Rattle.theory_polynomial.proofs.CommonParts.{HaveCommonPart, InRatio, part_within}
use Rattle.theory_polynomial.proofs.PrimitiveLaws.{without_factor}
use Rattle.theory_formula.specs.SignCondition.{IsAtomOf}
use Rattle.theory_formula.proofs.ConditionLaws.{condition_single}
use Rattle.theory_elimination.specs.Elimination.{with_value}
use Rattle.theory_formula.specs.Formula.{Formula, Formulas, always, never, atom, conjunction, disjunction, none, more, truth_at}
use Rattle.theory_decision.specs.Choice.{Symbols, is_one_of}
use Rattle.theory_decision.specs.Search.{Step}
use Rattle.theory_decision.specs.Witness.{only_at, AreRoots, IsPick, IsAtValues, IsFormulaAtValues, AreFormulasAtValues, other_values, IsPickAt, IsWideStep, IsValue, AddsValue, IsWitness, IsWideWitness}
use Rattle.theory_decision.proofs.AlikeValues.{Has, has_from, ascending_alike, candidates_alike, IsAlike, found_alike}
use Rattle.theory_decision.proofs.WitnessTruth.{same_truth}

-- a polynomial at values is one, and so is a formula
at_values_single : (vs : List (ℕ × Fraction)) (P r s : List Monomial) → IsAtValues vs P r → IsAtValues vs P s → r ≡ s
at_values_single [] P r s w v = w ∙ sym v
at_values_single (a ∷ vs) P r s w v =
    let same : w.0 ≡ v.0 = primitive_single (restriction_step a.0 a.1 P (degree_in a.0 P)) w.0 v.0 w.1 v.1 in
    at_values_single vs w.0 r s w.2 (subst (λ (m : List Monomial). IsAtValues vs m s) (sym same) v.2)

module _ (vs : List (ℕ × Fraction)) where
  mutual
    formula_single : (F R S : Formula) → IsFormulaAtValues vs F R → IsFormulaAtValues vs F S → R ≡ S
    formula_single always R S w v = w ∙ sym v
    formula_single never R S w v = w ∙ sym v
    formula_single (atom P T) R S w v =
        let same : w.0 ≡ v.0 = at_values_single vs P w.0 v.0 w.1 v.1 in
        condition_single w.0 T R S w.2 (subst (λ (r : List Monomial). IsAtomOf r T S) (sym same) v.2)
    formula_single (conjunction Fs) R S w v = w.2 ∙ ap conjunction (formulas_single Fs w.0 v.0 w.1 v.1) ∙ sym v.2
    formula_single (disjunction Fs) R S w v = w.2 ∙ ap disjunction (formulas_single Fs w.0 v.0 w.1 v.1) ∙ sym v.2

    formulas_single : (Fs Rs Ss : Formulas) → AreFormulasAtValues vs Fs Rs → AreFormulasAtValues vs Fs Ss → Rs ≡ Ss
    formulas_single none Rs Ss w v = w ∙ sym v
    formulas_single (more F Fs) Rs Ss w v =
        w.4 ∙ ap₂ more (formula_single F w.0 v.0 w.2 v.2) (formulas_single Fs w.1 v.1 w.3 v.3) ∙ sym v.4

-- the roots are the same numbers
has_to : (bs : List Fraction) (q : Fraction) → Has bs q → (b : Fraction) × Contains bs b × IsSame b q
has_to [] q h = absurd h
has_to (b ∷ bs) q (inl e) = (b, Contains-first b bs, e)
has_to (b ∷ bs) q (inr h) = let c = has_to bs q h in (c.0, Contains-rest b c.0 bs c.1, c.2)

same_roots : (x : ℕ) (F : Formula) (bs cs : List Fraction) → AreRoots x F bs → AreRoots x F cs → (q : Fraction) → Has bs q → Has cs q
same_roots x F bs cs r k q h =
    let b = has_to bs q h in
    let c = k.all_roots b.0 (r.only_roots b.0 b.1) in
    has_from cs c.0 q c.1 (same_trans c.0 b.0 q c.2 b.2)

-- and so is what is picked
pick_single : (x : ℕ) (F : Formula) (o u : Option Fraction) → IsPick x F o → IsPick x F u → IsAlike o u
pick_single x F o u w v =
    let roots = ascending_alike w.0 v.0 w.2.ascending v.2.ascending (same_roots x F w.0 v.0 w.2 v.2) (same_roots x F v.0 w.0 v.2 w.2) in
    let tried = candidates_alike w.0 v.0 w.1 v.1 roots w.3 v.3 in
    let found = found_alike (λ q. truth_at F (only_at x q)) w.1 v.1 (λ b c e. same_truth x b c [] F e) tried in
    subst (λ (z : Option Fraction). IsAlike z u) (sym w.4)
    (subst (IsAlike (find (λ q. truth_at F (only_at x q)) w.1)) (sym v.4) found)

pick_at_single : (n : ℕ) (s : Step) (p : Values) (o u : Option Fraction) → IsPickAt n s p o → IsPickAt n s p u → IsAlike o u
pick_at_single n s p o u w v =
    let same : w.0 ≡ v.0 = formula_single (other_values n s.symbol p) s.formula w.0 v.0 w.1 v.1 in
    pick_single s.symbol w.0 o u w.2 (subst (λ (R : Formula). IsPick s.symbol R u) (sym same) v.2)

-- a number has one form in lowest terms
fraction_by : ℤ → ℕ → Fraction
fraction_by n l = record { num = n; less = l }

module _ (v w : Fraction) (same : IsSame v w) (h : IsReduced v) (k : IsReduced w) where
  abbrev size_of_first : List ℕ → ℕ
  size_of_first e = unsigned_abs v.num

  abbrev size_of_second : List ℕ → ℕ
  size_of_second e = unsigned_abs w.num

  in_ratio : InRatio (den v) (den w) size_of_first size_of_second
  in_ratio e =
      let sizes : unsigned_abs v.num * den w ≡ unsigned_abs w.num * den v =
      sym (unsigned_abs-mul v.num (pos (den w))) ∙ ap unsigned_abs same ∙ unsigned_abs-mul w.num (pos (den v)) in
      omega (arith, sizes)

  common : HaveCommonPart (den v) (den w) size_of_first size_of_second
  common = part_within (den v + den w) (den v) (den w) size_of_first size_of_second (omega arith) (omega arith) (omega arith) in_ratio

  first_is_one : common.first ≡ 1
  first_is_one =
      h common.first (subst (λ (m : ℕ). common.first ∣ m) (sym (common.firsts_are [])) (dvd-mul_right common.first (common.family [])))
      (subst (λ (m : ℕ). common.first ∣ m) (sym common.first_is) (dvd-mul_right common.first common.part))

  second_is_one : common.second ≡ 1
  second_is_one =
      k common.second (subst (λ (m : ℕ). common.second ∣ m) (sym (common.seconds_are [])) (dvd-mul_right common.second (common.family [])))
      (subst (λ (m : ℕ). common.second ∣ m) (sym common.second_is) (dvd-mul_right common.second common.part))

  same_den : den v ≡ den w
  same_den = common.first_is ∙ ap (λ (m : ℕ). m * common.part) (first_is_one ∙ sym second_is_one) ∙ sym common.second_is

  same_num : v.num ≡ w.num
  same_num =
      let over : v.num *ℤ pos (den w) ≡ w.num *ℤ pos (den w) = same ∙ ap (λ (m : ℕ). w.num *ℤ pos m) same_den in
      without_factor (den w) v.num w.num (omega arith) (omega (arith, ints, over))

  same_less : v.less ≡ w.less
  same_less = let d = same_den in omega (arith, d)

  reduced_single : v ≡ w
  unfolding fraction_by
  reduced_single = ap₂ fraction_by same_num same_less

-- a step adds one value
value_single : (n : ℕ) (s : Step) (p : Values) (v w : Fraction) → IsValue n s p v → IsValue n s p w → v ≡ w
value_single n s p v w h k =
    let picked : IsSame h.picked k.picked = pick_at_single n s p (Some h.picked) (Some k.picked) h.pick k.pick in
    reduced_single v w
    (same_trans v h.picked w h.equal (same_trans h.picked k.picked w picked (same_turned w k.picked k.equal))) h.reduced k.reduced

added_single : (b : Bool) (n : ℕ) (s : Step) (g given taken : Symbols) (o p q : Values) → AddsValue b n s g o given p → AddsValue b n s g o taken q
    → (given ≡ taken) × (p ≡ q)
added_single true n s g given taken o p q a b = (a.0 ∙ sym b.0, a.1 ∙ sym b.1)
added_single false n s g given taken o p q a b =
    (a.2 ∙ sym b.2, a.3 ∙ ap (λ (v : Fraction). with_value s.symbol v o) (value_single n s o a.0 b.0 a.1 b.1) ∙ sym b.3)

pub witness_single : (n : ℕ) (path : List Step) (given taken : Symbols) (p q : Values) → IsWitness n path given p → IsWitness n path taken q
    → (given ≡ taken) × (p ≡ q)
witness_single n [] given taken p q w v = (w.0 ∙ sym v.0, w.1 ∙ sym v.1)
witness_single n (s ∷ path) given taken p q w v =
    let before = witness_single n path w.0 v.0 w.1 v.1 w.2 v.2 in
    let there : AddsValue (is_one_of w.0 s.symbol) n s w.0 w.1 taken q =
    subst (λ (z : Values). AddsValue (is_one_of w.0 s.symbol) n s w.0 z taken q) (sym before.1)
    (subst (λ (z : Symbols). AddsValue (is_one_of z s.symbol) n s z v.1 taken q) (sym before.0) v.3) in
    added_single (is_one_of w.0 s.symbol) n s w.0 given taken w.1 p q w.3 there

-- where it adds one nothing passes a limit
abbrev pub IsWideHere : ℕ → Step → Values → Type 0
IsWideHere n s q = IsWideStep n s q ⊎ ((v : Fraction) × IsPickAt n s q (Some v) × IsWide v)

pub value_not_wide : (n : ℕ) (s : Step) (q : Values) (v : Fraction) → IsValue n s q v → IsWideHere n s q → ⊥
value_not_wide n s q v h (inl k) = h.narrow k
value_not_wide n s q v h (inr k) =
    let picked : IsSame h.picked k.0 = pick_at_single n s q (Some h.picked) (Some k.0) h.pick k.1 in
    k.2 v h.within (same_trans v h.picked k.0 h.equal picked)

added_not_wide : (b : Bool) (n : ℕ) (s : Step) (g given : Symbols) (q p : Values) → AddsValue b n s g q given p → b ≡ false → IsWideHere n s q → ⊥
added_not_wide true n s g given q p a e k = absurd cc
added_not_wide false n s g given q p a e k = value_not_wide n s q a.0 a.1 k

pub witness_not_wide : (n : ℕ) (path : List Step) (given : Symbols) (p : Values) → IsWitness n path given p → IsWideWitness n path → ⊥
witness_not_wide n [] given p w k = k
witness_not_wide n (s ∷ path) given p w (inl k) = witness_not_wide n path w.0 w.1 w.2 k
witness_not_wide n (s ∷ path) given p w (inr k) =
    let before = witness_single n path w.0 k.0 w.1 k.1 w.2 k.2 in
    added_not_wide (is_one_of w.0 s.symbol) n s w.0 given w.1 p w.3
    (subst (λ (z : Symbols). is_one_of z s.symbol ≡ false) (sym before.0) k.3)
    (subst (IsWideHere n s) (sym before.1) k.4)
