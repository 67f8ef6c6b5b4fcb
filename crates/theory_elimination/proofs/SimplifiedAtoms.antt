-- The polynomials of a simplified form are among those of the formula: a fact of each of them stays one.
use Rattle.std.proofs.Common.{◌≤◌, ℕ, length, Bool, true, false, not, List, [], ◌∷◌, ◌++◌, Option, None, Some}
use Rattle.std.specs.Prelude.{if◌then◌else◌, map}
use Rattle.std.specs.List.{list_any}
use Rattle.std.specs.Bool.{beq}
use Rattle.std.specs.Option.{option_map, option_and_then}
use Rattle.theory_formula.specs.declared.signs.Signs.{Signs}
use Rattle.theory_meaning.specs.Point.{Name}
use Rattle.theory_polynomial.specs.Polynomial.{Monomial, IsLinearIn, IsFreeOf}
use Rattle.theory_formula.specs.Formula.{Formula, Formulas, always, never, atom, conjunction, disjunction, none, more, formulas_list, formulas_from, EachAtom, EachAtomOfAll}
use Rattle.theory_formula.specs.SignCondition.{IsAtomPolynomial, decided}
use Rattle.theory_formula.specs.Symbols.{IsNamed}
use Rattle.theory_elimination.specs.SameFormula.{is_same_poly, is_same}
use Rattle.theory_elimination.specs.Facts.{Facts, judged}
use Rattle.theory_elimination.specs.Simplified.{Part, Waiting, settled, condition, other, put_together, with_condition, gathered_behind, undecided, gathered, as_judged, by_facts, facts_within, as_part, spliced, members_under, as_formula, first_ones, list_of, bundled, finished, Judging, by_known, simplified_list_by, parts_by, all_parts_by, as_known, simplified_by, simplified_under}
use Rattle.theory_elimination.specs.Elimination.{IsLinearAtom, IsLinear}
use Rattle.theory_elimination.proofs.AtomLists.{each_follows}

module _ (Q : List Monomial → Type 0) where
  -- each polynomial has the fact
  abbrev pub Each : Formula → Type 0
  Each F = EachAtom (λ P S. Q P) F

  abbrev EachOfAll : Formulas → Type 0
  EachOfAll Fs = EachAtomOfAll (λ P S. Q P) Fs

  abbrev EachFormula : List Formula → Type 0
  EachFormula [] = Unit {0}
  EachFormula (F ∷ Fs) = Each F × EachFormula Fs

  module _ {X : Type 0} (R : X → Type 0) where
    abbrev pub OfPart : Part X → Type 0
    OfPart (settled b) = Unit {0}
    OfPart (condition P S) = Q P
    OfPart (other x) = R x

    abbrev pub OfParts : List (Part X) → Type 0
    OfParts [] = Unit {0}
    OfParts (m ∷ ms) = OfPart m × OfParts ms

    abbrev pub OfSome : Option (List (Part X)) → Type 0
    OfSome None = Unit {0}
    OfSome (Some ms) = OfParts ms

    of_append : (ms ns : List (Part X)) → OfParts ms → OfParts ns → OfParts (ms ++ ns)
    of_append [] ns h k = k
    of_append (m ∷ ms) ns h k = (h.0, of_append ms ns h.1 k)

    of_mapped : (m : Part X) (o : Option (List (Part X))) → OfPart m → OfSome o → OfSome (option_map (λ qs. m ∷ qs) o)
    of_mapped m None h k = tt
    of_mapped m (Some qs) h k = (h, k)

    of_met : (P : List Monomial) (o : Option Signs) (ms : List (Part X)) → Q P → OfParts ms → OfSome (option_map (λ T. condition P T ∷ ms) o)
    of_met P None ms h k = tt
    of_met P (Some T) ms h k = (h, k)

    of_condition : (all : Bool) (P : List Monomial) (S : Signs) (ms : List (Part X)) → Q P → OfParts ms → OfSome (with_condition all P S ms)
    of_condition all P S [] q h = (q, tt)
    of_condition all P S (settled b ∷ ms) q h = of_mapped (settled b) (with_condition all P S ms) tt (of_condition all P S ms q h.1)
    of_condition all P S (other x ∷ ms) q h = of_mapped (other x) (with_condition all P S ms) h.0 (of_condition all P S ms q h.1)
    of_condition all P S (condition O T ∷ ms) q h =
        elim (is_same_poly O P) as (λ b. OfSome (if b then option_map (λ R. condition O R ∷ ms) (put_together all T S)
        else option_map (λ qs. condition O T ∷ qs) (with_condition all P S ms))) [
          | true ↦ of_met O (put_together all T S) ms h.0 h.1
          | false ↦ of_mapped (condition O T) (with_condition all P S ms) h.0 (of_condition all P S ms q h.1)
        ]

    pub of_then : (f : List (Part X) → Option (List (Part X))) (o : Option (List (Part X))) → ((ms : List (Part X)) → OfParts ms → OfSome (f ms)) → OfSome o
        → OfSome (option_and_then f o)
    of_then f None k h = tt
    of_then f (Some ms) k h = k ms h

    of_gathered_behind : (all : Bool) (done ms : List (Part X)) → OfParts done → OfParts ms → OfSome (gathered_behind all done ms)
    of_gathered_behind all done [] d h = d
    of_gathered_behind all done (condition P S ∷ ms) d h =
        of_then (λ qs. gathered_behind all qs ms) (with_condition all P S done) (λ qs k. of_gathered_behind all qs ms k h.1) (of_condition all P S done h.0 d)
    of_gathered_behind all done (settled b ∷ ms) d h = of_gathered_behind all (done ++ settled b ∷ []) ms (of_append done (settled b ∷ []) d (tt, tt)) h.1
    of_gathered_behind all done (other x ∷ ms) d h = of_gathered_behind all (done ++ other x ∷ []) ms (of_append done (other x ∷ []) d (h.0, tt)) h.1

    pub of_undecided : (all : Bool) (ms : List (Part X)) → OfParts ms → OfSome (undecided all ms)
    of_undecided all [] h = tt
    of_undecided all (settled b ∷ ms) h =
        elim (beq b all) as (λ c. OfSome (if c then undecided all ms else None)) [ true ↦ of_undecided all ms h.1 | false ↦ tt ]
    of_undecided all (condition P S ∷ ms) h = of_mapped (condition P S) (undecided all ms) h.0 (of_undecided all ms h.1)
    of_undecided all (other x ∷ ms) h = of_mapped (other x) (undecided all ms) h.0 (of_undecided all ms h.1)

    of_gathered : (all : Bool) (ms : List (Part X)) → OfParts ms → OfSome (gathered all ms)
    of_gathered all ms h = of_then (undecided all) (gathered_behind all [] ms) (λ ns k. of_undecided all ns k) (of_gathered_behind all [] ms tt h)

    pub of_judged : (P : List Monomial) (S : Signs) (o : Option Bool) → Q P → OfPart (as_judged P S o)
    of_judged P S None q = q
    of_judged P S (Some b) q = tt

    of_facts : (K : Facts) (ms : List (Part X)) → OfParts ms → OfParts (map (by_facts K) ms)
    of_facts K [] h = tt
    of_facts K (settled b ∷ ms) h = (tt, of_facts K ms h.1)
    of_facts K (condition P S ∷ ms) h = (of_judged P S (judged K P S) h.0, of_facts K ms h.1)
    of_facts K (other x ∷ ms) h = (h.0, of_facts K ms h.1)

  abbrev pub Waits : (Facts → Formula) → Type 0
  Waits f = (K : Facts) → Each (f K)

  of_formula : (F : Formula) → Each F → OfPart Each (as_part F)
  of_formula always h = tt
  of_formula never h = tt
  of_formula (atom P S) h = h
  of_formula (conjunction Fs) h = h
  of_formula (disjunction Fs) h = h

  of_members : (Fs : Formulas) → EachOfAll Fs → OfParts Each (map as_part (formulas_list Fs))
  of_members none h = tt
  of_members (more F Fs) h = (of_formula F h.0, of_members Fs h.1)

  of_spliced : (all : Bool) (F : Formula) → Each F → OfParts Each (spliced all F)
  of_spliced true (conjunction Fs) h = of_members Fs h
  of_spliced false (disjunction Fs) h = of_members Fs h
  of_spliced true always h = (tt, tt)
  of_spliced true never h = (tt, tt)
  of_spliced true (atom P S) h = (h, tt)
  of_spliced true (disjunction Fs) h = (h, tt)
  of_spliced false always h = (tt, tt)
  of_spliced false never h = (tt, tt)
  of_spliced false (atom P S) h = (h, tt)
  of_spliced false (conjunction Fs) h = (h, tt)

  of_under : (all : Bool) (K : Facts) (ms : List Waiting) → OfParts Waits ms → OfParts Each (members_under all K ms)
  of_under all K [] h = tt
  of_under all K (settled b ∷ ms) h = (tt, of_under all K ms h.1)
  of_under all K (condition P S ∷ ms) h = (h.0, of_under all K ms h.1)
  of_under all K (other f ∷ ms) h = of_append Each (spliced all (f K)) (members_under all K ms) (of_spliced all (f K) (h.0 K)) (of_under all K ms h.1)

  decided_each : (b : Bool) → Each (decided b)
  decided_each true = tt
  decided_each false = tt

  as_formulas : (ms : List (Part Formula)) → OfParts Each ms → EachFormula (map as_formula ms)
  as_formulas [] h = tt
  as_formulas (settled b ∷ ms) h = (decided_each b, as_formulas ms h.1)
  as_formulas (condition P S ∷ ms) h = (h.0, as_formulas ms h.1)
  as_formulas (other F ∷ ms) h = (h.0, as_formulas ms h.1)

  first_each : (seen Fs : List Formula) → EachFormula Fs → EachFormula (first_ones seen Fs)
  first_each seen [] h = tt
  first_each seen (F ∷ Fs) h =
      elim (list_any (is_same F) seen) as (λ b. EachFormula (if b then first_ones seen Fs else F ∷ first_ones (F ∷ seen) Fs)) [
        | true ↦ first_each seen Fs h.1
        | false ↦ (h.0, first_each (F ∷ seen) Fs h.1)
      ]

  from_each : (Fs : List Formula) → EachFormula Fs → EachOfAll (formulas_from Fs)
  from_each [] h = tt
  from_each (F ∷ Fs) h = (h.0, from_each Fs h.1)

  list_each : (all : Bool) (Fs : Formulas) → EachOfAll Fs → Each (list_of all Fs)
  list_each true Fs h = h
  list_each false Fs h = h

  bundled_each : (all : Bool) (Fs : List Formula) → EachFormula Fs → Each (bundled all Fs)
  bundled_each all [] h = decided_each all
  bundled_each all (F ∷ []) h = h.0
  bundled_each all (F ∷ G ∷ Fs) h = list_each all (formulas_from (F ∷ G ∷ Fs)) (from_each (F ∷ G ∷ Fs) h)

  finished_each : (all : Bool) (o : Option (List (Part Formula))) → OfSome Each o → Each (finished all o)
  finished_each all None h = decided_each (not all)
  finished_each all (Some ms) h = bundled_each all (first_ones [] (map as_formula ms)) (first_each [] (map as_formula ms) (as_formulas ms h))

  then_each : (f : List Waiting → Option (List (Part Formula))) (o : Option (List Waiting)) → ((ms : List Waiting) → OfParts Waits ms → OfSome Each (f ms))
      → OfSome Waits o → OfSome Each (option_and_then f o)
  then_each f None k h = tt
  then_each f (Some ms) k h = k ms h

  -- a way to judge that keeps the fact of the members
  module _ (J : Judging) (keeps : (all : Bool) (K : Facts) (ms : List Waiting) → OfParts Waits ms → OfSome Waits (J.open_members all K ms)) where
    list_simplified : (all : Bool) (K : Facts) (ms : List Waiting) → OfParts Waits ms → Each (simplified_list_by J all K ms)
    list_simplified all K ms h =
        finished_each all (option_and_then (λ qs. gathered all (members_under all (facts_within all qs K) qs)) (J.open_members all K ms))
        (then_each (λ qs. gathered all (members_under all (facts_within all qs K) qs)) (J.open_members all K ms)
        (λ qs k. of_gathered Each all (members_under all (facts_within all qs K) qs) (of_under all (facts_within all qs K) qs k)) (keeps all K ms h))

    mutual
      of_parts : (all : Bool) (F : Formula) → Each F → OfParts Waits (parts_by J all F)
      of_parts all always h = (tt, tt)
      of_parts all never h = (tt, tt)
      of_parts all (atom P S) h = (h, tt)
      of_parts true (conjunction Fs) h = of_all_parts true Fs h
      of_parts true (disjunction Fs) h = (λ K. list_simplified false K (all_parts_by J false Fs) (of_all_parts false Fs h), tt)
      of_parts false (conjunction Fs) h = (λ K. list_simplified true K (all_parts_by J true Fs) (of_all_parts true Fs h), tt)
      of_parts false (disjunction Fs) h = of_all_parts false Fs h

      of_all_parts : (all : Bool) (Fs : Formulas) → EachOfAll Fs → OfParts Waits (all_parts_by J all Fs)
      of_all_parts all none h = tt
      of_all_parts all (more F Fs) h = of_append Waits (parts_by J all F) (all_parts_by J all Fs) (of_parts all F h.0) (of_all_parts all Fs h.1)

    known_each : (P : List Monomial) (S : Signs) (o : Option Bool) → Q P → Each (as_known P S o)
    known_each P S None q = q
    known_each P S (Some b) q = decided_each b

    pub simplified_by_each : (K : Facts) (F : Formula) → Each F → Each (simplified_by J K F)
    simplified_by_each K always h = tt
    simplified_by_each K never h = tt
    simplified_by_each K (atom P S) h = known_each P S (J.alone K P S) h
    simplified_by_each K (conjunction Fs) h = list_simplified true K (all_parts_by J true Fs) (of_all_parts true Fs h)
    simplified_by_each K (disjunction Fs) h = list_simplified false K (all_parts_by J false Fs) (of_all_parts false Fs h)

  -- the facts on the polynomials alone keep it
  pub known_keeps : (all : Bool) (K : Facts) (ms : List Waiting) → OfParts Waits ms → OfSome Waits (by_known.open_members all K ms)
  known_keeps all K ms h =
      of_then Waits (λ qs. undecided all (map (by_facts K) qs)) (gathered all ms) (λ qs k. of_undecided Waits all (map (by_facts K) qs) (of_facts Waits K qs k))
      (of_gathered Waits all ms h)

  pub simplified_each : (K : Facts) (F : Formula) → Each F → Each (simplified_under K F)
  simplified_each = simplified_by_each by_known known_keeps

-- linearity in a symbol, and the listed names
linear_each : (x : ℕ) (F : Formula) → IsLinear x F → Each (λ P. IsAtomPolynomial P × IsLinearIn x P) F
linear_each x F h = each_follows (IsLinearAtom x) (λ P S. IsAtomPolynomial P × IsLinearIn x P) F (λ P S l. (l.poly, l.linear)) h

each_linear : (x : ℕ) (F : Formula) → Each (λ P. IsAtomPolynomial P × IsLinearIn x P) F → IsLinear x F
each_linear x F h =
    each_follows (λ P S. IsAtomPolynomial P × IsLinearIn x P) (IsLinearAtom x) F (λ P S l. record { poly = l.0; linear = l.1 }) h

pub simplified_linear : (x : ℕ) (K : Facts) (F : Formula) → IsLinear x F → IsLinear x (simplified_under K F)
simplified_linear x K F h =
    each_linear x (simplified_under K F) (simplified_each (λ P. IsAtomPolynomial P × IsLinearIn x P) K F (linear_each x F h))

pub simplified_named : (ns : List Name) (K : Facts) (F : Formula) → EachAtom (IsNamed ns) F → EachAtom (IsNamed ns) (simplified_under K F)
simplified_named ns K F h = simplified_each (λ P. (x : ℕ) → length ns ≤ x → IsFreeOf x P) K F h
