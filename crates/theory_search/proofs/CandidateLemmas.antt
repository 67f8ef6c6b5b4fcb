-- The candidates symbol by symbol, and that they are within the bounds of a policy.
use Rattle.std.proofs.Common.{◌≡◌, ℕ, zero, suc, ◌+◌, ◌<◌, ◌≤◌, Bool, true, false, Option, Some, None, List, [], ◌∷◌, ◌++◌, length, length-append, map, refl, sym, ap, ◌∙◌, subst, arith}
use Rattle.std.specs.Prelude.{◌≢◌, ◌&&◌, not, filter, cond, if◌then◌else◌}
use Rattle.std.specs.Option.{option_to_list}
use Rattle.std.proofs.lemmas.List.{map-append}
use Rattle.std.proofs.lemmas.List.Elements.{filter-append}
use Rattle.std.proofs.lemmas.List.Sums.{count_by-le-length}
use Rattle.std.specs.Borrow.{Bor}
use Rattle.std.specs.declared.vec.Vec.{Vec}
use Rattle.std.specs.Global.{Global}
use Rattle.std.proofs.lemmas.List.{length-map}
use Rattle.theory_formula.specs.Formula.{Formula}
use Rattle.theory_elimination.specs.TopEquation.{members_of}
use Rattle.theory_signs.specs.declared.atom.Atom.{Atom}
use Rattle.theory_signs.specs.declared.formula.Formula as source
use Rattle.theory_signs.specs.declared.formula.Formula.TheVariants as made
use Rattle.theory_signs.specs.Plain.{formula_of}
use Rattle.theory_signs.proofs.PlainLemmas.{formula_of-And}
use Rattle.theory_subst.proofs.OthersLemmas.{listed_from}
use Rattle.theory_search.specs.Atoms.{row_of, rows_of}
use Rattle.theory_formula.specs.FormulaAtoms.{atoms_of}
use Rattle.theory_elimination.specs.TestPoint.{holds_symbol}
use Rattle.theory_decision.specs.declared.candidate.Candidate.{Candidate}
use Rattle.theory_decision.specs.Choice.{Symbols, is_one_of, occurs, is_curved, symbols_from, others, candidate_in, candidates, has_unsure_slope}
use Rattle.theory_search.specs.Asked.{IsWithin, AreWithin, IsAsked}
use Rattle.theory_search.specs.Candidacy.{candidate_at}

-- one symbol more
pub symbols_more : (x n : ℕ) → symbols_from x (n + 1) ≡ symbols_from x n ++ (x + n) ∷ []
symbols_more x zero = let e : x ≡ x + 0 = omega arith in ap (λ y. y ∷ []) e
symbols_more x (suc n) =
    let e : suc x + n ≡ x + suc n = omega arith in
    let one : suc n + 1 ≡ suc (n + 1) = omega arith in
    ap (symbols_from x) one ∙ ap (λ ys. x ∷ ys) (symbols_more (suc x) n ∙ ap (λ y. symbols_from (suc x) n ++ y ∷ []) e)

module _ (keep : Symbols) (F : Formula) where
  -- the symbol occurs, and isn't one to keep
  abbrev other : ℕ → Bool
  other x = not (is_one_of keep x) && occurs F x

  -- the candidates among symbols
  abbrev pub among : Symbols → List Candidate
  among xs = map (candidate_in F) (filter (λ x. not (is_curved F x)) (filter other xs))

  -- the candidates among the first symbols
  abbrev pub below : ℕ → List Candidate
  below n = among (symbols_from 0 n)

  among-append : (xs ys : Symbols) → among (xs ++ ys) ≡ among xs ++ among ys
  among-append xs ys =
      ap (λ zs. map (candidate_in F) (filter (λ x. not (is_curved F x)) zs)) (filter-append other xs ys)
      ∙ ap (map (candidate_in F)) (filter-append (λ x. not (is_curved F x)) (filter other xs) (filter other ys))
      ∙ map-append (candidate_in F) (filter (λ x. not (is_curved F x)) (filter other xs))
      (filter (λ x. not (is_curved F x)) (filter other ys))

  among_one : (x : ℕ) → among (x ∷ []) ≡ option_to_list (candidate_at keep F x)
  among_one x =
      elim (other x)
      as (λ a. map (candidate_in F) (filter (λ y. not (is_curved F y)) (cond a (x ∷ []) []))
      ≡ option_to_list (if a && not (is_curved F x) then Some (candidate_in F x) else None)) [
        | true ↦
            elim (is_curved F x)
            as (λ b. map (candidate_in F) (cond (not b) (x ∷ []) []) ≡ option_to_list (if not b then Some (candidate_in F x) else None)) [
              | true ↦ refl
              | false ↦ refl
            ]
        | false ↦ refl
      ]

  pub below_more : (n : ℕ) → below (n + 1) ≡ below n ++ option_to_list (candidate_at keep F n)
  below_more n =
      let e : 0 + n ≡ n = omega arith in
      ap among (symbols_more 0 n ∙ ap (λ y. symbols_from 0 n ++ y ∷ []) e) ∙ among-append (symbols_from 0 n) (n ∷ [])
      ∙ ap (λ cs. below n ++ cs) (among_one n)

  pub below_all : below 32 ≡ candidates keep F
  unfolding others
  below_all = refl

-- they are within the bounds
candidate_within : (F : Formula) (x : ℕ) → x < 32 → length (atoms_of F) ≤ 512 → IsWithin (candidate_in F x)
candidate_within F x h few =
    let a = count_by-le-length (λ a. holds_symbol x a.0) (atoms_of F) in
    let u = count_by-le-length (λ a. has_unsure_slope x a.0) (atoms_of F) in
    record { symbol = h; atoms = omega (arith, a, few); unsure = omega (arith, u, few) }

within_two : (cs ds : List Candidate) → AreWithin cs → AreWithin ds → AreWithin (cs ++ ds)
within_two [] ds h k = k
within_two (c ∷ cs) ds h k = (h.0, within_two cs ds h.1 k)

module _ (keep : Symbols) (F : Formula) where
  abbrev found_if : ℕ → Bool → Option Candidate
  found_if x b = if b then Some (candidate_in F x) else None

  within_one : (x : ℕ) → x < 32 → length (atoms_of F) ≤ 512 → AreWithin (option_to_list (candidate_at keep F x))
  within_one x h few =
      elim ((not (is_one_of keep x) && occurs F x) && not (is_curved F x)) as (λ b. AreWithin (option_to_list (found_if x b))) [
        | true ↦ (candidate_within F x h few, tt)
        | false ↦ tt
      ]

  at_most_one : (x : ℕ) → length (option_to_list (candidate_at keep F x)) ≤ 1
  at_most_one x =
      elim ((not (is_one_of keep x) && occurs F x) && not (is_curved F x)) as (λ b. length (option_to_list (found_if x b)) ≤ 1) [
        | true ↦ omega arith
        | false ↦ omega arith
      ]

  -- what is known of the candidates so far
  pub record IsListed (n : ℕ) (cs : List Candidate) : Type 0 where
    pub written : cs ≡ below keep F n
    pub few : length cs ≤ n
    pub within : AreWithin cs

  pub listed_none : IsListed 0 []
  listed_none = record { written = refl; few = omega arith; within = tt }

  pub listed_more : (n : ℕ) (cs ds : List Candidate) (found : Option Candidate) → n < 32 → length (atoms_of F) ≤ 512
      → found ≡ candidate_at keep F n → ds ≡ cs ++ option_to_list found → IsListed n cs → IsListed (n + 1) ds
  listed_more n cs ds found h few is grown before =
      let same : ds ≡ cs ++ option_to_list (candidate_at keep F n) = grown ∙ ap (λ o. cs ++ option_to_list o) is in
      let one = at_most_one n in
      let old = before.few in
      record {
        written = same ∙ ap (λ es. es ++ option_to_list (candidate_at keep F n)) before.written ∙ sym (below_more keep F n);
        few = rw same (rw length-append (omega (arith, one, old)));
        within = subst AreWithin (sym same) (within_two cs (option_to_list (candidate_at keep F n)) before.within (within_one n h few));
      }

  pub listed_written : (n : ℕ) (cs : List Candidate) → n ≡ 32 → IsListed n cs → cs ≡ candidates keep F
  listed_written n cs e h = h.written ∙ ap (below keep F) e ∙ below_all keep F

  pub listed_asked : (n : ℕ) (cs : List Candidate) → n ≡ 32 → IsListed n cs → cs ≢ [] → IsAsked cs
  listed_asked n cs e h some = let old = h.few in record { some = some; few = omega (arith, e, old); within = h.within }

-- the members of a conjunction
pub own_members : (F : source.Formula) (Fs : Vec source.Formula Global) (xs : List source.Formula) → F ≡ made.And Fs → xs ≡ Fs.items
    → map formula_of xs ≡ members_of (formula_of F)
own_members F Fs xs is same =
    ap (map formula_of) same ∙ sym (listed_from (map formula_of Fs.items)) ∙ ap members_of (sym (ap formula_of is ∙ formula_of-And Fs))

-- the list of the atoms is as long as that of the program
pub few_atoms : (F : Formula) (atoms : List (Bor Atom)) → length atoms ≤ 512 → rows_of atoms ≡ atoms_of F → length (atoms_of F) ≤ 512
few_atoms F atoms h e =
    let k : length (map row_of atoms) ≡ length atoms = length-map atoms row_of in
    let l : length (rows_of atoms) ≡ length (atoms_of F) = ap length e in
    omega (arith, h, k, l)
