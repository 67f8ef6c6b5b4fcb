-- What is found at a simplified formula that isn't decided.
use Rattle.std.proofs.Common.{◌≡◌, ℕ, zero, suc, ◌+◌, ◌<◌, ◌≤◌, Bool, true, false, Some, None, List, [], ◌∷◌, ◌++◌, length, get_or, refl, sym, ap, ◌∙◌, subst, arith, inl, inr}
use Rattle.std.specs.Prelude.{◌≢◌, ◌||◌, nat_lt, filter, cond, flat_map, slice_get, option_map, if◌then◌else◌}
use Rattle.std.specs.List.{list_any}
use Rattle.std.proofs.lemmas.Bool.{cases_Bool}
use Rattle.theory_formula.specs.declared.signs.Signs.{Signs}
use Rattle.theory_polynomial.specs.Polynomial.{Monomial}
use Rattle.theory_meaning.specs.declared.words.Kind.{Kind}
use Rattle.theory_formula.specs.Formula.{Formula}
use Rattle.theory_formula.specs.FormulaAtoms.{atoms_of}
use Rattle.std.proofs.lemmas.List.{append_assoc}
use Rattle.theory_formula.specs.Symbols.{IsProper}
use Rattle.theory_decision.specs.declared.candidate.Candidate.{Candidate}
use Rattle.theory_decision.specs.Choice.{Symbols, symbols_from, others, candidates, choice, chosen}
use Rattle.theory_decision.specs.Finding.{StuckAtom, stuck_at, stuck_atoms, fails, stuck, large, leaf, eliminates, size_of, is_large, finding_by, open_finding}
use Rattle.theory_search.specs.Atoms.{is_other}
use Rattle.theory_search.specs.Outcomes.{stuck_other, stuck_below}
use Rattle.theory_search.specs.Runs.{CanBranch}
use Rattle.theory_search.specs.Asked.{IsWithin, AreWithin}
use Rattle.theory_decision.proofs.ChoicePlaces.{choice_within}
use Rattle.theory_decision.proofs.Findings.{candidate_is_linear, chosen_is_candidate}
use Rattle.theory_search.proofs.CandidateLemmas.{symbols_more}

module _ (keep : Symbols) where
  by_none : (S : Formula) (xs : Symbols) → xs ≢ [] → finding_by keep S xs None ≡ fails (stuck (stuck_atoms keep S))
  by_none S [] n = absurd (n refl)
  by_none S (y ∷ ys) n = refl

  by_some : (S : Formula) (xs : Symbols) (x : ℕ) → xs ≢ [] → finding_by keep S xs (Some x) ≡ eliminates x S
  by_some S [] x n = absurd (n refl)
  by_some S (y ∷ ys) x n = refl

  module _ (kind : Kind) (depth : ℕ) (S : Formula) where
    -- it is too large
    pub found_large : is_large depth S ≡ true → open_finding keep kind depth S ≡ fails large
    found_large e = ap (λ b. if b then fails large else finding_by keep S (others keep S) (chosen kind (candidates keep S))) e

    within : is_large depth S ≡ false → open_finding keep kind depth S ≡ finding_by keep S (others keep S) (chosen kind (candidates keep S))
    within e = ap (λ b. if b then fails large else finding_by keep S (others keep S) (chosen kind (candidates keep S))) e

    -- only kept symbols occur
    pub found_leaf : is_large depth S ≡ false → others keep S ≡ [] → open_finding keep kind depth S ≡ leaf S
    found_leaf e none = within e ∙ ap (λ xs. finding_by keep S xs (chosen kind (candidates keep S))) none

    -- no symbol can be eliminated
    pub found_stuck : is_large depth S ≡ false → others keep S ≢ [] → chosen kind (candidates keep S) ≡ None
        → open_finding keep kind depth S ≡ fails (stuck (stuck_atoms keep S))
    found_stuck e n none = within e ∙ ap (finding_by keep S (others keep S)) none ∙ by_none S (others keep S) n

    -- a symbol is chosen
    pub found_symbol : (x : ℕ) → is_large depth S ≡ false → others keep S ≢ [] → chosen kind (candidates keep S) ≡ Some x
        → open_finding keep kind depth S ≡ eliminates x S
    found_symbol x e n is = within e ∙ ap (finding_by keep S (others keep S)) is ∙ by_some S (others keep S) x n

-- a test of symbols one after the other
any_append : (t : ℕ → Bool) (xs ys : Symbols) → list_any t (xs ++ ys) ≡ list_any t xs || list_any t ys
any_append t [] ys = refl
any_append t (x ∷ xs) ys =
    elim (t x) as (λ b. b || list_any t (xs ++ ys) ≡ (b || list_any t xs) || list_any t ys) [ true ↦ refl | false ↦ any_append t xs ys ]

or_false : (b : Bool) → b || false ≡ b
or_false true = refl
or_false false = refl

pub any_more : (t : ℕ → Bool) (n : ℕ) → list_any t (symbols_from 0 (n + 1)) ≡ list_any t (symbols_from 0 n) || t n
any_more t n =
    let e : 0 + n ≡ n = omega arith in
    ap (list_any t) (symbols_more 0 n ∙ ap (λ y. symbols_from 0 n ++ y ∷ []) e) ∙ any_append t (symbols_from 0 n) (n ∷ [])
    ∙ ap (λ b. list_any t (symbols_from 0 n) || b) (or_false (t n))

-- where one symbol passes, the test of more of them is true
pub any_later : (t : ℕ → Bool) (n m : ℕ) → n < m → t n ≡ true → list_any t (symbols_from 0 m) ≡ true
any_later t n m h e = any_from 0 m (omega arith) (omega (arith, h))
  where
    or_second : (a b : Bool) → b ≡ true → a || b ≡ true
    or_second true b k = refl
    or_second false b k = k

    any_from : (x k : ℕ) → x ≤ n → n < x + k → list_any t (symbols_from x k) ≡ true
    any_from x zero l g = absurd (omega (arith, l, g))
    any_from x (suc k) l g = elim (cases_Bool (nat_lt x n)) [
      | inl later ↦
          let above : suc x ≤ n = grind (arith, later) in
          or_second (t x) (list_any t (symbols_from (suc x) k)) (any_from (suc x) k above (omega (arith, g)))
      | inr here ↦
          let same : x ≡ n = grind (arith, here, l) in
          ap (λ b. b || list_any t (symbols_from (suc x) k)) (ap t same ∙ e)
    ]

none_pass : (t : ℕ → Bool) (xs : Symbols) → list_any t xs ≡ false → filter t xs ≡ []
none_pass t [] e = refl
none_pass t (x ∷ xs) e =
    elim (t x) as (λ b. b || list_any t xs ≡ false → cond b (x ∷ filter t xs) (filter t xs) ≡ []) [
      | true ↦ λ h. absurd cc
      | false ↦ λ h. none_pass t xs h
    ] e

some_passes : (t : ℕ → Bool) (xs : Symbols) → list_any t xs ≡ true → filter t xs ≢ []
some_passes t [] e = absurd cc
some_passes t (x ∷ xs) e =
    elim (t x) as (λ b. b || list_any t xs ≡ true → cond b (x ∷ filter t xs) (filter t xs) ≢ []) [
      | true ↦ λ h f. cc
      | false ↦ λ h. some_passes t xs h
    ] e

-- so it tells whether a symbol occurs that isn't kept
no_others : (keep : Symbols) (S : Formula) → list_any (is_other keep (atoms_of S)) (symbols_from 0 32) ≡ false → others keep S ≡ []
unfolding others
no_others keep S e = none_pass (is_other keep (atoms_of S)) (symbols_from 0 32) e

some_other : (keep : Symbols) (S : Formula) → list_any (is_other keep (atoms_of S)) (symbols_from 0 32) ≡ true → others keep S ≢ []
unfolding others
some_other keep S e = some_passes (is_other keep (atoms_of S)) (symbols_from 0 32) e

-- the same, by the test of the program
module _ (keep : Symbols) (S : Formula) (rows found : List (List Monomial × Signs)) (b : Bool) where
  at_own : rows ≡ found → found ≡ atoms_of S → b ≡ list_any (is_other keep rows) (symbols_from 0 32)
      → b ≡ list_any (is_other keep (atoms_of S)) (symbols_from 0 32)
  at_own e f is = is ∙ ap (λ rs. list_any (is_other keep rs) (symbols_from 0 32)) (e ∙ f)

  pub has_none : rows ≡ found → found ≡ atoms_of S → b ≡ list_any (is_other keep rows) (symbols_from 0 32) → b ≡ false → others keep S ≡ []
  has_none e f is none = no_others keep S (sym (at_own e f is) ∙ none)

  pub has_some : rows ≡ found → found ≡ atoms_of S → b ≡ list_any (is_other keep rows) (symbols_from 0 32) → b ≡ true → others keep S ≢ []
  has_some e f is some = some_other keep S (sym (at_own e f is) ∙ some)

-- the stuck atoms, symbol by symbol
flat_append : (f : ℕ → List StuckAtom) (xs ys : Symbols) → flat_map f (xs ++ ys) ≡ flat_map f xs ++ flat_map f ys
flat_append f [] ys = refl
flat_append f (x ∷ xs) ys = ap (λ zs. f x ++ zs) (flat_append f xs ys) ∙ sym (append_assoc (f x) (flat_map f xs) (flat_map f ys))

append_none : (xs : List StuckAtom) → xs ++ [] ≡ xs
append_none [] = refl
append_none (x ∷ xs) = ap (λ ys. x ∷ ys) (append_none xs)

pub stuck_more : (keep : Symbols) (rows : List (List Monomial × Signs)) (n : ℕ)
    → stuck_below keep rows (n + 1) ≡ stuck_below keep rows n ++ stuck_other keep rows n
stuck_more keep rows n =
    let e : 0 + n ≡ n = omega arith in
    ap (flat_map (stuck_other keep rows)) (symbols_more 0 n ∙ ap (λ y. symbols_from 0 n ++ y ∷ []) e)
    ∙ flat_append (stuck_other keep rows) (symbols_from 0 n) (n ∷ []) ∙ ap (λ ys. stuck_below keep rows n ++ ys) (append_none (stuck_other keep rows n))

-- of symbols that pass no test there is none
passed : (f : ℕ → List StuckAtom) (t : ℕ → Bool) (xs : Symbols) → flat_map (λ x. if t x then f x else []) xs ≡ flat_map f (filter t xs)
passed f t [] = refl
passed f t (x ∷ xs) =
    elim (t x) as (λ b. (if b then f x else []) ++ flat_map (λ y. if t y then f y else []) xs ≡ flat_map f (cond b (x ∷ filter t xs) (filter t xs))) [
      | true ↦ ap (λ ys. f x ++ ys) (passed f t xs)
      | false ↦ passed f t xs
    ]

pub stuck_all : (keep : Symbols) (S : Formula) → stuck_below keep (atoms_of S) 32 ≡ stuck_atoms keep S
unfolding others
stuck_all keep S = passed (λ x. stuck_at x (atoms_of S)) (is_other keep (atoms_of S)) (symbols_from 0 32)

pub not_large : (depth : ℕ) (S : Formula) → depth ≤ 64 → size_of S ≤ 512 → is_large depth S ≡ false
not_large depth S h k = grind (arith, h, k)

-- the candidate at the place that is taken
there : (cs : List Candidate) (i : ℕ) (c : Candidate) → i < length cs → c ≡ get_or cs i c → slice_get cs i ≡ Some c
there [] i c h e = absurd (omega (arith, h))
there (d ∷ cs) zero c h e = ap Some (sym e)
there (d ∷ cs) (suc i) c h e = there cs i c (omega (arith, h)) e

pub taken_there : (k : Kind) (cs : List Candidate) (i : ℕ) (c : Candidate) → i ≡ choice k cs → i < length cs → c ≡ get_or cs i c
    → Some c.symbol ≡ chosen k cs
taken_there k cs i c e h is =
    sym (ap (option_map (λ (d : Candidate). d.symbol)) (ap (slice_get cs) (sym e) ∙ there cs i c h is))

pub within_there : (cs : List Candidate) (i : ℕ) (c : Candidate) → AreWithin cs → i < length cs → c ≡ get_or cs i c → IsWithin c
within_there [] i c w h e = absurd (omega (arith, h))
within_there (d ∷ cs) zero c w h e = subst IsWithin (sym e) w.0
within_there (d ∷ cs) (suc i) c w h e = within_there cs i c w.1 (omega (arith, h)) e

pub some_of : (cs : List Candidate) → (length cs ≡ 0 → ⊥) → cs ≢ []
some_of cs n = λ e. n (ap length e)

pub place_within : (k : Kind) (cs : List Candidate) (i : ℕ) → i ≡ choice k cs → cs ≢ [] → i < length cs
place_within k cs i e n = subst (λ j. j < length cs) (sym e) (choice_within k cs n)

-- the symbol that is chosen can be eliminated
pub branches_in : (keep : Symbols) (kind : Kind) (depth x : ℕ) (S : Formula) → depth ≤ 64 → x < 32 → IsProper S
    → chosen kind (candidates keep S) ≡ Some x → CanBranch depth x S
branches_in keep kind depth x S h small proper e = record {
  shallow = omega (arith, h);
  symbol = small;
  linear = candidate_is_linear keep S x proper (chosen_is_candidate keep kind S x e);
}
