-- What is found at a node says what the simplified formula is, and that the chosen symbol is linear and not kept.
use Rattle.std.proofs.Common.{◌≡◌, ℕ, zero, suc, ◌≤◌, Bool, true, false, List, [], ◌∷◌, Option, None, Some, refl, subst, arith}
use Rattle.std.specs.Prelude.{◌&&◌, ◌||◌, not, nat_lt, filter, map, cond, option_map, slice_get, if◌then◌else◌}
use Rattle.std.specs.List.{list_any}
use Rattle.theory_polynomial.specs.Polynomial.{degree_in}
use Rattle.theory_formula.specs.Formula.{Formula, always, never, atom, conjunction, disjunction}
use Rattle.theory_formula.specs.FormulaAtoms.{atoms_of}
use Rattle.theory_formula.specs.SignCondition.{IsAtomPolynomial}
use Rattle.theory_elimination.specs.Elimination.{IsLinear, IsLinearAtom}
use Rattle.theory_elimination.proofs.AtomLists.{Row, EachRow, rows_of_atoms, atoms_of_rows}
use Rattle.theory_meaning.specs.declared.words.Kind.{Kind}
use Rattle.theory_decision.specs.declared.candidate.Candidate.{Candidate}
use Rattle.theory_decision.specs.Choice.{Symbols, is_one_of, occurs, is_curved, symbols_from, others, candidate_in, candidates, choice, chosen, IsCandidate}
use Rattle.theory_decision.specs.Finding.{Finding, nowhere, everywhere, fails, leaf, eliminates, large, is_large, reached, finding_by, open_finding, finding_in, finding}
use Rattle.theory_signed.specs.ByKind.{simplified_for}
use Rattle.theory_formula.specs.Symbols.{IsProper}

abbrev EachSymbol : (ℕ → Type 0) → Symbols → Type 0
EachSymbol P [] = Unit {0}
EachSymbol P (x ∷ xs) = P x × EachSymbol P xs

filtered : (P : ℕ → Type 0) (t : ℕ → Bool) (xs : Symbols) → EachSymbol P xs → EachSymbol P (filter t xs)
filtered P t [] h = tt
filtered P t (x ∷ xs) h =
    elim (t x) as (λ b. EachSymbol P (cond b (x ∷ filter t xs) (filter t xs))) [ true ↦ (h.0, filtered P t xs h.1) | false ↦ filtered P t xs h.1 ]

passing : (t : ℕ → Bool) (xs : Symbols) → EachSymbol (λ x. t x ≡ true) (filter t xs)
passing t [] = tt
passing t (x ∷ xs) =
    elim (t x) as (λ b. t x ≡ b → EachSymbol (λ x. t x ≡ true) (cond b (x ∷ filter t xs) (filter t xs))) [
      | true ↦ λ e. (e, passing t xs)
      | false ↦ λ e. passing t xs
    ] refl

each_of_two : (P Q R : ℕ → Type 0) (xs : Symbols) → ((x : ℕ) → P x → Q x → R x) → EachSymbol P xs → EachSymbol Q xs → EachSymbol R xs
each_of_two P Q R [] f h k = tt
each_of_two P Q R (x ∷ xs) f h k = (f x h.0 k.0, each_of_two P Q R xs f h.1 k.1)

same_some : {A : Type 0} {a b : A} → Some a ≡ Some b → a ≡ b
same_some e = cc

at_place : (P : ℕ → Type 0) (S : Formula) (xs : Symbols) (k : ℕ) (x : ℕ) → EachSymbol P xs
    → option_map (λ (c : Candidate). c.symbol) (slice_get (map (candidate_in S) xs) k) ≡ Some x → P x
at_place P S [] k x h e = absurd cc
at_place P S (y ∷ xs) zero x h e = subst P (same_some e) h.0
at_place P S (y ∷ xs) (suc k) x h e = at_place P S xs k x h.1 e

not_kept : (a b : Bool) → not a && b ≡ true → a ≡ false
not_kept true b e = absurd cc
not_kept false b e = refl

is_there : (a b : Bool) → not a && b ≡ true → b ≡ true
is_there true b e = absurd cc
is_there false b e = e

not_true : (a : Bool) → not a ≡ true → a ≡ false
not_true true e = absurd cc
not_true false e = refl

others_pass : (keep : Symbols) (S : Formula) → EachSymbol (λ x. not (is_one_of keep x) && occurs S x ≡ true) (others keep S)
unfolding others
others_pass keep S = passing (λ x. not (is_one_of keep x) && occurs S x) (symbols_from 0 32)

pub chosen_is_candidate : (keep : Symbols) (kind : Kind) (S : Formula) (x : ℕ) → chosen kind (candidates keep S) ≡ Some x → IsCandidate keep S x
chosen_is_candidate keep kind S x e =
    let t : ℕ → Bool = λ y. not (is_curved S y) in
    at_place (IsCandidate keep S) S (filter t (others keep S)) (choice kind (candidates keep S)) x
    (each_of_two (λ y. not (is_one_of keep y) && occurs S y ≡ true) (λ y. t y ≡ true) (IsCandidate keep S) (filter t (others keep S))
    (λ y h k. record {
      occurring = is_there (is_one_of keep y) (occurs S y) h;
      free = not_kept (is_one_of keep y) (occurs S y) h;
      straight = not_true (is_curved S y) k;
    })
    (filtered (λ y. not (is_one_of keep y) && occurs S y ≡ true) t (others keep S) (others_pass keep S)) (passing t (others keep S))) e

-- such a symbol is linear in every atom
neither : (a b : Bool) → a || b ≡ false → (a ≡ false) × (b ≡ false)
neither true b e = absurd cc
neither false b e = (refl, e)

at_most_one : (n : ℕ) → nat_lt 1 n ≡ false → n ≤ 1
at_most_one n h = grind (arith, h)

rows_linear : (x : ℕ) (rows : List Row) → EachRow (λ P S. IsAtomPolynomial P) rows → list_any (λ (a : Row). nat_lt 1 (degree_in x a.0)) rows ≡ false
    → EachRow (IsLinearAtom x) rows
rows_linear x [] h e = tt
rows_linear x (a ∷ rows) h e =
    let n = neither (nat_lt 1 (degree_in x a.0)) (list_any (λ (b : Row). nat_lt 1 (degree_in x b.0)) rows) e in
    (record { poly = h.0; linear = at_most_one (degree_in x a.0) n.0 }, rows_linear x rows h.1 n.1)

pub candidate_is_linear : (keep : Symbols) (S : Formula) (x : ℕ) → IsProper S → IsCandidate keep S x → IsLinear x S
candidate_is_linear keep S x h c =
    atoms_of_rows (IsLinearAtom x) S (rows_linear x (atoms_of S) (rows_of_atoms (λ P S. IsAtomPolynomial P) S h) c.straight)

module _ (keep : Symbols) (kind : Kind) (depth : ℕ) where
  -- what a finding says of the simplified formula
  abbrev pub Says : Formula → Finding → Type 0
  Says T nowhere = T ≡ never
  Says T everywhere = T ≡ always
  Says T (fails f) = Unit {0}
  Says T (leaf S) = (T ≡ S) × (others keep S ≡ [])
  Says T (eliminates x S) = (T ≡ S) × IsCandidate keep S x

  says_by : (T : Formula) (xs : Symbols) (o : Option ℕ) → others keep T ≡ xs → chosen kind (candidates keep T) ≡ o
      → Says T (finding_by keep T xs o)
  says_by T [] o e f = (refl, e)
  says_by T (y ∷ ys) None e f = tt
  says_by T (y ∷ ys) (Some x) e f = (refl, chosen_is_candidate keep kind T x f)

  says_open : (T : Formula) → Says T (open_finding keep kind depth T)
  says_open T =
      elim (is_large depth T)
      as (λ b. Says T (if b then fails large else finding_by keep T (others keep T) (chosen kind (candidates keep T)))) [
        | true ↦ tt
        | false ↦ says_by T (others keep T) (chosen kind (candidates keep T)) refl refl
      ]

  says : (T : Formula) → Says T (finding_in keep kind depth T)
  says always = refl
  says never = refl
  says (atom P S) = says_open (atom P S)
  says (conjunction Fs) = says_open (conjunction Fs)
  says (disjunction Fs) = says_open (disjunction Fs)

  -- what is found at a formula says it of its simplified form
  pub found_says : (F : Formula) (f : Finding) → finding keep kind depth (reached F) ≡ f → Says (simplified_for kind F) f
  found_says F f e = subst (Says (simplified_for kind F)) e (says (simplified_for kind F))
