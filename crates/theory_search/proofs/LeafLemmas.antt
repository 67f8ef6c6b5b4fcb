-- Leaves and the number of their atoms.
use Rattle.std.proofs.Common.{◌≡◌, ℕ, ◌+◌, ◌<◌, ◌≤◌, Bool, true, false, List, [], ◌∷◌, ◌++◌, length, length-append, map, refl, sym, ap, ◌∙◌, arith, inl, inr}
use Rattle.std.specs.Prelude.{◌&&◌, not, nat_lt}
use Rattle.std.proofs.lemmas.Bool.{cases_Bool}
use Rattle.std.proofs.lemmas.List.{length-map, map-append}
use Rattle.std.specs.Borrow.{Bor}
use Rattle.theory_signs.specs.declared.atom.Atom.{Atom}
use Rattle.theory_signs.specs.declared.formula.Formula as source
use Rattle.theory_signs.specs.Plain.{formula_of}
use Rattle.theory_formula.specs.Formula.{Formula, formulas_from, disjunction}
use Rattle.theory_formula.specs.FormulaAtoms.{atoms_of, atoms_of_all}
use Rattle.theory_decision.specs.Finding.{size_of}
use Rattle.theory_decision.specs.Search.{AreTooMany}
use Rattle.theory_search.specs.Atoms.{row_of, rows_of}

-- how many atoms there are in leaves
abbrev pub total : List Formula → ℕ
total leaves = size_of (disjunction (formulas_from leaves))

pub total_more : (leaves : List Formula) (S : Formula) → total (leaves ++ S ∷ []) ≡ total leaves + size_of S
total_more [] S =
    let one = length-append (atoms_of S) [] in
    omega (arith, one)
total_more (T ∷ leaves) S =
    let here = length-append (atoms_of T) (atoms_of_all (formulas_from (leaves ++ S ∷ []))) in
    let before = length-append (atoms_of T) (atoms_of_all (formulas_from leaves)) in
    let rest = total_more leaves S in
    omega (arith, here, before, rest)

second_true : (a b : Bool) → a && b ≡ true → b ≡ true
second_true true b e = e
second_true false b e = absurd cc

not_true : (a : Bool) → not a ≡ true → a ≡ false
not_true true e = absurd cc
not_true false e = refl

second_false : (a b : Bool) → a ≡ true → a && b ≡ false → b ≡ false
second_false true b h e = e
second_false false b h e = absurd cc

is_true : (a : Bool) → not a ≡ false → a ≡ true
is_true true e = refl
is_true false e = absurd cc

one_more : (leaves : List Formula) (S : Formula) → length (leaves ++ S ∷ []) ≡ length leaves + 1
one_more leaves S = length-append leaves (S ∷ [])

-- whether there is room for one more
module _ (leaves : List Formula) (S : Formula) (many a n : ℕ) (b : Bool) (long : many ≡ length leaves) (count : a ≡ total leaves) (own : n ≡ size_of S)
    (told : b ≡ nat_lt many 4096 && not (nat_lt 16384 (a + n))) where
  pub small_enough : b ≡ true → a + n ≤ 16384
  small_enough e =
      let small = not_true (nat_lt 16384 (a + n)) (second_true (nat_lt many 4096) (not (nat_lt 16384 (a + n))) (sym told ∙ e)) in
      grind (arith, small)

  pub has_no_room : b ≡ false → AreTooMany (leaves ++ S ∷ [])
  has_no_room e = elim (cases_Bool (nat_lt many 4096)) [
    | inl few ↦
        let over = is_true (nat_lt 16384 (a + n)) (second_false (nat_lt many 4096) (not (nat_lt 16384 (a + n))) few (sym told ∙ e)) in
        let t = total_more leaves S in
        let o : 16384 < a + n = grind (arith, over) in
        inr (omega (arith, o, t, count, own))
    | inr full ↦
        let l = one_more leaves S in
        let f : 4096 ≤ many = grind (arith, full) in
        inl (omega (arith, f, l, long))
  ]

-- the same of lists of the program
pub as_many : (leaves : List source.Formula) → length (map formula_of leaves) ≡ length leaves
as_many leaves = length-map leaves formula_of

pub atom_count : (S : Formula) (atoms : List (Bor Atom)) → rows_of atoms ≡ atoms_of S → length atoms ≡ size_of S
atom_count S atoms e =
    let k : length (map row_of atoms) ≡ length atoms = length-map atoms row_of in
    sym k ∙ ap length e

pub counted_more : (old new : List source.Formula) (leaf : source.Formula) (a n : ℕ) → a ≡ total (map formula_of old) → n ≡ size_of (formula_of leaf)
    → new ≡ old ++ leaf ∷ [] → a + n ≡ total (map formula_of new)
counted_more old new leaf a n e f grown =
    let whole : total (map formula_of new) ≡ total (map formula_of old ++ formula_of leaf ∷ []) =
    ap total (ap (map formula_of) grown ∙ map-append formula_of old (leaf ∷ []))
    in
    let more = total_more (map formula_of old) (formula_of leaf) in
    omega (arith, e, f, whole, more)
