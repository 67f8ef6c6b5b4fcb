-- The numbers by which different formulas are told apart at once.
use Rattle.std.specs.Prelude.{ℕ}
use Rattle.std.specs.List.{fold}
use Rattle.std.specs.Hash as hashed
use Rattle.std.specs.Hash.FoldHasher as folding
use Rattle.std.specs.declared.hash.FoldHasher.{FoldHasher}
use Rattle.theory_poly.specs.Hashes.{hash_of}
use Rattle.theory_formula.specs.Formula.{Formula, Formulas, always, never, atom, conjunction, disjunction, none, more}

-- what tells formulas apart at first sight: the kind, and of an atom the hash of its polynomial
abbrev pub head_of : Formula → ℕ
head_of always = 0
head_of never = 1
head_of (atom P S) = hash_of P
head_of (conjunction Fs) = 2
head_of (disjunction Fs) = 3

-- a hasher that was fed the head of a formula
abbrev pub with_head : FoldHasher → Formula → FoldHasher
with_head hasher F = fold folding.write hasher (hashed.u64 (head_of F))

-- a hasher that was fed the heads of formulas, in their order
abbrev pub with_heads : FoldHasher → Formulas → FoldHasher
with_heads hasher none = hasher
with_heads hasher (more F Fs) = with_heads (with_head hasher F) Fs

-- a hasher that was fed a formula: its head, and the heads of its members
abbrev pub with_formula : FoldHasher → Formula → FoldHasher
with_formula hasher (conjunction Fs) = with_heads (with_head hasher (conjunction Fs)) Fs
with_formula hasher (disjunction Fs) = with_heads (with_head hasher (disjunction Fs)) Fs
with_formula hasher F = with_head hasher F

-- the hash of a formula
abbrev pub hash_of_formula : Formula → ℕ
hash_of_formula F = folding.finish (with_formula folding.initial F)
