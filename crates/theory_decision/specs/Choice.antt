-- The symbols that can be eliminated from a formula, and which of them is taken. Source: this project's own.
use Rattle.std.specs.Prelude.{◌≡◌, ℕ, zero, suc, Bool, true, false, not, ◌&&◌, ◌||◌, ◌==◌, nat_lt, List, [], ◌∷◌, map, filter, Option, option_map, position, slice_get, count_by}
use Rattle.std.specs.List.{list_any, position_or_len}
use Rattle.std.specs.Option.{is_some, unwrap_or}
use Rattle.theory_meaning.specs.declared.words.Kind.{Kind}
use Rattle.theory_meaning.specs.declared.words.Kind.TheVariants as kind
use Rattle.theory_polynomial.specs.Polynomial.{Monomial, degree_in}
use Rattle.theory_polynomial.specs.PolynomialValue.{slope_in}
use Rattle.theory_formula.specs.Formula.{Formula}
use Rattle.theory_formula.specs.FormulaAtoms.{atoms_of}
use Rattle.theory_elimination.specs.TestPoint.{holds_symbol, is_constant}
use Rattle.theory_elimination.specs.TopEquation.{plain_equation_of, members_of}
use Rattle.theory_decision.specs.declared.candidate.Candidate.{Candidate}

-- symbols, in any order
abbrev pub Symbols : Type 0
Symbols = List ℕ

-- the symbol is one of them
abbrev pub is_one_of : Symbols → ℕ → Bool
is_one_of xs x = list_any (λ y. y == x) xs

-- some atom holds the symbol
abbrev pub occurs : Formula → ℕ → Bool
occurs F x = list_any (λ a. holds_symbol x a.0) (atoms_of F)

-- in some atom its degree is above 1
abbrev pub is_curved : Formula → ℕ → Bool
is_curved F x = list_any (λ a. nat_lt 1 (degree_in x a.0)) (atoms_of F)

-- that many symbols, upwards from one on
abbrev pub symbols_from : ℕ → ℕ → Symbols
symbols_from x zero = []
symbols_from x (suc n) = x ∷ symbols_from (suc x) n

-- the symbols of a formula, but for those to keep, upwards
unfoldable pub others : Symbols → Formula → Symbols
others keep F = filter (λ x. not (is_one_of keep x) && occurs F x) (symbols_from 0 32)

-- the polynomial holds the symbol with a coefficient that isn't constant
abbrev pub has_unsure_slope : ℕ → List Monomial → Bool
has_unsure_slope x P = holds_symbol x P && not (is_constant (slope_in x P))

-- a symbol with what a choice may look at: counts of atoms, and whether a top equation has it with a constant coefficient
abbrev pub candidate_in : Formula → ℕ → Candidate
candidate_in F x = record {
  symbol = x;
  atoms = count_by (λ a. holds_symbol x a.0) (atoms_of F);
  unit = list_any (λ G. is_some (plain_equation_of x G)) (members_of F);
  unsure = count_by (λ a. has_unsure_slope x a.0) (atoms_of F);
}

-- the candidates: those of them that are linear in every atom
abbrev pub candidates : Symbols → Formula → List Candidate
candidates keep F = map (candidate_in F) (filter (λ x. not (is_curved F x)) (others keep F))

-- the symbol can be eliminated
pub record IsCandidate (keep : Symbols) (F : Formula) (x : ℕ) : Type 0 where
  pub occurring : occurs F x ≡ true
  pub free : is_one_of keep x ≡ false
  pub straight : is_curved F x ≡ false

-- the place of the first candidate before which no candidate goes
abbrev pub first_by : (Candidate → Candidate → Bool) → List Candidate → ℕ
first_by before cs = position_or_len (λ c. not (list_any (λ d. before d c) cs)) cs

-- fewer atoms hold it
abbrev pub is_rarer : Candidate → Candidate → Bool
is_rarer c d = nat_lt c.atoms d.atoms

-- fewer atoms hold it with a coefficient that isn't constant, or equally many do and fewer hold it
abbrev pub is_surer : Candidate → Candidate → Bool
is_surer c d = nat_lt c.unsure d.unsure || (c.unsure == d.unsure && is_rarer c d)

-- the place of the first that is marked as unit, and where there is none of the first by the order
abbrev pub unit_or : (Candidate → Candidate → Bool) → List Candidate → ℕ
unit_or before cs = unwrap_or (position (λ c. c.unit) cs) (first_by before cs)

-- the place that each kind of choice takes
abbrev pub choice : Kind → List Candidate → ℕ
choice kind.Listed cs = 0
choice kind.Rare cs = first_by is_rarer cs
choice kind.Unit cs = unit_or is_rarer cs
choice kind.Signed cs = unit_or is_surer cs

-- the symbol of that candidate, if there is a candidate
abbrev pub chosen : Kind → List Candidate → Option ℕ
chosen k cs = option_map (λ c. c.symbol) (slice_get cs (choice k cs))
