-- The signs that a polynomial can have where facts on its symbols are true, read off its terms.
-- Source: textbook (the rule of signs); which facts are read is this project's own.
use Rattle.std.specs.Prelude.{ℕ, suc, Bool, false, ◌&&◌, if◌then◌else◌, List, [], ◌∷◌, Option, None, Some, pos, nat_eq, nat_lt}
use Rattle.std.specs.Ordering.{int_eq}
use Rattle.std.specs.List.{sum}
use Rattle.theory_formula.specs.declared.signs.Signs.{Signs}
use Rattle.theory_formula.specs.declared.signs.Signs.TheVariants as set
use Rattle.theory_formula.specs.Signs.{sign_of_whole}
use Rattle.theory_polynomial.specs.Terms.{Monomial, symbol_of}
use Rattle.theory_elimination.specs.TestPoint.{is_same_sign}
use Rattle.theory_elimination.specs.Facts.{Facts, known_set, judged_by}
use Rattle.theory_signed.specs.SignRules.{Known, known_by, powers, products, sums}

-- of the product of powers of symbols, where `known` says what is known of each symbol: the first exponent is that of symbol 0
abbrev pub of_powers : (ℕ → Known) → List ℕ → Known
of_powers known [] = Some set.Pos
of_powers known (n ∷ e) = products (powers (known 0) n) (of_powers (λ k. known (suc k)) e)

-- of a term: its coefficient's sign times those of its powers
abbrev pub of_term : (ℕ → Known) → Monomial → Known
of_term known t = products (known_by (is_same_sign (sign_of_whole t.coefficient))) (of_powers known t.powers)

-- of a sum of terms, which are added from the left to a number of whose sign this is known
abbrev pub of_terms : (ℕ → Known) → Known → List Monomial → Known
of_terms known T [] = T
of_terms known T (t ∷ ts) = of_terms known (sums T (of_term known t)) ts

-- what the facts say of each of the 32 symbols
abbrev pub of_symbols : Facts → ℕ → Known
of_symbols K k = if nat_lt k 32 then known_set (symbol_of k) K else None

-- what the facts on its symbols say of a polynomial's sign
abbrev pub possible_signs : Facts → List Monomial → Known
possible_signs K P = of_terms (of_symbols K) (Some set.Zero) P

-- the polynomial is a single symbol
abbrev pub is_symbol : List Monomial → Bool
is_symbol (t ∷ []) = int_eq t.coefficient (pos 1) && nat_eq (sum t.powers) 1
is_symbol _ = false

-- what they say of a condition, if it isn't on a single symbol
abbrev pub judged_by_signs : Facts → List Monomial → Signs → Option Bool
judged_by_signs K P S = if is_symbol P then None else judged_by S (possible_signs K P)
