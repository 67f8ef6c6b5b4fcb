-- A formula over listed names has the same truth at a point of symbols and at the named point.
use Rattle.std.proofs.Common.{◌≡◌, ℕ, zero, suc, ◌<◌, length, Bool, true, List, [], ◌∷◌, refl, ap, ap₂, ◌∙◌, subst, arith, inl, inr}
use Rattle.std.specs.Prelude.{map, nat_lt, if◌then◌else◌}
use Rattle.std.specs.Str.{bytes_eq}
use Rattle.std.proofs.lemmas.Bool.{cases_Bool}
use Rattle.std.proofs.lemmas.Slice.Eq.{bytes_eq-Decides}
use Rattle.theory_meaning.specs.Fraction.{Fraction, IsSame}
use Rattle.theory_meaning.specs.Point.{Name, Point, value_at, IsNew, AreDistinct}
use Rattle.theory_meaning.proofs.OrderLaws.{same_itself}
use Rattle.theory_polynomial.specs.PolynomialValue.{Values, first_of, rest_of, symbol_at}
use Rattle.theory_formula.specs.Formula.{Formula, truth_at}
use Rattle.theory_lowering.specs.Lowered.{values_of}
use Rattle.theory_decision.specs.Answers.{named}
use Rattle.theory_decision.specs.Witness.{IsOver}
use Rattle.theory_formula.proofs.ReadSymbols.{truth_reads}
use Rattle.theory_decision.proofs.AtomFacts.{occurs_not_free}

same_bytes : (n : Name) → bytes_eq n n ≡ true
same_bytes n = (bytes_eq-Decides n n).1 refl

-- the first values, one for each name
abbrev firsts : List Name → Values → Values
firsts [] p = []
firsts (n ∷ ns) p = first_of p ∷ firsts ns (rest_of p)

other_entry : (n : Name) (v : Fraction) (q : Point) (ms : List Name) → IsNew n ms → map (value_at ((n, v) ∷ q)) ms ≡ map (value_at q) ms
other_entry n v q [] h = refl
other_entry n v q (m ∷ ms) h =
    ap₂ (λ (a : Fraction) (vs : List Fraction). a ∷ vs) (ap (λ (b : Bool). if b then v else value_at q m) h.0) (other_entry n v q ms h.1)

values_of_named : (ns : List Name) (p : Values) → AreDistinct ns → values_of ns (named ns p) ≡ firsts ns p
values_of_named [] p h = refl
values_of_named (n ∷ ns) p h =
    ap₂ (λ (a : Fraction) (vs : List Fraction). a ∷ vs)
    (ap (λ (b : Bool). if b then first_of p else value_at (named ns (rest_of p)) n) (same_bytes n))
    (other_entry n (first_of p) (named ns (rest_of p)) ns h.0 ∙ values_of_named ns (rest_of p) h.1)

first_symbols : (ns : List Name) (p : Values) (y : ℕ) → y < length ns → symbol_at y (firsts ns p) ≡ symbol_at y p
first_symbols [] p y h = absurd (omega (arith, h))
first_symbols (n ∷ ns) p zero h = refl
first_symbols (n ∷ ns) p (suc y) h = first_symbols ns (rest_of p) y (omega (arith, h))

pub named_symbol : (ns : List Name) (p : Values) (y : ℕ) → AreDistinct ns → y < length ns → symbol_at y (values_of ns (named ns p)) ≡ symbol_at y p
named_symbol ns p y h l = ap (symbol_at y) (values_of_named ns p h) ∙ first_symbols ns p y l

pub named_truth : (ns : List Name) (p : Values) (F : Formula) → AreDistinct ns → IsOver (length ns) F
    → truth_at F (values_of ns (named ns p)) ≡ truth_at F p
named_truth ns p F h over =
    let q = values_of ns (named ns p) in
    truth_reads q p F (λ y o. elim (cases_Bool (nat_lt y (length ns))) [
      | inl l ↦ subst (λ (a : Fraction). IsSame (symbol_at y q) a) (named_symbol ns p y h (grind (arith, l))) (same_itself (symbol_at y q))
      | inr l ↦ absurd (occurs_not_free y F o (over y (grind (arith, l))))
    ])
