-- The point of the listed names, entry by entry, and that it makes a path's first formula true.
use Rattle.std.proofs.Common.{◌≡◌, ℕ, zero, suc, ◌+◌, ◌<◌, ◌≤◌, List, [], ◌∷◌, ◌++◌, drop, get_or, length, refl, sym, ap, ap₂, ◌∙◌, subst, arith, append_assoc}
use Rattle.std.proofs.lemmas.List.{append-nil}
use Rattle.theory_meaning.specs.Fraction.{Fraction}
use Rattle.theory_meaning.specs.Point.{Name, Point, AreDistinct}
use Rattle.theory_polynomial.specs.PolynomialValue.{Values, rest_of, symbol_at}
use Rattle.theory_formula.specs.Formula.{Formula, IsTrueAt}
use Rattle.theory_formula.specs.Symbols.{IsFree}
use Rattle.theory_lowering.specs.Lowered.{values_of}
use Rattle.theory_signed.proofs.KindAtoms.{kind_free}
use Rattle.theory_decision.specs.Search.{Step}
use Rattle.theory_decision.specs.Witness.{IsOver}
use Rattle.theory_decision.specs.Answers.{named}
use Rattle.theory_decision.proofs.NamedPoints.{named_truth}
use Rattle.theory_decision.proofs.Nodes.{in_simplified}
use Rattle.theory_decision.proofs.WitnessTruth.{witness_is_right}
use Rattle.theory_witness.specs.declared.pointing.Pointed.{Pointed}
use Rattle.theory_witness.specs.declared.pointing.Pointed.TheVariants as pointed
use Rattle.theory_witness.specs.Path.{IsHitPath}
use Rattle.theory_witness.specs.Pointed.{IsPointed, IsRightPoint}

-- the values from one symbol on
abbrev pub values_from : ℕ → Values → Values
values_from zero p = p
values_from (suc k) p = values_from k (rest_of p)

-- the entries from one name on
abbrev pub named_from : ℕ → List Name → Values → Point
named_from k ns p = named (drop k ns) (values_from k p)

-- the first of them
next_entry : (k : ℕ) (ns : List Name) (p : Values) (n : Name) → k < length ns
    → named_from k ns p ≡ (get_or ns k n, symbol_at k p) ∷ named_from (suc k) ns p
next_entry k [] p n h = absurd (omega (arith, h))
next_entry zero (m ∷ ns) p n h = refl
next_entry (suc k) (m ∷ ns) p n h = next_entry k ns (rest_of p) n (omega (arith, h))

-- past the last name there is none
none_left : (k : ℕ) (ns : List Name) (p : Values) → length ns ≤ k → named_from k ns p ≡ []
none_left zero [] p h = refl
none_left (suc k) [] p h = refl
none_left zero (m ∷ ns) p h = absurd (omega (arith, h))
none_left (suc k) (m ∷ ns) p h = none_left k ns (rest_of p) (omega (arith, h))

-- one entry more
pub entry_added : (k : ℕ) (ns : List Name) (p : Values) (n m : Name) (q : Fraction) (old new : Point) → k < length ns → n ≡ get_or ns k n
    → m ≡ n → q ≡ symbol_at k p → new ≡ old ++ (m, q) ∷ [] → old ++ named_from k ns p ≡ named ns p → new ++ named_from (k + 1) ns p ≡ named ns p
entry_added k ns p n m q old new within item copied value adds h =
    let after : k + 1 ≡ suc k = omega arith in
    ap (λ (i : ℕ). new ++ named_from i ns p) after
    ∙ ap (λ (es : Point). es ++ named_from (suc k) ns p) adds
    ∙ append_assoc old ((m, q) ∷ []) (named_from (suc k) ns p)
    ∙ ap₂ (λ (o : Name) (v : Fraction). old ++ (o, v) ∷ named_from (suc k) ns p) (copied ∙ item) value
    ∙ ap (λ (es : Point). old ++ es) (sym (next_entry k ns p n within)) ∙ h

-- after the last name all stand there
pub all_entries : (k : ℕ) (ns : List Name) (p : Values) (old : Point) → length ns ≤ k → old ++ named_from k ns p ≡ named ns p → old ≡ named ns p
all_entries k ns p old end h =
    sym (append-nil old) ∙ ap (λ (es : Point). old ++ es) (sym (none_left k ns p end)) ∙ h

-- the formula of the first step is the simplified one, over the same symbols
pub point_is_right : (ns : List Name) (path : List Step) (a : Pointed) → AreDistinct ns → IsHitPath (length ns) path → IsPointed ns path a
    → IsRightPoint ns path a
point_is_right ns [] (pointed.At p) d h w = tt
point_is_right ns [] pointed.Wide d h w = tt
point_is_right ns (s ∷ path) pointed.Wide d h w = tt
point_is_right ns (s ∷ path) (pointed.At p) d (kind, F, proper, over, e) (given, q, w, is) =
    let n = length ns in
    let there : IsTrueAt F q = (witness_is_right kind n F (s ∷ path) given q proper over e w).truth in
    let same : IsTrueAt s.formula q = subst (λ (G : Formula). IsTrueAt G q) (sym e.0) (sym (in_simplified kind F q proper) ∙ there) in
    let first_over : IsOver n s.formula = λ y l. subst (IsFree y) (sym e.0) (kind_free y kind F (over y l)) in
    subst (λ (r : Point). IsTrueAt s.formula (values_of ns r)) (sym is) (named_truth ns q s.formula d first_over ∙ same)
