-- Values of symbols in a list.
use Rattle.std.proofs.Common.{◌≡◌, ℕ, zero, suc, ◌+◌, ◌-◌, ◌<◌, ◌≤◌, pos, Bool, true, false, List, [], ◌∷◌, ◌++◌}
use Rattle.std.proofs.Common.{length, map, set, get_or, Option, refl, sym, ap, ◌∙◌, arith, append_assoc}
use Rattle.std.specs.Prelude.{slice_get, filter, not, ◌==◌, cond}
use Rattle.std.specs.Option.{unwrap_or}
use Rattle.std.proofs.lemmas.List.{append-nil, length-append}
use Rattle.std.proofs.lemmas.Option.{slice_get_read, slice_get_past}
use Rattle.theory_meaning.specs.Fraction.{Fraction, whole}
use Rattle.theory_polynomial.specs.PolynomialValue.{Values, symbol_at}
use Rattle.theory_elimination.specs.Elimination.{with_value}
use Rattle.theory_decision.specs.Choice.{symbols_from}
use Rattle.theory_decision.specs.Witness.{other_values}

-- the value of a symbol is at its place
pub symbol_from : (x : ℕ) (p : Values) → symbol_at x p ≡ unwrap_or (slice_get p x) (whole (pos 0))
symbol_from zero [] = refl
symbol_from zero (q ∷ p) = refl
symbol_from (suc x) [] = symbol_from x []
symbol_from (suc x) (q ∷ p) = symbol_from x p

pub symbol_in : (x : ℕ) (p : Values) (v : Fraction) → x < length p → v ≡ get_or p x v → v ≡ symbol_at x p
symbol_in x p v h e =
    sym (symbol_from x p ∙ ap (λ (o : Option Fraction). unwrap_or o (whole (pos 0))) (slice_get_read p (length p) x v refl h e))

pub symbol_past : (x : ℕ) (p : Values) → length p ≤ x → symbol_at x p ≡ whole (pos 0)
symbol_past x p h = symbol_from x p ∙ ap (λ (o : Option Fraction). unwrap_or o (whole (pos 0))) (slice_get_past p x h)

-- the values of the others that are still to come
abbrev pub others_from : ℕ → ℕ → Values → ℕ → List (ℕ × Fraction)
others_from n x p y = map (λ z. (z, symbol_at z p)) (filter (λ z. not (z == x)) (symbols_from y (n - y)))

next_others : (n x y : ℕ) (p : Values) → y < n
    → others_from n x p y ≡ map (λ z. (z, symbol_at z p)) (cond (not (y == x)) (y ∷ filter (λ z. not (z == x)) (symbols_from (suc y) (n - suc y)))
    (filter (λ z. not (z == x)) (symbols_from (suc y) (n - suc y))))
next_others n x y p h =
    let left : n - y ≡ suc (n - suc y) = omega (arith, h) in
    ap (λ (k : ℕ). map (λ z. (z, symbol_at z p)) (filter (λ z. not (z == x)) (symbols_from y k))) left

not_own : (x y : ℕ) → (y ≡ x → ⊥) → not (y == x) ≡ true
not_own x y h = let e : y == x ≡ false = grind (arith, h) in ap not e

own : (x y : ℕ) → y ≡ x → not (y == x) ≡ false
own x y h = let e : y == x ≡ true = grind (arith, h) in ap not e

module _ (n x y : ℕ) (p : Values) (old : List (ℕ × Fraction)) (within : y < n) (h : old ++ others_from n x p y ≡ other_values n x p) where
  pub one_kept : (new : List (ℕ × Fraction)) → (y ≡ x → ⊥) → new ≡ old ++ (y, symbol_at y p) ∷ [] → new ++ others_from n x p (y + 1) ≡ other_values n x p
  one_kept new apart adds =
      let rest = filter (λ z. not (z == x)) (symbols_from (suc y) (n - suc y)) in
      let after : y + 1 ≡ suc y = omega arith in
      ap (λ (k : ℕ). new ++ others_from n x p k) after
      ∙ ap (λ (vs : List (ℕ × Fraction)). vs ++ others_from n x p (suc y)) adds
      ∙ append_assoc old ((y, symbol_at y p) ∷ []) (others_from n x p (suc y))
      ∙ ap (λ (b : Bool). old ++ map (λ z. (z, symbol_at z p)) (cond b (y ∷ rest) rest)) (sym (not_own x y apart))
      ∙ ap (λ (vs : List (ℕ × Fraction)). old ++ vs) (sym (next_others n x y p within)) ∙ h

  pub one_skipped : y ≡ x → old ++ others_from n x p (y + 1) ≡ other_values n x p
  one_skipped same =
      let rest = filter (λ z. not (z == x)) (symbols_from (suc y) (n - suc y)) in
      let after : y + 1 ≡ suc y = omega arith in
      ap (λ (k : ℕ). old ++ others_from n x p k) after
      ∙ ap (λ (b : Bool). old ++ map (λ z. (z, symbol_at z p)) (cond b (y ∷ rest) rest)) (sym (own x y same))
      ∙ ap (λ (vs : List (ℕ × Fraction)). old ++ vs) (sym (next_others n x y p within)) ∙ h

pub all_others : (n x y : ℕ) (p : Values) (old : List (ℕ × Fraction)) → n ≤ y → old ++ others_from n x p y ≡ other_values n x p → old ≡ other_values n x p
all_others n x y p old end h =
    let left : n - y ≡ 0 = omega (arith, end) in
    sym (append-nil old)
    ∙ ap (λ (k : ℕ). old ++ map (λ z. (z, symbol_at z p)) (filter (λ z. not (z == x)) (symbols_from y k))) (sym left) ∙ h

-- a zero more at the end makes the same point
zero_more : (x : ℕ) (v : Fraction) (p : Values) → length p ≤ x → with_value x v (p ++ whole (pos 0) ∷ []) ≡ with_value x v p
zero_more zero v [] h = refl
zero_more zero v (q ∷ p) h = absurd (omega (arith, h))
zero_more (suc x) v [] h = refl
zero_more (suc x) v (q ∷ p) h = ap (λ (r : Values). q ∷ r) (zero_more x v p (omega (arith, h)))

pub one_filled : (x : ℕ) (old new newer : Values) → length new ≤ x → newer ≡ new ++ whole (pos 0) ∷ []
    → ((v : Fraction) → with_value x v new ≡ with_value x v old) → (v : Fraction) → with_value x v newer ≡ with_value x v old
one_filled x old new newer h adds same v = ap (with_value x v) adds ∙ zero_more x v new h ∙ same v

-- what stands at its place
pub set_is : (x : ℕ) (v : Fraction) (p : Values) → x < length p → set p x v ≡ with_value x v p
set_is x v [] h = absurd (omega (arith, h))
set_is zero v (q ∷ p) h = refl
set_is (suc x) v (q ∷ p) h = ap (λ (r : Values). q ∷ r) (set_is x v p (omega (arith, h)))

pub one_longer : (k : ℕ) (old new : Values) → k ≡ length old → new ≡ old ++ whole (pos 0) ∷ [] → k + 1 ≡ length new
one_longer k old new h adds =
    let grown : length (old ++ whole (pos 0) ∷ []) ≡ length old + 1 = length-append old (whole (pos 0) ∷ []) in
    let same : length new ≡ length (old ++ whole (pos 0) ∷ []) = ap length adds in
    omega (arith, h, grown, same)
