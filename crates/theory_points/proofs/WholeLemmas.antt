-- Whole numbers next to a fraction, by a division that rounds down. Source: textbook.
use Rattle.std.proofs.Common.{◌≡◌, ℕ, ◌+◌, ◌*◌, ◌<◌, ◌≤◌, ℤ, pos, negsuc, ◌+ℤ◌, ◌-ℤ◌, ◌*ℤ◌, ◌≤ℤ◌, ◌<ℤ◌, sym, ap₂, ◌∙◌, subst, subst₂, arith, mul-le-mul_right}
use Rattle.std.proofs.lemmas.Int.{ints, by_lt_z}
use Rattle.std.specs.Int.{int_div_euclid}
use borrow.Author.Differences.{up, down, le_out, lt_out}
use Rattle.theory_meaning.specs.Fraction.{Fraction, den}
use Rattle.theory_points.specs.Parts.{IsFloor}
use Rattle.theory_meaning.specs.Between.{IsWholeBelow, IsWholeAbove}

-- a division by a number without a sign rounds down
floor_by_parts : (a : ℤ) (d : ℕ) → 0 < d → IsFloor a (pos d) (int_div_euclid a (pos d))
floor_by_parts (pos a) d some = record { reached = omega (arith, ints); passed = omega (arith, ints) }
floor_by_parts (negsuc a) d some = record { reached = omega (arith, ints); passed = omega (arith, ints) }

-- the same by a number above 0
floor_by_signs : (a d : ℤ) → pos 0 <ℤ d → IsFloor a d (int_div_euclid a d)
floor_by_signs a (pos d) some = floor_by_parts a d (omega (arith, ints))
floor_by_signs a (negsuc d) some = absurd (omega (arith, ints))

-- a division that leaves no negative remainder rounds down
pub floor_by_division : {a b d e n m : ℤ} → b ≡ a → e ≡ d → n ≡ int_div_euclid b e → m ≡ n → pos 0 <ℤ d → IsFloor a d m
floor_by_division {a} {b} {d} {e} {n} {m} upper lower is same some =
    subst (IsFloor a d) (sym (same ∙ is ∙ ap₂ int_div_euclid upper lower)) (floor_by_signs a d some)

-- the order of two numbers is that of their multiples
scaled : (a b : ℤ) (d : ℕ) → a ≤ℤ b → (a *ℤ pos d) ≤ℤ (b *ℤ pos d)
scaled a b d le =
    let multiple : (up a + down b) * d ≤ (up b + down a) * d = mul-le-mul_right d (le_out a b le) in
    omega (arith, ints)

-- and the multiple of the greater is greater by the factor
scaled_next : (a b : ℤ) (d : ℕ) → a <ℤ b → ((a *ℤ pos d) +ℤ pos d) ≤ℤ (b *ℤ pos d)
scaled_next a b d less =
    let multiple : (up a + down b + 1) * d ≤ (up b + down a) * d = mul-le-mul_right d (omega (arith, lt_out a b less)) in
    omega (arith, ints)

-- the whole number below is what comes before the numerator, rounded down
pub below_from_floor : (q : Fraction) (a d n m : ℤ) → IsFloor a d n → a ≡ q.num -ℤ pos 1 → d ≡ pos (den q) → m ≡ n → IsWholeBelow q m
below_from_floor q a d n m rounded upper lower same =
    let floor : IsFloor (q.num -ℤ pos 1) (pos (den q)) m =
    subst₂ (λ x y. IsFloor x y m) upper lower (subst (IsFloor a d) (sym same) rounded) in
    record {
      below = omega (arith, ints);
      greatest = λ k below. by_lt_z m k
          (λ less. let next = scaled_next m k (den q) less in absurd (omega (arith, ints)))
          (λ le. le);
    }

-- the whole number above comes after the numerator, rounded down
pub above_from_floor : (q : Fraction) (a d n m : ℤ) → IsFloor a d n → a ≡ q.num → d ≡ pos (den q) → m ≡ n +ℤ pos 1 → IsWholeAbove q m
above_from_floor q a d n m rounded upper lower same =
    let floor : IsFloor q.num (pos (den q)) n = subst₂ (λ x y. IsFloor x y n) upper lower rounded in
    let next = scaled_next n m (den q) (omega (arith, ints)) in
    record {
      above = omega (arith, ints);
      least = λ k above. by_lt_z k m
          (λ less. let below = scaled k n (den q) (omega (arith, ints)) in absurd (omega (arith, ints)))
          (λ le. le);
    }
