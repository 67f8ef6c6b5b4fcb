-- From the simplest ratio between two magnitudes to the simplest fraction between two fractions of one sign.
use Rattle.std.proofs.Common.{◌≡◌, ℕ, ◌*◌, ◌<◌, ◌≤◌, ℤ, pos, ◌*ℤ◌, neg_ℤ, ◌<ℤ◌, ◌≤ℤ◌, unsigned_abs, refl, arith}
use Rattle.std.proofs.Math.Nat.{eq-one_of_dvd-one}
use Rattle.std.proofs.lemmas.Int.{ints}
use Rattle.theory_meaning.specs.Fraction.{Fraction, den, whole}
use Rattle.theory_meaning.specs.Limits.{IsReduced}
use Rattle.theory_meaning.specs.Between.{IsBetween, IsSimplestBetween}
use Rattle.theory_points.specs.Parts.{parted, less_and_one}
use Rattle.theory_points.specs.Simplest.{HasParts, IsLeastBetween, IsLeastOfMagnitudes}
use Rattle.theory_points.proofs.SimplestLemmas.{bottom_is_positive, least_is_reduced}

-- of two numbers at least 0, cross products of the magnitudes decide the order
below_from_magnitudes : (x y : ℤ) (b d : ℕ) → pos 0 ≤ℤ x → pos 0 ≤ℤ y → unsigned_abs x * d < unsigned_abs y * b → (x *ℤ pos d) <ℤ (y *ℤ pos b)
below_from_magnitudes x y b d low high below = grind (arith, ints)

pub magnitudes_from_below : (x y : ℤ) (b d : ℕ) → pos 0 ≤ℤ x → pos 0 ≤ℤ y → (x *ℤ pos d) <ℤ (y *ℤ pos b) → unsigned_abs x * d < unsigned_abs y * b
magnitudes_from_below x y b d low high below = grind (arith, ints)

-- what is above a number at least 0 is at least 0
pub above_is_positive : (x y : ℤ) (b d : ℕ) → pos 0 ≤ℤ x → (x *ℤ pos d) <ℤ (y *ℤ pos b) → pos 0 ≤ℤ y
above_is_positive x y b d low below = grind (arith, ints)

-- of two numbers at most 0, the magnitudes decide it the other way
below_from_mirrored : (x y : ℤ) (b d : ℕ) → x ≤ℤ pos 0 → y ≤ℤ pos 0 → unsigned_abs y * b < unsigned_abs x * d → (x *ℤ pos d) <ℤ (y *ℤ pos b)
below_from_mirrored x y b d low high below = grind (arith, ints)

pub mirrored_from_below : (x y : ℤ) (b d : ℕ) → x ≤ℤ pos 0 → y ≤ℤ pos 0 → (x *ℤ pos d) <ℤ (y *ℤ pos b) → unsigned_abs y * b < unsigned_abs x * d
mirrored_from_below x y b d low high below = grind (arith, ints)

-- what is below a number at most 0 is at most 0
pub below_is_negative : (x y : ℤ) (b d : ℕ) → y ≤ℤ pos 0 → (x *ℤ pos d) <ℤ (y *ℤ pos b) → x ≤ℤ pos 0
below_is_negative x y b d high below = grind (arith, ints)

-- at ends of at least 0, each fraction between has parts at least as great as the least
least_of_positive : (lo hi r : Fraction) (n d : ℕ) → pos 0 ≤ℤ lo.num → pos 0 ≤ℤ hi.num → IsBetween lo hi r →
    IsLeastBetween (unsigned_abs lo.num) (den lo) (unsigned_abs hi.num) (den hi) n d → (n ≤ unsigned_abs r.num) × (d ≤ den r)
least_of_positive lo hi r n d low high between found =
    let sign : pos 0 ≤ℤ r.num = above_is_positive lo.num r.num (den lo) (den r) low between.above in
    found.least (unsigned_abs r.num) (den r) (record {
      above = magnitudes_from_below lo.num r.num (den lo) (den r) low sign between.above;
      under = magnitudes_from_below r.num hi.num (den r) (den hi) sign high between.under;
    })

-- so the least ratio is the simplest fraction there
simplest_of_positive : (lo hi q : Fraction) → pos 0 ≤ℤ lo.num → pos 0 ≤ℤ hi.num → pos 0 ≤ℤ q.num →
    IsLeastBetween (unsigned_abs lo.num) (den lo) (unsigned_abs hi.num) (den hi) (unsigned_abs q.num) (den q) → IsSimplestBetween lo hi q
simplest_of_positive lo hi q low high sign found = record {
  between = record {
    above = below_from_magnitudes lo.num q.num (den lo) (den q) low sign found.between.above;
    under = below_from_magnitudes q.num hi.num (den q) (den hi) sign high found.between.under;
  };
  least_den = λ r between. (least_of_positive lo hi r (unsigned_abs q.num) (den q) low high between found).1;
  least_num = λ r between same. (least_of_positive lo hi r (unsigned_abs q.num) (den q) low high between found).0;
}

-- the same at ends of at most 0, whose magnitudes lie the other way
least_of_negative : (lo hi r : Fraction) (n d : ℕ) → lo.num ≤ℤ pos 0 → hi.num ≤ℤ pos 0 → IsBetween lo hi r →
    IsLeastBetween (unsigned_abs hi.num) (den hi) (unsigned_abs lo.num) (den lo) n d → (n ≤ unsigned_abs r.num) × (d ≤ den r)
least_of_negative lo hi r n d low high between found =
    let sign : r.num ≤ℤ pos 0 = below_is_negative r.num hi.num (den r) (den hi) high between.under in
    found.least (unsigned_abs r.num) (den r) (record {
      above = mirrored_from_below r.num hi.num (den r) (den hi) sign high between.under;
      under = mirrored_from_below lo.num r.num (den lo) (den r) low sign between.above;
    })

simplest_of_negative : (lo hi q : Fraction) → lo.num ≤ℤ pos 0 → hi.num ≤ℤ pos 0 → q.num ≤ℤ pos 0 →
    IsLeastBetween (unsigned_abs hi.num) (den hi) (unsigned_abs lo.num) (den lo) (unsigned_abs q.num) (den q) → IsSimplestBetween lo hi q
simplest_of_negative lo hi q low high sign found = record {
  between = record {
    above = below_from_mirrored lo.num q.num (den lo) (den q) low sign found.between.under;
    under = below_from_mirrored q.num hi.num (den q) (den hi) sign high found.between.above;
  };
  least_den = λ r between. (least_of_negative lo hi r (unsigned_abs q.num) (den q) low high between found).1;
  least_num = λ r between same. (least_of_negative lo hi r (unsigned_abs q.num) (den q) low high between found).0;
}

-- the fraction of two parts, the lower of them above 0, has these parts
parts_of : (n d : ℤ) → pos 0 ≤ℤ d → 0 < unsigned_abs d → pos (den (parted n (unsigned_abs d))) ≡ d
parts_of n d sign some = omega (arith, ints)

-- the parts that were found are those of the simplest fraction
pub simplest_from_magnitudes : (lo hi : Fraction) (n d : ℤ) → pos 0 ≤ℤ lo.num → pos 0 ≤ℤ hi.num → IsLeastOfMagnitudes lo hi n d →
    HasParts n d (IsSimplestBetween lo hi)
simplest_from_magnitudes lo hi n d low high found =
    let some : 0 < unsigned_abs d = bottom_is_positive found.least in
    let q : Fraction = parted n (unsigned_abs d) in (
      q,
      refl,
      parts_of n d found.bottom some,
      simplest_of_positive lo hi q low high found.top (rw (less_and_one (unsigned_abs d) some) found.least),
    )

-- and with the opposite numerator at ends of at most 0
pub simplest_from_mirrored : (lo hi : Fraction) (n d : ℤ) → lo.num ≤ℤ pos 0 → hi.num ≤ℤ pos 0 → IsLeastOfMagnitudes hi lo n d →
    HasParts (neg_ℤ n) d (IsSimplestBetween lo hi)
simplest_from_mirrored lo hi n d low high found =
    let some : 0 < unsigned_abs d = bottom_is_positive found.least in
    let magnitudes : unsigned_abs (neg_ℤ n) ≡ unsigned_abs n = omega (arith, ints) in
    let q : Fraction = parted (neg_ℤ n) (unsigned_abs d) in (
      q,
      refl,
      parts_of (neg_ℤ n) d found.bottom some,
      simplest_of_negative lo hi q low high (omega (arith, ints)) (rw (less_and_one (unsigned_abs d) some, magnitudes) found.least),
    )

-- between numbers on two sides of 0 the simplest fraction is 0
pub simplest_is_zero : (lo hi : Fraction) → lo.num <ℤ pos 0 → pos 0 <ℤ hi.num → HasParts (pos 0) (pos 1) (IsSimplestBetween lo hi)
simplest_is_zero lo hi low high = (
  whole (pos 0),
  refl,
  refl,
  record {
    between = record { above = grind (arith, ints); under = grind (arith, ints) };
    least_den = λ r between. omega arith;
    least_num = λ r between same. omega arith;
  },
)

-- the parts that were found have no common divisor, with the opposite numerator neither
pub reduced_from_magnitudes : (lo hi : Fraction) (n d : ℤ) → IsLeastOfMagnitudes lo hi n d → HasParts n d IsReduced
reduced_from_magnitudes lo hi n d found =
    let some : 0 < unsigned_abs d = bottom_is_positive found.least in
    let whole : den (parted n (unsigned_abs d)) ≡ unsigned_abs d = less_and_one (unsigned_abs d) some in (
      parted n (unsigned_abs d),
      refl,
      parts_of n d found.bottom some,
      λ g top bottom. least_is_reduced g found.least top (rw whole at bottom),
    )

pub reduced_from_mirrored : (lo hi : Fraction) (n d : ℤ) → IsLeastOfMagnitudes hi lo n d → HasParts (neg_ℤ n) d IsReduced
reduced_from_mirrored lo hi n d found =
    let some : 0 < unsigned_abs d = bottom_is_positive found.least in
    let magnitudes : unsigned_abs (neg_ℤ n) ≡ unsigned_abs n = omega (arith, ints) in
    let whole : den (parted (neg_ℤ n) (unsigned_abs d)) ≡ unsigned_abs d = less_and_one (unsigned_abs d) some in (
      parted (neg_ℤ n) (unsigned_abs d),
      refl,
      parts_of (neg_ℤ n) d found.bottom some,
      λ g top bottom. least_is_reduced g found.least (rw magnitudes at top) (rw whole at bottom),
    )

-- 0 over 1 has no common divisor
pub zero_is_reduced : HasParts (pos 0) (pos 1) IsReduced
zero_is_reduced = (whole (pos 0), refl, refl, λ g top bottom. eq-one_of_dvd-one bottom)
