-- Which parts are kept, and that they are the only ones in lowest terms. Source: textbook.
use Rattle.std.proofs.Common.{◌≡◌, ℕ, ◌+◌, ◌*◌, ◌<◌, ◌≤◌, Bool, ℤ, pos, ◌*ℤ◌, neg_ℤ, unsigned_abs, sym, ap, ap₂, subst, ◌∙◌, arith}
use Prim.Native.Nat.{◌∣◌}
use Rattle.std.proofs.Math.Nat.{dvd-mul_left}
use Rattle.theory_meaning.specs.Fraction.{Fraction, den, IsSame}
use Rattle.theory_meaning.specs.Limits.{bound}
use Rattle.theory_points.specs.Parts.{AreCoprime, parted, signed, IsKept, less_and_one}
use Rattle.theory_points.proofs.CoprimeLemmas.{AreMultiples, multiples}
use Rattle.theory_points.proofs.SignLemmas.{unsigned_abs-signed, unsigned_abs-neg_ℤ, same_by_size, sizes_of_products}

-- parts in lowest terms and within the bound are kept with either sign
pub kept_of_signed : (n : ℤ) (minus : Bool) (a b : ℕ) → n ≡ signed minus a → 0 < b → a ≤ bound → b ≤ bound → AreCoprime a b → IsKept (parted n b)
kept_of_signed n minus a b is some top bottom coprime =
    let size : unsigned_abs n ≡ a = ap unsigned_abs is ∙ unsigned_abs-signed minus a in
    let lower = less_and_one b some in
    record {
      within = record { top = omega arith; bottom = omega arith };
      reduced = λ d p q. coprime d (subst (λ x. d ∣ x) size p) (subst (λ x. d ∣ x) lower q);
    }

-- the opposite of what is kept is kept
pub kept_of_opposite : (n m : ℤ) (b : ℕ) → m ≡ neg_ℤ n → IsKept (parted n b) → IsKept (parted m b)
kept_of_opposite n m b is kept =
    let size : unsigned_abs m ≡ unsigned_abs n = ap unsigned_abs is ∙ unsigned_abs-neg_ℤ n in
    record {
      within = record { top = subst (λ x. x ≤ bound) (sym size) kept.within.top; bottom = kept.within.bottom };
      reduced = λ d p q. kept.reduced d (subst (λ x. d ∣ x) size p) q;
    }

-- the parts of one are a multiple of those of the other
multiple_parts : (q r : Fraction) → IsKept q → IsSame q r → AreMultiples (unsigned_abs q.num) (den q) (den r) (unsigned_abs r.num)
multiple_parts q r kept same =
    let sizes = sizes_of_products q.num (pos (den r)) r.num (pos (den q)) same in
    multiples (unsigned_abs q.num) (den q) (den r) (unsigned_abs r.num) kept.reduced (sizes ∙ omega arith)

-- and that multiple is 1, since they are in lowest terms too
once : (a b m k : ℕ) (both : AreMultiples a b m k) → AreCoprime k m → both.times ≡ 1
once a b m k both coprime =
    coprime both.times (subst (λ x. both.times ∣ x) (sym both.second) (dvd-mul_left both.times a))
    (subst (λ x. both.times ∣ x) (sym both.first) (dvd-mul_left both.times b))

-- equal fractions in lowest terms have equal parts
pub same_parts : (q r : Fraction) → IsKept q → IsKept r → IsSame q r → q ≡ r
same_parts q r kept_q kept_r same =
    let both = multiple_parts q r kept_q same in
    let one : both.times ≡ 1 = once (unsigned_abs q.num) (den q) (den r) (unsigned_abs r.num) both kept_r.reduced in
    let lower : den r ≡ den q * 1 = subst (λ x. den r ≡ den q * x) one both.first in
    let upper : unsigned_abs r.num ≡ unsigned_abs q.num * 1 = subst (λ x. unsigned_abs r.num ≡ unsigned_abs q.num * x) one both.second in
    let less : q.less ≡ r.less = omega arith in
    let over_one : q.num *ℤ pos (q.less + 1) ≡ r.num *ℤ pos (q.less + 1) =
    subst (λ x. q.num *ℤ pos (x + 1) ≡ r.num *ℤ pos (q.less + 1)) (sym less) same in
    ap₂ (λ (n : ℤ) (l : ℕ). record { num = n; less = l }) (same_by_size q.num r.num q.less (omega arith) over_one) less
