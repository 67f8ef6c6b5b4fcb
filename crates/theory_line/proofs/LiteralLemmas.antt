-- The fraction of a literal is the one in lowest terms of its numbers.
use Rattle.std.proofs.Common.{◌≡◌, ℕ, ◌-◌, ◌/◌, ◌<◌, ◌≤◌, ℤ, pos, ◌*ℤ◌, unsigned_abs, to_z, sym, ap, subst, subst₂, ◌∙◌, arith}
use Rattle.std.proofs.Math.Nat.{div-le_self, div-one, mod-one}
use Rattle.std.proofs.lemmas.Int.{to_z_pos}
use Rattle.std.specs.Int.{w128}
use Rattle.theory_meaning.specs.Fraction.{Fraction, den, whole, IsSame}
use Rattle.theory_meaning.specs.Limits.{bound, IsWithin}
use Rattle.theory_meaning.proofs.OrderLaws.{same_turned, same_trans}
use Rattle.theory_points.specs.Parts.{IsKept, IsQuotient, parted, less_and_one}
use Rattle.theory_points.proofs.KeptLemmas.{same_parts}
use Rattle.theory_grammar.specs.Spelled.{euclid, common_divisor, lowest}
use Rattle.theory_grammar.proofs.LowestLaws.{lowest_terms}

-- parts in lowest terms aren't above the numbers that they come from
lowest_within : (n d : ℕ) → 0 < d → n ≤ bound → d ≤ bound → IsWithin (lowest n d)
unfolding lowest
lowest_within n d some top bottom =
    let a = div-le_self n (common_divisor n d) in
    let b = div-le_self d (common_divisor n d) in
    record { top = omega (arith, a, top); bottom = omega (arith, b, bottom, some) }

pub lowest_kept : (n d : ℕ) → 0 < d → n ≤ bound → d ≤ bound → IsKept (lowest n d)
lowest_kept n d some top bottom =
    record { within = lowest_within n d some top bottom; reduced = (lowest_terms n d some).reduced }

-- what is n over d is the same number as the parts n and d
same_as_parted : (n d : ℕ) (q : Fraction) → 0 < d → q.num *ℤ pos d ≡ pos n *ℤ pos (den q) → IsSame q (parted (pos n) d)
same_as_parted n d q some equal = subst (λ (k : ℕ). q.num *ℤ pos k ≡ pos n *ℤ pos (den q)) (sym (less_and_one d some)) equal

-- a quotient in lowest terms is the fraction of the literal
pub quotient_is_lowest : (n d : ℕ) (m e : ℤ) (q : Fraction) → m ≡ pos n → e ≡ pos d → 0 < d → n ≤ bound → d ≤ bound → IsKept q → IsQuotient m e q
    → q ≡ lowest n d
quotient_is_lowest n d m e q top_is bottom_is some top bottom kept quotient =
    let s = parted (pos n) d in
    let equal : q.num *ℤ pos d ≡ pos n *ℤ pos (den q) =
    subst₂ (λ (x y : ℤ). q.num *ℤ y ≡ x *ℤ pos (den q)) top_is bottom_is quotient.equal in
    let left = same_as_parted n d q some equal in
    let right = same_as_parted n d (lowest n d) some (lowest_terms n d some).same in
    same_parts q (lowest n d) kept (lowest_kept n d some top bottom) (same_trans q s (lowest n d) left (same_turned (lowest n d) s right))

-- and it is a quotient
pub lowest_is_quotient : (n d : ℕ) (m e : ℤ) → m ≡ pos n → e ≡ pos d → 0 < d → IsQuotient m e (lowest n d)
lowest_is_quotient n d m e top_is bottom_is some =
    subst₂ (λ (x y : ℤ). IsQuotient x y (lowest n d)) (sym top_is) (sym bottom_is)
    (record { divides = λ zero_is. absurd (omega (arith, some, ap unsigned_abs zero_is)); equal = (lowest_terms n d some).same })

-- a number within the bound is read as itself
pub same_signed : (n : ℕ) → n ≤ bound → to_z w128 n ≡ pos n
same_signed n within = to_z_pos w128 n (omega (arith, within))

-- over 1 a number is itself
pub lowest-one : (n : ℕ) → lowest n 1 ≡ whole (pos n)
unfolding lowest
lowest-one n =
    let one : common_divisor n 1 ≡ 1 = ap (euclid 1 1) (mod-one n) in
    ap (λ (g : ℕ). record { num = pos (n / g); less = 1 / g - 1 }) one ∙ ap (λ (k : ℕ). whole (pos k)) (div-one n)
