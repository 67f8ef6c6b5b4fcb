-- What is left to look at of a list of claims, and values of expressions from those of their parts.
use Rattle.std.proofs.Common.{◌≡◌, Bool, not, ap, ◌&&◌, ◌||◌, ◌⊎◌, inr, ⊎_elim, Option, Some, None, MatchOption, IfSome, subst}
use Rattle.theory_meaning.specs.Fraction.{Fraction, IsSame}
use Rattle.theory_meaning.specs.Limits.{IsWide}
use Rattle.theory_meaning.specs.Point.{Point}
use Rattle.theory_meaning.specs.Tree.{Claims}
use Rattle.theory_meaning.specs.declared.words.Rel.{Rel}
use Rattle.theory_meaning.specs.declared.words.Rel.TheVariants.{Eq, Ne, Lt, Le, Gt, Ge}
use Rattle.theory_meaning.specs.Truth.{holds, value_of, all_of, some_of}
use Rattle.theory_meaning.specs.Wide.{HasWideValue, SomeHasWidePart}
use Rattle.theory_meaning.proofs.OrderLaws.{same_itself, same_turned, same_trans, same_both, below_both}
use Rattle.theory_points.specs.Parts.{IsKept}
use Rattle.theory_syntax.specs.declared.expr.Expr.{Expr}
use Rattle.theory_syntax.specs.Plain.{expr_of}
use Rattle.theory_syntax.specs.Valued.{IsValue, IsValued}

-- what was found so far and the rest decide the whole, and only the rest can still have a wide part
pub record IsLeftAll (so_far : Bool) (rest whole : Claims) (p : Point) : Type 0 where
  pub truth : (so_far && all_of rest p) ≡ all_of whole p
  pub wide : SomeHasWidePart rest p → SomeHasWidePart whole p
  pub narrow : SomeHasWidePart whole p → SomeHasWidePart rest p

pub record IsLeftSome (so_far : Bool) (rest whole : Claims) (p : Point) : Type 0 where
  pub truth : (so_far || some_of rest p) ≡ some_of whole p
  pub wide : SomeHasWidePart rest p → SomeHasWidePart whole p
  pub narrow : SomeHasWidePart whole p → SomeHasWidePart rest p

-- a number that is the same passes the bound too
pub wide_along : (q r : Fraction) → IsSame q r → IsWide q → IsWide r
wide_along q r same wide s within same_s = wide s within (same_trans s r q same_s (same_turned q r same))

-- what is the same and within the bound shows that a value doesn't pass it
pub not_wide : (q r : Fraction) → IsKept q → IsSame q r → ¬ IsWide r
not_wide q r kept same wide = wide q kept.within same

-- what is found of a value is kept
abbrev pub IsFound : Fraction → Option Fraction → Type 0
IsFound v found = MatchOption found (IsWide v) (λ f. IsSame f v) × IfSome found IsKept

-- a value of two parts, of which neither passes the bound
of_two : (L R : Type 0) (v w : Fraction) (found : Option Fraction) → ¬ L → ¬ R → IsSame v w → IsFound v found → IsValued (L ⊎ (R ⊎ IsWide w)) w found
of_two L R v w None not_left not_right same found = inr (inr (wide_along v w same found.0))
of_two L R v w (Some f) not_left not_right same found =
    let equal = same_trans f v w found.0 same in
    record {
      same = equal;
      kept = found.1;
      narrow = ⊎_elim not_left (⊎_elim not_right (not_wide f w found.1 equal));
    }

-- and of one part
of_one : (L : Type 0) (v w : Fraction) (found : Option Fraction) → ¬ L → IsSame v w → IsFound v found → IsValued (L ⊎ IsWide w) w found
of_one L v w None not_left same found = inr (wide_along v w same found.0)
of_one L v w (Some f) not_left same found =
    let equal = same_trans f v w found.0 same in
    record { same = equal; kept = found.1; narrow = ⊎_elim not_left (not_wide f w found.1 equal) }

-- an operation on two values, which respects sameness, is that on the fractions found
abbrev pub Respects : (Fraction → Fraction → Fraction) → Type 0
Respects op = (q p r s : Fraction) → IsSame q p → IsSame r s → IsSame (op q r) (op p s)

pub valued_of_two : (op : Fraction → Fraction → Fraction) → Respects op → (L R : Type 0) (v w f g : Fraction) (found : Option Fraction)
    → IsValue L v f → IsValue R w g → IsFound (op f g) found → IsValued (L ⊎ (R ⊎ IsWide (op v w))) (op v w) found
valued_of_two op respects L R v w f g found left right is =
    of_two L R (op f g) (op v w) found left.narrow right.narrow (respects f v g w left.same right.same) is

pub valued_of_one : (op : Fraction → Fraction) → ((q p : Fraction) → IsSame q p → IsSame (op q) (op p)) →
    (L : Type 0) (v f : Fraction) (found : Option Fraction)
    → IsValue L v f → IsFound (op f) found → IsValued (L ⊎ IsWide (op v)) (op v) found
valued_of_one op respects L v f found part is =
    of_one L (op f) (op v) found part.narrow (respects f v part.same) is

-- equal fractions are the same number
pub same_of_equal : (q r : Fraction) → q ≡ r → IsSame q r
same_of_equal q r equal = subst (λ s. IsSame q s) equal (same_itself q)

-- what is found, in two facts
pub split_found : (v : Fraction) (found : Option Fraction) → MatchOption found (IsWide v) (λ f. IsSame f v × IsKept f) → IsFound v found
split_found v None wide = (wide, tt)
split_found v (Some f) found = found

-- a value that is found of an expression is that of an equal one
pub told_of : (p : Point) (f : Fraction) (e e' : Expr) → e ≡ e' → IsValue (HasWideValue (expr_of e) p) (value_of (expr_of e) p) f
    → IsValue (HasWideValue (expr_of e') p) (value_of (expr_of e') p) f
told_of p f e e' equal found = subst (λ (x : Expr). IsValue (HasWideValue (expr_of x) p) (value_of (expr_of x) p) f) equal found

-- a relation between two values is that between the same values
pub holds_respects : (rel : Rel) (q p r s : Fraction) → IsSame q p → IsSame r s → holds rel q r ≡ holds rel p s
holds_respects Eq q p r s left right = same_both q p r s left right
holds_respects Ne q p r s left right = ap not (same_both q p r s left right)
holds_respects Lt q p r s left right = below_both q p r s left right
holds_respects Le q p r s left right = ap not (below_both r s q p right left)
holds_respects Gt q p r s left right = below_both r s q p right left
holds_respects Ge q p r s left right = ap not (below_both q p r s left right)
