-- What two results give together, from what each of them is.
use Rattle.std.proofs.Common.{◌≡◌, ◌⊎◌, ℕ, List, sym, subst, subst₂, inl, inr, ⊎_elim, Result, Ok, Err, IfOk}
use Rattle.theory_points.specs.declared.limit.Limit.{Limit}
use Rattle.theory_polynomial.specs.RationalPolynomial.{difference_of_quotients}
use Rattle.theory_meaning.specs.Point.{Name}
use Rattle.theory_meaning.specs.Tree.{Expr, difference}
use Rattle.theory_lowering.specs.RationalFunction.{RationalFunction, opposite_of_quotient, IsJoinOf, IsOppositeOf, IsPowerOf}
use Rattle.theory_lowering.specs.Lowered.{IsResultOf, IsFormOf}
use Rattle.theory_lowering.specs.LoweringLimits.{IsBeyondFraction, IsWideBy, IsWideJoin, IsWidePower, IsWideExpr}
use Rattle.theory_lowering.proofs.SingleFractions.{Form}
use Rattle.theory_lowering.proofs.SingleLowered.{form}
use Rattle.theory_poly.specs.Answers.{WideWhere}
use Rattle.theory_lower.specs.Combined.{Combines, Opposes, Raises}
use Rattle.theory_lower.proofs.FunctionLaws.{passed_on}

-- two results give what the operation gives
pub combined_value : (Op : RationalFunction → RationalFunction → RationalFunction → Type 0) (Wide : RationalFunction → RationalFunction → Type 0)
    (U V : RationalFunction → Type 0) (first second result : Result RationalFunction Limit)
    → IfOk first U → IfOk second V → Combines Op Wide first second result → IfOk result (IsResultOf Op U V)
combined_value Op Wide U V (Ok a) (Ok b) (Ok r) u v h = (a, b, u, v, h.0)
combined_value Op Wide U V (Ok a) (Ok b) (Err e) u v h = tt
combined_value Op Wide U V (Ok a) (Err e) result u v h = subst (λ r. IfOk r (IsResultOf Op U V)) (sym h) tt
combined_value Op Wide U V (Err e) second result u v h = subst (λ r. IfOk r (IsResultOf Op U V)) (sym h) tt

-- and are wide exactly where a part is or the operation passes a limit
pub combined_wide : (Op : RationalFunction → RationalFunction → RationalFunction → Type 0) (Wide : RationalFunction → RationalFunction → Type 0)
    (U V : RationalFunction → Type 0) (P Q : Type 0) (first second result : Result RationalFunction Limit)
    → Form U → Form V → IfOk first U → IfOk second V → WideWhere P first → WideWhere Q second → Combines Op Wide first second result
    → WideWhere (P ⊎ (Q ⊎ IsWideBy Wide U V)) result
combined_wide Op Wide U V P Q (Ok a) (Ok b) (Ok r) fu fv u v p q h =
    λ w.
    ⊎_elim (λ (x : P). p x)
    (λ rest.
    ⊎_elim (λ (y : Q). q y)
    (λ (z : IsWideBy Wide U V). h.1 (subst₂ Wide (fu.unique z.0 a z.2 u) (fv.unique z.1 b z.3 v) z.4)) rest) w
combined_wide Op Wide U V P Q (Ok a) (Ok b) (Err e) fu fv u v p q h =
    passed_on RationalFunction RationalFunction (Wide a b) (P ⊎ (Q ⊎ IsWideBy Wide U V)) e (λ beyond. inr (inr (a, b, u, v, beyond))) h.1
combined_wide Op Wide U V P Q (Ok a) (Err e) result fu fv u v p q h =
    subst (WideWhere (P ⊎ (Q ⊎ IsWideBy Wide U V))) (sym h)
    (passed_on RationalFunction RationalFunction Q (P ⊎ (Q ⊎ IsWideBy Wide U V)) e (λ y. inr (inl y)) q)
combined_wide Op Wide U V P Q (Err e) second result fu fv u v p q h =
    subst (WideWhere (P ⊎ (Q ⊎ IsWideBy Wide U V))) (sym h)
    (passed_on RationalFunction RationalFunction P (P ⊎ (Q ⊎ IsWideBy Wide U V)) e (λ x. inl x) p)

-- the same of an opposite and of a power
pub opposed_value : (U : RationalFunction → Type 0) (first result : Result RationalFunction Limit) → IfOk first U → Opposes first result
    → IfOk result (λ r. (a : RationalFunction) × U a × IsOppositeOf a r)
opposed_value U (Ok a) (Ok r) u h = (a, u, h.0)
opposed_value U (Ok a) (Err e) u h = tt
opposed_value U (Err e) result u h = subst (λ r. IfOk r (λ s. (a : RationalFunction) × U a × IsOppositeOf a s)) (sym h) tt

pub opposed_wide : (U : RationalFunction → Type 0) (P : Type 0) (first result : Result RationalFunction Limit) → Form U → IfOk first U → WideWhere P first
    → Opposes first result
    → WideWhere (P ⊎ ((a : RationalFunction) × U a × IsBeyondFraction (opposite_of_quotient a.top) a.bottom)) result
opposed_wide U P (Ok a) (Ok r) f u p h =
    λ w. ⊎_elim (λ (x : P). p x)
    (λ (z : (b : RationalFunction) × U b × IsBeyondFraction (opposite_of_quotient b.top) b.bottom).
    h.1 (subst (λ m. IsBeyondFraction (opposite_of_quotient m.top) m.bottom) (f.unique z.0 a z.1 u) z.2)) w
opposed_wide U P (Ok a) (Err e) f u p h =
    let Q : Type 0 = P ⊎ ((b : RationalFunction) × U b × IsBeyondFraction (opposite_of_quotient b.top) b.bottom) in
    passed_on RationalFunction RationalFunction (IsBeyondFraction (opposite_of_quotient a.top) a.bottom) Q e (λ beyond. inr (a, u, beyond)) h.1
opposed_wide U P (Err e) result f u p h =
    let Q : Type 0 = P ⊎ ((b : RationalFunction) × U b × IsBeyondFraction (opposite_of_quotient b.top) b.bottom) in
    subst (WideWhere Q) (sym h) (passed_on RationalFunction RationalFunction P Q e (λ x. inl x) p)

pub raised_value : (U : RationalFunction → Type 0) (k : ℕ) (first result : Result RationalFunction Limit) → IfOk first U → Raises first k result
    → IfOk result (λ r. (a : RationalFunction) × U a × IsPowerOf a k r)
raised_value U k (Ok a) (Ok r) u h = (a, u, h.0)
raised_value U k (Ok a) (Err e) u h = tt
raised_value U k (Err e) result u h = subst (λ r. IfOk r (λ s. (a : RationalFunction) × U a × IsPowerOf a k s)) (sym h) tt

pub raised_wide : (U : RationalFunction → Type 0) (P : Type 0) (k : ℕ) (first result : Result RationalFunction Limit) → Form U → IfOk first U
    → WideWhere P first
    → Raises first k result
    → WideWhere (P ⊎ ((a : RationalFunction) × U a × IsWidePower a k)) result
raised_wide U P k (Ok a) (Ok r) f u p h =
    λ w. ⊎_elim (λ (x : P). p x) (λ (z : (b : RationalFunction) × U b × IsWidePower b k). h.1 (subst (λ m. IsWidePower m k) (f.unique z.0 a z.1 u) z.2)) w
raised_wide U P k (Ok a) (Err e) f u p h =
    passed_on RationalFunction RationalFunction (IsWidePower a k) (P ⊎ ((b : RationalFunction) × U b × IsWidePower b k)) e (λ wide. inr (a, u, wide)) h.1
raised_wide U P k (Err e) result f u p h =
    let Q : Type 0 = P ⊎ ((b : RationalFunction) × U b × IsWidePower b k) in
    subst (WideWhere Q) (sym h) (passed_on RationalFunction RationalFunction P Q e (λ x. inl x) p)

-- the form of a difference, from those of its sides
pub difference_is_form : (ns : List Name) (u v : Expr) (first second result : Result RationalFunction Limit) (r : RationalFunction) → result ≡ Ok r
    → IfOk first (IsFormOf ns u) → IfOk second (IsFormOf ns v)
    → Combines (IsJoinOf difference_of_quotients) (IsWideJoin difference_of_quotients) first second result → IsFormOf ns (difference u v) r
difference_is_form ns u v first second result r is hu hv h =
    subst (λ x. IfOk x (IsFormOf ns (difference u v))) is
    (combined_value (IsJoinOf difference_of_quotients) (IsWideJoin difference_of_quotients) (IsFormOf ns u) (IsFormOf ns v) first second result hu hv h)

-- where the difference of two sides was made, no node is wide
pub difference_is_wide : (ns : List Name) (u v : Expr) (first second result : Result RationalFunction Limit) (r : RationalFunction) → result ≡ Ok r
    → IfOk first (IsFormOf ns u) → IfOk second (IsFormOf ns v) → WideWhere (IsWideExpr ns u) first → WideWhere (IsWideExpr ns v) second
    → Combines (IsJoinOf difference_of_quotients) (IsWideJoin difference_of_quotients) first second result → ¬ IsWideExpr ns (difference u v)
difference_is_wide ns u v first second result r is hu hv wu wv h =
    subst (WideWhere (IsWideExpr ns (difference u v))) is
    (combined_wide (IsJoinOf difference_of_quotients) (IsWideJoin difference_of_quotients) (IsFormOf ns u) (IsFormOf ns v) (IsWideExpr ns u)
    (IsWideExpr ns v) first second result (form ns u) (form ns v) hu hv wu wv h)
