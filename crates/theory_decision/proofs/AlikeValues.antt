-- Lists of the same numbers: the roots of a formula, upwards, are one such list, and so are the values that are tried.
use Rattle.std.proofs.Common.{◌≡◌, ℕ, suc, ℤ, pos, negsuc, unsigned_abs, Bool, true, false, cond, List, [], ◌∷◌, ◌++◌, Option, None, Some, refl, sym, ap, ap₂, ◌∙◌, subst, arith, ◌⊎◌, inl, inr}
use Rattle.std.specs.Prelude.{Contains, find, ◌≤ℤ◌}
use Rattle.std.proofs.lemmas.Int.{ints}
use Rattle.std.proofs.lemmas.List.Elements.{Contains-append_cases, Contains-push_cases}
use Rattle.theory_meaning.specs.Fraction.{Fraction, whole, IsSame, IsBelow}
use Rattle.theory_meaning.specs.Between.{IsBetween, IsSimplestBetween, IsWholeBelow, IsWholeAbove}
use Rattle.theory_decision.specs.Candidates.{IsAscending, small_wholes, AreMiddles, last_of, AreEnds, AreCandidates}
use Rattle.theory_meaning.proofs.OrderLaws.{same_itself, same_turned, same_trans, order_trans, order_apart, order_one_way, order_left, order_right}

-- the same numbers in the same places
abbrev pub AreAlike : List Fraction → List Fraction → Type 0
AreAlike [] [] = Unit {0}
AreAlike [] (c ∷ cs) = ⊥
AreAlike (b ∷ bs) [] = ⊥
AreAlike (b ∷ bs) (c ∷ cs) = IsSame b c × AreAlike bs cs

alike_append : (xs bs cs ds : List Fraction) → AreAlike xs bs → AreAlike cs ds → AreAlike (xs ++ cs) (bs ++ ds)
alike_append [] [] cs ds h k = k
alike_append [] (b ∷ bs) cs ds h k = absurd h
alike_append (a ∷ xs) [] cs ds h k = absurd h
alike_append (a ∷ xs) (b ∷ bs) cs ds h k = (h.0, alike_append xs bs cs ds h.1 k)

alike_itself : (bs : List Fraction) → AreAlike bs bs
alike_itself [] = tt
alike_itself (b ∷ bs) = (same_itself b, alike_itself bs)

-- a number that is in the list, however it is written
abbrev pub Has : List Fraction → Fraction → Type 0
Has [] q = ⊥
Has (b ∷ bs) q = IsSame b q ⊎ Has bs q

contains_cases : (b c : Fraction) (bs : List Fraction) → Contains (b ∷ bs) c → (b ≡ c) ⊎ Contains bs c
contains_cases b c bs i =
    elim (Contains-append_cases (b ∷ []) bs c i) [
      | inl k ↦ elim (Contains-push_cases [] b c k) [ inl n ↦ absurd (let m = n.1 in omega arith) | inr same ↦ inl same ]
      | inr k ↦ inr k
    ]

pub has_from : (bs : List Fraction) (c q : Fraction) → Contains bs c → IsSame c q → Has bs q
has_from [] c q i e = absurd (let m = i.1 in omega arith)
has_from (b ∷ bs) c q i e = elim (contains_cases b c bs i) [
  | inl same ↦ inl (subst (λ (a : Fraction). IsSame a q) (sym same) e)
  | inr k ↦ inr (has_from bs c q k e)
]

above_first : (b q : Fraction) (bs : List Fraction) → IsAscending (b ∷ bs) → Has bs q → IsBelow b q
above_first b q [] up h = absurd h
above_first b q (c ∷ bs) up (inl e) = order_right c q b e up.0
above_first b q (c ∷ bs) up (inr h) = order_trans b c q up.0 (above_first c q bs up.1 h)

ascending_rest : (b : Fraction) (bs : List Fraction) → IsAscending (b ∷ bs) → IsAscending bs
ascending_rest b [] up = tt
ascending_rest b (c ∷ bs) up = up.1

-- two ascending lists of the same numbers have the same first number
same_firsts : (b c : Fraction) (bs cs : List Fraction) → IsAscending (b ∷ bs) → IsAscending (c ∷ cs) → Has (c ∷ cs) b → Has (b ∷ bs) c → IsSame b c
same_firsts b c bs cs up under (inl e) k = same_turned c b e
same_firsts b c bs cs up under (inr h) (inl e) = e
same_firsts b c bs cs up under (inr h) (inr k) =
    absurd (order_one_way b c (above_first b c bs up k) (above_first c b cs under h))

in_rest : (b c q : Fraction) (bs cs : List Fraction) → IsAscending (b ∷ bs) → IsSame b c → Has bs q → Has (c ∷ cs) q → Has cs q
in_rest b c q bs cs up e h (inl f) = absurd (order_apart b q (above_first b q bs up h) (same_trans b c q e f))
in_rest b c q bs cs up e h (inr k) = k

-- and so the same numbers in all places
pub ascending_alike : (bs cs : List Fraction) → IsAscending bs → IsAscending cs → ((q : Fraction) → Has bs q → Has cs q)
    → ((q : Fraction) → Has cs q → Has bs q) → AreAlike bs cs
ascending_alike [] [] up under h k = tt
ascending_alike [] (c ∷ cs) up under h k = absurd (k c (inl (same_itself c)))
ascending_alike (b ∷ bs) [] up under h k = absurd (h b (inl (same_itself b)))
ascending_alike (b ∷ bs) (c ∷ cs) up under h k =
    let first : IsSame b c = same_firsts b c bs cs up under (h b (inl (same_itself b))) (k c (inl (same_itself c))) in (
      first,
      ascending_alike bs cs (ascending_rest b bs up) (ascending_rest c cs under)
          (λ q i. in_rest b c q bs cs up first i (h q (inr i)))
          (λ q i. in_rest c b q cs bs under (same_turned b c first) i (k q (inr i))),
    )

-- the simplest fraction between two numbers is one
between_alike : (b c d e q : Fraction) → IsSame b d → IsSame c e → IsBetween b c q → IsBetween d e q
between_alike b c d e q f g h = record { above = order_left b d q f h.above; under = order_right c e q g h.under }

-- two whole numbers of one size
data SameSize (m n : ℤ) : Type 0 where
  equal_ones : m ≡ n → SameSize m n
  across : (k : ℕ) → m ≡ pos (suc k) → n ≡ negsuc k → SameSize m n
  back : (k : ℕ) → m ≡ negsuc k → n ≡ pos (suc k) → SameSize m n

same_size : (m n : ℤ) → unsigned_abs m ≡ unsigned_abs n → SameSize m n
same_size (pos a) (pos b) h = equal_ones (ap pos h)
same_size (negsuc a) (negsuc b) h = equal_ones (ap negsuc (omega (arith, h)))
same_size (pos a) (negsuc b) h = across b (ap pos h) refl
same_size (negsuc a) (pos b) h = back a refl (ap pos (sym h))

-- a fraction by the sign of its numerator
below_zero : (q : Fraction) (k : ℕ) → q.num ≡ negsuc k → IsBelow q (whole (pos 0))
below_zero q k e = omega (arith, ints, e)

above_zero : (q : Fraction) (k : ℕ) → q.num ≡ pos (suc k) → IsBelow (whole (pos 0)) q
above_zero q k e = omega (arith, ints, e)

-- between numbers on both sides of 0 the simplest is 0
not_across : (b c m : Fraction) (k : ℕ) → IsSimplestBetween b c m → unsigned_abs m.num ≡ suc k → IsBelow b (whole (pos 0))
    → IsBelow (whole (pos 0)) c → ⊥
not_across b c m k h size low high =
    let zero_between : IsBetween b c (whole (pos 0)) = record { above = low; under = high } in
    let least = h.least_den (whole (pos 0)) zero_between in
    let size_least = h.least_num (whole (pos 0)) zero_between (omega (arith, least)) in
    omega (arith, size, size_least)

fraction_by : ℤ → ℕ → Fraction
fraction_by n l = record { num = n; less = l }

module _ (b c d e m n : Fraction) (first : IsSame b d) (second : IsSame c e) (h : IsSimplestBetween b c m) (k : IsSimplestBetween d e n) where
  in_first : IsBetween b c n
  in_first = between_alike d e b c n (same_turned b d first) (same_turned c e second) k.between

  in_second : IsBetween d e m
  in_second = between_alike b c d e m first second h.between

  same_less : m.less ≡ n.less
  same_less = let l = h.least_den n in_first in let o = k.least_den m in_second in omega (arith, l, o)

  same_num : m.num ≡ n.num
  same_num =
      let den_is = same_less in
      let one = h.least_num n in_first (omega (arith, den_is)) in
      let two = k.least_num m in_second (omega (arith, den_is)) in
      let sizes : unsigned_abs m.num ≡ unsigned_abs n.num = omega (arith, one, two) in
      elim (same_size m.num n.num sizes) [
        | equal_ones same ↦ same
        | across a p q ↦
            absurd (not_across b c m a h (ap unsigned_abs p) (order_trans b n (whole (pos 0)) in_first.above (below_zero n a q))
            (order_trans (whole (pos 0)) m c (above_zero m a p) h.between.under))
        | back a p q ↦
            absurd (not_across b c m a h (ap unsigned_abs p) (order_trans b m (whole (pos 0)) h.between.above (below_zero m a p))
            (order_trans (whole (pos 0)) n c (above_zero n a q) in_first.under))
      ]

  simplest_alike : m ≡ n
  unfolding fraction_by
  simplest_alike = ap₂ fraction_by same_num same_less

middles_alike : (bs cs ms ns : List Fraction) → AreAlike bs cs → AreMiddles bs ms → AreMiddles cs ns → AreAlike ms ns
middles_alike [] [] ms ns h k l = subst (λ (z : List Fraction). AreAlike z ns) (sym k) (subst (AreAlike []) (sym l) tt)
middles_alike [] (c ∷ cs) ms ns h k l = absurd h
middles_alike (b ∷ bs) [] ms ns h k l = absurd h
middles_alike (b ∷ []) (c ∷ []) ms ns h k l = subst (λ (z : List Fraction). AreAlike z ns) (sym k) (subst (AreAlike []) (sym l) tt)
middles_alike (b ∷ []) (c ∷ d ∷ cs) ms ns h k l = absurd h.1
middles_alike (b ∷ d ∷ bs) (c ∷ []) ms ns h k l = absurd h.1
middles_alike (b ∷ d ∷ bs) (c ∷ e ∷ cs) [] ns h k l = absurd k
middles_alike (b ∷ d ∷ bs) (c ∷ e ∷ cs) (m ∷ ms) [] h k l = absurd l
middles_alike (b ∷ d ∷ bs) (c ∷ e ∷ cs) (m ∷ ms) (n ∷ ns) h k l = (
  subst (IsSame m) (simplest_alike b d c e m n h.0 h.1.0 k.0 l.0) (same_itself m),
  middles_alike (d ∷ bs) (e ∷ cs) ms ns h.1 k.1 l.1,
)

-- the whole numbers below and above are single ones
lasts_alike : (b c : Fraction) (bs cs : List Fraction) → IsSame b c → AreAlike bs cs → IsSame (last_of b bs) (last_of c cs)
lasts_alike b c [] [] e h = e
lasts_alike b c [] (d ∷ cs) e h = absurd h
lasts_alike b c (d ∷ bs) [] e h = absurd h
lasts_alike b c (d ∷ bs) (a ∷ cs) e h = lasts_alike d a bs cs h.0 h.1

antisym : (m n : ℤ) → m ≤ℤ n → n ≤ℤ m → m ≡ n
antisym m n h k = omega (arith, ints, h, k)

below_alike : (b c : Fraction) (m n : ℤ) → IsSame b c → IsWholeBelow b m → IsWholeBelow c n → m ≡ n
below_alike b c m n e h k =
    antisym m n (k.greatest m (order_right b c (whole m) e h.below)) (h.greatest n (order_right c b (whole n) (same_turned b c e) k.below))

above_alike : (b c : Fraction) (m n : ℤ) → IsSame b c → IsWholeAbove b m → IsWholeAbove c n → m ≡ n
above_alike b c m n e h k =
    antisym m n (h.least n (order_left c b (whole n) (same_turned b c e) k.above)) (k.least m (order_left b c (whole m) e h.above))

two_wholes : ℤ → ℤ → List Fraction
two_wholes m n = whole m ∷ whole n ∷ []

ends_alike : (bs cs ds es : List Fraction) → AreAlike bs cs → AreEnds bs ds → AreEnds cs es → ds ≡ es
unfolding two_wholes
ends_alike [] [] ds es h k l = k ∙ sym l
ends_alike [] (c ∷ cs) ds es h k l = absurd h
ends_alike (b ∷ bs) [] ds es h k l = absurd h
ends_alike (b ∷ bs) (c ∷ cs) ds es h k l =
    k.4 ∙ ap₂ two_wholes (below_alike b c k.0 l.0 h.0 k.2 l.2)
    (above_alike (last_of b bs) (last_of c cs) k.1 l.1 (lasts_alike b c bs cs h.0 h.1) k.3 l.3) ∙ sym l.4

-- what is tried for alike breakpoints is alike
pub candidates_alike : (bs cs ps qs : List Fraction) → AreAlike bs cs → AreCandidates bs ps → AreCandidates cs qs → AreAlike ps qs
candidates_alike bs cs ps qs h k l =
    let ends = subst (AreAlike k.1) (ends_alike bs cs k.1 l.1 h k.3 l.3) (alike_itself k.1) in
    let small = alike_append small_wholes small_wholes bs cs (alike_itself small_wholes) h in
    let middle = alike_append (small_wholes ++ bs) (small_wholes ++ cs) k.0 l.0 small (middles_alike bs cs k.0 l.0 h k.2 l.2) in
    let all = alike_append (small_wholes ++ bs ++ k.0) (small_wholes ++ cs ++ l.0) k.1 l.1 middle ends in
    subst (λ (z : List Fraction). AreAlike z qs) (sym k.4) (subst (AreAlike (small_wholes ++ bs ++ k.0 ++ k.1)) (sym l.4) all)

-- the first value that passes is the same number
abbrev pub IsAlike : Option Fraction → Option Fraction → Type 0
IsAlike None None = Unit {0}
IsAlike None (Some c) = ⊥
IsAlike (Some b) None = ⊥
IsAlike (Some b) (Some c) = IsSame b c

pub found_alike : (test : Fraction → Bool) (bs cs : List Fraction) → ((b c : Fraction) → IsSame b c → test b ≡ test c) → AreAlike bs cs
    → IsAlike (find test bs) (find test cs)
found_alike test [] [] r h = tt
found_alike test [] (c ∷ cs) r h = absurd h
found_alike test (b ∷ bs) [] r h = absurd h
found_alike test (b ∷ bs) (c ∷ cs) r h =
    subst (λ (t : Bool). IsAlike (cond (test b) (Some b) (find test bs)) (cond t (Some c) (find test cs))) (r b c h.0)
    (elim (test b) as (λ (t : Bool). IsAlike (cond t (Some b) (find test bs)) (cond t (Some c) (find test cs))) [
      | true ↦ h.0
      | false ↦ found_alike test bs cs r h.1
    ])
