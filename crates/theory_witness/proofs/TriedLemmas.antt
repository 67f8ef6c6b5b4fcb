-- Middles that are added neighbour by neighbour, and the ends.
use Rattle.std.proofs.Common.{◌≡◌, ℕ, suc, ◌+◌, ◌-◌, ◌<◌, ◌≤◌, ℤ, List, [], ◌∷◌, ◌++◌, length, get_or, drop, refl}
use Rattle.std.proofs.Common.{sym, ap, ◌∙◌, subst, arith, append_assoc, add-one, drop-cons, length-drop}
use Rattle.std.proofs.lemmas.List.{append-nil}
use Rattle.theory_meaning.specs.Fraction.{Fraction, IsBelow, whole}
use Rattle.theory_meaning.specs.Between.{IsSimplestBetween, IsWholeBelow, IsWholeAbove}
use Rattle.theory_decision.specs.Candidates.{IsAscending, AreMiddles, last_of}
use Rattle.theory_witness.specs.Tried.{AddsMiddles, AddsEnds}

-- the middles of the first neighbours are added, and those of the rest are still to come
pub record AddedBefore (bs old new : List Fraction) (k : ℕ) : Type 0 where
  pub before : ℕ
  pub place : k ≡ before + 1
  pub middles : List Fraction
  pub adds : new ≡ old ++ middles
  pub ascending : IsAscending (drop before bs)
  pub goes_on : (rest : List Fraction) → AreMiddles (drop before bs) rest → AreMiddles bs (middles ++ rest)

pub nothing_added : (bs old : List Fraction) → IsAscending bs → AddedBefore bs old old 1
nothing_added bs old up = record { before = 0; place = refl; middles = []; adds = sym (append-nil old); ascending = up; goes_on = λ rest h. h }

-- one entry of a list ahead
one_ahead : (bs : List Fraction) (i : ℕ) (b : Fraction) → i < length bs → b ≡ get_or bs i b → drop i bs ≡ b ∷ drop (i + 1) bs
one_ahead bs i b within is = rw (add-one, drop-cons bs i b) (ap (λ (q : Fraction). q ∷ drop (suc i) bs) (sym is))

-- two neighbours
record Neighbours (bs : List Fraction) (j : ℕ) (b c : Fraction) : Type 0 where
  within : j + 1 < length bs
  first : b ≡ get_or bs j b
  second : c ≡ get_or bs (j + 1) c

two_ahead : (bs : List Fraction) (j : ℕ) (b c : Fraction) → Neighbours bs j b c → drop j bs ≡ b ∷ c ∷ drop (j + 1 + 1) bs
two_ahead bs j b c n = let w = n.within in let low : j < length bs = omega arith in
    one_ahead bs j b low n.first ∙ ap (λ (rest : List Fraction). b ∷ rest) (one_ahead bs (j + 1) c n.within n.second)

-- neighbours in an ascending list
pub middle_fits : (bs old new : List Fraction) (k i : ℕ) (b c : Fraction) → i + 1 ≡ k → k < length bs → b ≡ get_or bs i b → c ≡ get_or bs k c →
    AddedBefore bs old new k → IsBelow b c
middle_fits bs old new k i b c place within first second a =
    let same : i ≡ a.before = (let p = a.place in omega arith) in
    let here : Neighbours bs a.before b c = neighbours bs k i a.before b c place same within first second in
    (subst IsAscending (two_ahead bs a.before b c here) a.ascending).0
  where
    neighbours : (bs : List Fraction) (k i j : ℕ) (b c : Fraction) → i + 1 ≡ k → i ≡ j → k < length bs → b ≡ get_or bs i b →
        c ≡ get_or bs k c → Neighbours bs j b c
    neighbours bs k i j b c place same within first second = record {
      within = omega arith;
      first = subst (λ (n : ℕ). b ≡ get_or bs n b) same first;
      second = subst (λ (n : ℕ). c ≡ get_or bs n c) (let e : k ≡ j + 1 = omega arith in e) second;
    }

-- one more middle
pub middle_added : (bs old new newer : List Fraction) (k i : ℕ) (b c m : Fraction) → i + 1 ≡ k → k < length bs → b ≡ get_or bs i b → c ≡ get_or bs k c →
    IsSimplestBetween b c m →
    newer ≡ new ++ m ∷ [] → AddedBefore bs old new k → AddedBefore bs old newer (k + 1)
middle_added bs old new newer k i b c m place within first second simplest adds a =
    let p : k ≡ a.before + 1 = a.place in
    let inside : a.before + 1 < length bs = omega arith in
    let first_is : b ≡ get_or bs a.before b = subst (λ (n : ℕ). b ≡ get_or bs n b) (let e : i ≡ a.before = omega arith in e) first in
    let second_is : c ≡ get_or bs (a.before + 1) c = subst (λ (n : ℕ). c ≡ get_or bs n c) p second in
    let both : drop a.before bs ≡ b ∷ c ∷ drop (a.before + 1 + 1) bs = two_ahead bs a.before b c
    (record { within = inside; first = first_is; second = second_is }) in
    let next : drop (a.before + 1) bs ≡ c ∷ drop (a.before + 1 + 1) bs = one_ahead bs (a.before + 1) c inside second_is in
    record {
      before = a.before + 1;
      place = ap (λ (n : ℕ). n + 1) p;
      middles = a.middles ++ m ∷ [];
      adds = adds ∙ ap (λ (l : List Fraction). l ++ m ∷ []) a.adds ∙ append_assoc old a.middles (m ∷ []);
      ascending = subst IsAscending (sym next) (subst IsAscending both a.ascending).1;
      goes_on = λ rest h.
          let here : AreMiddles (drop a.before bs) (m ∷ rest) = subst (λ (l : List Fraction). AreMiddles l (m ∷ rest)) (sym both)
          (simplest, subst (λ (l : List Fraction). AreMiddles l rest) next h) in
          subst (λ (l : List Fraction). AreMiddles bs l) (sym (append_assoc a.middles (m ∷ []) rest)) (a.goes_on (m ∷ rest) here);
    }

-- at the end there is one entry left, or none
none_left : (bs : List Fraction) → length bs ≤ 1 → AreMiddles bs []
none_left [] h = refl
none_left (b ∷ []) h = refl
none_left (b ∷ c ∷ bs) h = absurd (omega arith)

pub all_added : (bs old new : List Fraction) (k : ℕ) → length bs ≤ k → AddedBefore bs old new k → AddsMiddles bs old new
all_added bs old new k end a =
    let p : k ≡ a.before + 1 = a.place in
    let short : length (drop a.before bs) ≤ 1 = simp length-drop (omega arith) in
    (a.middles, subst (λ (l : List Fraction). AreMiddles bs l) (append-nil a.middles) (a.goes_on [] (none_left (drop a.before bs) short)), a.adds)

-- the last of a list that is not empty
last_is : (b d : Fraction) (bs : List Fraction) → last_of b bs ≡ get_or (b ∷ bs) (length bs) d
last_is b d [] = refl
last_is b d (c ∷ bs) = last_is c d bs

pub ends_added : (bs old newer newest : List Fraction) (first last : Fraction) (n m : ℤ) → 0 < length bs → first ≡ get_or bs 0 first →
    last ≡ get_or bs (length bs - 1) last →
    IsWholeBelow first n → IsWholeAbove last m → newer ≡ old ++ whole n ∷ [] → newest ≡ newer ++ whole m ∷ [] → AddsEnds bs old newest
ends_added [] old newer newest first last n m some is_first is_last under over adds more = absurd (omega arith)
ends_added (b ∷ bs) old newer newest first last n m some is_first is_last under over adds more =
    let at : length (b ∷ bs) - 1 ≡ length bs = omega arith in
    let last_one : last ≡ last_of b bs = is_last ∙ ap (λ (k : ℕ). get_or (b ∷ bs) k last) at ∙ sym (last_is b last bs) in (
      whole n ∷ whole m ∷ [],
      (n, m, subst (λ (q : Fraction). IsWholeBelow q n) is_first under, subst (λ (q : Fraction). IsWholeAbove q m) last_one over, refl),
      more ∙ ap (λ (l : List Fraction). l ++ whole m ∷ []) adds ∙ append_assoc old (whole n ∷ []) (whole m ∷ []),
    )
