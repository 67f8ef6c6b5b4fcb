-- Every value lies like some candidate towards the breakpoints.
use Rattle.std.proofs.Common.{◌≡◌, zero, ℤ, pos, Bool, true, false, cond, List, [], ◌∷◌, ◌++◌, Option, Some, None, refl, sym, ap, ◌∙◌, subst, arith, ◌⊎◌, inl, inr, ⊎_elim}
use Rattle.std.proofs.lemmas.Bool.{cases_Bool}
use Rattle.std.specs.Prelude.{Contains, find, IsTrue}
use Rattle.std.proofs.lemmas.List.Elements.{Contains-append_left, Contains-append_right, Contains-append_cases, Contains-push_cases, Contains-get_or}
use Rattle.theory_meaning.specs.Fraction.{Fraction, whole, IsSame, IsBelow, below}
use Rattle.theory_meaning.proofs.OrderLaws.{below_from_fact, below_turned, below_trans, below_left, below_right, below_itself, below_or_same, below_at_most}
use Rattle.theory_meaning.specs.Between.{IsSimplestBetween, IsWholeBelow, IsWholeAbove}
use Rattle.theory_decision.specs.Candidates.{IsAscending, small_wholes, AreMiddles, last_of, AreCandidates, LiesAlike, IsSteady}

-- the first of a list is in it, and what is in the rest is in the whole
pub Contains-first : (b : Fraction) (bs : List Fraction) → Contains (b ∷ bs) b
Contains-first b bs = Contains-get_or (b ∷ bs) zero b (omega arith)

pub Contains-rest : (b c : Fraction) (bs : List Fraction) → Contains bs c → Contains (b ∷ bs) c
Contains-rest b c bs h = Contains-append_right (b ∷ []) bs c h

-- the same value lies alike
pub alike_same : (bs : List Fraction) (q r : Fraction) → IsSame q r → LiesAlike bs q r
alike_same [] q r e = tt
alike_same (b ∷ bs) q r e = (below_left q r b e, below_right q r b e, alike_same bs q r e)

-- two values below the first of an ascending list lie alike
pub alike_under : (b : Fraction) (bs : List Fraction) (q r : Fraction) → IsAscending (b ∷ bs) → below q b ≡ true → below r b ≡ true
    → LiesAlike (b ∷ bs) q r
alike_under b [] q r up h k = (h ∙ sym k, below_turned q b h ∙ sym (below_turned r b k), tt)
alike_under b (c ∷ bs) q r up h k =
    let step : below b c ≡ true = below_from_fact b c up.0 in
    (h ∙ sym k, below_turned q b h ∙ sym (below_turned r b k), alike_under c bs q r up.1 (below_trans q b c h step) (below_trans r b c k step))

-- a value among breakpoints, middles and the whole number m that lies like q, not below b
record StandsFor (bs ms : List Fraction) (m : ℤ) (b q : Fraction) : Type 0 where
  value : Fraction
  tried : Contains bs value ⊎ (Contains ms value ⊎ (value ≡ whole m))
  at_least : below value b ≡ false
  alike : LiesAlike bs q value

-- the same among a longer list that begins with a lesser breakpoint
one_more : (b c : Fraction) (bs ms : List Fraction) (n : Fraction) (m : ℤ) (q : Fraction) → IsBelow b c → below q c ≡ false
    → StandsFor (c ∷ bs) ms m c q → StandsFor (b ∷ c ∷ bs) (n ∷ ms) m b q
one_more b c bs ms n m q up h s =
    let step : below b c ≡ true = below_from_fact b c up in
    let above : below b q ≡ true = below_at_most b c q step h in
    let over : below b s.value ≡ true = below_at_most b c s.value step s.at_least in
    record {
      value = s.value;
      tried = ⊎_elim (λ i. inl (Contains-rest b s.value (c ∷ bs) i)) (⊎_elim (λ i. inr (inl (Contains-rest n s.value ms i))) (λ e. inr (inr e))) s.tried;
      at_least = below_turned b s.value over;
      alike = (below_turned b q above ∙ sym (below_turned b s.value over), above ∙ sym over, s.alike);
    }

-- at the first breakpoint
at_first : (b : Fraction) (bs ms : List Fraction) (m : ℤ) (q : Fraction) → IsSame b q → StandsFor (b ∷ bs) ms m b q
at_first b bs ms m q e =
    record {
      value = b;
      tried = inl (Contains-first b bs);
      at_least = below_itself b;
      alike = alike_same (b ∷ bs) q b (sym e);
    }

-- above the only breakpoint
at_end : (b : Fraction) (ms : List Fraction) (m : ℤ) (q : Fraction) → IsBelow b (whole m) → below b q ≡ true → StandsFor (b ∷ []) ms m b q
at_end b ms m q end above =
    let over : below b (whole m) ≡ true = below_from_fact b (whole m) end in
    record {
      value = whole m;
      tried = inr (inr refl);
      at_least = below_turned b (whole m) over;
      alike = (below_turned b q above ∙ sym (below_turned b (whole m) over), above ∙ sym over, tt);
    }

-- between the first two breakpoints
at_middle : (b c : Fraction) (bs : List Fraction) (n : Fraction) (ms : List Fraction) (m : ℤ) (q : Fraction) → IsAscending (c ∷ bs)
    → IsSimplestBetween b c n → below b q ≡ true → below q c ≡ true → StandsFor (b ∷ c ∷ bs) (n ∷ ms) m b q
at_middle b c bs n ms m q up simplest above under =
    let over : below b n ≡ true = below_from_fact b n simplest.between.above in
    let below_next : below n c ≡ true = below_from_fact n c simplest.between.under in
    record {
      value = n;
      tried = inr (inl (Contains-first n ms));
      at_least = below_turned b n over;
      alike = (below_turned b q above ∙ sym (below_turned b n over), above ∙ sym over, alike_under c bs q n up under below_next);
    }

-- a value that isn't below the first breakpoint lies like one that is tried
at_or_above : (b : Fraction) (bs ms : List Fraction) (m : ℤ) (q : Fraction) → IsAscending (b ∷ bs) → AreMiddles (b ∷ bs) ms
    → IsBelow (last_of b bs) (whole m) → below q b ≡ false → StandsFor (b ∷ bs) ms m b q
at_or_above b [] ms m q up mids end h =
    ⊎_elim (λ above. at_end b ms m q end above) (λ e. at_first b [] ms m q (sym e)) (below_or_same q b h)
at_or_above b (c ∷ bs) [] m q up mids end h = absurd mids
at_or_above b (c ∷ bs) (n ∷ ms) m q up mids end h =
    ⊎_elim
    (λ above.
    ⊎_elim
    (λ under. at_middle b c bs n ms m q up.1 mids.0 above under)
    (λ k. one_more b c bs ms n m q up.0 k (at_or_above c bs ms m q up.1 mids.1 end k))
    (cases_Bool (below q c)))
    (λ e. at_first b (c ∷ bs) (n ∷ ms) m q (sym e)) (below_or_same q b h)

-- the four parts of the candidates
in_small : (bs ms es : List Fraction) (c : Fraction) → Contains small_wholes c → Contains (small_wholes ++ bs ++ ms ++ es) c
in_small bs ms es c h =
    Contains-append_left (small_wholes ++ bs ++ ms) es c (Contains-append_left (small_wholes ++ bs) ms c (Contains-append_left small_wholes bs c h))

in_breakpoints : (bs ms es : List Fraction) (c : Fraction) → Contains bs c → Contains (small_wholes ++ bs ++ ms ++ es) c
in_breakpoints bs ms es c h =
    Contains-append_left (small_wholes ++ bs ++ ms) es c (Contains-append_left (small_wholes ++ bs) ms c (Contains-append_right small_wholes bs c h))

in_middles : (bs ms es : List Fraction) (c : Fraction) → Contains ms c → Contains (small_wholes ++ bs ++ ms ++ es) c
in_middles bs ms es c h = Contains-append_left (small_wholes ++ bs ++ ms) es c (Contains-append_right (small_wholes ++ bs) ms c h)

in_ends : (bs ms es : List Fraction) (c : Fraction) → Contains es c → Contains (small_wholes ++ bs ++ ms ++ es) c
in_ends bs ms es c h = Contains-append_right (small_wholes ++ bs ++ ms) es c h

-- some value of the list lies alike
abbrev SomeAlike : List Fraction → List Fraction → Fraction → Type 0
SomeAlike bs cs q = (c : Fraction) × Contains cs c × LiesAlike bs q c

-- below the first breakpoint it is the whole number below
some_under : (b : Fraction) (bs ms : List Fraction) (n m : ℤ) (q : Fraction) → IsAscending (b ∷ bs) → IsBelow (whole n) b → below q b ≡ true
    → SomeAlike (b ∷ bs) (small_wholes ++ (b ∷ bs) ++ ms ++ (whole n ∷ whole m ∷ [])) q
some_under b bs ms n m q up low h = (
  whole n,
  in_ends (b ∷ bs) ms (whole n ∷ whole m ∷ []) (whole n) (Contains-first (whole n) (whole m ∷ [])),
  alike_under b bs q (whole n) up h (below_from_fact (whole n) b low),
)

-- elsewhere it is one of the others
some_over : (b : Fraction) (bs ms : List Fraction) (n m : ℤ) (q : Fraction) → StandsFor (b ∷ bs) ms m b q
    → SomeAlike (b ∷ bs) (small_wholes ++ (b ∷ bs) ++ ms ++ (whole n ∷ whole m ∷ [])) q
some_over b bs ms n m q s =
    let es : List Fraction = whole n ∷ whole m ∷ [] in
    let last : Contains es (whole m) = Contains-rest (whole n) (whole m) (whole m ∷ []) (Contains-first (whole m) []) in (
      s.value,
      ⊎_elim (in_breakpoints (b ∷ bs) ms es s.value)
          (⊎_elim (in_middles (b ∷ bs) ms es s.value) (λ e. in_ends (b ∷ bs) ms es s.value (subst (Contains es) (sym e) last)))
          s.tried,
      s.alike,
    )

-- the two together
some_among : (b : Fraction) (bs ms : List Fraction) (n m : ℤ) (q : Fraction) → IsAscending (b ∷ bs) → AreMiddles (b ∷ bs) ms → IsWholeBelow b n
    → IsWholeAbove (last_of b bs) m → SomeAlike (b ∷ bs) (small_wholes ++ (b ∷ bs) ++ ms ++ (whole n ∷ whole m ∷ [])) q
some_among b bs ms n m q up mids low high =
    ⊎_elim (λ h. some_under b bs ms n m q up low.below h)
    (λ h. some_over b bs ms n m q (at_or_above b bs ms m q up mids high.above h)) (cases_Bool (below q b))

-- every value lies like some candidate
pub some_candidate_alike : (bs cs : List Fraction) (q : Fraction) → IsAscending bs → AreCandidates bs cs
    → (c : Fraction) × Contains cs c × LiesAlike bs q c
some_candidate_alike [] cs q up are =
    let zero_first : Contains small_wholes (whole (pos 0)) = Contains-get_or small_wholes 0 (whole (pos 0)) (omega arith) in
    (whole (pos 0), subst (λ xs. Contains xs (whole (pos 0))) (sym are.4) (in_small [] are.0 are.1 (whole (pos 0)) zero_first), tt)
some_candidate_alike (b ∷ bs) cs q up are =
    let ends = are.3 in
    let e : cs ≡ small_wholes ++ (b ∷ bs) ++ are.0 ++ (whole ends.0 ∷ whole ends.1 ∷ []) =
    are.4 ∙ ap (λ es. small_wholes ++ (b ∷ bs) ++ are.0 ++ es) ends.4 in
    let found = some_among b bs are.0 ends.0 ends.1 q up are.2 ends.2 ends.3 in
    (found.0, subst (λ xs. Contains xs found.0) (sym e) found.1, found.2)

-- where a test is steady and passes, it passes at some candidate
pub some_candidate_passes : (bs cs : List Fraction) (test : Fraction → Bool) → IsAscending bs → AreCandidates bs cs → IsSteady bs test
    → (q : Fraction) → IsTrue (test q) → (c : Fraction) × Contains cs c × IsTrue (test c)
some_candidate_passes bs cs test up are steady q passes =
    let found = some_candidate_alike bs cs q up are in
    (found.0, found.1, sym (steady q found.0 found.2) ∙ passes)

-- what was found passes
pub find-passes : (test : Fraction → Bool) (cs : List Fraction) (q : Fraction) → find test cs ≡ Some q → test q ≡ true
find-passes test [] q h = absurd (let bad : ◌≡◌ {A = Option Fraction} None (Some q) = h in cc)
find-passes test (c ∷ cs) q h =
    elim (test c) as (λ (t : Bool). test c ≡ t → cond t (Some c) (find test cs) ≡ Some q → test q ≡ true) [
      | true ↦ λ e f. let same : c ≡ q = (let g : ◌≡◌ {A = Option Fraction} (Some c) (Some q) = f in cc) in subst (λ (r : Fraction). test r ≡ true) same e
      | false ↦ λ e f. find-passes test cs q f
    ] refl h

-- where nothing was found nothing passes
pub find-nothing : (test : Fraction → Bool) (cs : List Fraction) → find test cs ≡ None → (c : Fraction) → Contains cs c → test c ≡ false
find-nothing test [] h c i = absurd (let m = i.1 in omega arith)
find-nothing test (d ∷ cs) h c i =
    elim (test d) as (λ (t : Bool). test d ≡ t → cond t (Some d) (find test cs) ≡ None → test c ≡ false) [
      | true ↦ λ e f. absurd (let bad : ◌≡◌ {A = Option Fraction} (Some d) None = f in cc)
      | false ↦ λ e f. ⊎_elim (λ k. ⊎_elim (λ n. absurd (let m = n.1 in omega arith)) (λ same. subst (λ (r : Fraction). test r ≡ false) same e)
          (Contains-push_cases [] d c k))
          (λ k. find-nothing test cs f c k) (Contains-append_cases (d ∷ []) cs c i)
    ] refl h
