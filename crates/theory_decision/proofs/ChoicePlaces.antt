-- A choice is the place of a candidate: among candidates there is one before which none goes.
use Rattle.std.proofs.Common.{◌≡◌, ◌⊎◌, ℕ, zero, suc, ◌<◌, ◌+◌, length, Bool, true, false, List, [], ◌∷◌, None, Some, refl, ap, ◌∙◌, arith, inl, inr}
use Rattle.std.specs.Prelude.{◌≢◌, ◌&&◌, ◌||◌, ◌==◌, not, nat_lt, cond, slice_get, option_map}
use Rattle.std.specs.List.{list_any, position_or_len}
use Rattle.std.specs.Option.{unwrap_or}
use Rattle.std.proofs.lemmas.Bool.{cases_Bool}
use Rattle.theory_meaning.specs.declared.words.Kind.{Kind}
use Rattle.theory_meaning.specs.declared.words.Kind.TheVariants as kind
use Rattle.theory_decision.specs.declared.candidate.Candidate.{Candidate}
use Rattle.theory_decision.specs.Choice.{first_by, is_rarer, is_surer, unit_or, choice, chosen}

-- where some candidate passes a test, the first place that does is one of theirs
step_within : (b : Bool) (m n : ℕ) → (b ≡ false → m < n) → cond (not b) (1 + m) 0 < suc n
step_within true m n h = omega arith
step_within false m n h = let l = h refl in omega (arith, l)

or_second : (a b : Bool) → a || b ≡ true → a ≡ false → b ≡ true
or_second true b e f = absurd cc
or_second false b e f = e

place_within : (p : Candidate → Bool) (cs : List Candidate) → list_any p cs ≡ true → position_or_len p cs < length cs
place_within p [] e = absurd cc
place_within p (c ∷ cs) e =
    step_within (p c) (position_or_len p cs) (length cs) (λ f. place_within p cs (or_second (p c) (list_any p cs) e f))

-- an order in which none goes before itself, and what goes before an earlier one goes before
record IsOrder (before : Candidate → Candidate → Bool) : Type 0 where
  irreflexive : (c : Candidate) → before c c ≡ false
  transitive : (c d e : Candidate) → before c d ≡ true → before d e ≡ true → before c e ≡ true

or_true : (a : Bool) → a || true ≡ true
or_true true = refl
or_true false = refl

abbrev InList : Candidate → List Candidate → Type 0
InList m [] = ⊥
InList m (c ∷ cs) = (c ≡ m) ⊎ InList m cs

any_in : (p : Candidate → Bool) (m : Candidate) (cs : List Candidate) → InList m cs → p m ≡ true → list_any p cs ≡ true
any_in p m [] i e = absurd i
any_in p m (c ∷ cs) (inl same) e = ap (λ (b : Bool). b || list_any p cs) (ap p same ∙ e)
any_in p m (c ∷ cs) (inr i) e = ap (λ (b : Bool). p c || b) (any_in p m cs i e) ∙ or_true (p c)

rest_false : (a b : Bool) → a || b ≡ false → b ≡ false
rest_false true b e = absurd cc
rest_false false b e = e

not_both : (a : Bool) → a ≡ true → a ≡ false → ⊥
not_both true e f = cc
not_both false e f = cc

module _ (before : Candidate → Candidate → Bool) (order : IsOrder before) where
  -- none of them goes before this one
  abbrev NoneBefore : Candidate → List Candidate → Type 0
  NoneBefore m cs = list_any (λ d. before d m) cs ≡ false

  none_earlier : (c m : Candidate) (cs : List Candidate) → before c m ≡ true → NoneBefore m cs → NoneBefore c cs
  none_earlier c m [] e h = refl
  none_earlier c m (d ∷ cs) e h =
      elim (cases_Bool (before d c)) [
        | inl f ↦
            let g : before d m ≡ true = order.transitive d c m f e in
            absurd (not_both (before d m || list_any (λ (a : Candidate). before a m) cs)
            (ap (λ (b : Bool). b || list_any (λ (a : Candidate). before a m) cs) g) h)
        | inr f ↦ ap (λ (b : Bool). b || list_any (λ (a : Candidate). before a c) cs) f
            ∙ none_earlier c m cs e (rest_false (before d m) (list_any (λ (a : Candidate). before a m) cs) h)
      ]

  least : (c : Candidate) (cs : List Candidate) → (m : Candidate) × NoneBefore m (c ∷ cs) × InList m (c ∷ cs)
  least c [] = (c, ap (λ (b : Bool). b || false) (order.irreflexive c), inl refl)
  least c (d ∷ cs) =
      let l = least d cs in
      elim (cases_Bool (before c l.0)) [
        | inl e ↦ (
          c,
          ap (λ (b : Bool). b || list_any (λ (a : Candidate). before a c) (d ∷ cs)) (order.irreflexive c) ∙ none_earlier c l.0 (d ∷ cs) e l.1,
          inl refl,
        )
        | inr e ↦ (l.0, ap (λ (b : Bool). b || list_any (λ (a : Candidate). before a l.0) (d ∷ cs)) e ∙ l.1, inr l.2)
      ]

  first_within : (c : Candidate) (cs : List Candidate) → first_by before (c ∷ cs) < length (c ∷ cs)
  first_within c cs =
      let l = least c cs in
      place_within (λ a. not (list_any (λ d. before d a) (c ∷ cs))) (c ∷ cs)
      (any_in (λ a. not (list_any (λ d. before d a) (c ∷ cs))) l.0 (c ∷ cs) l.2 (ap not l.1))

-- the two orders
less_itself : (n : ℕ) → nat_lt n n ≡ false
less_itself n = grind arith

less_through : (k m n : ℕ) → nat_lt k m ≡ true → nat_lt m n ≡ true → nat_lt k n ≡ true
less_through k m n h l = grind (arith, h, l)

rarer_is_order : IsOrder is_rarer
rarer_is_order = record {
  irreflexive = λ c. less_itself c.atoms;
  transitive = λ c d e h k. less_through c.atoms d.atoms e.atoms h k;
}

surer_itself : (n a : ℕ) → nat_lt n n || (n == n && nat_lt a a) ≡ false
surer_itself n a = grind arith

surer_through : (k m n a b c : ℕ) → nat_lt k m || (k == m && nat_lt a b) ≡ true → nat_lt m n || (m == n && nat_lt b c) ≡ true
    → nat_lt k n || (k == n && nat_lt a c) ≡ true
surer_through k m n a b c h l = grind (arith, h, l)

surer_is_order : IsOrder is_surer
surer_is_order = record {
  irreflexive = λ c. surer_itself c.unsure c.atoms;
  transitive = λ c d e h k. surer_through c.unsure d.unsure e.unsure c.atoms d.atoms e.atoms h k;
}

-- the first that is marked, or else by the order
marked_within : (i n : ℕ) (b : Bool) (k : ℕ) → nat_lt i n ≡ b → k < n → unwrap_or (cond b (Some i) None) k < n
marked_within i n true k e h = grind (arith, e)
marked_within i n false k e h = h

unit_within : (before : Candidate → Candidate → Bool) → IsOrder before → (c : Candidate) (cs : List Candidate)
    → unit_or before (c ∷ cs) < length (c ∷ cs)
unit_within before order c cs =
    marked_within (position_or_len (λ (d : Candidate). d.unit) (c ∷ cs)) (length (c ∷ cs))
    (nat_lt (position_or_len (λ (d : Candidate). d.unit) (c ∷ cs)) (length (c ∷ cs))) (first_by before (c ∷ cs)) refl
    (first_within before order c cs)

pub choice_within : (k : Kind) (cs : List Candidate) → cs ≢ [] → choice k cs < length cs
choice_within k [] n = absurd (n refl)
choice_within kind.Listed (c ∷ cs) n = omega arith
choice_within kind.Rare (c ∷ cs) n = first_within is_rarer rarer_is_order c cs
choice_within kind.Unit (c ∷ cs) n = unit_within is_rarer rarer_is_order c cs
choice_within kind.Signed (c ∷ cs) n = unit_within is_surer surer_is_order c cs

-- so where none is chosen there is none
nothing_there : (cs : List Candidate) (i : ℕ) → i < length cs → option_map (λ (c : Candidate). c.symbol) (slice_get cs i) ≡ None → ⊥
nothing_there [] i h e = absurd (omega (arith, h))
nothing_there (c ∷ cs) zero h e = cc
nothing_there (c ∷ cs) (suc i) h e = nothing_there cs i (omega (arith, h)) e

pub none_chosen : (k : Kind) (cs : List Candidate) → chosen k cs ≡ None → cs ≡ []
none_chosen k [] e = refl
none_chosen k (c ∷ cs) e = absurd (nothing_there (c ∷ cs) (choice k (c ∷ cs)) (choice_within k (c ∷ cs) (λ z. cc)) e)
