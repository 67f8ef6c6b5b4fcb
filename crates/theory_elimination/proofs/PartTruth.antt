-- The truth of members of a list of formulas, through the steps that put them together and leave them out.
use Rattle.std.proofs.Common.{◌≡◌, Bool, true, false, not, List, [], ◌∷◌, ◌++◌, Option, None, Some, refl, sym, ap, ap₂, ◌∙◌, subst}
use Rattle.std.specs.Prelude.{◌&&◌, MatchOption, if◌then◌else◌, map}
use Rattle.std.specs.Bool.{beq}
use Rattle.std.specs.Option.{option_map, option_and_then}
use Rattle.theory_formula.specs.declared.signs.Signs.{Signs}
use Rattle.theory_formula.specs.Signs.{has}
use Rattle.theory_polynomial.specs.Terms.{Monomial}
use Rattle.theory_polynomial.specs.PolynomialValue.{Values}
use Rattle.theory_formula.specs.Formula.{sign_at}
use Rattle.theory_elimination.specs.SameFormula.{is_same_poly}
use Rattle.theory_elimination.specs.Facts.{Facts, judged, with_fact, AreTrueAt}
use Rattle.theory_elimination.specs.Simplified.{Part, settled, condition, other, put_together, with_condition, gathered_behind, undecided, gathered, as_judged, by_facts, with_conditions}
use Rattle.theory_elimination.proofs.SetTruth.{combined, put_together_has}
use Rattle.theory_elimination.proofs.SameLaws.{same_poly}
use Rattle.theory_elimination.proofs.FactTruth.{judged_has, one_more_fact}

-- all or some of the truths
abbrev pub total : Bool → List Bool → Bool
total all [] = all
total all (b ∷ bs) = combined all b (total all bs)

pub combined_assoc : (all a b c : Bool) → combined all (combined all a b) c ≡ combined all a (combined all b c)
combined_assoc true true b c = refl
combined_assoc true false b c = refl
combined_assoc false true b c = refl
combined_assoc false false b c = refl

pub combined_comm : (all a b : Bool) → combined all a b ≡ combined all b a
combined_comm true true true = refl
combined_comm true true false = refl
combined_comm true false true = refl
combined_comm true false false = refl
combined_comm false true true = refl
combined_comm false true false = refl
combined_comm false false true = refl
combined_comm false false false = refl

pub combined_end : (all a : Bool) → combined all a all ≡ a
combined_end true true = refl
combined_end true false = refl
combined_end false true = refl
combined_end false false = refl

pub combined_start : (all a : Bool) → combined all all a ≡ a
combined_start true a = refl
combined_start false a = refl

pub combined_decided : (all a : Bool) → combined all (not all) a ≡ not all
combined_decided true a = refl
combined_decided false a = refl

pub total_append : (all : Bool) (us vs : List Bool) → total all (us ++ vs) ≡ combined all (total all us) (total all vs)
total_append all [] vs = sym (combined_start all (total all vs))
total_append all (u ∷ us) vs = ap (combined all u) (total_append all us vs) ∙ sym (combined_assoc all u (total all us) (total all vs))

first_part : (a b : Bool) → a && b ≡ true → a ≡ true
first_part true b e = refl
first_part false b e = absurd cc

second_part : (a b : Bool) → a && b ≡ true → b ≡ true
second_part true b e = e
second_part false b e = absurd cc

module _ {X : Type 0} (IsOther : X → Bool → Type 0) (p : Values) where
  -- the member has this truth
  abbrev pub IsWorth : Part X → Bool → Type 0
  IsWorth (settled b) v = v ≡ b
  IsWorth (condition P S) v = v ≡ has S (sign_at P p)
  IsWorth (other x) v = IsOther x v

  abbrev pub AreWorth : List (Part X) → List Bool → Type 0
  AreWorth [] [] = Unit {0}
  AreWorth (m ∷ ms) (v ∷ vs) = IsWorth m v × AreWorth ms vs
  AreWorth [] (v ∷ vs) = ⊥
  AreWorth (m ∷ ms) [] = ⊥

  -- the members that are left have this truth together; where none are left the whole is decided
  abbrev pub Keeps : Bool → Option (List (Part X)) → Bool → Type 0
  Keeps all None v = v ≡ not all
  Keeps all (Some ms) v = (us : List Bool) × AreWorth ms us × (total all us ≡ v)

  pub keeps_same : (all : Bool) (o : Option (List (Part X))) (v w : Bool) → v ≡ w → Keeps all o v → Keeps all o w
  keeps_same all o v w e h = subst (λ (x : Bool). Keeps all o x) e h

  -- one member more in front
  pub keeps_front : (all : Bool) (m : Part X) (u : Bool) (o : Option (List (Part X))) (v : Bool) → IsWorth m u → Keeps all o v
      → Keeps all (option_map (λ ms. m ∷ ms) o) (combined all u v)
  keeps_front all m u None v w h = ap (combined all u) h ∙ combined_comm all u (not all) ∙ combined_decided all u
  keeps_front all m u (Some ms) v w h = (u ∷ h.0, (w, h.1), ap (combined all u) h.2)

  pub keeps_then : (all : Bool) (o : Option (List (Part X))) (f : List (Part X) → Option (List (Part X))) (v : Bool) → Keeps all o v
      → ((ms : List (Part X)) (us : List Bool) → AreWorth ms us → Keeps all (f ms) (total all us)) → Keeps all (option_and_then f o) v
  keeps_then all None f v h next = h
  keeps_then all (Some ms) f v h next = keeps_same all (f ms) (total all h.0) v h.2 (next ms h.0 h.1)

  -- a condition on the polynomial of the first member
  keeps_met : (all : Bool) (Q : List Monomial) (T S : Signs) (ms : List (Part X)) (us : List Bool) → AreWorth ms us
      → Keeps all (option_map (λ R. condition Q R ∷ ms) (put_together all T S))
      (combined all (combined all (has T (sign_at Q p)) (total all us)) (has S (sign_at Q p)))
  keeps_met all Q T S ms us w =
      let t = has T (sign_at Q p) in
      let s = has S (sign_at Q p) in
      let turned : combined all (combined all t s) (total all us) ≡ combined all (combined all t (total all us)) s =
      combined_assoc all t s (total all us) ∙ ap (combined all t) (combined_comm all s (total all us)) ∙ sym (combined_assoc all t (total all us) s) in
      elim (put_together all T S) as (λ m. MatchOption m (combined all t s ≡ not all) (λ R. has R (sign_at Q p) ≡ combined all t s)
      → Keeps all (option_map (λ R. condition Q R ∷ ms) m) (combined all (combined all t (total all us)) s)) [
        | None ↦ λ e. sym turned ∙ ap (λ (b : Bool). combined all b (total all us)) e ∙ combined_decided all (total all us)
        | Some R ↦ λ e. (has R (sign_at Q p) ∷ us, (refl, w), ap (λ (b : Bool). combined all b (total all us)) e ∙ turned)
      ] (put_together_has all T S (sign_at Q p))

  pub keeps_condition : (all : Bool) (P : List Monomial) (S : Signs) (ms : List (Part X)) (us : List Bool) → AreWorth ms us
      → Keeps all (with_condition all P S ms) (combined all (total all us) (has S (sign_at P p)))
  keeps_condition all P S [] [] w = (
    has S (sign_at P p) ∷ [],
    (refl, tt),
    combined_end all (has S (sign_at P p))
        ∙ sym (combined_start all (has S (sign_at P p))),
  )
  keeps_condition all P S [] (u ∷ us) w = absurd w
  keeps_condition all P S (m ∷ ms) [] w = absurd w
  keeps_condition all P S (condition Q T ∷ ms) (u ∷ us) w =
      let further : Keeps all (option_map (λ ns. condition Q T ∷ ns) (with_condition all P S ms))
      (combined all (combined all u (total all us)) (has S (sign_at P p))) =
      keeps_same all (option_map (λ ns. condition Q T ∷ ns) (with_condition all P S ms)) (combined all u (combined all (total all us) (has S (sign_at P p))))
      (combined all (combined all u (total all us)) (has S (sign_at P p)))
      (sym (combined_assoc all u (total all us) (has S (sign_at P p))))
      (keeps_front all (condition Q T) u (with_condition all P S ms) (combined all (total all us) (has S (sign_at P p))) w.0
      (keeps_condition all P S ms us w.1)) in
      elim (is_same_poly Q P) as (λ b. is_same_poly Q P ≡ b → Keeps all (if b then option_map (λ R. condition Q R ∷ ms) (put_together all T S)
      else option_map (λ ns. condition Q T ∷ ns) (with_condition all P S ms)) (combined all (combined all u (total all us)) (has S (sign_at P p)))) [
        | true ↦ λ same.
            keeps_same all (option_map (λ R. condition Q R ∷ ms) (put_together all T S))
            (combined all (combined all (has T (sign_at Q p)) (total all us)) (has S (sign_at Q p)))
            (combined all (combined all u (total all us)) (has S (sign_at P p)))
            (ap₂ (λ (b c : Bool). combined all (combined all b (total all us)) c) (sym w.0)
            (ap (λ (R : List Monomial). has S (sign_at R p)) (same_poly Q P same)))
            (keeps_met all Q T S ms us w.1)
        | false ↦ λ differ. further
      ] refl
  keeps_condition all P S (settled b ∷ ms) (u ∷ us) w =
      keeps_same all (option_map (λ ns. settled b ∷ ns) (with_condition all P S ms)) (combined all u (combined all (total all us) (has S (sign_at P p))))
      (combined all (combined all u (total all us)) (has S (sign_at P p)))
      (sym (combined_assoc all u (total all us) (has S (sign_at P p))))
      (keeps_front all (settled b) u (with_condition all P S ms) (combined all (total all us) (has S (sign_at P p))) w.0 (keeps_condition all P S ms us w.1))
  keeps_condition all P S (other x ∷ ms) (u ∷ us) w =
      keeps_same all (option_map (λ ns. other x ∷ ns) (with_condition all P S ms)) (combined all u (combined all (total all us) (has S (sign_at P p))))
      (combined all (combined all u (total all us)) (has S (sign_at P p)))
      (sym (combined_assoc all u (total all us) (has S (sign_at P p))))
      (keeps_front all (other x) u (with_condition all P S ms) (combined all (total all us) (has S (sign_at P p))) w.0 (keeps_condition all P S ms us w.1))

  -- one member more at the end
  worth_end : (ms : List (Part X)) (us : List Bool) (m : Part X) (u : Bool) → AreWorth ms us → IsWorth m u → AreWorth (ms ++ m ∷ []) (us ++ u ∷ [])
  worth_end [] [] m u w h = (h, tt)
  worth_end (n ∷ ns) (v ∷ vs) m u w h = (w.0, worth_end ns vs m u w.1 h)
  worth_end [] (v ∷ vs) m u w h = absurd w
  worth_end (n ∷ ns) [] m u w h = absurd w

  end_total : (all : Bool) (us : List Bool) (u : Bool) (vs : List Bool) → combined all (total all (us ++ u ∷ [])) (total all vs)
      ≡ combined all (total all us) (combined all u (total all vs))
  end_total all us u vs =
      ap (λ (b : Bool). combined all b (total all vs)) (total_append all us (u ∷ []) ∙ ap (combined all (total all us)) (combined_end all u))
      ∙ combined_assoc all (total all us) u (total all vs)

  keeps_gathered : (all : Bool) (done ms : List (Part X)) (us vs : List Bool) → AreWorth done us → AreWorth ms vs
      → Keeps all (gathered_behind all done ms) (combined all (total all us) (total all vs))
  keeps_gathered all done [] us [] w h = (us, w, sym (combined_end all (total all us)))
  keeps_gathered all done [] us (v ∷ vs) w h = absurd h
  keeps_gathered all done (m ∷ ms) us [] w h = absurd h
  keeps_gathered all done (condition P S ∷ ms) us (v ∷ vs) w h =
      let found = keeps_condition all P S done us w in
      let value : combined all (combined all (total all us) (has S (sign_at P p))) (total all vs) ≡ combined all (total all us)
      (combined all v (total all vs)) =
      combined_assoc all (total all us) (has S (sign_at P p)) (total all vs)
      ∙ ap (λ (b : Bool). combined all (total all us) (combined all b (total all vs))) (sym h.0) in
      elim (with_condition all P S done) as (λ o. Keeps all o (combined all (total all us) (has S (sign_at P p)))
      → Keeps all (option_and_then (λ ns. gathered_behind all ns ms) o) (combined all (total all us) (combined all v (total all vs)))) [
        | None ↦ λ k. sym value ∙ ap (λ (b : Bool). combined all b (total all vs)) k ∙ combined_decided all (total all vs)
        | Some ns ↦ λ k.
            keeps_same all (gathered_behind all ns ms) (combined all (total all k.0) (total all vs))
            (combined all (total all us) (combined all v (total all vs)))
            (ap (λ (b : Bool). combined all b (total all vs)) k.2 ∙ value) (keeps_gathered all ns ms k.0 vs k.1 h.1)
      ] found
  keeps_gathered all done (settled b ∷ ms) us (v ∷ vs) w h =
      keeps_same all (gathered_behind all (done ++ settled b ∷ []) ms) (combined all (total all (us ++ v ∷ [])) (total all vs))
      (combined all (total all us) (combined all v (total all vs))) (end_total all us v vs)
      (keeps_gathered all (done ++ settled b ∷ []) ms (us ++ v ∷ []) vs (worth_end done us (settled b) v w h.0) h.1)
  keeps_gathered all done (other x ∷ ms) us (v ∷ vs) w h =
      keeps_same all (gathered_behind all (done ++ other x ∷ []) ms) (combined all (total all (us ++ v ∷ [])) (total all vs))
      (combined all (total all us) (combined all v (total all vs))) (end_total all us v vs)
      (keeps_gathered all (done ++ other x ∷ []) ms (us ++ v ∷ []) vs (worth_end done us (other x) v w h.0) h.1)

  -- a decided member doesn't count, or decides the whole
  settled_total : (all b v : Bool) → beq b all ≡ true → combined all b v ≡ v
  settled_total true true v e = refl
  settled_total false false v e = refl
  settled_total true false v e = absurd cc
  settled_total false true v e = absurd cc

  settled_decides : (all b v : Bool) → beq b all ≡ false → combined all b v ≡ not all
  settled_decides true false v e = refl
  settled_decides false true v e = refl
  settled_decides true true v e = absurd cc
  settled_decides false false v e = absurd cc

  pub keeps_undecided : (all : Bool) (ms : List (Part X)) (us : List Bool) → AreWorth ms us → Keeps all (undecided all ms) (total all us)
  keeps_undecided all [] [] w = ([], tt, refl)
  keeps_undecided all [] (u ∷ us) w = absurd w
  keeps_undecided all (m ∷ ms) [] w = absurd w
  keeps_undecided all (settled b ∷ ms) (u ∷ us) w =
      elim (beq b all) as (λ t. beq b all ≡ t → Keeps all (if t then undecided all ms else None) (combined all u (total all us))) [
        | true ↦ λ e. keeps_same all (undecided all ms) (total all us) (combined all u (total all us))
            (sym (settled_total all b (total all us) e) ∙ ap (λ (c : Bool). combined all c (total all us)) (sym w.0)) (keeps_undecided all ms us w.1)
        | false ↦ λ e. ap (λ (c : Bool). combined all c (total all us)) w.0 ∙ settled_decides all b (total all us) e
      ] refl
  keeps_undecided all (condition P S ∷ ms) (u ∷ us) w = keeps_front all (condition P S) u (undecided all ms) (total all us) w.0 (keeps_undecided all ms us w.1)
  keeps_undecided all (other x ∷ ms) (u ∷ us) w = keeps_front all (other x) u (undecided all ms) (total all us) w.0 (keeps_undecided all ms us w.1)

  pub keeps_all_gathered : (all : Bool) (ms : List (Part X)) (us : List Bool) → AreWorth ms us → Keeps all (gathered all ms) (total all us)
  keeps_all_gathered all ms us w =
      keeps_then all (gathered_behind all [] ms) (undecided all) (total all us)
      (keeps_same all (gathered_behind all [] ms) (combined all all (total all us)) (total all us) (combined_start all (total all us))
      (keeps_gathered all [] ms [] us tt w))
      (λ ns vs h. keeps_undecided all ns vs h)

  -- what true facts say of members
  worth_by_facts : (K : Facts) (m : Part X) (u : Bool) → AreTrueAt p K → IsWorth m u → IsWorth (by_facts K m) u
  worth_by_facts K (settled b) u h w = w
  worth_by_facts K (other x) u h w = w
  worth_by_facts K (condition P S) u h w =
      elim (judged K P S) as (λ o. judged K P S ≡ o → IsWorth (as_judged P S o) u) [
        | None ↦ λ e. w
        | Some b ↦ λ e. w ∙ judged_has p P S K b h e
      ] refl

  pub are_worth_by_facts : (K : Facts) (ms : List (Part X)) (us : List Bool) → AreTrueAt p K → AreWorth ms us → AreWorth (map (by_facts K) ms) us
  are_worth_by_facts K [] [] h w = tt
  are_worth_by_facts K [] (u ∷ us) h w = absurd w
  are_worth_by_facts K (m ∷ ms) [] h w = absurd w
  are_worth_by_facts K (m ∷ ms) (u ∷ us) h w = (worth_by_facts K m u h w.0, are_worth_by_facts K ms us h w.1)

  -- whether all conditions among the members are true
  abbrev pub conditions_hold : List (Part X) → Bool
  conditions_hold [] = true
  conditions_hold (condition P S ∷ ms) = has S (sign_at P p) && conditions_hold ms
  conditions_hold (settled b ∷ ms) = conditions_hold ms
  conditions_hold (other x ∷ ms) = conditions_hold ms

  pub facts_with_conditions : (ms : List (Part X)) (K : Facts) → AreTrueAt p K → conditions_hold ms ≡ true → AreTrueAt p (with_conditions ms K)
  facts_with_conditions [] K h e = h
  facts_with_conditions (condition P S ∷ ms) K h e =
      facts_with_conditions ms (with_fact P S K) (one_more_fact p P S K h (first_part (has S (sign_at P p)) (conditions_hold ms) e))
      (second_part (has S (sign_at P p)) (conditions_hold ms) e)
  facts_with_conditions (settled b ∷ ms) K h e = facts_with_conditions ms K h e
  facts_with_conditions (other x ∷ ms) K h e = facts_with_conditions ms K h e

  -- where one isn't, the conjunction is false
  pub conditions_fail : (ms : List (Part X)) (us : List Bool) → AreWorth ms us → conditions_hold ms ≡ false → total true us ≡ false
  conditions_fail [] us w e = absurd cc
  conditions_fail (m ∷ ms) [] w e = absurd w
  conditions_fail (condition P S ∷ ms) (u ∷ us) w e =
      elim u as (λ b. b ≡ has S (sign_at P p) → b && total true us ≡ false) [
        | true ↦ λ k. conditions_fail ms us w.1 (sym (ap (λ (b : Bool). b && conditions_hold ms) (sym k)) ∙ e)
        | false ↦ λ k. refl
      ] w.0
  conditions_fail (settled b ∷ ms) (u ∷ us) w e = ap (λ (c : Bool). u && c) (conditions_fail ms us w.1 e) ∙ combined_comm true u false
  conditions_fail (other x ∷ ms) (u ∷ us) w e = ap (λ (c : Bool). u && c) (conditions_fail ms us w.1 e) ∙ combined_comm true u false
