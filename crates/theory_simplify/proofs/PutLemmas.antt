-- An atom or a fact is put together with the one of its polynomial at that one's place.
use Rattle.std.proofs.Common.{◌≡◌, ℕ, suc, ◌<◌, Bool, true, false, List, [], ◌∷◌, ◌++◌, length, Option, None, Some, option_map, refl, sym, ap, ◌∙◌, arith, if◌then◌else◌}
use Rattle.std.specs.Option.{unwrap_or}
use Rattle.std.proofs.Math.ListN.{set}
use Rattle.std.proofs.lemmas.List.{map-set, map-append}
use Rattle.theory_formula.specs.declared.signs.Signs.{Signs}
use Rattle.theory_formula.specs.Signs.{meet}
use Rattle.theory_polynomial.specs.Terms.{Monomial}
use Rattle.theory_formula.specs.Formula.{Formula}
use Rattle.theory_elimination.specs.SameFormula.{is_same_poly}
use Rattle.theory_elimination.specs.Facts.{Fact, Facts, with_fact}
use Rattle.theory_elimination.specs.Simplified.{Part, settled, condition, other, as_part, put_together, with_condition}
use Rattle.theory_elimination.proofs.SameLaws.{same_poly}
use Rattle.theory_signs.specs.Condition.{Condition}
use Rattle.theory_simplify.specs.declared.drafts.Draft as lent
use Rattle.theory_simplify.specs.declared.drafts.Draft.{Draft-F, fold-roll-Draft}
use Rattle.theory_simplify.specs.declared.drafts.Draft.TheVariants.{Atom, rolls-Atom}
use Rattle.theory_simplify.specs.Drafts.{draft_of, draft_step}
use Rattle.theory_simplify.specs.Parts.{part_of, parts_of, fact_of, facts_of, first_or, condition_on, held_at, known_at}

-- what was found at a later place
record IsLater (o : Option (ℕ × Signs)) (i : ℕ) (T : Signs) : Type 0 where
  place : ℕ
  is : o ≡ Some (place, T)
  next : i ≡ suc place

later : (o : Option (ℕ × Signs)) (i : ℕ) (T : Signs) → option_map {U = ℕ × Signs} (λ h. (suc h.0, h.1)) o ≡ Some (i, T) → IsLater o i T
later None i T h = absurd (let e : None ≡ Some (i, T) = h in cc)
later (Some (j, U)) i T h =
    let e : (suc j, U) ≡ (i, T) = cc in
    record { place = j; is = ap (λ (V : Signs). Some (j, V)) (ap (λ (k : ℕ × Signs). k.1) e); next = sym (ap (λ (k : ℕ × Signs). k.0) e) }

later_none : (o : Option (ℕ × Signs)) → option_map {U = ℕ × Signs} (λ h. (suc h.0, h.1)) o ≡ None → o ≡ None
later_none None h = refl
later_none (Some k) h = absurd (let e : Some (suc k.0, k.1) ≡ None = h in cc)

mapped_twice : {A B C : Type 0} (g : B → C) (f : A → B) (o : Option A) → option_map g (option_map f o) ≡ option_map (λ x. g (f x)) o
mapped_twice g f None = refl
mapped_twice g f (Some x) = refl

abbrev Parts : Type 0
Parts = List (Part Formula)

-- the members with another set at a place
abbrev met_at : Bool → List Monomial → Signs → Parts → ℕ → Signs → Option Parts
met_at all P S ps i T = option_map (λ R. set ps i (condition P R)) (put_together all T S)

in_front : (all : Bool) (P : List Monomial) (S : Signs) (m : Part Formula) (ps : Parts) (i : ℕ) (T : Signs)
    → IsLater (held_at P ps) i T → ((j : ℕ) → held_at P ps ≡ Some (j, T) → with_condition all P S ps ≡ met_at all P S ps j T)
    → option_map (λ qs. m ∷ qs) (with_condition all P S ps) ≡ met_at all P S (m ∷ ps) i T
in_front all P S m ps i T found rest =
    ap (option_map (λ qs. m ∷ qs)) (rest found.place found.is)
    ∙ mapped_twice (λ (qs : Parts). m ∷ qs) (λ (R : Signs). set ps found.place (condition P R)) (put_together all T S)
    ∙ ap (λ (n : ℕ). met_at all P S (m ∷ ps) n T) (sym found.next)

pub put_at_place : (all : Bool) (P : List Monomial) (S : Signs) (ps : Parts) (i : ℕ) (T : Signs) → held_at P ps ≡ Some (i, T)
    → with_condition all P S ps ≡ met_at all P S ps i T
put_at_place all P S [] i T h = absurd (let e : None ≡ Some (i, T) = h in cc)
put_at_place all P S (settled b ∷ ps) i T h =
    in_front all P S (settled b) ps i T (later (held_at P ps) i T h) (λ j e. put_at_place all P S ps j T e)
put_at_place all P S (other F ∷ ps) i T h =
    in_front all P S (other F) ps i T (later (held_at P ps) i T h) (λ j e. put_at_place all P S ps j T e)
put_at_place all P S (condition Q U ∷ ps) i T h =
    elim (is_same_poly Q P) as (λ b. is_same_poly Q P ≡ b → first_or (if b then Some U else None) (held_at P ps) ≡ Some (i, T)
    → (if b then option_map (λ R. condition Q R ∷ ps) (put_together all U S) else option_map (λ qs. condition Q U ∷ qs) (with_condition all P S ps))
    ≡ met_at all P S (condition Q U ∷ ps) i T) [
      | true ↦ λ same e.
          let found : (0, U) ≡ (i, T) = cc in
          ap (λ (X : List Monomial). option_map (λ R. condition X R ∷ ps) (put_together all U S)) (same_poly Q P same)
          ∙ ap (λ (k : ℕ × Signs). met_at all P S (condition Q U ∷ ps) k.0 k.1) found
      | false ↦ λ same e. in_front all P S (condition Q U) ps i T (later (held_at P ps) i T e) (λ j k. put_at_place all P S ps j T k)
    ] refl h

pub put_at_end : (all : Bool) (P : List Monomial) (S : Signs) (ps : Parts) → held_at P ps ≡ None → with_condition all P S ps ≡ Some (ps ++ condition P S ∷ [])
put_at_end all P S [] h = refl
put_at_end all P S (settled b ∷ ps) h = ap (option_map (λ qs. settled b ∷ qs)) (put_at_end all P S ps (later_none (held_at P ps) h))
put_at_end all P S (other F ∷ ps) h = ap (option_map (λ qs. other F ∷ qs)) (put_at_end all P S ps (later_none (held_at P ps) h))
put_at_end all P S (condition Q U ∷ ps) h =
    elim (is_same_poly Q P) as (λ b. first_or (if b then Some U else None) (held_at P ps) ≡ None
    → (if b then option_map (λ R. condition Q R ∷ ps) (put_together all U S) else option_map (λ qs. condition Q U ∷ qs) (with_condition all P S ps))
    ≡ Some (condition Q U ∷ (ps ++ condition P S ∷ []))) [
      | true ↦ λ e. absurd (let n : Some (0, U) ≡ None = e in cc)
      | false ↦ λ e. ap (option_map (λ qs. condition Q U ∷ qs)) (put_at_end all P S ps (later_none (held_at P ps) e))
    ] h

pub held_within : (P : List Monomial) (ps : Parts) (i : ℕ) (T : Signs) → held_at P ps ≡ Some (i, T) → i < length ps
held_within P [] i T h = absurd (let e : None ≡ Some (i, T) = h in cc)
held_within P (m ∷ ps) i T h =
    elim (condition_on P m) as (λ o. first_or o (held_at P ps) ≡ Some (i, T) → i < suc (length ps)) [
      | None ↦ λ e.
          let found = later (held_at P ps) i T e in
          let below = held_within P ps found.place T found.is in
          let next : i ≡ suc found.place = found.next in omega arith
      | Some U ↦ λ e. let found : (0, U) ≡ (i, T) = cc in let first : 0 ≡ i = ap (λ (k : ℕ × Signs). k.0) found in omega arith
    ] h

-- the same of facts
abbrev fact : List Monomial → Signs → Fact
fact P S = record { poly = P; signs = S }

pub fact_at_place : (P : List Monomial) (S : Signs) (K : Facts) (i : ℕ) (T : Signs) → known_at P K ≡ Some (i, T)
    → with_fact P S K ≡ set K i (fact P (unwrap_or (meet T S) T))
fact_at_place P S [] i T h = absurd (let e : None ≡ Some (i, T) = h in cc)
fact_at_place P S (f ∷ K) i T h =
    elim (is_same_poly f.poly P) as (λ b. is_same_poly f.poly P ≡ b → first_or (if b then Some f.signs else None) (known_at P K) ≡ Some (i, T)
    → (if b then fact f.poly (unwrap_or (meet f.signs S) f.signs) ∷ K else f ∷ with_fact P S K) ≡ set (f ∷ K) i (fact P (unwrap_or (meet T S) T))) [
      | true ↦ λ same e.
          let found : (0, f.signs) ≡ (i, T) = cc in
          ap (λ (X : List Monomial). fact X (unwrap_or (meet f.signs S) f.signs) ∷ K) (same_poly f.poly P same)
          ∙ ap (λ (k : ℕ × Signs). set (f ∷ K) k.0 (fact P (unwrap_or (meet k.1 S) k.1))) found
      | false ↦ λ same e.
          let found = later (known_at P K) i T e in
          ap (λ (ks : Facts). f ∷ ks) (fact_at_place P S K found.place T found.is)
          ∙ ap (λ (n : ℕ). set (f ∷ K) n (fact P (unwrap_or (meet T S) T))) (sym found.next)
    ] refl h

pub fact_stays : (P : List Monomial) (K : Facts) (i : ℕ) (T : Signs) → known_at P K ≡ Some (i, T) → set K i (fact P T) ≡ K
fact_stays P [] i T h = absurd (let e : None ≡ Some (i, T) = h in cc)
fact_stays P (f ∷ K) i T h =
    elim (is_same_poly f.poly P) as (λ b. is_same_poly f.poly P ≡ b → first_or (if b then Some f.signs else None) (known_at P K) ≡ Some (i, T)
    → set (f ∷ K) i (fact P T) ≡ f ∷ K) [
      | true ↦ λ same e.
          let found : (0, f.signs) ≡ (i, T) = cc in
          sym (ap (λ (k : ℕ × Signs). set (f ∷ K) k.0 (fact P k.1)) found)
          ∙ ap (λ (X : List Monomial). fact X f.signs ∷ K) (sym (same_poly f.poly P same))
      | false ↦ λ same e.
          let found = later (known_at P K) i T e in
          ap (λ (n : ℕ). set (f ∷ K) n (fact P T)) found.next ∙ ap (λ (ks : Facts). f ∷ ks) (fact_stays P K found.place T found.is)
    ] refl h

pub fact_at_end : (P : List Monomial) (S : Signs) (K : Facts) → known_at P K ≡ None → with_fact P S K ≡ K ++ fact P S ∷ []
fact_at_end P S [] h = refl
fact_at_end P S (f ∷ K) h =
    elim (is_same_poly f.poly P) as (λ b. first_or (if b then Some f.signs else None) (known_at P K) ≡ None
    → (if b then fact f.poly (unwrap_or (meet f.signs S) f.signs) ∷ K else f ∷ with_fact P S K) ≡ f ∷ (K ++ fact P S ∷ [])) [
      | true ↦ λ e. absurd (let n : Some (0, f.signs) ≡ None = e in cc)
      | false ↦ λ e. ap (λ (ks : Facts). f ∷ ks) (fact_at_end P S K (later_none (known_at P K) e))
    ] h

pub known_within : (P : List Monomial) (K : Facts) (i : ℕ) (T : Signs) → known_at P K ≡ Some (i, T) → i < length K
known_within P [] i T h = absurd (let e : None ≡ Some (i, T) = h in cc)
known_within P (f ∷ K) i T h =
    elim (if is_same_poly f.poly P then Some f.signs else None) as (λ o. first_or o (known_at P K) ≡ Some (i, T) → i < suc (length K)) [
      | None ↦ λ e.
          let found = later (known_at P K) i T e in
          let below = known_within P K found.place T found.is in
          let next : i ≡ suc found.place = found.next in omega arith
      | Some U ↦ λ e. let found : (0, U) ≡ (i, T) = cc in let first : 0 ≡ i = ap (λ (k : ℕ × Signs). k.0) found in omega arith
    ] h

-- the same of the members that were made
pub part_of-Atom : (a : Condition) → part_of (Atom a) ≡ condition a.poly a.signs
part_of-Atom a = ap as_part (ap draft_of (sym (rolls-Atom a)) ∙ fold-roll-Draft Formula draft_step (Draft-F.Atom a))

pub put_met : (all : Bool) (P : List Monomial) (S : Signs) (done : List lent.Draft) (i : ℕ) (T R : Signs) (b : Condition)
    → held_at P (parts_of done) ≡ Some (i, T) → put_together all T S ≡ Some R → b ≡ record { poly = P; signs = R }
    → with_condition all P S (parts_of done) ≡ Some (parts_of (set done i (Atom b)))
put_met all P S done i T R b found put is =
    put_at_place all P S (parts_of done) i T found
    ∙ ap (option_map (λ U. set (parts_of done) i (condition P U))) put
    ∙ ap (λ (m : Part Formula). Some (set (parts_of done) i m)) (sym (part_of-Atom b ∙ ap (λ (a : Condition). condition a.poly a.signs) is))
    ∙ ap Some (sym (map-set part_of done i (Atom b)))

pub put_decides : (all : Bool) (P : List Monomial) (S : Signs) (done : List lent.Draft) (i : ℕ) (T : Signs)
    → held_at P (parts_of done) ≡ Some (i, T) → put_together all T S ≡ None → with_condition all P S (parts_of done) ≡ None
put_decides all P S done i T found put =
    put_at_place all P S (parts_of done) i T found ∙ ap (option_map (λ U. set (parts_of done) i (condition P U))) put

pub put_last : (all : Bool) (a : Condition) (done : List lent.Draft) → held_at a.poly (parts_of done) ≡ None
    → with_condition all a.poly a.signs (parts_of done) ≡ Some (parts_of (done ++ Atom a ∷ []))
put_last all a done h =
    put_at_end all a.poly a.signs (parts_of done) h
    ∙ ap (λ (m : Part Formula). Some (parts_of done ++ m ∷ [])) (sym (part_of-Atom a))
    ∙ ap Some (sym (map-append part_of done (Atom a ∷ [])))

pub fact_met : (P : List Monomial) (S : Signs) (known : List Condition) (i : ℕ) (T R : Signs) (b : Condition)
    → known_at P (facts_of known) ≡ Some (i, T) → meet T S ≡ Some R → b ≡ record { poly = P; signs = R }
    → facts_of (set known i b) ≡ with_fact P S (facts_of known)
fact_met P S known i T R b found put is =
    map-set fact_of known i b
    ∙ ap (λ (a : Condition). set (facts_of known) i (fact_of a)) is
    ∙ ap (λ (o : Option Signs). set (facts_of known) i (fact P (unwrap_or o T))) (sym put)
    ∙ sym (fact_at_place P S (facts_of known) i T found)

pub fact_unmet : (P : List Monomial) (S : Signs) (known : List Condition) (i : ℕ) (T : Signs)
    → known_at P (facts_of known) ≡ Some (i, T) → meet T S ≡ None → facts_of known ≡ with_fact P S (facts_of known)
fact_unmet P S known i T found put =
    sym (fact_at_place P S (facts_of known) i T found
    ∙ ap (λ (o : Option Signs). set (facts_of known) i (fact P (unwrap_or o T))) put
    ∙ fact_stays P (facts_of known) i T found)

pub fact_last : (P : List Monomial) (S : Signs) (known : List Condition) (b : Condition) → known_at P (facts_of known) ≡ None
    → b ≡ record { poly = P; signs = S } → facts_of (known ++ b ∷ []) ≡ with_fact P S (facts_of known)
fact_last P S known b h is =
    map-append fact_of known (b ∷ [])
    ∙ ap (λ (a : Condition). facts_of known ++ fact_of a ∷ []) is
    ∙ sym (fact_at_end P S (facts_of known) h)
