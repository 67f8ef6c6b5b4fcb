-- Right halves give the right verdict, and at most one verdict that leaves nothing undecided is right.
use Rattle.std.proofs.Common.{◌≡◌, Bool, List, Option, refl, sym, subst, ◌⊎◌, inl, inr, ⊎_elim}
use Rattle.std.specs.Prelude.{◌↔◌}
use Rattle.std.proofs.lemmas.Bool.{cases_Bool, both_ways}
use Rattle.theory_meaning.specs.declared.words.Verdict.{Verdict}
use Rattle.theory_meaning.specs.declared.words.Verdict.TheVariants.{Holds, Fails, Contradictory, Mixed, Undecided}
use Rattle.theory_meaning.specs.Answer.{Passes}
use Rattle.theory_meaning.specs.Half.{Half, found, found_wide, absent, left, IsLeft, IsRightHalfOf}
use Rattle.theory_meaning.specs.Model.{IsExample, IsCounter, meets_with, IsRightAnswer}
use Rattle.theory_meaning.specs.Point.{Name, Point}
use Rattle.theory_meaning.specs.Text.{Numbered}
use Rattle.theory_meaning.specs.Tree.{Claim}
use Rattle.theory_meaning.specs.Truth.{truth_of}
use Rattle.theory_meaning.specs.Verdict.{Presence, there, missing, unknown, presence_of, verdict_of_presences, verdict_of_halves, IsRightVerdict}

-- what a right half says by its presence
abbrev IsRightPresence : (Point → Type 0) → Presence → Type 0
IsRightPresence Asked there = (p : Point) × Asked p
IsRightPresence Asked missing = (p : Point) → ¬ Asked p
IsRightPresence Asked unknown = Unit {0}

right_presence : (Asked : Point → Type 0) (h : Half) → IsRightHalfOf Asked h → IsRightPresence Asked (presence_of h)
right_presence Asked (found p) k = (p, k)
right_presence Asked found_wide k = k
right_presence Asked absent k = k
right_presence Asked (left cause) k = tt

-- with no counterexample each point of the assumptions passes the claim
no_counter : (assumed claimed : Point → Bool) → ((p : Point) → ¬ (Passes assumed p × ¬ Passes claimed p)) → (p : Point) → Passes assumed p → Passes claimed p
no_counter assumed claimed none p h =
    ⊎_elim (λ t. t) (λ f. absurd (none p (h, λ t. both_ways (claimed p) f t))) (cases_Bool (claimed p))

right : (assumed claimed : Point → Bool) (example counter : Presence)
    → IsRightPresence (λ p. Passes assumed p × Passes claimed p) example → IsRightPresence (λ p. Passes assumed p × ¬ Passes claimed p) counter
    → IsRightVerdict (Passes assumed) (Passes claimed) (verdict_of_presences example counter)
right assumed claimed unknown counter e k = tt
right assumed claimed there unknown e k = tt
right assumed claimed missing unknown e k = tt
right assumed claimed there missing e k = ((e.0, e.1.0), no_counter assumed claimed k)
right assumed claimed missing there e k = ((k.0, k.1.0), λ p h t. e p (h, t))
right assumed claimed missing missing e k = λ p h. e p (h, no_counter assumed claimed k p h)
right assumed claimed there there e k = ((e.0, e.1.0, e.1.1), (k.0, k.1.0, k.1.1))

pub right_halves_give_the_right_verdict : (assumed claimed : Point → Bool) (example counter : Half)
    → IsRightHalfOf (λ p. Passes assumed p × Passes claimed p) example → IsRightHalfOf (λ p. Passes assumed p × ¬ Passes claimed p) counter
    → IsRightVerdict (Passes assumed) (Passes claimed) (verdict_of_halves example counter)
right_halves_give_the_right_verdict assumed claimed example counter e k =
    right assumed claimed (presence_of example) (presence_of counter)
    (right_presence (λ p. Passes assumed p × Passes claimed p) example e) (right_presence (λ p. Passes assumed p × ¬ Passes claimed p) counter k)

-- the verdict is Undecided exactly where a half is left open
stays_open : Verdict → Type 0
stays_open Undecided = Unit {0}
stays_open Holds = ⊥
stays_open Fails = ⊥
stays_open Mixed = ⊥
stays_open Contradictory = ⊥

is_open : (v : Verdict) → v ≡ Undecided → stays_open v
unfolding stays_open
is_open v e = subst stays_open (sym e) tt

neither : {A B : Type 0} → ¬ A → ¬ B → ¬ (A ⊎ B)
neither f g h = ⊎_elim f g h

open_by : (example counter : Half) → (verdict_of_halves example counter ≡ Undecided) ↔ (IsLeft example ⊎ IsLeft counter)
unfolding stays_open
open_by (left a) k = (λ h. inl tt, λ h. refl)
open_by (found p) (left b) = (λ h. inr tt, λ h. refl)
open_by found_wide (left b) = (λ h. inr tt, λ h. refl)
open_by absent (left b) = (λ h. inr tt, λ h. refl)
open_by (found p) (found q) = (λ h. absurd (is_open _ h), λ h. absurd (neither (λ x. x) (λ x. x) h))
open_by (found p) found_wide = (λ h. absurd (is_open _ h), λ h. absurd (neither (λ x. x) (λ x. x) h))
open_by (found p) absent = (λ h. absurd (is_open _ h), λ h. absurd (neither (λ x. x) (λ x. x) h))
open_by found_wide (found q) = (λ h. absurd (is_open _ h), λ h. absurd (neither (λ x. x) (λ x. x) h))
open_by found_wide found_wide = (λ h. absurd (is_open _ h), λ h. absurd (neither (λ x. x) (λ x. x) h))
open_by found_wide absent = (λ h. absurd (is_open _ h), λ h. absurd (neither (λ x. x) (λ x. x) h))
open_by absent (found q) = (λ h. absurd (is_open _ h), λ h. absurd (neither (λ x. x) (λ x. x) h))
open_by absent found_wide = (λ h. absurd (is_open _ h), λ h. absurd (neither (λ x. x) (λ x. x) h))
open_by absent absent = (λ h. absurd (is_open _ h), λ h. absurd (neither (λ x. x) (λ x. x) h))

pub right_answer : (lines : List Numbered) (shift : Option Name) (c : Claim) (example counter : Half)
    → IsRightHalfOf (IsExample lines shift c) example → IsRightHalfOf (IsCounter lines shift c) counter
    → IsRightAnswer lines shift c example counter (verdict_of_halves example counter)
right_answer lines shift c example counter e k = record {
  example_right = e;
  counter_right = k;
  undecided = open_by example counter;
  verdict_right = right_halves_give_the_right_verdict (meets_with lines shift c) (truth_of c) example counter e k;
}

-- of two different verdicts that leave nothing undecided one is wrong
pub one_verdict : (assumed claimed : Point → Bool) (v w : Verdict) → ¬ (v ≡ Undecided) → ¬ (w ≡ Undecided)
    → IsRightVerdict (Passes assumed) (Passes claimed) v → IsRightVerdict (Passes assumed) (Passes claimed) w → v ≡ w
one_verdict A C Undecided w m n h k = absurd (m refl)
one_verdict A C v Undecided m n h k = absurd (n refl)
one_verdict A C Holds Holds m n h k = refl
one_verdict A C Fails Fails m n h k = refl
one_verdict A C Mixed Mixed m n h k = refl
one_verdict A C Contradictory Contradictory m n h k = refl
one_verdict A C Contradictory Holds m n h k = absurd (h k.0.0 k.0.1)
one_verdict A C Contradictory Fails m n h k = absurd (h k.0.0 k.0.1)
one_verdict A C Contradictory Mixed m n h k = absurd (h k.0.0 k.0.1)
one_verdict A C Holds Contradictory m n h k = absurd (k h.0.0 h.0.1)
one_verdict A C Fails Contradictory m n h k = absurd (k h.0.0 h.0.1)
one_verdict A C Mixed Contradictory m n h k = absurd (k h.0.0 h.0.1)
one_verdict A C Holds Fails m n h k = absurd (k.1 h.0.0 h.0.1 (h.1 h.0.0 h.0.1))
one_verdict A C Fails Holds m n h k = absurd (h.1 k.0.0 k.0.1 (k.1 k.0.0 k.0.1))
one_verdict A C Holds Mixed m n h k = absurd (k.1.2 (h.1 k.1.0 k.1.1))
one_verdict A C Mixed Holds m n h k = absurd (h.1.2 (k.1 h.1.0 h.1.1))
one_verdict A C Fails Mixed m n h k = absurd (h.1 k.0.0 k.0.1 k.0.2)
one_verdict A C Mixed Fails m n h k = absurd (k.1 h.0.0 h.0.1 h.0.2)
