-- Runs of bytes: each is the longest of its kind, and all bytes begin with exactly one.
use Rattle.std.proofs.Common.{◌≡◌, ◌⊎◌, ℕ, ◌≤◌, Bool, true, false, ◌&&◌, inl, inr, List, [], ◌∷◌, ◌++◌, length, take, drop, refl, sym, ap, ◌∙◌, arith}
use Rattle.std.specs.List.{list_all}
use Rattle.std.proofs.lemmas.Bool.{false≢true, and_parts, cases_Bool}
use Rattle.std.proofs.lemmas.List.{take_at, drop_at}
use Rattle.theory_grammar.specs.Runs.{first_passes, IsRun}

-- beginnings of one length are the same, and so is what stands behind them
pub same_cut : (s t u v : List ℕ) → s ++ u ≡ t ++ v → length s ≡ length t → (s ≡ t) × (u ≡ v)
same_cut s t u v whole long = (
  sym (take_at s u (length t) long) ∙ ap (take (length t)) whole ∙ take_at t v (length t) refl,
  sym (drop_at s u (length t) long) ∙ ap (drop (length t)) whole ∙ drop_at t v (length t) refl,
)

-- bytes of the kind at the front are part of the run
pub within_run : (test : ℕ → Bool) (p behind run rest : List ℕ) → list_all test p ≡ true → first_passes test rest ≡ false →
    run ++ rest ≡ p ++ behind → length p ≤ length run
within_run test [] behind run rest pass ends whole = omega arith
within_run test (b ∷ p) behind [] rest pass ends whole =
    let first : first_passes test rest ≡ test b = ap (first_passes test) whole in
    absurd (false≢true (sym ends ∙ first ∙ (and_parts (test b) (list_all test p) pass).0))
within_run test (b ∷ p) behind (d ∷ run) rest pass ends whole =
    let tails : run ++ rest ≡ p ++ behind = cc in
    let shorter = within_run test p behind run rest (and_parts (test b) (list_all test p) pass).1 ends tails in
    omega arith

-- bytes begin with one run of a kind
pub same_run : (test : ℕ → Bool) (p behind run rest : List ℕ) → list_all test p ≡ true → first_passes test behind ≡ false →
    list_all test run ≡ true → first_passes test rest ≡ false → run ++ rest ≡ p ++ behind → (run ≡ p) × (rest ≡ behind)
same_run test p behind run rest pass_p ends_p pass_run ends_run whole =
    let below = within_run test p behind run rest pass_p ends_run whole in
    let above = within_run test run rest p behind pass_run ends_p (sym whole) in
    same_cut run p rest behind whole (omega arith)

-- a run, found byte by byte
pub record Run (test : ℕ → Bool) (bytes : List ℕ) : Type 0 where
  pub run : List ℕ
  pub rest : List ℕ
  pub is : IsRun test run rest bytes

one_more : (test : ℕ → Bool) (b : ℕ) (bs : List ℕ) → test b ≡ true → Run test bs → Run test (b ∷ bs)
one_more test b bs pass r = record {
  run = b ∷ r.run;
  rest = r.rest;
  is = record {
    whole = ap (λ (cs : List ℕ). b ∷ cs) r.is.whole;
    pass = ap (λ (t : Bool). t && list_all test r.run) pass ∙ r.is.pass;
    ends = r.is.ends;
  };
}

none_here : (test : ℕ → Bool) (b : ℕ) (bs : List ℕ) → test b ≡ false → Run test (b ∷ bs)
none_here test b bs fails = record { run = []; rest = b ∷ bs; is = record { whole = refl; pass = refl; ends = fails } }

from_case : (test : ℕ → Bool) (b : ℕ) (bs : List ℕ) → (test b ≡ true) ⊎ (test b ≡ false) → Run test bs → Run test (b ∷ bs)
from_case test b bs (inl h) r = one_more test b bs h r
from_case test b bs (inr h) r = none_here test b bs h

-- all bytes begin with a run
pub run_of : (test : ℕ → Bool) (bytes : List ℕ) → Run test bytes
run_of test [] = record { run = []; rest = []; is = record { whole = refl; pass = refl; ends = refl } }
run_of test (b ∷ bs) = from_case test b bs (cases_Bool (test b)) (run_of test bs)
