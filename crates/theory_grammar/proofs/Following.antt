-- What holds of every machine that reads token by token, where a few laws of its steps are known.
use Rattle.std.proofs.Common.{◌≡◌, ℕ, suc, ◌+◌, Bool, true, false, List, [], ◌∷◌, ◌++◌, length, Option, None, Some, Result, Ok, Err, refl, sym, ap, subst, ◌∙◌, arith}
use Rattle.std.specs.Prelude.{not}
use Rattle.std.proofs.lemmas.List.{append-nil}
use Rattle.theory_grammar.specs.declared.words.LineFaultKind.{LineFaultKind}
use Rattle.theory_grammar.specs.declared.words.LineFaultKind.TheVariants.{Unexpected, ZeroBelow, Exponent, Deep}
use Rattle.theory_grammar.specs.Machine.{and_then}
use Rattle.theory_grammar.specs.Token.{Token}
use Rattle.theory_grammar.specs.Spelled.{Limits, every}
use Rattle.theory_grammar.specs.LineFault.{Grammar}

-- what reading gives: a tree, or a fault of a kind behind so many tokens
pub data Outcome (T : Type 0) : Type 0 where
  read : T → Outcome T
  fault : LineFaultKind → ℕ → Outcome T

abbrev pub Step : Type 0 → Type 0
Step S = Limits → S → Token → Result S LineFaultKind

-- the tree of the tokens from a state on, if they end well
abbrev pub runs : {S T : Type 0} → Step S → (S → Option T) → Limits → S → List Token → Option T
runs step ended limits st [] = ended st
runs step ended limits st (t ∷ ts) = and_then (step limits st t) (λ st'. runs step ended limits st' ts) (λ kind. None)

-- the state behind tokens
abbrev pub after : {S : Type 0} → Step S → Limits → S → List Token → Result S LineFaultKind
after step limits st [] = Ok st
after step limits st (t ∷ ts) = and_then (step limits st t) (λ st'. after step limits st' ts) Err

-- the end of the tokens, n of which were read
abbrev pub at_end : {T : Type 0} → ℕ → Option T → Outcome T
at_end n (Some x) = read x
at_end n None = fault Unexpected n

-- what reading gives from a state on, behind n tokens
abbrev pub reads : {S T : Type 0} → Step S → (S → Option T) → ℕ → S → List Token → Outcome T
reads step ended n st [] = at_end n (ended st)
reads step ended n st (t ∷ ts) = and_then (step every st t) (λ st'. reads step ended (suc n) st' ts) (λ kind. fault kind n)

-- the limit of this kind doesn't count
abbrev pub lets : Limits → LineFaultKind → Bool
lets limits Unexpected = false
lets limits ZeroBelow = not limits.below
lets limits Exponent = not limits.exponent
lets limits Deep = not limits.depth

-- the state where the test holds
abbrev pub only_if : {S : Type 0} → Bool → LineFaultKind → S → Result S LineFaultKind
only_if true kind st = Ok st
only_if false kind st = Err kind

-- a step within all limits is a step within each; a refused one is let through where its limit doesn't count
abbrev pub Agrees : {S : Type 0} → Result S LineFaultKind → (Limits → Result S LineFaultKind) → Type 0
Agrees (Ok st) moves = (limits : Limits) → moves limits ≡ Ok st
Agrees {S = S} (Err kind) moves = (st : S) × ((limits : Limits) → moves limits ≡ only_if (lets limits kind) kind st)

-- what was reached is reached behind the step, where it is one
abbrev pub Goes : {S : Type 0} → (S → List Token → Type 0) → List Token → Result S LineFaultKind → Type 0
Goes Reached now (Ok st) = Reached st now
Goes Reached now (Err kind) = Unit {0}

-- the laws of steps
pub record Laws {S T : Type 0} (Spells : Grammar T) (start : S) (step : Step S) (ended : S → Option T) (Reached : Limits → S → List Token
    → Type 0) : Type 0 where
  pub begins : (limits : Limits) → Reached limits start []
  pub goes : (limits : Limits) (st : S) (t : Token) (before : List Token) → Reached limits st before
      → Goes (Reached limits) (before ++ t ∷ []) (step limits st t)
  pub ends : (limits : Limits) (st : S) (before : List Token) (x : T) → Reached limits st before → ended st ≡ Some x → Spells limits before x
  pub takes : (limits : Limits) (ts : List Token) (x : T) → Spells limits ts x → runs step ended limits start ts ≡ Some x
  pub closes : (limits : Limits) (st : S) → (more : List Token) × (x : T) × (runs step ended limits st more ≡ Some x)
  pub agrees : (st : S) (t : Token) → Agrees (step every st t) (λ limits. step limits st t)

-- the step from a state on these tokens is taken
abbrev pub Next : {S T : Type 0} → Step S → (S → Option T) → Limits → S → List Token → Type 0
Next {T = T} step ended limits st [] = (x : T) × (ended st ≡ Some x)
Next {S = S} step ended limits st (t ∷ rest) = (st' : S) × (step limits st t ≡ Ok st')

-- it is refused for this reason
abbrev pub Stuck : {S T : Type 0} → Step S → (S → Option T) → S → List Token → LineFaultKind → Type 0
Stuck step ended st [] kind = (ended st ≡ None) × (kind ≡ Unexpected)
Stuck step ended st (t ∷ rest) kind = step every st t ≡ Err kind

-- where reading stopped
pub record Stop {S T : Type 0} (step : Step S) (ended : S → Option T) (st : S) (tokens : List Token) (kind : LineFaultKind) (n place : ℕ) : Type 0 where
  pub before : List Token
  pub rest : List Token
  pub state : S
  pub parts : tokens ≡ before ++ rest
  pub path : after step every st before ≡ Ok state
  pub counted : place ≡ n + length before
  pub stuck : Stuck step ended state rest kind

-- a part of the way
pub split : {S T : Type 0} (step : Step S) (ended : S → Option T) (limits : Limits) (before : List Token) (st : S) (more : List Token) (x : T)
    → runs step ended limits st (before ++ more) ≡ Some x → (st' : S) × (after step limits st before ≡ Ok st') × (runs step ended limits st' more ≡ Some x)
split step ended limits [] st more x e = (st, refl, e)
split {S = S} step ended limits (t ∷ ts) st more x e =
    elim (step limits st t) as (λ m. and_then m (λ st'. runs step ended limits st' (ts ++ more)) (λ kind. None) ≡ Some x
    → (st' : S) × (and_then m (λ st'. after step limits st' ts) Err ≡ Ok st') × (runs step ended limits st' more ≡ Some x)) [
      | Ok st' ↦ λ e'. split step ended limits ts st' more x e'
      | Err kind ↦ λ e'. absurd cc
    ] e

end_stop : {T : Type 0} (m : Option T) (n : ℕ) (kind : LineFaultKind) (place : ℕ) → at_end n m ≡ fault kind place
    → (m ≡ None) × (kind ≡ Unexpected) × (place ≡ n)
end_stop (Some x) n kind place e = absurd cc
end_stop None n kind place e = (refl, cc, cc)

end_read : {T : Type 0} (m : Option T) (n : ℕ) (x : T) → at_end n m ≡ read x → m ≡ Some x
end_read (Some y) n x e = ap Some cc
end_read None n x e = absurd cc

-- a fault has a place
pub stop : {S T : Type 0} (step : Step S) (ended : S → Option T) (tokens : List Token) (st : S) (n : ℕ) (kind : LineFaultKind) (place : ℕ)
    → reads step ended n st tokens ≡ fault kind place → Stop step ended st tokens kind n place
stop step ended [] st n kind place e =
    let h = end_stop (ended st) n kind place e in
    record { before = []; rest = []; state = st; parts = refl; path = refl; counted = omega (arith, h.2); stuck = (h.0, h.1) }
stop {S = S} {T = T} step ended (t ∷ ts) st n kind place e =
    elim (step every st t) as (λ m. step every st t ≡ m → and_then m (λ st'. reads step ended (suc n) st' ts) (λ k. fault k n) ≡ fault kind place
    → Stop step ended st (t ∷ ts) kind n place) [
      | Ok st' ↦ λ eq e'.
          let h = stop step ended ts st' (suc n) kind place e' in
          record {
            before = t ∷ h.before;
            rest = h.rest;
            state = h.state;
            parts = ap (λ (us : List Token). t ∷ us) h.parts;
            path = ap (λ (m : Result S LineFaultKind). and_then m (λ st''. after step every st'' h.before) Err) eq ∙ h.path;
            counted = omega (arith, h.counted);
            stuck = h.stuck;
          }
      | Err k ↦ λ eq e'.
          let same : k ≡ kind = cc in
          let place_is : n ≡ place = cc in
          record { before = []; rest = t ∷ ts; state = st; parts = refl; path = refl; counted = omega arith; stuck = eq ∙ ap Err same }
    ] refl e

-- reading goes on behind a part of the way
pub along : {S T : Type 0} (step : Step S) (ended : S → Option T) (before : List Token) (st st' : S) (rest : List Token) (n : ℕ)
    → after step every st before ≡ Ok st' → reads step ended n st (before ++ rest) ≡ reads step ended (n + length before) st' rest
along step ended [] st st' rest n e =
    let same : st ≡ st' = cc in
    let none : n + 0 ≡ n = omega arith in
    rw (none, same) refl
along {S = S} {T = T} step ended (t ∷ ts) st st' rest n e =
    elim (step every st t) as (λ m. and_then m (λ s. after step every s ts) Err ≡ Ok st'
    → and_then m (λ s. reads step ended (suc n) s (ts ++ rest)) (λ k. fault k n) ≡ reads step ended (n + suc (length ts)) st' rest) [
      | Ok s ↦ λ e'.
          let more : suc n + length ts ≡ n + suc (length ts) = omega arith in
          along step ended ts s st' rest (suc n) e' ∙ ap (λ (k : ℕ). reads step ended k st' rest) more
      | Err k ↦ λ e'. absurd cc
    ] e

-- tokens that are read whole lead to a state that ends
pub whole : {S T : Type 0} (step : Step S) (ended : S → Option T) (tokens : List Token) (st : S) (n : ℕ) (x : T)
    → reads step ended n st tokens ≡ read x → (st' : S) × (after step every st tokens ≡ Ok st') × (ended st' ≡ Some x)
whole step ended [] st n x e = (st, refl, end_read (ended st) n x e)
whole {S = S} {T = T} step ended (t ∷ ts) st n x e =
    elim (step every st t) as (λ m. and_then m (λ s. reads step ended (suc n) s ts) (λ k. fault k n) ≡ read x
    → (st' : S) × (and_then m (λ s. after step every s ts) Err ≡ Ok st') × (ended st' ≡ Some x)) [
      | Ok s ↦ λ e'. whole step ended ts s (suc n) x e'
      | Err k ↦ λ e'. absurd cc
    ] e

-- tokens with a tree lead to a state that ends
pub run_way : {S T : Type 0} (step : Step S) (ended : S → Option T) (limits : Limits) (ts : List Token) (st : S) (x : T)
    → runs step ended limits st ts ≡ Some x → (st' : S) × (after step limits st ts ≡ Ok st') × (ended st' ≡ Some x)
run_way step ended limits ts st x e =
    split step ended limits ts st [] x (subst (λ (us : List Token). runs step ended limits st us ≡ Some x) (sym (append-nil ts)) e)

-- a first step
pub first_step : {S T : Type 0} (step : Step S) (ended : S → Option T) (limits : Limits) (st : S) (t : Token) (more : List Token) (x : T)
    → runs step ended limits st (t ∷ more) ≡ Some x → (st' : S) × (step limits st t ≡ Ok st')
first_step {S = S} step ended limits st t more x e =
    elim (step limits st t) as (λ m. and_then m (λ s. runs step ended limits s more) (λ k. None) ≡ Some x → (st' : S) × (m ≡ Ok st')) [
      | Ok s ↦ λ e'. (s, refl)
      | Err k ↦ λ e'. absurd cc
    ] e
