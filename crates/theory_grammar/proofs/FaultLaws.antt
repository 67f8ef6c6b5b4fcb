-- Reading gives the tree, and else the first fault: for every machine with the laws of steps.
use Rattle.std.proofs.Common.{◌≡◌, ℕ, suc, ◌+◌, Bool, true, false, List, [], ◌∷◌, ◌++◌, length, Option, None, Some, Result, Ok, Err, refl, sym, ap, subst, ◌∙◌, append_assoc, arith, ◌⊎◌, inl, inr}
use Rattle.std.proofs.lemmas.List.{append-nil}
use Rattle.theory_grammar.specs.declared.words.LineFaultKind.{LineFaultKind}
use Rattle.theory_grammar.specs.declared.words.LineFaultKind.TheVariants.{Unexpected, ZeroBelow, Exponent, Deep}
use Rattle.theory_grammar.specs.Token.{Token}
use Rattle.theory_grammar.specs.Spelled.{Limits, every, unlimited}
use Rattle.theory_grammar.specs.LineFault.{Grammar, CanGoOn, TakesNext, IsKind, FirstFault, IsUnambiguous, SpellsOrFails, NeverBoth, HasOneFault}
use Rattle.theory_grammar.specs.Machine.{and_then}
use Rattle.theory_grammar.proofs.Following.{Outcome, at_end, read, fault, Step, runs, after, reads, lets, only_if, Agrees, Goes, Laws, Next, Stuck, split, stop, along, whole, run_way, first_step}

-- what isn't counted within all limits but one is that one
lets_only_below : (kind : LineFaultKind) → lets (record every { below = false }) kind ≡ true → kind ≡ ZeroBelow
lets_only_below Unexpected e = absurd cc
lets_only_below ZeroBelow e = refl
lets_only_below Exponent e = absurd cc
lets_only_below Deep e = absurd cc

lets_only_exponent : (kind : LineFaultKind) → lets (record every { exponent = false }) kind ≡ true → kind ≡ Exponent
lets_only_exponent Unexpected e = absurd cc
lets_only_exponent ZeroBelow e = absurd cc
lets_only_exponent Exponent e = refl
lets_only_exponent Deep e = absurd cc

lets_only_depth : (kind : LineFaultKind) → lets (record every { depth = false }) kind ≡ true → kind ≡ Deep
lets_only_depth Unexpected e = absurd cc
lets_only_depth ZeroBelow e = absurd cc
lets_only_depth Exponent e = absurd cc
lets_only_depth Deep e = refl

false_is_true : ◌≡◌ {A = Bool} false true → ⊥
false_is_true e = cc

was_let : {S : Type 0} (b : Bool) (kind : LineFaultKind) (s st : S) → only_if b kind s ≡ Ok st → b ≡ true
was_let true kind s st e = refl
was_let false kind s st e = absurd cc

module _ {S T : Type 0} {Spells : Grammar T} {start : S} {step : Step S} {ended : S → Option T} {Reached : Limits → S → List Token
    → Type 0} (laws : Laws Spells start step ended Reached) where
  -- each limit lets the way within all limits through
  same_way : (limits : Limits) (ts : List Token) (st st' : S) → after step every st ts ≡ Ok st' → after step limits st ts ≡ Ok st'
  same_way limits [] st st' e = e
  same_way limits (t ∷ ts) st st' e =
      elim (step every st t) as (λ m. Agrees m (λ l. step l st t) → and_then m (λ s. after step every s ts) Err ≡ Ok st'
      → and_then (step limits st t) (λ s. after step limits s ts) Err ≡ Ok st') [
        | Ok s ↦ λ agrees e'. ap (λ (m : Result S LineFaultKind). and_then m (λ s'. after step limits s' ts) Err) (agrees limits)
            ∙ same_way limits ts s st' e'
        | Err k ↦ λ agrees e'. absurd cc
      ] (laws.agrees st t) e

  goes_to : (limits : Limits) (before : List Token) (m : Result S LineFaultKind) (st : S) → m ≡ Ok st → Goes (Reached limits) before m
      → Reached limits st before
  goes_to limits before m st e h = subst (λ (r : Result S LineFaultKind). Goes (Reached limits) before r) e h

  -- what is on the way is reached
  reached : (limits : Limits) (ts : List Token) (st st' : S) (before : List Token) → Reached limits st before → after step limits st ts ≡ Ok st'
      → Reached limits st' (before ++ ts)
  reached limits [] st st' before r e =
      let same : st ≡ st' = cc in
      subst (λ (s : S). Reached limits s (before ++ [])) same (subst (λ (ts : List Token). Reached limits st ts) (sym (append-nil before)) r)
  reached limits (t ∷ ts) st st' before r e =
      elim (step limits st t) as (λ m. Goes (Reached limits) (before ++ t ∷ []) m → and_then m (λ s. after step limits s ts) Err ≡ Ok st'
      → Reached limits st' (before ++ t ∷ ts)) [
        | Ok s ↦ λ goes e'. subst (λ (us : List Token). Reached limits st' us) (append_assoc before (t ∷ []) ts) (reached limits ts s st'
            (before ++ t ∷ []) goes e')
        | Err k ↦ λ goes e'. absurd cc
      ] (laws.goes limits st t before r) e

  reached_from_start : (limits : Limits) (ts : List Token) (st : S) → after step limits start ts ≡ Ok st → Reached limits st ts
  reached_from_start limits ts st e = reached limits ts start st [] (laws.begins limits) e

  -- one step more
  one_more : (limits : Limits) (before : List Token) (t : Token) (st0 st st' : S) → after step limits st0 before ≡ Ok st → step limits st t ≡ Ok st'
      → after step limits st0 (before ++ t ∷ []) ≡ Ok st'
  one_more limits [] t st0 st st' e h =
      let same : st0 ≡ st = cc in
      ap (λ (s : S). and_then (step limits s t) (λ s'. Ok s') Err) same ∙ ap (λ (m : Result S LineFaultKind). and_then m (λ s'. Ok s') Err) h
  one_more limits (u ∷ us) t st0 st st' e h =
      elim (step limits st0 u) as (λ m. and_then m (λ s. after step limits s us) Err ≡ Ok st
      → and_then m (λ s. after step limits s (us ++ t ∷ [])) Err ≡ Ok st') [
        | Ok s ↦ λ e'. one_more limits us t s st st' e' h
        | Err k ↦ λ e'. absurd cc
      ] e

  -- behind each state something is spelled
  can_go_on : (limits : Limits) (before : List Token) (st : S) → after step limits start before ≡ Ok st → CanGoOn Spells limits before
  can_go_on limits before st e =
      let c = laws.closes limits st in
      let w = run_way step ended limits c.0 st c.1 c.2 in
      record {
        more = c.0;
        tree = c.1;
        spelled = laws.ends limits w.0 (before ++ c.0) c.1 (reached limits c.0 st w.0 before (reached_from_start limits before st e) w.1) w.2;
      }

  -- a next step is taken
  taken : (limits : Limits) (before rest : List Token) (st : S) → after step limits start before ≡ Ok st → Next step ended limits st rest
      → TakesNext Spells limits before rest
  taken limits before [] st e n = (n.0, laws.ends limits st before n.0 (reached_from_start limits before st e) n.1)
  taken limits before (t ∷ rest) st e n = can_go_on limits (before ++ t ∷ []) n.0 (one_more limits before t start st n.0 e n.1)

  same_state : (limits : Limits) (before : List Token) (st st' : S) → after step limits start before ≡ Ok st → after step limits start before ≡ Ok st'
      → st ≡ st'
  same_state limits before st st' e e' = cc

  -- and what is taken is a next step
  next : (limits : Limits) (before rest : List Token) (st : S) → after step limits start before ≡ Ok st → TakesNext Spells limits before rest
      → Next step ended limits st rest
  next limits before [] st e h =
      let all : runs step ended limits start (before ++ []) ≡ Some h.0 =
      subst (λ (ts : List Token). runs step ended limits start ts ≡ Some h.0) (sym (append-nil before)) (laws.takes limits before h.0 h.1) in
      let s = split step ended limits before start [] h.0 all in
      (h.0, ap ended (same_state limits before st s.0 e s.1) ∙ s.2)
  next limits before (t ∷ rest) st e h =
      let all : runs step ended limits start (before ++ t ∷ h.more) ≡ Some h.tree =
      subst (λ (ts : List Token). runs step ended limits start ts ≡ Some h.tree) (append_assoc before (t ∷ []) h.more) (laws.takes limits
      ((before ++ t ∷ []) ++ h.more) h.tree h.spelled) in
      let s = split step ended limits before start (t ∷ h.more) h.tree all in
      let f = first_step step ended limits s.0 t h.more h.tree s.2 in
      (f.0, ap (λ (q : S). step limits q t) (same_state limits before st s.0 e s.1) ∙ f.1)

  not_ended : (limits : Limits) (st : S) → Next step ended limits st [] → ended st ≡ None → ⊥
  not_ended limits st n h = absurd cc

  agrees_at : (st : S) (t : Token) (kind : LineFaultKind) → step every st t ≡ Err kind → (s : S) × ((limits : Limits)
      → step limits st t ≡ only_if (lets limits kind) kind s)
  agrees_at st t kind e = subst (λ (m : Result S LineFaultKind). Agrees m (λ l. step l st t)) e (laws.agrees st t)

  was_next : (limits : Limits) (kind : LineFaultKind) (st : S) (t : Token) (rest : List Token) → step every st t ≡ Err kind
      → Next step ended limits st (t ∷ rest) → lets limits kind ≡ true
  was_next limits kind st t rest e n =
      let a = agrees_at st t kind e in
      was_let (lets limits kind) kind a.0 n.0 (sym (a.1 limits) ∙ n.1)

  is_next : (limits : Limits) (kind : LineFaultKind) (st : S) (t : Token) (rest : List Token) → step every st t ≡ Err kind → lets limits kind ≡ true
      → Next step ended limits st (t ∷ rest)
  is_next limits kind st t rest e l =
      let a = agrees_at st t kind e in
      (a.0, a.1 limits ∙ ap (λ (b : Bool). only_if b kind a.0) l)

  not_unlimited : (kind : LineFaultKind) (st : S) (t : Token) (rest : List Token) → step every st t ≡ Err kind
      → ¬ (Next step ended unlimited st (t ∷ rest)) → kind ≡ Unexpected
  not_unlimited Unexpected st t rest e h = refl
  not_unlimited ZeroBelow st t rest e h = absurd (h (is_next unlimited ZeroBelow st t rest e refl))
  not_unlimited Exponent st t rest e h = absurd (h (is_next unlimited Exponent st t rest e refl))
  not_unlimited Deep st t rest e h = absurd (h (is_next unlimited Deep st t rest e refl))

  -- a step that is refused for one reason isn't refused for another
  only_kind : (before rest : List Token) (st : S) (kind other : LineFaultKind) → after step every start before ≡ Ok st → Stuck step ended st rest kind
      → IsKind Spells other before rest → kind ≡ other
  only_kind before [] st kind Unexpected e stuck why = stuck.1
  only_kind before [] st kind ZeroBelow e stuck why =
      let l : Limits = record every { below = false } in absurd (not_ended l st (next l before [] st (same_way l before start st e) why) stuck.0)
  only_kind before [] st kind Exponent e stuck why =
      let l : Limits = record every { exponent = false } in absurd (not_ended l st (next l before [] st (same_way l before start st e) why) stuck.0)
  only_kind before [] st kind Deep e stuck why =
      let l : Limits = record every { depth = false } in absurd (not_ended l st (next l before [] st (same_way l before start st e) why) stuck.0)
  only_kind before (t ∷ rest) st kind Unexpected e stuck why =
      not_unlimited kind st t rest stuck (λ n. why (taken unlimited before (t ∷ rest) st (same_way unlimited before start st e) n))
  only_kind before (t ∷ rest) st kind ZeroBelow e stuck why =
      let l : Limits = record every { below = false } in
      lets_only_below kind (was_next l kind st t rest stuck (next l before (t ∷ rest) st (same_way l before start st e) why))
  only_kind before (t ∷ rest) st kind Exponent e stuck why =
      let l : Limits = record every { exponent = false } in
      lets_only_exponent kind (was_next l kind st t rest stuck (next l before (t ∷ rest) st (same_way l before start st e) why))
  only_kind before (t ∷ rest) st kind Deep e stuck why =
      let l : Limits = record every { depth = false } in
      lets_only_depth kind (was_next l kind st t rest stuck (next l before (t ∷ rest) st (same_way l before start st e) why))

  through : (limits : Limits) (kind : LineFaultKind) (before rest : List Token) (t : Token) (st : S) → after step every start before ≡ Ok st
      → step every st t ≡ Err kind → lets limits kind ≡ true
      → TakesNext Spells limits before (t ∷ rest)
  through limits kind before rest t st e stuck l =
      taken limits before (t ∷ rest) st (same_way limits before start st e) (is_next limits kind st t rest stuck l)

  -- the reason of a refused step
  is_kind : (before rest : List Token) (st : S) (kind : LineFaultKind) → after step every start before ≡ Ok st → Stuck step ended st rest kind
      → IsKind Spells kind before rest
  is_kind before [] st Unexpected e stuck = λ h. not_ended unlimited st (next unlimited before [] st (same_way unlimited before start st e) h) stuck.0
  is_kind before [] st ZeroBelow e stuck = absurd cc
  is_kind before [] st Exponent e stuck = absurd cc
  is_kind before [] st Deep e stuck = absurd cc
  is_kind before (t ∷ rest) st Unexpected e stuck =
      λ h. false_is_true (was_next unlimited Unexpected st t rest stuck (next unlimited before (t ∷ rest) st (same_way unlimited before start st e) h))
  is_kind before (t ∷ rest) st ZeroBelow e stuck = through (record every { below = false }) ZeroBelow before rest t st e stuck refl
  is_kind before (t ∷ rest) st Exponent e stuck = through (record every { exponent = false }) Exponent before rest t st e stuck refl
  is_kind before (t ∷ rest) st Deep e stuck = through (record every { depth = false }) Deep before rest t st e stuck refl

  not_next : (st : S) (rest : List Token) (kind : LineFaultKind) → Stuck step ended st rest kind → Next step ended every st rest → ⊥
  not_next st [] kind stuck n = not_ended every st n stuck.0
  not_next st (t ∷ rest) kind stuck n = absurd cc

  -- what reading gives as a fault is the first fault
  pub fault_is_first : (tokens : List Token) (kind : LineFaultKind) (place : ℕ) → reads step ended 0 start tokens ≡ fault kind place
      → FirstFault Spells tokens kind place
  fault_is_first tokens kind place e =
      let s = stop step ended tokens start 0 kind place e in
      record {
        before = s.before;
        rest = s.rest;
        parts = s.parts;
        counted = omega (arith, s.counted);
        so_far = can_go_on every s.before s.state s.path;
        stops = λ h. not_next s.state s.rest kind s.stuck (next every s.before s.rest s.state s.path h);
        why = is_kind s.before s.rest s.state kind s.path s.stuck;
      }

  -- a state that can't go on with these tokens
  stuck_at : (st : S) (rest : List Token) → ¬ (Next step ended every st rest) → (n : ℕ)
      → (kind : LineFaultKind) × (reads step ended n st rest ≡ fault kind n) × Stuck step ended st rest kind
  stuck_at st [] h n =
      elim (ended st) as (λ m. ended st ≡ m → (kind : LineFaultKind) × (at_end n m ≡ fault kind n) × ((m ≡ None) × (kind ≡ Unexpected))) [
        | Some x ↦ λ eq. absurd (h (x, eq))
        | None ↦ λ eq. (Unexpected, refl, (refl, refl))
      ] refl
  stuck_at st (t ∷ rest) h n =
      elim (step every st t) as (λ m. step every st t ≡ m
      → (kind : LineFaultKind) × (and_then m (λ s. reads step ended (suc n) s rest) (λ k. fault k n) ≡ fault kind n) × (m ≡ Err kind)) [
        | Ok s ↦ λ eq. absurd (h (s, eq))
        | Err k ↦ λ eq. (k, refl, refl)
      ] refl

  -- and the first fault is what reading gives
  pub first_is_fault : (tokens : List Token) (kind : LineFaultKind) (place : ℕ) → FirstFault Spells tokens kind place
      → reads step ended 0 start tokens ≡ fault kind place
  first_is_fault tokens kind place f =
      let all : runs step ended every start (f.before ++ f.so_far.more) ≡ Some f.so_far.tree =
      laws.takes every (f.before ++ f.so_far.more) f.so_far.tree f.so_far.spelled in
      let s = split step ended every f.before start f.so_far.more f.so_far.tree all in
      let stuck = stuck_at s.0 f.rest (λ n. f.stops (taken every f.before f.rest s.0 s.1 n)) (0 + length f.before) in
      let same : stuck.0 ≡ kind = only_kind f.before f.rest s.0 stuck.0 kind s.1 stuck.2 f.why in
      let place_is : 0 + length f.before ≡ place = omega (arith, f.counted) in
      ap (reads step ended 0 start) f.parts ∙ along step ended f.before start s.0 f.rest 0 s.1 ∙ stuck.1
      ∙ ap (λ (k : LineFaultKind). fault k (0 + length f.before)) same ∙ ap (fault kind) place_is

  -- what reading gives as a tree is spelled
  pub read_is_spelled : (tokens : List Token) (x : T) → reads step ended 0 start tokens ≡ read x → Spells every tokens x
  read_is_spelled tokens x e =
      let w = whole step ended tokens start 0 x e in
      laws.ends every w.0 tokens x (reached_from_start every tokens w.0 w.1) w.2

  -- and what is spelled is read
  pub spelled_is_read : (tokens : List Token) (x : T) → Spells every tokens x → reads step ended 0 start tokens ≡ read x
  spelled_is_read tokens x h =
      let w = run_way step ended every tokens start x (laws.takes every tokens x h) in
      ap (reads step ended 0 start) (sym (append-nil tokens)) ∙ along step ended tokens start w.0 [] 0 w.1 ∙ ap (at_end (0 + length tokens)) w.2

-- the two outcomes, told apart
tell : {T : Type 0} (o : Outcome T) → ((x : T) × (o ≡ read x)) ⊎ ((kind : LineFaultKind) × (place : ℕ) × (o ≡ fault kind place))
tell (read x) = inl (x, refl)
tell (fault kind place) = inr (kind, place, refl)

module _ {S T : Type 0} {Spells : Grammar T} {start : S} {step : Step S} {ended : S → Option T} {Reached : Limits → S → List Token
    → Type 0} (laws : Laws Spells start step ended Reached) where
  -- the four laws of the grammar
  pub unambiguous : IsUnambiguous Spells
  unambiguous tokens x y h h' =
      let e = spelled_is_read laws tokens x h in
      let e' = spelled_is_read laws tokens y h' in
      cc

  pub spells_or_fails : SpellsOrFails Spells
  spells_or_fails tokens =
      elim (tell (reads step ended 0 start tokens)) [
        | inl a ↦ inl (a.0, read_is_spelled laws tokens a.0 a.1)
        | inr b ↦ inr (b.0, b.1, fault_is_first laws tokens b.0 b.1 b.2)
      ]

  pub never_both : NeverBoth Spells
  never_both tokens x kind place h f =
      let e = spelled_is_read laws tokens x h in
      let e' = first_is_fault laws tokens kind place f in
      absurd cc

  pub one_fault : HasOneFault Spells
  one_fault tokens kind other place elsewhere f f' =
      let e = first_is_fault laws tokens kind place f in
      let e' = first_is_fault laws tokens other elsewhere f' in
      (cc, cc)
