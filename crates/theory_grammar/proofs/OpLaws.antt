-- The machine for edits reads exactly the edits that are spelled.
use Rattle.std.specs.Prelude.{codes}
use Rattle.std.specs.Str.{bytes_eq}
use Rattle.std.proofs.Common.{◌≡◌, Bool, true, false, List, [], ◌∷◌, ◌++◌, Option, None, Some, Ok, Err, refl, sym, ap, subst, ◌∙◌}
use Rattle.std.proofs.lemmas.Slice.Eq.{bytes_eq-Decides}
use Rattle.theory_meaning.specs.Point.{Name}
use Rattle.theory_meaning.specs.Tree.{Line}
use Rattle.theory_meaning.specs.Text.{Op, put_line, drop_key}
use Rattle.theory_grammar.specs.declared.words.LineFaultKind.{LineFaultKind}
use Rattle.theory_grammar.specs.Token.{Token, name}
use Rattle.theory_grammar.specs.Spelled.{Limits, every, IsLine, IsOp}
use Rattle.theory_grammar.specs.Spelled as rule
use Rattle.theory_grammar.specs.Machine.{State, and_then}
use Rattle.theory_grammar.specs.Machine as line
use Rattle.theory_grammar.proofs.OpMachine.{OpState, op_start, putting, key_to_drop, dropped, op_word, at_op_start, at_key, within_put, op_step, put_ended, op_ended}
use Rattle.theory_grammar.proofs.Following.{runs, lets, only_if, Agrees, Goes, Laws}
use Rattle.theory_grammar.proofs.Reached.{Reached}
use Rattle.theory_grammar.proofs.LineLaws.{line_laws}

-- the tokens behind a state
abbrev pub OpReached : Limits → OpState → List Token → Type 0
OpReached limits op_start ts = ts ≡ []
OpReached limits (putting st) ts = (us : List Token) × Reached limits st us × (ts ≡ name (codes "put") ∷ us)
OpReached limits key_to_drop ts = ts ≡ name (codes "drop") ∷ []
OpReached limits (dropped x) ts = ts ≡ name (codes "drop") ∷ name x ∷ []

-- the two words are told from their bytes
is_word : (x y : Name) → bytes_eq x y ≡ true → x ≡ y
is_word x y e = (bytes_eq-Decides x y).0 e

sound_word : (limits : Limits) (x : Name) (before : List Token) → before ≡ [] → (p d : Bool) → (p ≡ true → x ≡ codes "put") → (d ≡ true
    → x ≡ codes "drop") → Goes (OpReached limits) (before ++ name x ∷ []) (op_word p d)
sound_word limits x before e true d h h' = ([], refl, ap (λ (ts : List Token). ts ++ name x ∷ []) e ∙ ap (λ (y : Name). name y ∷ []) (h refl))
sound_word limits x before e false true h h' = ap (λ (ts : List Token). ts ++ name x ∷ []) e ∙ ap (λ (y : Name). name y ∷ []) (h' refl)
sound_word limits x before e false false h h' = tt

op_sound_start : (limits : Limits) (t : Token) (before : List Token) → before ≡ [] → Goes (OpReached limits) (before ++ t ∷ []) (at_op_start t)
op_sound_start limits (name x) before e =
    sound_word limits x before e (bytes_eq x (codes "put")) (bytes_eq x (codes "drop")) (is_word x (codes "put")) (is_word x (codes "drop"))
op_sound_start limits _ before e = tt

op_sound_key : (limits : Limits) (t : Token) (before : List Token) → before ≡ name (codes "drop") ∷ [] → Goes (OpReached limits) (before ++ t ∷ []) (at_key t)
op_sound_key limits (name x) before e = ap (λ (ts : List Token). ts ++ name x ∷ []) e
op_sound_key limits _ before e = tt

op_sound_put : (limits : Limits) (t : Token) (before us : List Token) (move : line.Move) → before ≡ name (codes "put") ∷ us
    → Goes (Reached limits) (us ++ t ∷ []) move → Goes (OpReached limits) (before ++ t ∷ []) (within_put move)
op_sound_put limits t before us (Ok st) e h = (us ++ t ∷ [], h, ap (λ (ts : List Token). ts ++ t ∷ []) e)
op_sound_put limits t before us (Err kind) e h = tt

op_goes : (limits : Limits) (st : OpState) (t : Token) (before : List Token) → OpReached limits st before
    → Goes (OpReached limits) (before ++ t ∷ []) (op_step limits st t)
op_goes limits op_start t before b = op_sound_start limits t before b
op_goes limits (putting st) t before b = op_sound_put limits t before b.0 (line.step limits st t) b.2 (line_laws.goes limits st t b.0 b.1)
op_goes limits key_to_drop t before b = op_sound_key limits t before b
op_goes limits (dropped x) t before b = tt

-- edits that end here
as_op : (limits : Limits) (ts us : List Token) (op : Op) → ts ≡ us → IsOp limits us op → IsOp limits ts op
as_op limits ts us op e h = subst (λ (vs : List Token). IsOp limits vs op) (sym e) h

put_well : (limits : Limits) (us ts : List Token) (m : Option Line) (op : Op) → ((l : Line) → m ≡ Some l → IsLine limits us l)
    → ts ≡ name (codes "put") ∷ us → put_ended m ≡ Some op → IsOp limits ts op
put_well limits us ts None op h e e' = absurd cc
put_well limits us ts (Some l) op h e e' =
    let same : put_line l ≡ op = cc in
    subst (IsOp limits ts) same (as_op limits ts _ (put_line l) e (rule.put (h l refl)))

op_ends : (limits : Limits) (st : OpState) (before : List Token) (op : Op) → OpReached limits st before → op_ended st ≡ Some op → IsOp limits before op
op_ends limits op_start before op b e = absurd cc
op_ends limits (putting st) before op b e = put_well limits b.0 before (line.ended st) op (λ l h. line_laws.ends limits st b.0 l b.1 h) b.2 e
op_ends limits key_to_drop before op b e = absurd cc
op_ends limits (dropped x) before op b e =
    let same : drop_key x ≡ op = cc in
    subst (IsOp limits before) same (as_op limits before _ (drop_key x) b rule.drop)

-- a line to put is read as the line is
put_runs : (limits : Limits) (ts : List Token) (st : State)
    → runs op_step op_ended limits (putting st) ts ≡ put_ended (runs line.step line.ended limits st ts)
put_runs limits [] st = refl
put_runs limits (t ∷ ts) st =
    elim (line.step limits st t) as (λ m. and_then (within_put m) (λ st'. runs op_step op_ended limits st' ts) (λ kind. None) ≡ put_ended (and_then m
    (λ st'. runs line.step line.ended limits st' ts) (λ kind. None))) [
      | Ok st' ↦ put_runs limits ts st'
      | Err kind ↦ refl
    ]

op_takes : (limits : Limits) (ts : List Token) (op : Op) → IsOp limits ts op → runs op_step op_ended limits op_start ts ≡ Some op
op_takes limits ts op (rule.put {ts = us} {line = l} h) = put_runs limits us line.start ∙ ap put_ended (line_laws.takes limits us l h)
op_takes limits ts op rule.drop = refl

op_closes : (limits : Limits) (st : OpState) → (more : List Token) × (op : Op) × (runs op_step op_ended limits st more ≡ Some op)
op_closes limits op_start = (name (codes "drop") ∷ name (codes "x") ∷ [], drop_key (codes "x"), refl)
op_closes limits (putting st) = let c = line_laws.closes limits st in (c.0, put_line c.1, put_runs limits c.0 st ∙ ap put_ended c.2)
op_closes limits key_to_drop = (name (codes "x") ∷ [], drop_key (codes "x"), refl)
op_closes limits (dropped x) = ([], drop_key x, refl)

-- which steps depend on which limits
op_agrees_word : (p d : Bool) → Agrees (op_word p d) (λ limits. op_word p d)
op_agrees_word true d = λ limits. refl
op_agrees_word false true = λ limits. refl
op_agrees_word false false = (op_start, λ limits. refl)

op_agrees_start : (t : Token) → Agrees (at_op_start t) (λ limits. at_op_start t)
op_agrees_start (name x) = op_agrees_word (bytes_eq x (codes "put")) (bytes_eq x (codes "drop"))
op_agrees_start _ = (op_start, λ limits. refl)

op_agrees_key : (t : Token) → Agrees (at_key t) (λ limits. at_key t)
op_agrees_key (name x) = λ limits. refl
op_agrees_key _ = (op_start, λ limits. refl)

put_only_if : (b : Bool) (kind : LineFaultKind) (st : State) → within_put (only_if b kind st) ≡ only_if b kind (putting st)
put_only_if true kind st = refl
put_only_if false kind st = refl

op_agrees_put : (move : line.Move) (moves : Limits → line.Move) → Agrees move moves → Agrees (within_put move) (λ limits. within_put (moves limits))
op_agrees_put (Ok st) moves h = λ limits. ap within_put (h limits)
op_agrees_put (Err kind) moves h = (putting h.0, λ limits. ap within_put (h.1 limits) ∙ put_only_if (lets limits kind) kind h.0)

op_agrees : (st : OpState) (t : Token) → Agrees (op_step every st t) (λ limits. op_step limits st t)
op_agrees op_start t = op_agrees_start t
op_agrees (putting st) t = op_agrees_put (line.step every st t) (λ limits. line.step limits st t) (line_laws.agrees st t)
op_agrees key_to_drop t = op_agrees_key t
op_agrees (dropped x) t = (op_start, λ limits. refl)

pub op_laws : Laws IsOp op_start op_step op_ended OpReached
op_laws = record {
  begins = λ limits. refl;
  goes = op_goes;
  ends = op_ends;
  takes = op_takes;
  closes = op_closes;
  agrees = op_agrees;
}
