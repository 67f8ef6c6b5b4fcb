-- The operations of a body and the lines of a model are few, so each number of a refused edit is carried as it is.
use Rattle.std.proofs.Common.{◌≡◌, ◌≢◌, ℕ, suc, ◌+◌, ◌-◌, ◌^◌, ◌≤◌, ◌==◌, Bool, true, false, cond, List, [], ◌∷◌, ◌++◌, length, IfSome, Option, Some, None, Result, Ok, Err, refl, sym, ap, subst, ◌∙◌, arith}
use Rattle.std.proofs.lemmas.List.{length-map}
use Rattle.theory_meaning.specs.Declarations.{key_of, or_else}
use Rattle.theory_meaning.specs.Edit as meaning
use Rattle.theory_meaning.specs.Edit.{is_keyed, with_line, without_key, put_under, lines_after, and_then, changed_lines, numbered_from, lines_alone, unless_fault, model_of, edited}
use Rattle.theory_meaning.specs.ModelFault as plain
use Rattle.theory_meaning.specs.ModelFault.{is_key, has_fault, first_that, line_with, fault_at, fault_among, model_kinds, model_fault, most_lines}
use Rattle.theory_meaning.specs.Point.{Name}
use Rattle.theory_meaning.specs.Text.{Numbered, Op, put_line, drop_key}
use Rattle.theory_meaning.specs.Tree.{Line}
use Rattle.theory_meaning.specs.declared.words.ModelKind.{ModelKind}
use Rattle.theory_meaning.specs.declared.words.ModelKind.TheVariants.{ModelLine, KeyTwice, UnknownName, BadArgument, NoShift, NotParam, TooManySymbols, TooManyLines, Memory}
use Rattle.theory_grammar.specs.Spelled.{IsOp}
use Rattle.theory_grammar.specs.TextFault.{onto_first, cut_lines, SpellFrom, ended, passed, spelled}
use Rattle.theory_grammar.specs.Texts.{without_number, SpellsOps}
use Rattle.theory_model.specs.Changed.{carried, IsCarriedFault, IsEditRefusal, IsEdited}
use Rattle.theory_model.specs.declared.changing.EditFault.{EditFault}
use Rattle.theory_model.specs.declared.changing.EditFault.TheVariants as change
use Rattle.theory_versions.specs.declared.edited.EditRefusal.{EditRefusal}
use Rattle.theory_versions.specs.declared.edited.EditRefusal.TheVariants as refusal
use Rattle.theory_versions.specs.Editing.{IsEditRefused, IsEditFault, IsChangedOr}

-- a text has no more lines than bytes, and spells no more operations than it has lines
first_few : (b : ℕ) (ls : List (List ℕ)) → length (onto_first b ls) ≤ suc (length ls)
first_few b [] = omega arith
first_few b (l ∷ ls) = omega arith

cut_few : (bs : List ℕ) → length (cut_lines bs) ≤ length bs
cut_few [] = omega arith
cut_few (b ∷ bs) = by_test (b == 10) (cut_few bs)
  where
    by_test : (t : Bool) → length (cut_lines bs) ≤ length bs → length (cond t ([] ∷ cut_lines bs) (onto_first b (cut_lines bs))) ≤ suc (length bs)
    by_test true h = omega (arith, h)
    by_test false h = let more = first_few b (cut_lines bs) in omega (arith, h, more)

spelled_few : (n : ℕ) (ls : List (List ℕ)) (ops : List Op) → SpellFrom IsOp without_number n ls ops → length ops ≤ length ls
spelled_few n ls ops (ended _) = omega arith
spelled_few n ls ops (passed _ l rest xs h more) = let few = spelled_few (n + 1) rest xs more in omega (arith, few)
spelled_few n ls ops (spelled _ l rest op xs h more) = let few = spelled_few (n + 1) rest xs more in omega (arith, few)

-- the operations of a body are few
ops_few : (body : List ℕ) (ops : List Op) → SpellsOps body ops → length ops ≤ 65536
ops_few body ops spells =
    let few = spelled_few 1 (cut_lines body) ops spells.lines in
    let cut = cut_few body in
    let size = spells.text.size in
    omega (arith, few, cut, size)

-- the number that a refusal tells
abbrev number_in : meaning.EditFault → ℕ
number_in (meaning.unknown_key n) = n
number_in (meaning.model_line n) = n
number_in (meaning.after f) = f.at

-- so many lines at most, or a refusal with a number that isn't greater
abbrev AreWithin : ℕ → ℕ → Result (List Line) meaning.EditFault → Type 0
AreWithin most number (Ok ls) = length ls ≤ most
AreWithin most number (Err g) = number_in g ≤ number

wider : (m m' n n' : ℕ) (r : Result (List Line) meaning.EditFault) → m ≤ m' → n ≤ n' → AreWithin m n r → AreWithin m' n' r
wider m m' n n' (Ok ls) more later h = omega (arith, h, more)
wider m m' n n' (Err g) more later h = omega (arith, h, later)

-- an operation adds at most one line
with_few : (key : Name) (new : Line) (ls : List Line) → length (with_line key new ls) ≤ suc (length ls)
with_few key new [] = omega arith
with_few key new (l ∷ ls) = by_test (is_key key (key_of l)) (with_few key new ls)
  where
    by_test : (b : Bool) → length (with_line key new ls) ≤ suc (length ls)
        → length (cond b (new ∷ ls) (l ∷ with_line key new ls)) ≤ suc (suc (length ls))
    by_test true h = omega arith
    by_test false h = omega (arith, h)

without_few : (key : Name) (ls : List Line) → length (without_key key ls) ≤ suc (length ls)
without_few key [] = omega arith
without_few key (l ∷ ls) = by_test (is_key key (key_of l)) (without_few key ls)
  where
    by_test : (b : Bool) → length (without_key key ls) ≤ suc (length ls) → length (cond b ls (l ∷ without_key key ls)) ≤ suc (suc (length ls))
    by_test true h = omega arith
    by_test false h = omega (arith, h)

put_within : (n : ℕ) (key : Option Name) (new : Line) (ls : List Line) → AreWithin (suc (length ls)) n (put_under n key new ls)
put_within n None new ls = omega arith
put_within n (Some key) new ls = with_few key new ls

drop_within : (n : ℕ) (key : Name) (ls : List Line) (b : Bool)
    → AreWithin (suc (length ls)) n (cond b (Ok (without_key key ls)) (Err (meaning.unknown_key n)))
drop_within n key ls true = without_few key ls
drop_within n key ls false = omega arith

one_within : (n : ℕ) (op : Op) (ls : List Line) → AreWithin (suc (length ls)) n (lines_after n op ls)
one_within n (put_line new) ls = put_within n (key_of new) new ls
one_within n (drop_key key) ls = drop_within n key ls (is_keyed key ls)

all_within : (n : ℕ) (ops : List Op) (ls : List Line) → AreWithin (length ls + length ops) (n + length ops) (changed_lines n ops ls)
all_within n [] ls = omega arith
all_within n (op ∷ ops) ls = by_step (lines_after n op ls) (one_within n op ls) (λ ms. all_within (n + 1) ops ms)
  where
    by_step : (r : Result (List Line) meaning.EditFault) → AreWithin (suc (length ls)) n r
        → ((ms : List Line) → AreWithin (length ms + length ops) ((n + 1) + length ops) (changed_lines (n + 1) ops ms))
        → AreWithin (length ls + suc (length ops)) (n + suc (length ops)) (and_then r (changed_lines (n + 1) ops))
    by_step (Ok ms) h rest =
        wider (length ms + length ops) (length ls + suc (length ops)) ((n + 1) + length ops) (n + suc (length ops))
        (changed_lines (n + 1) ops ms) (omega (arith, h)) (omega arith) (rest ms)
    by_step (Err g) h rest = omega (arith, h)

-- a fault of numbered lines is in one of them, or in line 1
first_within : (test : List Numbered → Line → Bool) (above : List Numbered) (n : ℕ) (ls : List Line)
    → IfSome (first_that test above (numbered_from n ls)) (λ k. k ≤ n + length ls)
first_within test above n [] = tt
first_within test above n (l ∷ ls) =
    by_test (test above l) (first_that test (above ++ record { at = n; line = l } ∷ []) (numbered_from (n + 1) ls))
    (first_within test (above ++ record { at = n; line = l } ∷ []) (n + 1) ls)
  where
    by_test : (b : Bool) (o : Option ℕ) → IfSome o (λ k. k ≤ (n + 1) + length ls) → IfSome (cond b (Some n) o) (λ k. k ≤ n + suc (length ls))
    by_test true o h = omega arith
    by_test false None h = tt
    by_test false (Some k) h = omega (arith, h)

kind_within : (kind : ModelKind) (ls : List Line)
    → IfSome (first_that (has_fault kind (numbered_from 1 ls)) [] (numbered_from 1 ls)) (λ k. k ≤ 1 + length ls)
kind_within kind ls = first_within (has_fault kind (numbered_from 1 ls)) [] 1 ls

line_within : (kind : ModelKind) (ls : List Line) → IfSome (line_with kind (numbered_from 1 ls)) (λ k. k ≤ 1 + length ls)
line_within ModelLine [] = omega arith
line_within ModelLine (l ∷ ls) = kind_within ModelLine (l ∷ ls)
line_within KeyTwice ls = kind_within KeyTwice ls
line_within UnknownName ls = kind_within UnknownName ls
line_within BadArgument ls = kind_within BadArgument ls
line_within NoShift ls = kind_within NoShift ls
line_within NotParam ls = kind_within NotParam ls
line_within TooManySymbols ls = kind_within TooManySymbols ls
line_within TooManyLines ls = kind_within TooManyLines ls
line_within Memory ls = kind_within Memory ls

among_within : (kinds : List ModelKind) (ls : List Line) → IfSome (fault_among kinds (numbered_from 1 ls)) (λ f. f.at ≤ 1 + length ls)
among_within [] ls = tt
among_within (kind ∷ kinds) ls =
    by_line (line_with kind (numbered_from 1 ls)) (line_within kind ls) (among_within kinds ls)
  where
    by_line : (o : Option ℕ) → IfSome o (λ k. k ≤ 1 + length ls) → IfSome (fault_among kinds (numbered_from 1 ls)) (λ f. f.at ≤ 1 + length ls)
        → IfSome (or_else (fault_at kind o) (fault_among kinds (numbered_from 1 ls))) (λ f. f.at ≤ 1 + length ls)
    by_line None h rest = rest
    by_line (Some k) h rest = h

-- the number of a refused edit isn't greater than this
abbrev IsNumbered : ℕ → Result (List Numbered) meaning.EditFault → Type 0
IsNumbered most (Ok ls) = Unit {0}
IsNumbered most (Err g) = number_in g ≤ most

fault_numbered : (most : ℕ) (ls : List Numbered) (o : Option plain.ModelFault) → IfSome o (λ f. f.at ≤ most) → IsNumbered most (unless_fault o ls)
fault_numbered most ls None h = tt
fault_numbered most ls (Some f) h = h

edited_numbered : (ops : List Op) (lines : List Numbered) → length lines ≤ most_lines → length ops ≤ 65536
    → IsNumbered (2 ^ 32 - 1) (edited ops lines)
edited_numbered ops lines few short = by_change (changed_lines 1 ops (lines_alone lines)) (all_within 1 ops (lines_alone lines))
  where
    alone : length (lines_alone lines) ≡ length lines
    alone = length-map lines (λ n. n.line)

    by_change : (r : Result (List Line) meaning.EditFault) → AreWithin (length (lines_alone lines) + length ops) (1 + length ops) r
        → IsNumbered (2 ^ 32 - 1) (model_of r)
    by_change (Ok ls) h =
        fault_numbered (2 ^ 32 - 1) (numbered_from 1 ls) (model_fault (numbered_from 1 ls))
        (by_fault (model_fault (numbered_from 1 ls)) (among_within model_kinds ls))
      where
        by_fault : (o : Option plain.ModelFault) → IfSome o (λ f. f.at ≤ 1 + length ls) → IfSome o (λ f. f.at ≤ 2 ^ 32 - 1)
        by_fault None at = tt
        by_fault (Some f) at = let same : length (lines_alone lines) ≡ length lines = alone in omega (arith, at, h, same, few, short)
    by_change (Err g) h = omega (arith, h, short)

-- a number that is carried as it is tells the refusal as it is defined
carried_small : (n : ℕ) → n ≤ 2 ^ 32 - 1 → carried n ≡ n
carried_small n h = omega (arith, h)

plain_fault : (f : plain.ModelFault) (fault : EditFault) → f.at ≤ 2 ^ 32 - 1 → IsCarriedFault f fault → IsEditFault fault (meaning.after f)
plain_fault f (change.After g) small is =
    ap meaning.after (sym (is ∙ ap (λ (n : ℕ). let h : plain.ModelFault = record { kind = f.kind; at = n } in h) (carried_small f.at small)))
plain_fault f (change.UnknownKey n) small is = absurd is
plain_fault f (change.ModelLine n) small is = absurd is
plain_fault f change.Memory small is = absurd is

plain_refusal : (g : meaning.EditFault) (fault : EditFault) → number_in g ≤ 2 ^ 32 - 1 → IsEditRefusal g fault → IsEditFault fault g
plain_refusal (meaning.unknown_key n) fault small is =
    subst (λ (e : EditFault). IsEditFault e (meaning.unknown_key n)) (sym is) (ap meaning.unknown_key (sym (carried_small n small)))
plain_refusal (meaning.model_line n) fault small is =
    subst (λ (e : EditFault). IsEditFault e (meaning.model_line n)) (sym is) (ap meaning.model_line (sym (carried_small n small)))
plain_refusal (meaning.after f) fault small is = plain_fault f fault small is

-- what is refused of an edit is what its definition refuses
told_plainly : (wanted : Result (List Numbered) meaning.EditFault) (fault : EditFault) → IsNumbered (2 ^ 32 - 1) wanted → fault ≢ change.Memory
    → IsEdited wanted (Err fault) → (g : meaning.EditFault) × IsEditFault fault g × (wanted ≡ Err g)
told_plainly wanted change.Memory small some is = absurd (some refl)
told_plainly (Ok ls) (change.UnknownKey n) small some is = absurd is
told_plainly (Ok ls) (change.ModelLine n) small some is = absurd is
told_plainly (Ok ls) (change.After h) small some is = absurd is
told_plainly (Err g) (change.UnknownKey n) small some is = (g, plain_refusal g (change.UnknownKey n) small is, refl)
told_plainly (Err g) (change.ModelLine n) small some is = (g, plain_refusal g (change.ModelLine n) small is, refl)
told_plainly (Err g) (change.After h) small some is = (g, plain_refusal g (change.After h) small is, refl)

pub refused_edit : (lines : List Numbered) (body : List ℕ) (ops : List Op) (fault : EditFault) (r : EditRefusal) → length lines ≤ most_lines
    → SpellsOps body ops → IsEdited (edited ops lines) (Err fault) → IsEditRefused fault r → IsChangedOr lines body (Err r)
refused_edit lines body ops fault refusal.Memory few spells is told = tt
refused_edit lines body ops fault (refusal.Edit f) few spells is told =
    let plain = told_plainly (edited ops lines) fault (edited_numbered ops lines few (ops_few body ops spells)) told.1 is in
    (plain.0, subst (λ (e : EditFault). IsEditFault e plain.0) (sym told.0) plain.1, record { ops = ops; spelled = spells; edited = plain.2 })
refused_edit lines body ops fault refusal.UnknownModel few spells is told = absurd told
refused_edit lines body ops fault (refusal.IdReused v) few spells is told = absurd told
refused_edit lines body ops fault (refusal.Stale v) few spells is told = absurd told
refused_edit lines body ops fault (refusal.Text e) few spells is told = absurd told
refused_edit lines body ops fault refusal.VersionsFull few spells is told = absurd told
refused_edit lines body ops fault refusal.TextFull few spells is told = absurd told
refused_edit lines body ops fault refusal.KeeperFault few spells is told = absurd told
