-- Edited lines keep their identifiers, and what is answered for the changed lines.
use Rattle.std.proofs.Common.{◌≡◌, ℕ, ◌+◌, Bool, true, false, cond, List, [], ◌∷◌, Option, Some, None, option_map, Result, Ok, Err, Vec, Global, refl, sym, ap, subst, ◌∙◌, ⊎_elim, arith}
use Rattle.std.specs.Borrow.{Bor}
use Rattle.std.specs.List.{AllByRecursion}
use Rattle.theory_meaning.specs.Declarations.{key_of}
use Rattle.theory_meaning.specs.ModelFault as plain
use Rattle.theory_meaning.specs.ModelFault.{is_key, model_fault}
use Rattle.theory_meaning.specs.Edit as edit
use Rattle.theory_meaning.specs.Edit.{HasIdentifiers, HaveIdentifiers, is_keyed, with_line, without_key, lines_after, changed_lines, lines_alone, and_then, PutsIdentifiers, unless_fault, model_of, numbered_from}
use Rattle.theory_meaning.specs.Point.{Name}
use Rattle.theory_meaning.specs.Text.{Numbered, Op, put_line, drop_key}
use Rattle.theory_meaning.specs.Tree.{Line}
use Rattle.theory_syntax.specs.declared.line.Line as source
use Rattle.theory_syntax.specs.declared.text.Numbered as numbered
use Rattle.theory_syntax.specs.Plain.{lines_of}
use Rattle.theory_model.specs.declared.faults.ModelFault.{ModelFault}
use Rattle.theory_model.specs.declared.changing.EditFault.{EditFault}
use Rattle.theory_model.specs.declared.changing.EditFault.TheVariants.{UnknownKey, ModelLine, After, Memory}
use Rattle.theory_model.specs.Checked.{fault_of, IsChecked}
use Rattle.theory_model.specs.Changed.{lent_lines, carried_fault, carried_from, AreChanged, IsAfterFault, IsEdited}
use Rattle.theory_model.proofs.CarriedLemmas.{model_fault_carried, faultless_lines_are_few, few_carried, length_numbered}

-- lines that are answered alike are the same
abbrev lines_in : Result (List Line) edit.EditFault → List Line → List Line
lines_in (Ok xs) d = xs
lines_in (Err e) d = d

abbrev same_results : Result (List Line) edit.EditFault → Result (List Line) edit.EditFault → Type 0
same_results r s = r ≡ s

ok_same : (xs ys : List Line) → same_results (Ok xs) (Ok ys) → xs ≡ ys
ok_same xs ys e = ap (λ r. lines_in r xs) e

some_same : (f g : plain.ModelFault) → Some f ≡ Some g → f ≡ g
some_same f g e = cc

-- the names of each line are identifiers
abbrev AllIdentified : List Line → Type 0
AllIdentified = AllByRecursion HasIdentifiers

with_line-identified : (key : Name) (new : Line) (ls : List Line) → HasIdentifiers new → AllIdentified ls → AllIdentified (with_line key new ls)
with_line-identified key new [] h all = (h, tt)
with_line-identified key new (l ∷ ls) h all = by_test (is_key key (key_of l)) (with_line-identified key new ls h all.1)
  where
    by_test : (b : Bool) → AllIdentified (with_line key new ls) → AllIdentified (cond b (new ∷ ls) (l ∷ with_line key new ls))
    by_test true rest = (h, all.1)
    by_test false rest = (all.0, rest)

without_key-identified : (key : Name) (ls : List Line) → AllIdentified ls → AllIdentified (without_key key ls)
without_key-identified key [] all = tt
without_key-identified key (l ∷ ls) all = by_test (is_key key (key_of l)) (without_key-identified key ls all.1)
  where
    by_test : (b : Bool) → AllIdentified (without_key key ls) → AllIdentified (cond b ls (l ∷ without_key key ls))
    by_test true rest = all.1
    by_test false rest = (all.0, rest)

-- one operation keeps identifiers, and so do all
put-identified : (n : ℕ) (new : Line) (ls ls' : List Line) (o : Option Name) → HasIdentifiers new → AllIdentified ls →
    edit.put_under n o new ls ≡ Ok ls' → AllIdentified ls'
put-identified n new ls ls' None h all is = absurd (grind (arith, is))
put-identified n new ls ls' (Some key) h all is =
    let same : with_line key new ls ≡ ls' = ok_same (with_line key new ls) ls' is in
    subst AllIdentified same (with_line-identified key new ls h all)

after-identified : (n : ℕ) (op : Op) (ls ls' : List Line) → AllIdentified ls → PutsIdentifiers (op ∷ []) → lines_after n op ls ≡ Ok ls' → AllIdentified ls'
after-identified n (put_line new) ls ls' all puts is = put-identified n new ls ls' (key_of new) puts.0 all is
after-identified n (drop_key key) ls ls' all puts is = by_test (is_keyed key ls) is
  where
    by_test : (b : Bool) → cond b (Ok (without_key key ls)) (Err (edit.unknown_key n)) ≡ Ok ls' → AllIdentified ls'
    by_test true e = subst AllIdentified (ok_same (without_key key ls) ls' e) (without_key-identified key ls all)
    by_test false e = absurd (grind (arith, e))

changed-identified : (n : ℕ) (ops : List Op) (ls ls' : List Line) → AllIdentified ls → PutsIdentifiers ops → changed_lines n ops ls ≡ Ok ls' → AllIdentified ls'
changed-identified n [] ls ls' all puts is = subst AllIdentified (ok_same ls ls' is) all
changed-identified n (op ∷ ops) ls ls' all puts is =
    by_step (lines_after n op ls) refl is (λ (ms : List Line) (good : AllIdentified ms). changed-identified (n + 1) ops ms ls' good (rest_puts op puts))
  where
    rest_puts : (o : Op) → PutsIdentifiers (o ∷ ops) → PutsIdentifiers ops
    rest_puts (put_line new) p = p.1
    rest_puts (drop_key key) p = p

    first_puts : (o : Op) → PutsIdentifiers (o ∷ ops) → PutsIdentifiers (o ∷ [])
    first_puts (put_line new) p = (p.0, tt)
    first_puts (drop_key key) p = tt

    by_step : (r : Result (List Line) edit.EditFault) → lines_after n op ls ≡ r → and_then r (changed_lines (n + 1) ops) ≡ Ok ls'
        → ((ms : List Line) → AllIdentified ms → changed_lines (n + 1) ops ms ≡ Ok ls' → AllIdentified ls') → AllIdentified ls'
    by_step (Ok ms) step e rest = rest ms (after-identified n op ls ms all (first_puts op puts) step) e
    by_step (Err fault) step e rest = absurd (grind (arith, e))

-- numbers of places have nothing to do with identifiers
carried-identified : (n : ℕ) (ls : List Line) → AllIdentified ls → HaveIdentifiers (carried_from n ls)
carried-identified n [] all = tt
carried-identified n (l ∷ ls) all = (all.0, carried-identified (n + 1) ls all.1)

alone-identified : (ns : List Numbered) → HaveIdentifiers ns → AllIdentified (lines_alone ns)
alone-identified [] all = tt
alone-identified (n ∷ ns) all = (all.0, alone-identified ns all.1)

-- the lines that are checked after an edit have identifiers
pub edited-identified : (lines : List Numbered) (ops : List Op) (found : Vec (Bor source.Line) Global) → HaveIdentifiers lines → PutsIdentifiers ops
    → AreChanged (changed_lines 1 ops (lines_alone lines)) (Ok found) → HaveIdentifiers (carried_from 1 (lent_lines found.items))
edited-identified lines ops found all puts changed =
    by_change (changed_lines 1 ops (lines_alone lines)) refl changed
  where
    by_change : (r : Result (List Line) edit.EditFault) → changed_lines 1 ops (lines_alone lines) ≡ r → AreChanged r (Ok found) →
        HaveIdentifiers (carried_from 1 (lent_lines found.items))
    by_change (Ok ls) is same =
        carried-identified 1 (lent_lines found.items) (subst AllIdentified (sym same)
        (changed-identified 1 ops (lines_alone lines) ls (alone-identified lines all) puts is))
    by_change (Err refusal) is same = absurd same

-- a fault of the changed lines is the fault of the edit
pub edited-fault : (wanted : Result (List Line) edit.EditFault) (found : Vec (Bor source.Line) Global) (checked : List numbered.Numbered)
    (f : ModelFault) (g : EditFault)
    → AreChanged wanted (Ok found) → lines_of checked ≡ carried_from 1 (lent_lines found.items) → IsChecked checked (Err f) → IsAfterFault f g →
    IsEdited (model_of wanted) (Err g)
edited-fault wanted found checked f Memory changed are fault after = tt
edited-fault (Ok ls) found checked f (After g) changed are fault after =
    ⊎_elim (λ memory. absurd (after.1 memory))
    (λ is. by_fault (model_fault (numbered_from 1 ls)) (sym (model_fault_carried ls)
    ∙ ap (λ (xs : List Line). model_fault (carried_from 1 xs)) (sym changed) ∙ ap model_fault (sym are) ∙ is)) fault
  where
    by_fault : (o : Option plain.ModelFault) → option_map carried_fault o ≡ Some (fault_of f) →
        IsEdited (unless_fault o (numbered_from 1 ls)) (Err (After g))
    by_fault None e = absurd (grind (arith, e))
    by_fault (Some h) e = ap fault_of after.0 ∙ sym (some_same (carried_fault h) (fault_of f) e)
edited-fault (Err refusal) found checked f (After g) changed are fault after = absurd changed
edited-fault wanted found checked f (UnknownKey n) changed are fault after = absurd after
edited-fault wanted found checked f (ModelLine n) changed are fault after = absurd after

-- the checked lines are the model of the edit
pub edited-model : (wanted : Result (List Line) edit.EditFault) (found : Vec (Bor source.Line) Global) (checked model : List numbered.Numbered)
    → AreChanged wanted (Ok found) → lines_of checked ≡ carried_from 1 (lent_lines found.items) → IsChecked checked (Ok model) →
    IsEdited (model_of wanted) (Ok model)
edited-model (Ok ls) found checked model changed are h =
    let fine : model_fault (carried_from 1 ls) ≡ None =
    ap (λ (xs : List Line). model_fault (carried_from 1 xs)) (sym changed) ∙ ap model_fault (sym are) ∙ h.0 in
    let none = no_fault (model_fault (numbered_from 1 ls)) (sym (model_fault_carried ls) ∙ fine) in
    let few = faultless_lines_are_few (numbered_from 1 ls) none in
    let long = length_numbered 1 ls in
    let lines = ap lines_of h.1 ∙ are ∙ ap (λ (xs : List Line). carried_from 1 xs) changed ∙ few_carried 1 ls (omega (arith, few, long)) in
    subst (λ o. IsEdited (unless_fault o (numbered_from 1 ls)) (Ok model)) (sym none) lines
  where
    no_fault : (o : Option plain.ModelFault) → option_map carried_fault o ≡ None → o ≡ None
    no_fault None e = refl
    no_fault (Some f) e = absurd (grind (arith, e))
edited-model (Err refusal) found checked model changed are h = absurd changed

-- the same changes of equal lines
pub changed_of : (found : Vec (Bor source.Line) Global) (model lines : List numbered.Numbered) (ops : List Op) → lines ≡ model
    → AreChanged (changed_lines 1 ops (lines_alone (lines_of lines))) (Ok found) → AreChanged (changed_lines 1 ops (lines_alone (lines_of model))) (Ok found)
changed_of found model lines ops same changed =
    subst (λ (ls : List numbered.Numbered). AreChanged (changed_lines 1 ops (lines_alone (lines_of ls))) (Ok found)) same changed
