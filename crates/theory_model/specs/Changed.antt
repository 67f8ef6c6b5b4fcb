-- What an edit of a model answers, and lines that are lent while they are changed.
use Rattle.std.specs.Prelude.{◌≡◌, ◌≢◌, ℕ, ◌+◌, ◌-◌, ◌^◌, min, suc, List, [], ◌∷◌, map, Option, Some, None, option_map, Result, Ok, Err, if◌then◌else◌, Vec}
use Rattle.std.specs.Borrow.{Bor}
use Rattle.std.specs.Global.{Global}
use Rattle.theory_meaning.specs.Declarations.{key_of}
use Rattle.theory_meaning.specs.ModelFault as plain
use Rattle.theory_meaning.specs.ModelFault.{is_key}
use Rattle.theory_meaning.specs.Edit as edit
use Rattle.theory_meaning.specs.Point.{Name}
use Rattle.theory_meaning.specs.Text as text
use Rattle.theory_meaning.specs.Tree.{Line}
use Rattle.theory_meaning.specs.declared.words.ModelKind.TheVariants as kind
use Rattle.theory_syntax.specs.declared.line.Line as source
use Rattle.theory_syntax.specs.declared.text.Numbered as numbered
use Rattle.theory_syntax.specs.Plain.{line_of, lines_of}
use Rattle.theory_model.specs.Checked.{fault_of}
use Rattle.theory_model.specs.declared.faults.ModelFault.{ModelFault}
use Rattle.theory_model.specs.declared.changing.EditFault.{EditFault}
use Rattle.theory_model.specs.declared.changing.EditFault.TheVariants.{UnknownKey, ModelLine, After, Memory}

-- the lines that are lent
abbrev pub lent_lines : List (Bor source.Line) → List Line
lent_lines = map (λ line. line_of line.now)

-- the place of the first line with this key
abbrev pub place_of_line : Name → List Line → Option ℕ
place_of_line key [] = None
place_of_line key (line ∷ lines) = if is_key key (key_of line) then Some 0 else option_map suc (place_of_line key lines)

-- a number as it is carried: one above the greatest of 32 bits is the greatest
abbrev pub carried : ℕ → ℕ
carried n = min n (2 ^ 32 - 1)

-- the fault of a model with the number of its line as it is carried
abbrev pub carried_fault : plain.ModelFault → plain.ModelFault
carried_fault f = record { kind = f.kind; at = carried f.at }

-- lines with the numbers of their places, as they are carried; the first has this number
abbrev pub carried_from : ℕ → List Line → List text.Numbered
carried_from n [] = []
carried_from n (line ∷ lines) = record { at = carried n; line = line } ∷ carried_from (n + 1) lines

-- a fault of the changed lines, with the number of its line as it is carried
abbrev pub IsCarriedFault : plain.ModelFault → EditFault → Type 0
IsCarriedFault f (After g) = fault_of g ≡ carried_fault f
IsCarriedFault f fault = ⊥

-- the refusal as it is defined, with the number that is carried
abbrev pub IsEditRefusal : edit.EditFault → EditFault → Type 0
IsEditRefusal (edit.unknown_key n) fault = fault ≡ UnknownKey (carried n)
IsEditRefusal (edit.model_line n) fault = fault ≡ ModelLine (carried n)
IsEditRefusal (edit.after f) fault = IsCarriedFault f fault

-- the lines are now these, or the refusal is this one; but memory may run out
abbrev pub IsChanged : Result (List Line) edit.EditFault → List Line → Result (Unit {0}) EditFault → Type 0
IsChanged wanted new (Err Memory) = Unit {0}
IsChanged (Ok lines) new (Ok _) = new ≡ lines
IsChanged (Ok lines) new (Err fault) = ⊥
IsChanged (Err refusal) new (Ok _) = ⊥
IsChanged (Err refusal) new (Err fault) = IsEditRefusal refusal fault

-- the lines are now these; but memory may run out
abbrev pub IsPut : List Line → List Line → Result (Unit {0}) EditFault → Type 0
IsPut lines new (Ok _) = new ≡ lines
IsPut lines new (Err fault) = fault ≡ Memory

-- the lines that are lent are these, or the refusal is this one; but memory may run out
abbrev pub AreChanged : Result (List Line) edit.EditFault → Result (Vec (Bor source.Line) Global) EditFault → Type 0
AreChanged wanted (Err Memory) = Unit {0}
AreChanged (Ok lines) (Ok found) = lent_lines found.items ≡ lines
AreChanged (Ok lines) (Err fault) = ⊥
AreChanged (Err refusal) (Ok found) = ⊥
AreChanged (Err refusal) (Err fault) = IsEditRefusal refusal fault

-- the fault of the changed lines is handed on; want of memory below is want of memory
abbrev pub IsAfterFault : ModelFault → EditFault → Type 0
IsAfterFault f (After g) = (g ≡ f) × (f.kind ≢ kind.Memory)
IsAfterFault f Memory = f.kind ≡ kind.Memory
IsAfterFault f (UnknownKey n) = ⊥
IsAfterFault f (ModelLine n) = ⊥

-- the model is these lines, or the refusal is this one; but memory may run out
abbrev pub IsEdited : Result (List text.Numbered) edit.EditFault → Result (List numbered.Numbered) EditFault → Type 0
IsEdited wanted (Err Memory) = Unit {0}
IsEdited (Ok lines) (Ok model) = lines_of model ≡ lines
IsEdited (Ok lines) (Err fault) = ⊥
IsEdited (Err refusal) (Ok model) = ⊥
IsEdited (Err refusal) (Err fault) = IsEditRefusal refusal fault
