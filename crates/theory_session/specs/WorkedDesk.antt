-- Worked scripts: a model that is edited, a keeper that fails, a version that is shown.
use Rattle.std.specs.Prelude.{ℕ, pos, List, [], ◌∷◌, ◌++◌, None, Some, codes}
use Rattle.theory_meaning.specs.declared.words.Kind.TheVariants as kind
use Rattle.theory_meaning.specs.declared.words.Rel.TheVariants as rel
use Rattle.theory_meaning.specs.Fraction.{whole}
use Rattle.theory_meaning.specs.Text.{Numbered}
use Rattle.theory_meaning.specs.Tree.{number, symbol, sum, product, atom, model, var, claim, assume}
use Rattle.theory_derivative.specs.Worked.{demand_slope, supply_slope, zero}
use Rattle.theory_derivative.specs.WorkedModels.{tax_model}
use Rattle.theory_session.specs.Ask as ask
use Rattle.theory_session.specs.Asking.{AskRequest}
use Rattle.theory_session.specs.Creation as creation
use Rattle.theory_session.specs.Creation.{CreateRequest, first_entry}
use Rattle.theory_session.specs.Editing.{EditRequest, next_entry, stale, id_reused}
use Rattle.theory_session.specs.Row.{Entry, present_format}
use Rattle.theory_session.specs.Run.{Reply, created, edited, shown, listed, refused, of_creation, of_edit, of_question, of_show, keeper_fault, no_memory}
use Rattle.theory_session.specs.Showing.{no_version}
use Rattle.theory_session.specs.Step as step
use Rattle.theory_session.specs.Step.{Command}

-- lines as bytes, each ended by a line feed
abbrev pub text_from : List (List ℕ) → List ℕ
text_from [] = []
text_from (line ∷ lines) = line ++ 10 ∷ text_from lines

-- the text of the tax model
abbrev pub tax_text : List ℕ
tax_text = text_from
    (codes "model tax" ∷ codes "var p" ∷ codes "var r" ∷ codes "param t" ∷ codes "fun D of p" ∷ codes "fun S of r"
    ∷ codes "eq net: r = p - t" ∷ codes "eq clear: D = S" ∷ codes "assume A1: D.p < 0" ∷ codes "assume A2: S.r > 0"
    ∷ codes "claim C1 by t: d.p > 0 and d.p < 1" ∷ [])

-- its creation
abbrev pub tax_creation : CreateRequest
tax_creation = record { id = codes "a"; body = tax_text }

-- an edit of its version 1
abbrev pub tax_edit : List ℕ → List ℕ → EditRequest
tax_edit id line = record { model = codes "tax"; base = 1; id = id; body = text_from (line ∷ []) }

-- one that adds an assumption
abbrev pub steep_edit : EditRequest
steep_edit = tax_edit (codes "b") (codes "put assume A3: S.r + D.p > 0")

-- the edit is accepted, another one comes too late, the first comes again, and its id comes again with another body
abbrev pub edit_script : List Command
edit_script =
    step.create tax_creation ∷ step.edit steep_edit ∷ step.edit (tax_edit (codes "c") (codes "drop A1"))
    ∷ step.edit steep_edit ∷ step.edit (tax_edit (codes "b") (codes "drop A1")) ∷ []

abbrev pub edit_replies : List Reply
edit_replies =
    created (codes "tax") 1 ∷ edited (codes "tax") 2 ∷ refused (of_edit (stale 2))
    ∷ edited (codes "tax") 2 ∷ refused (of_edit (id_reused 2)) ∷ []

-- its two versions
abbrev pub tax_1 : Entry
tax_1 = first_entry present_format tax_creation tax_model

abbrev pub tax_2 : Entry
tax_2 = next_entry present_format steep_edit 1
    (tax_model ++ record { at = 12; line = assume (codes "A3") (atom (sum supply_slope demand_slope) rel.Gt zero) } ∷ [])

-- a model without claims
abbrev pub bare_creation : CreateRequest
bare_creation = record { id = codes "a"; body = text_from (codes "model m" ∷ []) }

-- an edit of it
abbrev pub bare_edit : EditRequest
bare_edit = record { model = codes "m"; base = 1; id = codes "b"; body = text_from (codes "put var x" ∷ []) }

-- the edit is sent again, since the keeper failed
abbrev pub keeper_script : List Command
keeper_script = step.create bare_creation ∷ step.edit bare_edit ∷ step.edit bare_edit ∷ []

abbrev pub keeper_replies : List Reply
keeper_replies = created (codes "m") 1 ∷ refused keeper_fault ∷ edited (codes "m") 2 ∷ []

-- the same commands where memory is wanting at the edit
abbrev pub memory_replies : List Reply
memory_replies = created (codes "m") 1 ∷ refused no_memory ∷ edited (codes "m") 2 ∷ []

-- its two versions
abbrev pub bare_1 : Entry
bare_1 = first_entry present_format bare_creation (record { at = 1; line = model (codes "m") } ∷ [])

abbrev pub bare_2 : Entry
bare_2 = next_entry present_format bare_edit 1 (record { at = 1; line = model (codes "m") } ∷ record { at = 2; line = var (codes "x") } ∷ [])

-- a text that isn't as it is printed
abbrev pub loose_creation : CreateRequest
loose_creation = record { id = codes "k"; body = text_from (codes "model m" ∷ codes "var x" ∷ codes "claim C: 2*x+1>=6/4" ∷ []) }

-- its lines
abbrev pub loose_model : List Numbered
loose_model =
    record { at = 1; line = model (codes "m") }
    ∷ record { at = 2; line = var (codes "x") }
    ∷ record {
      at = 3;
      line = claim (codes "C") None
          (atom (sum (product (number (whole (pos 2))) (symbol (codes "x"))) (number (whole (pos 1)))) rel.Ge (number (record { num = pos 3; less = 1 })));
    }
    ∷ []

-- a question of its version 1
abbrev pub loose_question : List ℕ → List (List ℕ) → AskRequest
loose_question label on = record { model = codes "m"; version = Some 1; claim = label; on = on; kind = kind.Unit }

-- it is shown and listed; a version and a claim are asked for that aren't there, and a condition on a name that isn't
abbrev pub show_script : List Command
show_script =
    step.create loose_creation ∷ step.show (codes "m") (Some 1) ∷ step.list ∷ step.show (codes "m") (Some 2)
    ∷ step.ask (loose_question (codes "D") []) ∷ step.ask (loose_question (codes "C") (codes "y" ∷ [])) ∷ []

abbrev pub show_replies : List Reply
show_replies =
    created (codes "m") 1
    ∷ shown (codes "m") 1 (text_from (codes "model m" ∷ codes "var x" ∷ codes "claim C: 2*x + 1 >= 3/2" ∷ []))
    ∷ listed ((codes "m", 1) ∷ []) ∷ refused (of_show (no_version 1))
    ∷ refused (of_question ask.unknown_claim) ∷ refused (of_question (ask.unknown_name 1)) ∷ []

-- its version
abbrev pub loose_1 : Entry
loose_1 = first_entry present_format loose_creation loose_model

-- a creation of the model without claims under this id, by these lines
abbrev pub bare_create : List ℕ → List (List ℕ) → Command
bare_create id lines = step.create (record { id = id; body = text_from lines })

-- an edit that names no base, under this id, by this line
abbrev pub bare_edit_of_none : List ℕ → List ℕ → Command
bare_edit_of_none id line = step.edit (record { model = codes "m"; base = 0; id = id; body = text_from (line ∷ []) })

-- to the desk with its two versions the creation is sent again, also as an edit; its id comes with other bodies, and the later
-- version's id with the creation
abbrev pub id_script : List Command
id_script =
    bare_create (codes "a") (codes "model m" ∷ [])
    ∷ bare_edit_of_none (codes "a") (codes "model m")
    ∷ bare_create (codes "a") (codes "model m" ∷ codes "var y" ∷ [])
    ∷ bare_edit_of_none (codes "a") (codes "put var y")
    ∷ bare_create (codes "b") (codes "model m" ∷ []) ∷ []

abbrev pub id_replies : List Reply
id_replies =
    created (codes "m") 1 ∷ edited (codes "m") 1 ∷ refused (of_creation (creation.id_reused 1))
    ∷ refused (of_edit (id_reused 1)) ∷ refused (of_creation creation.name_taken) ∷ []
