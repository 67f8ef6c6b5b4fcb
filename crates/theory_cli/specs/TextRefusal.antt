-- Why the bytes of a file aren't answered, and what is told of it behind the file's name. docs/PROTOCOL.md has it in words.
use Rattle.std.specs.Prelude.{◌≡◌, ℕ, List, ◌++◌, Some, codes, decimal}
use Rattle.theory_meaning.specs.Edit.{IsModel}
use Rattle.theory_meaning.specs.ModelFault as meaning
use Rattle.theory_meaning.specs.ModelFault.{ModelFault}
use Rattle.theory_meaning.specs.Text.{Numbered}
use Rattle.theory_grammar.specs.TextFault.{Fault}
use Rattle.theory_grammar.specs.Texts.{SpellsLines, IsFirstFault}
use Rattle.theory_model.specs.Message.{printed_kind as printed_model_kind}
use Rattle.theory_text.specs.Message.{printed_kind as printed_text_kind}

-- a fault of a text: its line, its column and its kind
abbrev pub text_fault_text : Fault → List ℕ
text_fault_text f = codes ":" ++ decimal f.line ++ codes ":" ++ decimal f.column ++ codes ": " ++ printed_text_kind f.kind

-- a fault of a model: its line and its kind
abbrev pub model_fault_text : ModelFault → List ℕ
model_fault_text f = codes ":" ++ decimal f.at ++ codes ": " ++ printed_model_kind f.kind

-- why these bytes are refused, by what is told of it: the first fault of the text, and where there is none that of the model
pub data IsTextRefusal (bytes : List ℕ) : List ℕ → Type 0 where
  text_fault : (f : Fault) → IsFirstFault bytes f → IsTextRefusal bytes (text_fault_text f)
  model_fault : (lines : List Numbered) (f : ModelFault) → SpellsLines bytes lines → meaning.model_fault lines ≡ Some f → IsTextRefusal bytes (model_fault_text f)

-- the bytes spell these lines, a model without a fault
pub record SpellsModel (bytes : List ℕ) (lines : List Numbered) : Type 0 where
  pub spelled : SpellsLines bytes lines
  pub checked : IsModel lines
