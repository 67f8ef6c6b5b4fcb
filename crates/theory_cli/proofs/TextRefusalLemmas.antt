-- Refusals of bytes, from what was found of their text and of their model.
use Rattle.std.proofs.Common.{◌≡◌, ◌⊎◌, ⊎_elim, ℕ, List, None, Some, sym, subst}
use Rattle.theory_meaning.specs.declared.words.ModelKind.TheVariants as model_kind
use Rattle.theory_meaning.specs.ModelFault as meaning
use Rattle.theory_meaning.specs.ModelFault.{ModelFault}
use Rattle.theory_meaning.specs.Text as plain
use Rattle.theory_meaning.specs.Edit.{HaveIdentifiers}
use Rattle.theory_syntax.specs.declared.text.Numbered as source
use Rattle.theory_syntax.specs.Plain.{lines_of}
use Rattle.theory_grammar.specs.declared.text_kind.TextKind.TheVariants as text_kind
use Rattle.theory_grammar.specs.TextFault.{Fault}
use Rattle.theory_grammar.specs.Texts.{SpellsLines, IsFirstFault}
use Rattle.theory_cli.specs.TextRefusal.{IsTextRefusal, text_fault, model_fault, text_fault_text, model_fault_text, SpellsModel}

-- a fault of the text that isn't want of memory
pub refused_text : (bytes : List ℕ) (f : Fault) → (f.kind ≡ text_kind.Memory → ⊥) →
    (f.kind ≡ text_kind.Memory) ⊎ IsFirstFault bytes f → IsTextRefusal bytes (text_fault_text f)
refused_text bytes f no_memory found = ⊎_elim (λ m. absurd (no_memory m)) (λ fails. text_fault f fails) found

-- a fault of the model that isn't want of memory
pub refused_model : (bytes : List ℕ) (lines : List plain.Numbered) (f : ModelFault) → SpellsLines bytes lines → (f.kind ≡ model_kind.Memory → ⊥) →
    (f.kind ≡ model_kind.Memory) ⊎ (meaning.model_fault lines ≡ Some f) → IsTextRefusal bytes (model_fault_text f)
refused_model bytes lines f spelled no_memory found = ⊎_elim (λ m. absurd (no_memory m)) (λ is. model_fault lines f spelled is) found

-- a model that was checked, from the lines that were read
pub spelled_model : (bytes : List ℕ) (lines model : List source.Numbered) → SpellsLines bytes (lines_of lines) → HaveIdentifiers (lines_of lines)
    → meaning.model_fault (lines_of lines) ≡ None → model ≡ lines → SpellsModel bytes (lines_of model)
spelled_model bytes lines model spelled identifiers faultless is =
    subst (λ (ls : List source.Numbered). SpellsModel bytes (lines_of ls)) (sym is)
    record { spelled = spelled; checked = record { identifiers = identifiers; faultless = faultless } }
