-- Bytes that spell a model aren't refused.
use Rattle.std.proofs.Common.{◌≡◌, ℕ, List, Option, None, Some, sym, ap, ◌∙◌}
use Rattle.theory_meaning.specs.Text.{Numbered}
use Rattle.theory_meaning.specs.ModelFault as meaning
use Rattle.theory_meaning.specs.ModelFault.{ModelFault}
use Rattle.theory_grammar.specs.Spelled.{IsLine}
use Rattle.theory_grammar.specs.Texts.{with_number}
use Rattle.theory_grammar.proofs.Outcomes.{lines_have_one_outcome}
use Rattle.theory_grammar.proofs.TextLaws.{one_text, text_not_fail}
use Rattle.theory_cli.specs.TextRefusal.{IsTextRefusal, text_fault, model_fault, SpellsModel}

-- bytes that are refused spell no model
pub never_both : (bytes : List ℕ) (lines : List Numbered) (told : List ℕ) → SpellsModel bytes lines → IsTextRefusal bytes told → ⊥
never_both bytes ls told s (text_fault f fails) = text_not_fail IsLine with_number lines_have_one_outcome bytes ls f s.spelled fails
never_both bytes ls told s (model_fault lines f spelled fault) =
    let same : ls ≡ lines = one_text IsLine with_number lines_have_one_outcome bytes ls lines s.spelled spelled in
    let none : ◌≡◌ {A = Option ModelFault} None (Some f) = sym s.checked.faultless ∙ ap meaning.model_fault same ∙ fault in
    absurd (cc)
