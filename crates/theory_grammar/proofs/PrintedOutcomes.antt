-- What printed forms spell: at any depth, where few signs stand open, and where nothing divides.
use Rattle.std.proofs.Common.{ℕ, ◌≤◌, true, false, List, [], ◌∷◌, arith}
use Rattle.std.proofs.lemmas.Bool.{false≢true}
use Rattle.std.specs.List.{AllByRecursion}
use Rattle.theory_meaning.specs.Edit.{lines_alone}
use Rattle.theory_meaning.specs.Text.{Numbered}
use Rattle.theory_meaning.specs.Tree.{Line}
use Rattle.theory_grammar.specs.Printed.{line_text, op_text}
use Rattle.theory_grammar.specs.RoundTrip.{PrintsBack, PrintsBackAtAnyDepth, TextPrintsBack, TextPrintsBackAtAnyDepth, LineOpensFew, EditOpensFew, NothingDivides, NothingDividesInEdit}
use Rattle.theory_grammar.specs.Spelled.{IsLine, IsOp}
use Rattle.theory_grammar.specs.TextFault.{SpellFrom, ended, passed, spelled}
use Rattle.theory_grammar.specs.Texts.{with_number}
use Rattle.theory_grammar.proofs.Opening.{Fits}
use Rattle.theory_grammar.proofs.OpenedClaims.{line_opens_few, op_opens_few}
use Rattle.theory_grammar.proofs.PrintedLines.{printed_line_spells, printed_op_spells}
use Rattle.theory_grammar.proofs.PrintedTexts.{AllFit, printed_text_spells}

-- at any depth there is room
pub line_at_any_depth : PrintsBackAtAnyDepth IsLine line_text
line_at_any_depth bytes l h short = printed_line_spells false bytes l h short (λ e. absurd (false≢true e))

pub op_at_any_depth : PrintsBackAtAnyDepth IsOp op_text
op_at_any_depth bytes op h short = printed_op_spells false bytes op h short (λ e. absurd (false≢true e))

all_fit : (lines : List Line) → AllFit false lines
all_fit [] = tt
all_fit (l ∷ lines) = ((λ e. absurd (false≢true e)), all_fit lines)

pub text_at_any_depth : TextPrintsBackAtAnyDepth
text_at_any_depth bytes lines h short size = printed_text_spells false bytes lines h short size (all_fit (lines_alone lines))

-- few open signs have room
behind_none : {n : ℕ} → n ≤ 32 → Fits true 0 n
behind_none h = λ e. omega (arith, h)

pub line_of_few : PrintsBack IsLine line_text LineOpensFew
line_of_few bytes l h short few = printed_line_spells true bytes l h short (behind_none few)

pub op_of_few : PrintsBack IsOp op_text EditOpensFew
op_of_few bytes op h short few = printed_op_spells true bytes op h short (behind_none few)

few_fit : (lines : List Line) → AllByRecursion LineOpensFew lines → AllFit true lines
few_fit [] h = tt
few_fit (l ∷ lines) h = (behind_none h.0, few_fit lines h.1)

pub text_of_few : TextPrintsBack LineOpensFew
text_of_few bytes lines h short size few = printed_text_spells true bytes lines h short size (few_fit (lines_alone lines) few)

-- and where nothing divides they are few
pub line_without_division : PrintsBack IsLine line_text NothingDivides
line_without_division bytes l h short none = line_of_few bytes l h short (line_opens_few h.spelled none)

pub op_without_division : PrintsBack IsOp op_text NothingDividesInEdit
op_without_division bytes op h short none = op_of_few bytes op h short (op_opens_few h.spelled none)

are_few : (n : ℕ) (ls : List (List ℕ)) (lines : List Numbered) → SpellFrom IsLine with_number n ls lines → AllByRecursion NothingDivides (lines_alone lines)
    → AllByRecursion LineOpensFew (lines_alone lines)
are_few n ls lines (ended _) none = tt
are_few n ls lines (passed _ l rest xs scanned more) none = are_few _ rest xs more none
are_few n ls lines (spelled _ l rest tree xs one more) none = (line_opens_few one.spelled none.0, are_few _ rest xs more none.1)

pub text_without_division : TextPrintsBack NothingDivides
text_without_division bytes lines h short size none = text_of_few bytes lines h short size (are_few 1 _ lines h.lines none)
