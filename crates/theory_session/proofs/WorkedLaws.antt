-- What worked bodies spell, and how worked versions and replies are printed.
use Rattle.std.proofs.Common.{◌≡◌, ◌+◌, ◌≤◌, List, [], ◌∷◌, ◌++◌, length, refl, ap, arith}
use Rattle.std.proofs.lemmas.Fmt.{decimal_digit}
use Rattle.std.specs.Prelude.{codes}
use Rattle.theory_meaning.specs.declared.words.Rel.TheVariants.{Gt}
use Rattle.theory_meaning.specs.Text.{Numbered, Op, put_line}
use Rattle.theory_meaning.specs.Tree.{sum, atom, model, var, assume}
use Rattle.theory_derivative.specs.Worked.{demand_slope, supply_slope, zero}
use Rattle.theory_derivative.specs.WorkedModels.{tax_model}
use Rattle.theory_grammar.specs.Spelled.{lowest}
use Rattle.theory_grammar.specs.Texts.{SpellsLines, SpellsOps}
use Rattle.theory_session.specs.Printed.{replies_text}
use Rattle.theory_session.specs.Sizes.{printed, size_in, size_of, most_bytes}
use Rattle.theory_session.specs.WorkedDesk.{text_from, tax_text, steep_edit, edit_replies, tax_1, tax_2, bare_creation, bare_edit, bare_1, keeper_replies, loose_creation, loose_model, loose_1, show_replies}
use Rattle.theory_session.specs.WorkedRows.{ratio_creation, ratio_entry}
use Rattle.theory_session.proofs.Spelling.{lines_are, ops_are}

pub tax_spelled : SpellsLines tax_text tax_model
tax_spelled = lines_are tax_text tax_model refl refl

-- the operation that adds the assumption
abbrev pub steep_ops : List Op
steep_ops = put_line (assume (codes "A3") (atom (sum supply_slope demand_slope) Gt zero)) ∷ []

pub steep_spelled : SpellsOps steep_edit.body steep_ops
steep_spelled = ops_are steep_edit.body steep_ops refl refl

pub bare_spelled : SpellsLines bare_creation.body bare_1.lines
bare_spelled = lines_are bare_creation.body bare_1.lines refl refl

-- the lines of the same model with a variable
abbrev pub longer_lines : List Numbered
longer_lines = record { at = 1; line = model (codes "m") } ∷ record { at = 2; line = var (codes "y") } ∷ []

pub longer_spelled : SpellsLines (text_from (codes "model m" ∷ codes "var y" ∷ [])) longer_lines
longer_spelled = lines_are (text_from (codes "model m" ∷ codes "var y" ∷ [])) longer_lines refl refl

abbrev pub bare_ops : List Op
bare_ops = put_line (var (codes "x")) ∷ []

pub bare_edit_spelled : SpellsOps bare_edit.body bare_ops
bare_edit_spelled = ops_are bare_edit.body bare_ops refl refl

pub loose_spelled : SpellsLines loose_creation.body loose_model
unfolding lowest
loose_spelled = lines_are loose_creation.body loose_model refl refl

pub tax_1_printed : printed tax_1 ≡ tax_text
tax_1_printed = rw (decimal_digit 0 (omega arith), decimal_digit 1 (omega arith)) refl

pub edit_print : replies_text edit_replies ≡ text_from (codes "created tax 1" ∷ codes "edited tax 2" ∷ codes "refused Stale 2"
    ∷ codes "edited tax 2" ∷ codes "refused IdReused 2" ∷ [])
edit_print = rw (decimal_digit 1 (omega arith), decimal_digit 2 (omega arith)) refl

pub keeper_print : replies_text keeper_replies ≡ text_from (codes "created m 1" ∷ codes "refused KeeperFault" ∷ codes "edited m 2" ∷ [])
keeper_print = rw (decimal_digit 1 (omega arith), decimal_digit 2 (omega arith)) refl

pub loose_1_printed : printed loose_1 ≡ text_from (codes "model m" ∷ codes "var x" ∷ codes "claim C: 2*x + 1 >= 3/2" ∷ [])
loose_1_printed = rw (decimal_digit 1 (omega arith), decimal_digit 2 (omega arith), decimal_digit 3 (omega arith)) refl

pub show_print : replies_text show_replies ≡ text_from (codes "created m 1" ∷ codes "text of m 1"
    ∷ codes "model m" ∷ codes "var x" ∷ codes "claim C: 2*x + 1 >= 3/2" ∷ codes "end" ∷ codes "models 1" ∷ codes "  m 1"
    ∷ codes "refused UnknownVersion 1" ∷ codes "refused UnknownClaim" ∷ codes "refused UnknownName 1" ∷ [])
show_print = rw (decimal_digit 1 (omega arith)) refl

pub tax_2_printed : printed tax_2 ≡ tax_text ++ codes "assume A3: S.r + D.p > 0" ++ 10 ∷ []
tax_2_printed = rw (decimal_digit 0 (omega arith), decimal_digit 1 (omega arith)) refl

-- they are far below the limit on bytes
pub tax_1_fits : size_in [] + size_of tax_1 ≤ most_bytes
tax_1_fits = let long : length (printed tax_1) ≡ length tax_text = ap length tax_1_printed in omega (arith, long)

pub tax_2_fits : size_in (tax_1 ∷ []) + size_of tax_2 ≤ most_bytes
tax_2_fits =
    let one : length (printed tax_1) ≡ length tax_text = ap length tax_1_printed in
    let two : length (printed tax_2) ≡ length (tax_text ++ codes "assume A3: S.r + D.p > 0" ++ 10 ∷ []) = ap length tax_2_printed in
    omega (arith, one, two)

pub loose_1_fits : size_in [] + size_of loose_1 ≤ most_bytes
loose_1_fits = let long = ap length loose_1_printed in omega (arith, long)

ratio_printed : printed (ratio_entry 2) ≡ ratio_creation.body
ratio_printed = rw (decimal_digit 0 (omega arith)) refl

pub ratio_fits : size_in [] + size_of (ratio_entry 2) ≤ most_bytes
ratio_fits = let long = ap length ratio_printed in omega (arith, long)
