-- Model texts and edit texts that are read by computing.
use Rattle.std.proofs.Common.{◌≡◌, ℕ, true, List, Option, Some}
use Rattle.theory_meaning.specs.Text.{Numbered, Op}
use Rattle.theory_grammar.specs.Machine.{start, step, ended}
use Rattle.theory_grammar.specs.TextFault.{cut_lines}
use Rattle.theory_grammar.specs.Texts.{SpellsLines, SpellsOps, with_number, without_number}
use Rattle.theory_grammar.proofs.LineLaws.{line_laws}
use Rattle.theory_grammar.proofs.OpLaws.{op_laws}
use Rattle.theory_grammar.proofs.OpMachine.{op_start, op_step, op_ended}
use Rattle.theory_session.proofs.Scanning.{lines_from, is_plain, text_is_spelled}

-- the lines that a model text comes to
abbrev pub model_lines : List ℕ → Option (List Numbered)
model_lines bytes = lines_from start step ended with_number 1 (cut_lines bytes)

-- the operations that an edit text comes to
abbrev pub edit_ops : List ℕ → Option (List Op)
edit_ops bytes = lines_from op_start op_step op_ended without_number 1 (cut_lines bytes)

pub lines_are : (bytes : List ℕ) (lines : List Numbered) → is_plain bytes ≡ true → model_lines bytes ≡ Some lines → SpellsLines bytes lines
lines_are bytes lines plain h = text_is_spelled start step ended with_number line_laws bytes lines plain h

pub ops_are : (bytes : List ℕ) (ops : List Op) → is_plain bytes ≡ true → edit_ops bytes ≡ Some ops → SpellsOps bytes ops
ops_are bytes ops plain h = text_is_spelled op_start op_step op_ended without_number op_laws bytes ops plain h
