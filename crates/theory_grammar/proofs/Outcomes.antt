-- Lines and edits have one outcome, and so have the texts of them.
use Rattle.std.proofs.Common.{◌⊎◌, inl, inr, ℕ, List, []}
use Rattle.theory_meaning.specs.Tree.{Line}
use Rattle.theory_meaning.specs.Text.{Op}
use Rattle.theory_grammar.specs.declared.words.LineFaultKind.{LineFaultKind}
use Rattle.theory_grammar.specs.Token.{Token}
use Rattle.theory_grammar.specs.Spelled.{every, IsLine, IsOp}
use Rattle.theory_grammar.specs.LineFault.{Grammar, FirstFault}
use Rattle.theory_grammar.proofs.FaultLaws.{unambiguous, spells_or_fails, never_both, one_fault}
use Rattle.theory_grammar.proofs.LineLaws.{line_laws}
use Rattle.theory_grammar.proofs.OpLaws.{op_laws}
use Rattle.theory_grammar.proofs.LineOutcomes.{SomeFault, HasOneOutcome}

some_fault : {T : Type 0} (Spells : Grammar T) (ts : List Token) →
    ((x : T) × Spells every ts x) ⊎ ((kind : LineFaultKind) × (place : ℕ) × FirstFault Spells ts kind place) →
    ((x : T) × Spells every ts x) ⊎ SomeFault Spells ts
some_fault Spells ts (inl h) = inl h
some_fault Spells ts (inr h) = inr (record { kind = h.0; place = h.1; fault = h.2 })

no_line : (x : Line) → IsLine every [] x → ⊥
no_line x h = elim h [ ]

no_op : (x : Op) → IsOp every [] x → ⊥
no_op x h = elim h [ ]

pub lines_have_one_outcome : HasOneOutcome IsLine
lines_have_one_outcome = record {
  one_tree = λ ts x y h k. unambiguous line_laws ts x y h k;
  one_fault = λ ts j k m n f g. one_fault line_laws ts j k m n f g;
  not_both = λ ts x k n h f. never_both line_laws ts x k n h f;
  some = λ ts. some_fault IsLine ts (spells_or_fails line_laws ts);
  no_empty = no_line;
}

pub ops_have_one_outcome : HasOneOutcome IsOp
ops_have_one_outcome = record {
  one_tree = λ ts x y h k. unambiguous op_laws ts x y h k;
  one_fault = λ ts j k m n f g. one_fault op_laws ts j k m n f g;
  not_both = λ ts x k n h f. never_both op_laws ts x k n h f;
  some = λ ts. some_fault IsOp ts (spells_or_fails op_laws ts);
  no_empty = no_op;
}
