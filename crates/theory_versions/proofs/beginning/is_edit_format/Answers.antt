use Rattle.std.proofs.Common.{◌≡◌, ◌↔◌, List, IsTrue, false, subst, ⊎_elim}
use Rattle.std.specs.List.{AllByRecursion}
use Rattle.theory_grammar.specs.RoundTrip.{NothingDividesInEdit}
use Rattle.theory_syntax.specs.Plain.{ops_of}
use Rattle.theory_syntax.specs.declared.text.Op.{Op}
use Rattle.theory_text.specs.Answers.{fault_of}
use Rattle.theory_versions.proofs.RowLemmas.{ops_undivided, ops_faulty}
use Rattle.theory_versions.proofs.beginning.is_edit_format.Goals as goal

pub returns-in-Ok : goal.returns-in-Ok
returns-in-Ok c =
    ops_undivided c.args.format c.args.body.now (ops_of c.in-Ok.ops.items) c.nothing_divides_in.result c.if-format-ne1.false c.in-Ok.ensures.exact
    (subst (λ (os : List Op). IsTrue c.nothing_divides_in.result ↔ AllByRecursion NothingDividesInEdit (ops_of os)) c.as_slice.ensures.value
    c.nothing_divides_in.ensures)

pub returns-in_default : goal.returns-in_default
returns-in_default c =
    ⊎_elim (λ memory. absurd (c.in_default.not-Memory memory))
    (λ fails. ops_faulty c.args.format c.args.body.now (fault_of c.in-Err.error) false fails) c.in-Err.ensures.exact
