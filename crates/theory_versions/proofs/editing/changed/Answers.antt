use Rattle.std.proofs.Common.{rules}
use Rattle.theory_syntax.specs.Plain.{lines_of, ops_of}
use Rattle.theory_versions.proofs.EditLemmas.{refused_edit}
use Rattle.theory_versions.proofs.editing.changed.Goals as goal

pub returns : goal.returns
returns c =
    refused_edit (lines_of c.args.model.now) c.args.body.now (ops_of c.in-Ok.ops.items) c.in-Err-apply.fault c.edit_refusal.result
    c.has_few_lines.ensures (search rules) (search rules) c.edit_refusal.ensures
