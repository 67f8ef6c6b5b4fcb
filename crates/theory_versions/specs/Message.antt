-- What a refusal tells its reader.
use Rattle.std.specs.Prelude.{ℕ, List, codes}
use Rattle.theory_versions.specs.declared.beginning.BeginFault.{BeginFault}
use Rattle.theory_versions.specs.declared.beginning.BeginFault.TheVariants as begin
use Rattle.theory_versions.specs.declared.created.CreateFault.{CreateFault}
use Rattle.theory_versions.specs.declared.created.CreateFault.TheVariants as create
use Rattle.theory_versions.specs.declared.edited.EditRefusal.{EditRefusal}
use Rattle.theory_versions.specs.declared.edited.EditRefusal.TheVariants as edit
use Rattle.theory_versions.specs.declared.shown.ShowFault.{ShowFault}
use Rattle.theory_versions.specs.declared.shown.ShowFault.TheVariants as show

-- of a creation
abbrev pub create_message : CreateFault → List ℕ
create_message (create.Text e) = codes "the body spells no lines"
create_message (create.Model f) = codes "the lines are no model"
create_message (create.IdReused v) = codes "the id was used with another body"
create_message create.NameTaken = codes "the name is taken"
create_message create.ModelsFull = codes "there are 1,000 models"
create_message create.TextFull = codes "the texts would pass the limit"
create_message create.KeeperFault = codes "the keeper failed"
create_message create.Memory = codes "no memory"

-- of an edit
abbrev pub edit_message : EditRefusal → List ℕ
edit_message edit.UnknownModel = codes "there is no such model"
edit_message (edit.IdReused v) = codes "the id was used with another base or body"
edit_message (edit.Stale v) = codes "the base isn't the last version"
edit_message (edit.Text e) = codes "the body spells no operations"
edit_message (edit.Edit f) = codes "the operations leave no model"
edit_message edit.VersionsFull = codes "the model has 10,000 versions"
edit_message edit.TextFull = codes "the texts would pass the limit"
edit_message edit.KeeperFault = codes "the keeper failed"
edit_message edit.Memory = codes "no memory"

-- of a showing
abbrev pub show_message : ShowFault → List ℕ
show_message show.UnknownModel = codes "there is no such model"
show_message (show.UnknownVersion v) = codes "the model has no such version"
show_message show.Memory = codes "no memory"

-- of a beginning
abbrev pub begin_message : BeginFault → List ℕ
begin_message (begin.BadRow number) = codes "a stored row isn't accepted"
begin_message begin.KeeperFault = codes "the keeper failed"
begin_message begin.Memory = codes "no memory"
