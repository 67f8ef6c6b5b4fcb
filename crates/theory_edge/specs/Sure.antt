-- What is known of files that never fail, of a sink that takes everything, and of a keeper that never fails.
use Rattle.std.specs.Prelude.{ℕ, List, [], None, Some, Result}
use Rattle.theory_meaning.specs.Faults.{one_more}
use Rattle.theory_edge.specs.declared.files.EndFault.{EndFault}
use Rattle.theory_edge.specs.declared.opened.Opened.{Opened}
use Rattle.theory_edge.specs.declared.opened.Opened.TheVariants.{Never, Now}
use Rattle.theory_edge.specs.declared.row.Row.{Row}
use Rattle.theory_edge.specs.Files.{Asking, Texts, FilesTold}
use Rattle.theory_edge.specs.Keepers.{Place, PlaceAsking, KeeperTold, appended_after}
use Rattle.theory_edge.specs.Rows.{kept_after}
use Rattle.theory_edge.specs.Sinks.{SinkTold}

-- the text under every name, how many reads were made, and what was last asked for
pub record SureState : Type 0 where
  pub text : List ℕ
  pub reads : ℕ
  pub asked : Asking

-- the one text, under every name
abbrev pub sure_texts : SureState → Texts
sure_texts files = Some (λ _. Some files.text)

-- what such files tell
abbrev pub sure_told : SureState → FilesTold
sure_told files = record { texts = sure_texts files; reads = files.reads; asked = files.asked; faults = 0 }

-- the files after a read of this name
abbrev pub after_sure_read : SureState → List ℕ → SureState
after_sure_read files name = record files { reads = one_more files.reads; asked = Some (name, 0) }

-- nothing that was taken is told, and no write failed
abbrev pub sure_sink : SinkTold
sure_sink = record { held = None; faults = 0 }

-- rows, how many appends there were, whether the keeper is opened, and what was last asked for
pub record SureKeeperState : Type 0 where
  pub rows : List Row
  pub appended : ℕ
  pub opened : Opened
  pub asked : PlaceAsking

-- a keeper without rows that no one has opened
abbrev pub sure_unopened : SureKeeperState
sure_unopened = record { rows = []; appended = 0; opened = Never; asked = None }

-- its rows are told, and no late row
abbrev pub sure_keeper_told : SureKeeperState → KeeperTold
sure_keeper_told k =
    record { rows = Some k.rows; late = None; appended = k.appended; opened = k.opened; asked = k.asked; faults = 0 }

-- the keeper after an opening of this place
abbrev pub after_sure_open : SureKeeperState → Place → SureKeeperState
after_sure_open k place = record k { opened = Now; asked = Some (place, 0) }

-- the keeper after an append of this row with this answer
abbrev pub after_sure_append : {T : Type 0} → SureKeeperState → Row → Result T EndFault → SureKeeperState
after_sure_append k row result =
    record k { rows = kept_after k.rows row result; appended = appended_after k.appended result }
