-- What is known of a keeper in memory, whose faults and wants of memory are planned by the number of a call.
use Rattle.std.specs.Prelude.{ℕ, List, Contains, None, Some, Result, Ok, Err}
use Rattle.theory_meaning.specs.Faults.{one_more}
use Rattle.theory_edge.specs.declared.files.EndFault.{EndFault}
use Rattle.theory_edge.specs.declared.files.EndFault.TheVariants.{Failed, NoMemory}
use Rattle.theory_edge.specs.declared.opened.Opened.{Opened}
use Rattle.theory_edge.specs.declared.opened.Opened.TheVariants.{Never}
use Rattle.theory_edge.specs.declared.row.Row.{Row}
use Rattle.theory_edge.specs.Rows.{kept_after}
use Rattle.theory_edge.specs.Files.{faults_after}
use Rattle.theory_edge.specs.Keepers.{Place, PlaceAsking, KeeperTold, opened_after, appended_after}

-- rows, which calls fail and which want memory, how many calls, faults and appends there were, and what was last asked for
pub record MemKeeperState : Type 0 where
  pub rows : List Row
  pub fails : List ℕ
  pub wants : List ℕ
  pub calls : ℕ
  pub faults : ℕ
  pub appended : ℕ
  pub opened : Opened
  pub asked : PlaceAsking

-- a keeper of these rows that no one has opened
abbrev pub unopened : List Row → List ℕ → List ℕ → MemKeeperState
unopened rows fails wants =
    record {
      rows = rows;
      fails = fails;
      wants = wants;
      calls = 0;
      faults = 0;
      appended = 0;
      opened = Never;
      asked = None;
    }

-- its rows are told, and no late row
abbrev pub mem_keeper_told : MemKeeperState → KeeperTold
mem_keeper_told k =
    record {
      rows = Some k.rows;
      late = None;
      appended = k.appended;
      opened = k.opened;
      asked = k.asked;
      faults = k.faults;
    }

-- the next call is one of these numbers
abbrev pub IsNextIn : List ℕ → MemKeeperState → Type 0
IsNextIn numbers k = Contains numbers (one_more k.calls)

-- Failed exactly at the calls that are to fail; at one that is to want memory and not to fail, NoMemory
abbrev pub IsPlanned : {T : Type 0} → MemKeeperState → Result T EndFault → Type 0
IsPlanned k (Ok _) = (¬ IsNextIn k.fails k) × (¬ IsNextIn k.wants k)
IsPlanned k (Err Failed) = IsNextIn k.fails k
IsPlanned k (Err NoMemory) = ¬ IsNextIn k.fails k

-- the keeper after a call with this answer, but for what the call itself does
abbrev pub counted : {T : Type 0} → MemKeeperState → Result T EndFault → MemKeeperState
counted k result = record k { calls = one_more k.calls; faults = faults_after k.faults result }

-- the keeper after an opening of this place with this answer
abbrev pub after_open : {T : Type 0} → MemKeeperState → Place → Result T EndFault → MemKeeperState
after_open k place result =
    record (counted k result) { opened = opened_after k.opened result; asked = Some (place, k.faults) }

-- the keeper after an append of this row with this answer
abbrev pub after_append : {T : Type 0} → MemKeeperState → Row → Result T EndFault → MemKeeperState
after_append k row result =
    record (counted k result) {
      rows = kept_after k.rows row result;
      appended = appended_after k.appended result;
    }
