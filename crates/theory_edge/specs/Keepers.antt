-- What a keeper of rows tells, and what its calls do to that.
use Rattle.std.specs.Prelude.{◌≡◌, ◌⊎◌, ℕ, List, Option, None, Some, option_map, Result, Ok, Err}
use Rattle.theory_meaning.specs.Faults.{HasCause, one_more}
use Rattle.theory_edge.specs.declared.files.EndFault.{EndFault}
use Rattle.theory_edge.specs.declared.files.EndFault.TheVariants.{Failed, NoMemory}
use Rattle.theory_edge.specs.declared.opened.Opened.{Opened}
use Rattle.theory_edge.specs.declared.opened.Opened.TheVariants.{Never, Now, Before}
use Rattle.theory_edge.specs.declared.row.Row.{Row}
use Rattle.theory_edge.specs.Rows.{with_row}

-- a place, or none
abbrev pub Place : Type 0
Place = Option (List ℕ)

-- a place that was asked for, and the count of faults then
abbrev pub PlaceAsking : Type 0
PlaceAsking = Option (Place × ℕ)

-- what a keeper tells
pub record KeeperTold : Type 0 where
  -- the rows in their order, where they are told
  pub rows : Option (List Row)
  -- where that is told, a row which an append that failed may have left behind the rows
  pub late : Option (Option Row)
  -- how many appends answered Ok
  pub appended : ℕ
  pub opened : Opened
  -- what the last opening asked for
  pub asked : PlaceAsking
  -- how often a call failed
  pub faults : ℕ

-- whether a keeper is opened after an opening with this answer
abbrev pub opened_after : {T : Type 0} → Opened → Result T EndFault → Opened
opened_after _ (Ok _) = Now
opened_after Never (Err _) = Never
opened_after Now (Err _) = Before
opened_after Before (Err _) = Before

-- the place was asked for at this count of faults; after want of memory nothing is said of that
abbrev pub IsPlaceAsked : {T : Type 0} → Place → ℕ → PlaceAsking → Result T EndFault → Type 0
IsPlaceAsked place faults asked (Ok _) = asked ≡ Some (place, faults)
IsPlaceAsked place faults asked (Err Failed) = asked ≡ Some (place, faults)
IsPlaceAsked place faults asked (Err NoMemory) = Unit {0}

-- the rows stay in an opening, but one that succeeds may find the late row behind them
abbrev pub RowsFound : {T : Type 0} → Option (List Row) → Option (List Row) → Option (Option Row) → Result T EndFault → Type 0
RowsFound old new late (Err _) = new ≡ old
RowsFound old new None (Ok _) = new ≡ old
RowsFound old new (Some None) (Ok _) = new ≡ old
RowsFound old new (Some (Some late)) (Ok _) = (new ≡ old) ⊎ (new ≡ option_map (λ rows. with_row rows late) old)

-- the late row after an opening with this answer, where it is told
abbrev pub late_opened : {T : Type 0} → Option (Option Row) → Result T EndFault → Option (Option Row)
late_opened late (Ok _) = option_map (λ _. None) late
late_opened late (Err _) = late

-- an opening of this place
pub record IsOpening {T : Type 0} (place : Place) (old new : KeeperTold) (result : Result T EndFault) : Type 0 where
  pub opened : new.opened ≡ opened_after old.opened result
  pub rows : RowsFound old.rows new.rows old.late result
  pub late : new.late ≡ late_opened old.late result
  pub appended : new.appended ≡ old.appended
  pub asked : IsPlaceAsked place old.faults new.asked result
  pub cause : HasCause Failed old.faults new.faults result

-- where they are told, these are all the rows in their order
abbrev pub AreRows : Option (List Row) → List Row → Type 0
AreRows None rows = Unit {0}
AreRows (Some told) rows = rows ≡ told

-- all is as it was, but for the count of faults
pub record IsKept (old new : KeeperTold) : Type 0 where
  pub rows : new.rows ≡ old.rows
  pub late : new.late ≡ old.late
  pub appended : new.appended ≡ old.appended
  pub opened : new.opened ≡ old.opened
  pub asked : new.asked ≡ old.asked

-- the rows after an append with this answer, where they are told
abbrev pub rows_after : {T : Type 0} → Option (List Row) → Row → Result T EndFault → Option (List Row)
rows_after old row (Ok _) = option_map (λ rows. with_row rows row) old
rows_after old row (Err _) = old

-- the late row after an append with this answer, where it is told: none after Ok, else none, the one before or this row
abbrev pub LateAfter : {T : Type 0} → Option (Option Row) → Option (Option Row) → Row → Result T EndFault → Type 0
LateAfter None new row result = new ≡ None
LateAfter (Some late) new row (Ok _) = new ≡ Some None
LateAfter (Some late) new row (Err _) = (new ≡ Some None) ⊎ ((new ≡ Some late) ⊎ (new ≡ Some (Some row)))

-- how many appends answered Ok, after one with this answer
abbrev pub appended_after : {T : Type 0} → ℕ → Result T EndFault → ℕ
appended_after n (Ok _) = one_more n
appended_after n (Err _) = n

-- an append of this row
pub record IsAppend {T : Type 0} (row : Row) (old new : KeeperTold) (result : Result T EndFault) : Type 0 where
  pub rows : new.rows ≡ rows_after old.rows row result
  pub late : LateAfter old.late new.late row result
  pub appended : new.appended ≡ appended_after old.appended result
  pub opened : new.opened ≡ old.opened
  pub asked : new.asked ≡ old.asked
  pub cause : HasCause Failed old.faults new.faults result
