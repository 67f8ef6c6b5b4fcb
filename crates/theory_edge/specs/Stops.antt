-- What a stop of the machine may leave of a keeper's rows.
-- Source: the crash clauses of the kit's journal example; the late row is this project's own.
use Rattle.std.specs.Prelude.{◌≡◌, ◌⊎◌, ℕ, ◌≤◌, List, Option, None, Some}
use Rattle.theory_edge.specs.declared.opened.Opened.{Opened}
use Rattle.theory_edge.specs.declared.opened.Opened.TheVariants.{Never, Now, Before}
use Rattle.theory_edge.specs.declared.row.Row.{Row}
use Rattle.theory_edge.specs.Rows.{with_row}
use Rattle.theory_edge.specs.Keepers.{KeeperTold}

-- a clock, whose number doesn't fall, and the rows that a stop at some moment since a moment may leave
pub record Stops : Type 1 where
  pub clock : ℕ
  pub left_since : ℕ → List Row → Type 0

-- nothing is told of stops
abbrev pub untold : Stops
untold = record { clock = 0; left_since = λ _ _. Unit {0} }

-- time goes on in a call: a stop since its start leaves what the call may leave,
-- and one since an earlier moment leaves that, or what it might have left before the call
pub record Goes (old new : Stops) (MayLeave : List Row → Type 0) : Type 0 where
  pub later : old.clock ≤ new.clock
  pub call : (rows : List Row) → new.left_since old.clock rows → MayLeave rows
  pub before : (t : ℕ) (rows : List Row) → t ≤ old.clock → new.left_since t rows → old.left_since t rows ⊎ MayLeave rows

-- what a stop now may leave
abbrev pub LeftNow : Stops → List Row → Type 0
LeftNow stops = stops.left_since stops.clock

-- the rows, or these with the late one behind them; where they aren't told, any
abbrev pub IsRest : Option (List Row) → Option (Option Row) → List Row → Type 0
IsRest (Some told) (Some None) rows = rows ≡ told
IsRest (Some told) (Some (Some late)) rows = (rows ≡ told) ⊎ (rows ≡ with_row told late)
IsRest _ _ rows = Unit {0}

-- the same of a keeper
abbrev pub IsRestOf : KeeperTold → List Row → Type 0
IsRestOf told = IsRest told.rows told.late

-- what may be left where an append of this row is cut short: as before it, or the rows with this one behind them
abbrev pub IsCut : Option (List Row) → Option (Option Row) → Row → List Row → Type 0
IsCut (Some told) (Some late) row rows = IsRest (Some told) (Some late) rows ⊎ (rows ≡ with_row told row)
IsCut _ _ row rows = Unit {0}

-- the same of a keeper
abbrev pub IsCutAppend : KeeperTold → Row → List Row → Type 0
IsCutAppend told = IsCut told.rows told.late

-- some opening has answered Ok
abbrev pub WasOpened : Opened → Type 0
WasOpened Never = ⊥
WasOpened Now = Unit {0}
WasOpened Before = Unit {0}

-- from the first opening that answered Ok on, a stop now leaves the rows, or these with the late one
abbrev pub Rests : KeeperTold → Stops → Type 0
Rests told stops = WasOpened told.opened → (rows : List Row) → LeftNow stops rows → IsRestOf told rows
