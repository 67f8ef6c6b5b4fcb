-- What a stop may leave, where a change asks the keeper for nothing and where it appends.
use Rattle.std.proofs.Common.{◌≡◌, ◌⊎◌, ℕ, suc, ◌+◌, ◌≤◌, List, [], ◌∷◌, ◌++◌, length, map, Option, None, Some, refl, sym, ap, subst, ◌∙◌, ⊎_elim, inl, inr, arith, length-append}
use Rattle.std.proofs.lemmas.List.{map-append}
use Rattle.theory_meaning.specs.Faults.{one_more}
use Rattle.theory_session.specs.Accepted.{IsNext}
use Rattle.theory_session.specs.Row as plain
use Rattle.theory_session.specs.Row.{Entry, rows_of}
use Rattle.theory_edge.specs.declared.opened.Opened.TheVariants.{Now}
use Rattle.theory_edge.specs.declared.row.Row.{Row}
use Rattle.theory_edge.specs.Keepers.{KeeperTold}
use Rattle.theory_edge.specs.Rows.{with_row}
use Rattle.theory_edge.specs.Stops.{Stops, Goes, LeftNow, IsRest, IsRestOf, IsCut, IsCutAppend, WasOpened}
use Rattle.theory_versions.specs.Entries.{row_of}
use Rattle.theory_versions.specs.Kept.{AppendsAs, IsStop, IsStopOf}
use Rattle.theory_versions.specs.Ledger.{TellsRows, TellsLate, IsKeeping}

-- rows that are those of the versions, with one row more
one_row_more : (told rows : List Row) (row : Row) (es : List Entry) (e : Entry) → map row_of told ≡ rows_of es → e.row ≡ row_of row
    → rows ≡ with_row told row → map row_of rows ≡ rows_of (es ++ e ∷ [])
one_row_more told rows row es e tells same h =
    ap (map row_of) h ∙ map-append row_of told (row ∷ []) ∙ ap (λ (xs : List plain.Row). xs ++ row_of row ∷ []) tells
    ∙ ap (λ (r : plain.Row). rows_of es ++ r ∷ []) (sym same) ∙ sym (map-append (λ (x : Entry). x.row) es (e ∷ []))

-- between calls
rest_stop : (told : Option (List Row)) (late : Option (Option Row)) (es : List Entry) (rows : List Row) → TellsRows told es → TellsLate late es
    → IsRest told late rows → IsStop told late es rows
rest_stop None late es rows tells next h = tt
rest_stop (Some told) None es rows tells next h = tt
rest_stop (Some told) (Some None) es rows tells next h = inl (ap (map row_of) h ∙ tells)
rest_stop (Some told) (Some (Some late)) es rows tells next h =
    ⊎_elim (λ same. inl (ap (map row_of) same ∙ tells))
    (λ more. inr (next.0, next.1, one_row_more told rows late es next.0 tells next.2 more)) h

-- during an append
append_stop : (told : Option (List Row)) (late : Option (Option Row)) (row : Row) (es : List Entry) (e : Entry) (rows : List Row) → TellsRows told es → TellsLate late es
    → IsNext es e → e.row ≡ row_of row → IsCut told late row rows → IsStop told late es rows
append_stop None late row es e rows tells next new same h = tt
append_stop (Some told) None row es e rows tells next new same h = tt
append_stop (Some told) (Some late) row es e rows tells next new same h =
    ⊎_elim (λ rest. rest_stop (Some told) (Some late) es rows tells next rest)
    (λ more. inr (e, new, one_row_more told rows row es e tells same more)) h

-- where nothing is asked of the keeper
pub stop_still : (told : KeeperTold) (stops : Stops) (es : List Entry) → IsKeeping told es
    → ((rows : List Row) → LeftNow stops rows → IsRestOf told rows) → Goes stops stops (IsStopOf told es)
stop_still told stops es is rests =
    record {
      later = omega arith;
      call = λ rows left. rest_stop told.rows told.late es rows is.rows is.late (rests rows left);
      before = λ t rows le left. inl left;
    }

-- where a row is appended
pub stop_append : (told : KeeperTold) (old new : Stops) (row : Row) (es : List Entry) (e : Entry) → IsKeeping told es → IsNext es e → e.row ≡ row_of row
    → Goes old new (IsCutAppend told row) → Goes old new (IsStopOf told es)
stop_append told old new row es e is next same goes =
    record {
      later = goes.later;
      call = λ rows left. stop rows (goes.call rows left);
      before = λ t rows le left. ⊎_elim inl (λ cut. inr (stop rows cut)) (goes.before t rows le left);
    }
  where
    stop : (rows : List Row) → IsCutAppend told row rows → IsStopOf told es rows
    stop rows cut = append_stop told.rows told.late row es e rows is.rows is.late next same cut

-- no version more, no append more
pub appends_still : (es : List Entry) (n : ℕ) → AppendsAs es es n n
appends_still es n = record { still = λ _. refl; one = λ h. absurd (omega (arith, h)) }

-- one more of both
pub appends_one : (es : List Entry) (e : Entry) (n : ℕ) → AppendsAs es (es ++ e ∷ []) n (one_more n)
appends_one es e n = record { still = λ h. absurd (omega (arith, length-append es (e ∷ []), h)); one = λ _. refl }

-- a keeper that is opened was opened
pub now_opened : (told : KeeperTold) → told.opened ≡ Now → WasOpened told.opened
now_opened told is = subst WasOpened (sym is) tt
