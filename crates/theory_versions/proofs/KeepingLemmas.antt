-- A keeper after an append.
use Rattle.std.proofs.Common.{◌≡◌, ◌⊎◌, List, [], ◌∷◌, ◌++◌, map, Option, None, Some, option_map, Result, Ok, Err, sym, ap, subst, ◌∙◌, ⊎_elim}
use Rattle.std.proofs.lemmas.List.{map-append}
use Rattle.theory_session.specs.Accepted.{IsNext}
use Rattle.theory_session.specs.Row as plain
use Rattle.theory_session.specs.Row.{Entry, rows_of}
use Rattle.theory_edge.specs.declared.files.EndFault.{EndFault}
use Rattle.theory_edge.specs.declared.row.Row.{Row}
use Rattle.theory_edge.specs.Keepers.{KeeperTold, IsAppend, LateAfter}
use Rattle.theory_edge.specs.Rows.{with_row}
use Rattle.theory_versions.specs.Entries.{row_of}
use Rattle.theory_versions.specs.Ledger.{TellsRows, TellsLate, IsKeeping}

-- rows that are told, with one more
more_rows : (told : Option (List Row)) (row : Row) (es : List Entry) (e : Entry) → row_of row ≡ e.row → TellsRows told es
    → TellsRows (option_map (λ rows. with_row rows row) told) (es ++ e ∷ [])
more_rows None row es e same tells = tt
more_rows (Some rows) row es e same tells =
    map-append row_of rows (row ∷ []) ∙ ap (λ (xs : List plain.Row). xs ++ row_of row ∷ []) tells
    ∙ ap (λ (r : plain.Row). rows_of es ++ r ∷ []) same ∙ sym (map-append (λ (x : Entry). x.row) es (e ∷ []))

-- after an append that answered Ok there is no late row
late_gone : (x : Unit {0}) (old new : Option (Option Row)) (row : Row) (es : List Entry) → LateAfter {T = Unit {0}} old new row (Ok x) → TellsLate new es
late_gone x None new row es h = subst (λ l. TellsLate l es) (sym h) tt
late_gone x (Some late) new row es h = subst (λ l. TellsLate l es) (sym h) tt

-- after one that failed it is none, the one before or the one that was appended
late_left : (f : EndFault) (old new : Option (Option Row)) (row : Row) (es : List Entry) (e : Entry) → IsNext es e → e.row ≡ row_of row
    → LateAfter {T = Unit {0}} old new row (Err f) → TellsLate old es → TellsLate new es
late_left f None new row es e next same h tells = subst (λ l. TellsLate l es) (sym h) tt
late_left f (Some late) new row es e next same h tells =
    ⊎_elim (λ none. subst (λ l. TellsLate l es) (sym none) tt)
    (λ rest. ⊎_elim (λ before. subst (λ l. TellsLate l es) (sym before) tells) (λ this. subst (λ l. TellsLate l es) (sym this) (e, next, same)) rest) h

pub keeping_failed : (f : EndFault) (old new : KeeperTold) (row : Row) (es : List Entry) (e : Entry) → IsNext es e → e.row ≡ row_of row
    → IsAppend {T = Unit {0}} row old new (Err f) → IsKeeping old es → IsKeeping new es
keeping_failed f old new row es e next same a k =
    record {
      opened = a.opened ∙ k.opened;
      rows = subst (λ r. TellsRows r es) (sym a.rows) k.rows;
      late = late_left f old.late new.late row es e next same a.late k.late;
    }

pub keeping_more : (x : Unit {0}) (old new : KeeperTold) (row : Row) (es : List Entry) (e : Entry) → e.row ≡ row_of row
    → IsAppend {T = Unit {0}} row old new (Ok x) → IsKeeping old es → IsKeeping new (es ++ e ∷ [])
keeping_more x old new row es e same a k =
    record {
      opened = a.opened ∙ k.opened;
      rows = subst (λ r. TellsRows r (es ++ e ∷ [])) (sym a.rows) (more_rows old.rows row es e (sym same) k.rows);
      late = late_gone x old.late new.late row (es ++ e ∷ []) a.late;
    }
