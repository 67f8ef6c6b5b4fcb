-- A desk begins with one row after another.
use Rattle.std.proofs.Common.{◌≡◌, ◌≢◌, ℕ, zero, suc, ◌+◌, ◌≤◌, ◌<◌, List, [], ◌∷◌, ◌++◌, length, map, drop, slice_get, get_or, Option, None, Some, Result, Err, refl, sym, ap, ◌∙◌, arith, append-nil, append_assoc, length-append}
use Rattle.std.proofs.lemmas.List.{map-append}
use Rattle.theory_meaning.specs.Faults.{HasCause}
use Rattle.theory_session.specs.Accepted.{AreAccepted, IsNotNext, IsDeskOf, IsFirstBadRow}
use Rattle.theory_session.specs.Row as plain
use Rattle.theory_session.specs.Row.{Entry, rows_of}
use Rattle.theory_edge.specs.declared.row.Row.{Row}
use Rattle.theory_versions.specs.declared.beginning.BeginFault.{BeginFault}
use Rattle.theory_versions.specs.declared.beginning.BeginFault.TheVariants.{KeeperFault, Memory}
use Rattle.theory_versions.specs.declared.book.Book.{Book}
use Rattle.theory_versions.specs.Beginning.{Begins}
use Rattle.theory_versions.specs.Entries.{row_of}
use Rattle.theory_versions.proofs.PlaceLemmas.{drop_at}

-- the row at a place
pub row_at : (rows : List Row) (k : ℕ) (row : Row) → k < length rows → row ≡ get_or rows k row → Some row ≡ slice_get rows k
row_at [] k row lt h = absurd (omega (arith, lt))
row_at (r ∷ rows) zero row lt h = ap Some h
row_at (r ∷ rows) (suc k) row lt h = row_at rows k row (omega (arith, lt)) h

-- with the version of one row more
pub one_row : (rows : List Row) (es : List Entry) (k : ℕ) (row : Row) (e : Entry) → rows_of es ++ map row_of (drop k rows) ≡ map row_of rows
    → Some row ≡ slice_get rows k → e.row ≡ row_of row → rows_of (es ++ e ∷ []) ++ map row_of (drop (k + 1) rows) ≡ map row_of rows
one_row rows es k row e are at same =
    ap (λ (xs : List plain.Row). xs ++ map row_of (drop (k + 1) rows))
    (map-append (λ (x : Entry). x.row) es (e ∷ []) ∙ ap (λ (r : plain.Row). rows_of es ++ r ∷ []) same)
    ∙ append_assoc (rows_of es) (row_of row ∷ []) (map row_of (drop (k + 1) rows))
    ∙ ap (λ (xs : List Row). rows_of es ++ map row_of xs) (sym (drop_at rows k row at)) ∙ are

-- a row behind them that isn't accepted
pub first_bad : (rows : List Row) (es : List Entry) (k : ℕ) (row : Row) → AreAccepted es → length es ≡ k
    → rows_of es ++ map row_of (drop k rows) ≡ map row_of rows → Some row ≡ slice_get rows k → IsNotNext es (row_of row)
    → IsFirstBadRow (map row_of rows) (k + 1)
first_bad rows es k row accepted count are at bad =
    record {
      before = es;
      row = row_of row;
      behind = map row_of (drop (k + 1) rows);
      parts = sym are ∙ ap (λ (xs : List Row). rows_of es ++ map row_of xs) (drop_at rows k row at);
      counted = ap (λ (n : ℕ). n + 1) (sym count);
      accepted = accepted;
      bad = bad;
    }

drop_end : (xs : List Row) (k : ℕ) → length xs ≤ k → drop k xs ≡ []
drop_end [] zero le = refl
drop_end [] (suc k) le = refl
drop_end (x ∷ xs) zero le = absurd (omega (arith, le))
drop_end (x ∷ xs) (suc k) le = drop_end xs k (omega (arith, le))

-- behind the last row
pub all_rows : (rows : List Row) (es : List Entry) (k : ℕ) → AreAccepted es → rows_of es ++ map row_of (drop k rows) ≡ map row_of rows → length rows ≤ k
    → IsDeskOf (map row_of rows) es
all_rows rows es k accepted are le =
    record {
      rows_are = sym (ap (λ (xs : List Row). rows_of es ++ map row_of xs) (drop_end rows k le) ∙ append-nil (rows_of es)) ∙ are;
      accepted = accepted;
    }

pub one_longer : (es es' : List Entry) (e : Entry) (k : ℕ) → es' ≡ es ++ e ∷ [] → length es ≡ k → length es' ≡ k + 1
one_longer es es' e k is count = ap (λ (xs : List Entry). length xs) is ∙ length-append es (e ∷ []) ∙ ap (λ (n : ℕ). n + 1) count

-- where nothing begins the rows are those that are told
pub keeper_failed : (told : Option (List Row)) → Begins told (Err KeeperFault)
keeper_failed None = record { rows = []; are_rows = tt; begun = tt }
keeper_failed (Some rows) = record { rows = rows; are_rows = refl; begun = tt }

pub memory_wanting : (told : Option (List Row)) → Begins told (Err Memory)
memory_wanting None = record { rows = []; are_rows = tt; begun = tt }
memory_wanting (Some rows) = record { rows = rows; are_rows = refl; begun = tt }

-- what isn't the keeper's fault needs no cause
pub no_cause : (before now : ℕ) (fault : BeginFault) → before ≤ now → ◌≢◌ {A = Result Book BeginFault} (Err fault) (Err KeeperFault)
    → HasCause {T = List Entry} KeeperFault before now (Err fault)
no_cause before now fault later other =
    record { later = later; cause = λ h. let same : fault ≡ KeeperFault = cc in absurd (other (ap (λ (f : BeginFault). Err f) same)) }
