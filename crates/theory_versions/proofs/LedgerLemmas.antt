-- A ledger after an append, and one that begins.
use Rattle.std.proofs.Common.{◌≡◌, ℕ, List, [], ◌∷◌, ◌++◌, map, sym, ap, subst, ◌∙◌, refl, Result, Ok, Err}
use Rattle.std.proofs.lemmas.List.{map-append}
use Rattle.theory_session.specs.Accepted.{IsNext}
use Rattle.theory_session.specs.Row.{Entry}
use Rattle.theory_edge.specs.declared.files.EndFault.{EndFault}
use Rattle.theory_edge.specs.declared.row.Row.{Row}
use Rattle.theory_edge.specs.Keepers.{KeeperTold, IsAppend}
use Rattle.theory_versions.specs.declared.entry.Entry as source
use Rattle.theory_versions.specs.Book.{IsBook}
use Rattle.theory_versions.specs.Entries.{row_of, entry_of, entries_of}
use Rattle.theory_versions.specs.Index.{Places, Requests}
use Rattle.theory_versions.specs.Ledger.{LedgerState, IsKeeping, IsLedger}
use Rattle.theory_versions.proofs.KeepingLemmas.{keeping_failed, keeping_more}

-- where an append failed
pub ledger_failed : (f : EndFault) (es es' : List Entry) (held : Places) (asked : Requests) (size : ℕ) (old new : KeeperTold) (e : source.Entry)
    → es' ≡ es → IsBook es' held asked size → IsKeeping old es → IsNext es (entry_of e) → IsAppend {T = Unit {0}} e.row old new (Err f)
    → IsLedger es' held asked size new
ledger_failed f es es' held asked size old new e same book keeping next append =
    record {
      book = book;
      keeping = subst (IsKeeping new) (sym same) (keeping_failed f old new e.row es (entry_of e) next refl append keeping);
    }

-- the versions with one more
pub entries_more : (xs ys : List source.Entry) (e : source.Entry) (es : List Entry) → ys ≡ xs ++ e ∷ [] → entries_of xs ≡ es
    → entries_of ys ≡ es ++ entry_of e ∷ []
entries_more xs ys e es is same =
    ap entries_of is ∙ map-append entry_of xs (e ∷ []) ∙ ap (λ (zs : List Entry). zs ++ entry_of e ∷ []) same

-- where it answered Ok
pub keeping_added : (x : Unit {0}) (es es' : List Entry) (old new : KeeperTold) (e : source.Entry) → es' ≡ es ++ entry_of e ∷ [] → IsKeeping old es
    → IsAppend {T = Unit {0}} e.row old new (Ok x) → IsKeeping new es'
keeping_added x es es' old new e same keeping append =
    subst (IsKeeping new) (sym same) (keeping_more x old new e.row es (entry_of e) refl append keeping)

-- what is accepted next behind the versions of equal ledgers
pub next_inside : {K : Type 0} (inside now : LedgerState K) (e : Entry) → inside ≡ now → IsNext (entries_of now.entries) e → IsNext (entries_of inside.entries) e
next_inside {K = K} inside now e same next = subst (λ (s : LedgerState K). IsNext (entries_of s.entries) e) (sym same) next
