use Rattle.std.proofs.Common.{◌≡◌, ◌++◌, drop, map}
use Rattle.std.specs.Map.{keys_of}
use Rattle.theory_session.specs.Lookup.{listed_in, last_version}
use Rattle.theory_versions.specs.Book.{entries_in}
use Rattle.theory_versions.specs.Index.{places_of}
use Rattle.theory_versions.specs.Replies.{last_of}
use Rattle.theory_versions.proofs.book.Book.list.Given as goal

-- those listed so far, and those of the numbers that are left
abbrev pub invariant-loop-number : goal.invariant-loop-number
invariant-loop-number l =
    let es = entries_in l.fn.self in
    map last_of l.all ++ map (λ model. (model, last_version model es)) (drop l.number (keys_of (places_of l.fn.self.index.entries))) ≡ listed_in es
