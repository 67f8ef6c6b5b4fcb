use Rattle.std.proofs.Common.{◌≡◌, Err, subst}
use Rattle.theory_versions.specs.declared.beginning.Unaccepted.{Unaccepted}
use Rattle.theory_versions.specs.Beginning.{Takes}
use Rattle.theory_versions.specs.Book.{entries_in}
use Rattle.theory_versions.specs.Entries.{row_of}
use Rattle.theory_versions.proofs.BeginLemmas.{first_bad, row_at}
use Rattle.theory_versions.proofs.beginning.book_of.Goals as goal

pub returns-in-Err-Bad-clause-begun : goal.returns-in-Err-Bad-clause-begun
returns-in-Err-Bad-clause-begun c =
    first_bad c.args.rows.now (entries_in c.loop-k.book) c.loop-k.k c.index-rows-k.result c.loop-k.invariant.book.accepted c.loop-k.invariant.count
    c.loop-k.invariant.rows (row_at c.args.rows.now c.loop-k.k c.index-rows-k.result c.loop-k-test.true c.index-rows-k.is)
    (subst (λ (w : Unaccepted). Takes (entries_in c.loop-k.book) (row_of c.index-rows-k.result) (Err w) (entries_in c.take.new.self))
    c.in-Err-Bad.field-0-is c.in-Err-Bad.ensures.taken)
