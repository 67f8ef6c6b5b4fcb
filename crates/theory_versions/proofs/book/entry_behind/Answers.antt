use Rattle.std.proofs.Common.{◌≡◌, option_map, sym, ap, ◌∙◌}
use Rattle.std.proofs.lemmas.Option.{slice_get-map}
use Rattle.theory_versions.specs.Book.{at_place}
use Rattle.theory_versions.specs.Entries.{entry_of, entries_of}
use Rattle.theory_versions.proofs.PlaceLemmas.{lent_entry}
use Rattle.theory_versions.proofs.book.entry_behind.Goals as goal

pub returns-in-Some : goal.returns-in-Some
returns-in-Some c =
    lent_entry c.entry_at.result ∙ ap (option_map entry_of) c.entry_at.ensures ∙ sym (slice_get-map entry_of c.args.entries.now c.in-Some.place)
    ∙ ap (at_place (entries_of c.args.entries.now)) c.in-Some.ensures

pub returns-in-None : goal.returns-in-None
returns-in-None c = ap (at_place (entries_of c.args.entries.now)) c.in-None.ensures
