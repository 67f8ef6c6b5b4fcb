use Rattle.std.proofs.Common.{◌≡◌, ◌-◌, ℕ, List, slice_get, sym, ap, ◌∙◌}
use Rattle.theory_session.specs.Lookup.{versions_of}
use Rattle.theory_versions.specs.declared.entry.Entry.{Entry}
use Rattle.theory_versions.specs.Book.{entries_in, at_place}
use Rattle.theory_versions.specs.Entries.{entries_of}
use Rattle.theory_versions.specs.Index.{places_of}
use Rattle.theory_versions.proofs.PlaceLemmas.{version_placed, no_places, at_some_number}
use Rattle.theory_versions.proofs.book.Book.version.Goals as goal

pub returns-in-Some : goal.returns-in-Some
returns-in-Some c =
    c.entry_behind.ensures
    ∙ ap (λ (xs : List Entry). at_place (entries_of xs) (slice_get c.in-Some.places.now (c.args.version - 1))) c.as_slice.ensures.value
    ∙ version_placed (places_of c.args.self.now.index.entries) (entries_in c.args.self.now) c.args.model.now c.in-Some.places.now (c.args.version - 1)
    c.requires.book.index c.in-Some.ensures
    ∙ sym (at_some_number c.args.version (versions_of c.args.model.now (entries_in c.args.self.now)) c.if-version-eq0.false)

pub returns-in-None : goal.returns-in-None
returns-in-None c =
    sym (ap (λ vs. slice_get vs (c.args.version - 1)) (no_places (places_of c.args.self.now.index.entries) (entries_in c.args.self.now) c.args.model.now c.requires.book.index c.in-None.ensures))
    ∙ sym (at_some_number c.args.version (versions_of c.args.model.now (entries_in c.args.self.now)) c.if-version-eq0.false)
