use Rattle.std.proofs.Common.{◌≡◌, ℕ, List, slice_get, option_map, sym, ap, ◌∙◌}
use Rattle.std.specs.Map.{lookup}
use Rattle.std.specs.Str.{bytes_eq}
use Rattle.std.proofs.lemmas.Option.{slice_get-map}
use Rattle.theory_session.specs.Row as plain
use Rattle.theory_versions.specs.declared.entry.Entry.{Entry}
use Rattle.theory_versions.specs.Book.{entries_in, at_place}
use Rattle.theory_versions.specs.Entries.{entry_of, entries_of}
use Rattle.theory_versions.specs.Index.{requests_of}
use Rattle.theory_versions.proofs.PlaceLemmas.{lent_entry}
use Rattle.theory_versions.proofs.RequestLemmas.{request_place}
use Rattle.theory_versions.proofs.book.Book.with_id.Goals as goal

pub returns-in-Some : goal.returns-in-Some
returns-in-Some c =
    let es = entries_in c.args.self.now in
    let asked = requests_of c.args.self.now.requests.entries in
    lent_entry c.entry_at.result ∙ ap (option_map entry_of) c.entry_at.ensures
    ∙ ap (λ (xs : List Entry). option_map entry_of (slice_get xs c.in-Some.place)) c.as_slice-in-Some.ensures.value
    ∙ sym (slice_get-map entry_of c.args.self.now.entries.items c.in-Some.place)
    ∙ ap (at_place es) (c.in-Some.ensures ∙ ap (λ (k : List ℕ). lookup (bytes_eq k) asked) (c.as_slice.ensures.value ∙ c.in_ok-key.ensures)
    ∙ c.requires.book.requests c.args.model.now c.args.id.now c.requires.id)
    ∙ request_place es c.args.model.now c.args.id.now

pub returns : goal.returns
returns c =
    let es = entries_in c.args.self.now in
    let asked = requests_of c.args.self.now.requests.entries in
    ap (at_place es) (c.in-None.ensures ∙ ap (λ (k : List ℕ). lookup (bytes_eq k) asked) (c.as_slice.ensures.value ∙ c.in_ok-key.ensures)
    ∙ c.requires.book.requests c.args.model.now c.args.id.now c.requires.id)
    ∙ request_place es c.args.model.now c.args.id.now
