use Rattle.std.proofs.Common.{◌≡◌, ℕ, None, List, [], ◌∷◌, ◌++◌, length, sym, ap, subst, ◌∙◌}
use Rattle.std.specs.Map.{lookup}
use Rattle.std.specs.Str.{bytes_eq}
use Rattle.std.proofs.lemmas.List.{map-append, length-map}
use Rattle.theory_session.specs.Row as plain
use Rattle.theory_versions.specs.declared.entry.Entry.{Entry}
use Rattle.theory_versions.specs.Book.{IsBook, entries_in}
use Rattle.theory_versions.specs.Entries.{entry_of, entries_of}
use Rattle.theory_versions.specs.Index.{Places, places_of, Requests, requests_of, request_key, with_place, IsSeatIn}
use Rattle.theory_versions.proofs.BookLemmas.{book_more, next_request}
use Rattle.theory_versions.proofs.RequestLemmas.{not_held}
use Rattle.theory_versions.proofs.book.Book.add.Goals as goal

pub returns-clause-book : goal.returns-clause-book
returns-clause-book c =
    let es = entries_in c.args.self.now in
    let held = places_of c.args.self.now.index.entries in
    let asked = requests_of c.args.self.now.requests.entries in
    let model = c.args.entry.row.model in
    let key : c.args.room.key.items ≡ request_key model c.args.entry.row.id = c.requires.room.key in
    let slice_is : length c.as_slice-place.result.now ≡ length c.args.self.now.entries.items =
    ap (λ (xs : List Entry). length xs) c.as_slice-place.ensures.value in
    let place_is : length c.as_slice-place.result.now ≡ length es = slice_is ∙ sym (length-map c.args.self.now.entries.items entry_of) in
    let seat : IsSeatIn held model (length c.as_slice-place.result.now) c.args.room.seat =
    subst (λ (n : ℕ). IsSeatIn held model n c.args.room.seat) (sym slice_is) c.requires.room.seat in
    let put : places_of c.put_place.new.index.entries ≡ with_place model (length es) held =
    c.put_place.ensures model seat ∙ ap (λ (n : ℕ). with_place model n held) place_is in
    let request = next_request es (entry_of c.args.entry) c.requires.next in
    let free : lookup (bytes_eq c.args.room.key.items) asked ≡ None =
    ap (λ (k : List ℕ). lookup (bytes_eq k) asked) key
    ∙ not_held asked es model c.args.entry.row.id c.requires.book.requests request.id request.new in
    let noted : requests_of c.add_request.new.requests.entries ≡ asked ++ (request_key model c.args.entry.row.id, length es) ∷ [] =
    c.add_request.ensures free ∙ ap (λ (k : List ℕ). asked ++ (k, length c.as_slice-place.result.now) ∷ []) key
    ∙ ap (λ (n : ℕ). asked ++ (request_key model c.args.entry.row.id, n) ∷ []) place_is in
    let added : entries_of c.add_entry.new.entries.items ≡ es ++ entry_of c.args.entry ∷ [] =
    ap entries_of c.add_entry.ensures ∙ map-append entry_of c.args.self.now.entries.items (c.args.entry ∷ []) in
    subst (λ (xs : List plain.Entry). IsBook xs (places_of c.put_place.new.index.entries) (requests_of c.add_request.new.requests.entries) c.args.size) (sym added)
    (subst (λ (ps : Places). IsBook (es ++ entry_of c.args.entry ∷ []) ps (requests_of c.add_request.new.requests.entries) c.args.size) (sym put)
    (subst (λ (rs : Requests). IsBook (es ++ entry_of c.args.entry ∷ []) (with_place model (length es) held) rs c.args.size) (sym noted)
    (book_more es held asked c.args.self.now.size c.args.size c.args.entry c.args.room.seat c.requires.book c.requires.next c.requires.addition
    (subst (λ (n : ℕ). IsSeatIn held model n c.args.room.seat) place_is seat))))
