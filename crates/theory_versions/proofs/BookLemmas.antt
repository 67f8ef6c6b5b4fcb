-- A book with one version more.
use Rattle.std.proofs.Common.{◌≡◌, ◌≢◌, ◌⊎◌, inl, inr, ℕ, zero, suc, ◌+◌, ◌≤◌, ◌<◌, ◌==◌, Bool, true, false, cond, nat_le, nat_lt, List, [], ◌∷◌, ◌++◌, length, map, slice_get, Option, None, Some, Result, Ok, Err, refl, sym, ap, subst, ◌∙◌, arith, append-nil, length-append, true≢false}
use Rattle.std.specs.Map.{lookup, keys_of}
use Rattle.std.specs.Str.{bytes_eq}
use Rattle.std.proofs.lemmas.Bool.{eqb-true, leb-false}
use Rattle.std.proofs.lemmas.Slice.Eq.{bytes_eq-Decides}
use Rattle.theory_meaning.specs.Edit.{edited}
use Rattle.theory_meaning.specs.Edit as meaning
use Rattle.theory_meaning.specs.Point.{Name}
use Rattle.theory_meaning.specs.Text.{Numbered, Op}
use Rattle.theory_session.specs.Accepted.{IsNext, by_creation, by_edit, creation_of, edit_of, AreAccepted}
use Rattle.theory_session.specs.Create.{name_in, first_version}
use Rattle.theory_session.specs.Creation.{first_entry, judge_create}
use Rattle.theory_session.specs.Editing.{EditRequest, EditRefusal, versions_full, text_full, next_entry, judge_early, judge_next, judge_change, judge_late, last_lines, with_id}
use Rattle.theory_session.specs.Judged.{Judged, refusal, addition}
use Rattle.theory_session.specs.Lookup.{versions_of, last_version, version_at, models_in}
use Rattle.theory_session.specs.Reading.{spelled}
use Rattle.theory_session.specs.Row.{Row, Entry, IsRequestId}
use Rattle.theory_session.specs.Sizes.{size_of, size_in, most_versions, most_bytes}
use Rattle.theory_session.proofs.JudgedLaws.{CreateAdds, create_adds, EditAdds, change_adds, IsUndecided, undecided}
use Rattle.theory_session.proofs.LookupLaws.{versions_of-append}
use Rattle.theory_session.proofs.StepLaws.{accepted_more}
use Rattle.theory_edge.specs.Rows.{IsRowFit}
use Rattle.theory_versions.specs.declared.entry.Entry as source
use Rattle.theory_versions.specs.declared.rooms.Seat.{Seat}
use Rattle.theory_versions.specs.declared.rooms.Seat.TheVariants.{New, Behind}
use Rattle.theory_versions.specs.Book.{places_from, where_any, IsIndex, NamesFit, AreFew, IsBook, IsAddition}
use Rattle.theory_versions.specs.Entries.{entry_of}
use Rattle.theory_versions.specs.Index.{Places, Requests, request_key, number_of, with_place, IsSeatIn}
use Rattle.theory_versions.proofs.IndexLemmas.{more_of, lookup-with_place, keys-with_place-new, keys-with_place-there, not_numbered, numbered_found}
use Rattle.theory_versions.proofs.RequestLemmas.{requests_more}
use Rattle.theory_versions.proofs.PlaceLemmas.{no_places, none_there, places_from-more, size_in-more, models_in-more}

-- the next version is the first of its model, or one behind the last, of which there aren't too many
pub record IsFirstOf (es : List Entry) (e : Entry) : Type 0 where
  pub number : e.row.version ≡ 1
  pub none : versions_of e.row.model es ≡ []

pub record IsBehindLast (es : List Entry) (e : Entry) : Type 0 where
  pub number : e.row.version ≡ suc (last_version e.row.model es)
  pub there : last_version e.row.model es ≢ 0
  pub few : last_version e.row.model es < most_versions

no_first : (vs : List Entry) → slice_get vs 0 ≡ None → vs ≡ []
no_first [] h = refl
no_first (v ∷ vs) h = absurd cc

first_kind : (es : List Entry) (e : Entry) (lines : List Numbered) → CreateAdds es e.row.format (creation_of e.row) lines e → IsFirstOf es e
first_kind es e lines adds =
    record {
      number = sym (ap (λ (x : Entry). x.row.version) adds.first);
      none = no_first (versions_of e.row.model es)
          (ap (λ (x : Entry). version_at x.row.model first_version es) (sym adds.first) ∙ adds.new);
    }

-- an edit that is added doesn't come behind too many versions
few_before : (es : List Entry) (format : ℕ) (r : EditRequest) (c : Result (List Numbered) meaning.EditFault) (e : Entry)
    → judge_change es format r c ≡ addition e → last_version r.model es < most_versions
few_before es format r (Err f) e h = absurd cc
few_before es format r (Ok lines) e h = by (nat_le most_versions (last_version r.model es)) refl h
  where
    by : (b : Bool) → nat_le most_versions (last_version r.model es) ≡ b
        → cond b (refusal versions_full) (cond (nat_lt most_bytes (size_in es + size_of (next_entry format r (last_version r.model es) lines)))
        (refusal text_full) (addition (next_entry format r (last_version r.model es) lines))) ≡ addition e
        → last_version r.model es < most_versions
    by true is h = absurd cc
    by false is h = leb-false most_versions (last_version r.model es) is

edit_kind : (es : List Entry) (e : Entry) (ops : List Op) → judge_early es (edit_of e.row) ≡ None
    → judge_late es e.row.format (edit_of e.row) (spelled ops) ≡ addition e → IsBehindLast es e
edit_kind es e ops early late =
    let adds : EditAdds es e.row.format (edit_of e.row) e = change_adds es e.row.format (edit_of e.row) (edited ops (last_lines e.row.model es)) e late in
    record {
      number = sym (ap (λ (x : Entry). x.row.version) adds.next);
      there = (undecided es (edit_of e.row) early).there;
      few = few_before es e.row.format (edit_of e.row) (edited ops (last_lines e.row.model es)) e late;
    }

pub next_kind : (es : List Entry) (e : Entry) → IsNext es e → IsFirstOf es e ⊎ IsBehindLast es e
next_kind es e (by_creation lines id is judged) =
    inl (first_kind es e lines (create_adds es e.row.format (creation_of e.row) lines e judged))
next_kind es e (by_edit ops id is early judged) = inr (edit_kind es e ops early judged)

-- its request has an id, which no version of its model has
pub record IsNewRequest (es : List Entry) (e : Entry) : Type 0 where
  pub id : IsRequestId e.row.id
  pub new : with_id e.row.id (versions_of e.row.model es) ≡ None

pub next_request : (es : List Entry) (e : Entry) → IsNext es e → IsNewRequest es e
next_request es e (by_creation lines id is judged) =
    record {
      id = id;
      new = ap (with_id e.row.id) (first_kind es e lines (create_adds es e.row.format (creation_of e.row) lines e judged)).none;
    }
next_request es e (by_edit ops id is early judged) = record { id = id; new = (undecided es (edit_of e.row) early).new_id }

-- where a model isn't there none of its versions is
no_versions : (index : Places) (es : List Entry) (m : Name) → IsIndex index es → number_of m index ≡ None → versions_of m es ≡ []
no_versions index es m is none = no_places index es m is (sym (not_numbered m index none))

some_versions : (index : Places) (es : List Entry) (m : Name) (at : ℕ) → IsIndex index es → number_of m index ≡ Some at → versions_of m es ≢ []
some_versions index es m at is there none =
    numbered_found m at index there (is.places m ∙ ap where_any (none_there 0 m es none))

-- the index with one place more
module _ (index : Places) (es : List Entry) (e : Entry) (is : IsIndex index es) where
  models : (s : Seat) → IsSeatIn index e.row.model (length es) s → IsFirstOf es e ⊎ IsBehindLast es e
      → keys_of (with_place e.row.model (length es) index) ≡ models_in (es ++ e ∷ [])
  models (New key places) seat (inl first) =
      keys-with_place-new e.row.model (length es) index seat.2 ∙ ap (λ (ns : List Name). ns ++ e.row.model ∷ []) is.models
      ∙ sym (models_in-more es e ∙ ap (λ (n : ℕ). models_in es ++ cond (n == 1) (e.row.model ∷ []) []) first.number)
  models (New key places) seat (inr next) =
      absurd (next.there (ap length (no_versions index es e.row.model is seat.2)))
  models (Behind at) seat (inl first) = absurd (some_versions index es e.row.model at is seat first.none)
  models (Behind at) seat (inr next) =
      keys-with_place-there e.row.model (length es) at index seat ∙ is.models
      ∙ sym (models_in-more es e ∙ ap (λ (n : ℕ). models_in es ++ cond (n == 1) (e.row.model ∷ []) []) next.number
      ∙ later (last_version e.row.model es) next.there ∙ append-nil (models_in es))
    where
      later : (n : ℕ) → n ≢ 0 → models_in es ++ cond (suc n == 1) (e.row.model ∷ []) [] ≡ models_in es ++ []
      later n some = by (suc n == 1) refl
        where
          by : (b : Bool) → (suc n == 1) ≡ b → models_in es ++ cond b (e.row.model ∷ []) [] ≡ models_in es ++ []
          by true is = let one : suc n ≡ 1 = eqb-true (suc n) 1 is in absurd (some (omega (arith, one)))
          by false is = refl

  pub index_more : (s : Seat) → IsSeatIn index e.row.model (length es) s → IsFirstOf es e ⊎ IsBehindLast es e
      → IsIndex (with_place e.row.model (length es) index) (es ++ e ∷ [])
  index_more s seat kind =
      record {
        places = λ (q : Name).
            lookup-with_place q e.row.model (length es) index
            ∙ by (bytes_eq q e.row.model) (lookup (bytes_eq q) index) (places_from 0 q es) (is.places q)
            ∙ sym (ap where_any (places_from-more 0 q es e));
        models = models s seat kind;
      }
    where
      by : (b : Bool) (o : Option (List ℕ)) (ks : List ℕ) → o ≡ where_any ks
          → cond b (more_of (length es) o) o ≡ where_any (ks ++ cond b ((0 + length es) ∷ []) [])
      by true o [] h = ap (more_of (length es)) h ∙ ap (λ (n : ℕ). Some (n ∷ [])) (omega arith)
      by true o (k ∷ ks) h = ap (more_of (length es)) h ∙ ap (λ (n : ℕ). Some (k ∷ (ks ++ n ∷ []))) (omega arith)
      by false o ks h = h ∙ sym (ap where_any (append-nil ks))

-- the versions of a model with one version more
versions_more : (q : Name) (es : List Entry) (e : Entry) → versions_of q (es ++ e ∷ []) ≡ versions_of q es ++ cond (bytes_eq q e.row.model) (e ∷ []) []
versions_more q es e = versions_of-append q es (e ∷ [])

last_more : (q : Name) (es : List Entry) (e : Entry) (b : Bool) → bytes_eq q e.row.model ≡ b
    → last_version q (es ++ e ∷ []) ≡ last_version q es + cond b 1 0
last_more q es e true is =
    ap length (versions_more q es e ∙ ap (λ (b : Bool). versions_of q es ++ cond b (e ∷ []) []) is) ∙ length-append (versions_of q es) (e ∷ [])
last_more q es e false is =
    ap length (versions_more q es e ∙ ap (λ (b : Bool). versions_of q es ++ cond b (e ∷ []) []) is) ∙ length-append (versions_of q es) []

names_more : (es : List Entry) (e : Entry) → NamesFit es → length e.row.model ≤ 32 → NamesFit (es ++ e ∷ [])
names_more es e fits fit q some = by (bytes_eq q e.row.model) refl
  where
    by : (b : Bool) → bytes_eq q e.row.model ≡ b → length q ≤ 32
    by true is = subst (λ (m : Name). length m ≤ 32) (sym ((bytes_eq-Decides q e.row.model).0 is)) fit
    by false is = fits q (λ zero_is. some (last_more q es e false is ∙ omega (arith, zero_is)))

few_more : (es : List Entry) (e : Entry) → AreFew es → IsFirstOf es e ⊎ IsBehindLast es e → AreFew (es ++ e ∷ [])
few_more es e few kind q = by (bytes_eq q e.row.model) refl kind
  where
    same : bytes_eq q e.row.model ≡ true → last_version q es ≡ last_version e.row.model es
    same is = ap (λ (m : Name). last_version m es) ((bytes_eq-Decides q e.row.model).0 is)

    by : (b : Bool) → bytes_eq q e.row.model ≡ b → IsFirstOf es e ⊎ IsBehindLast es e → last_version q (es ++ e ∷ []) ≤ most_versions
    by true is (inl first) =
        let more = last_more q es e true is in
        let one = same is in
        let none : last_version e.row.model es ≡ 0 = ap length first.none in
        omega (arith, more, one, none)
    by true is (inr next) =
        let more = last_more q es e true is in
        let one = same is in
        let lt = next.few in
        omega (arith, more, one, lt)
    by false is kind =
        let more = last_more q es e false is in
        let old = few q in
        omega (arith, more, old)

-- a book with one version more
pub book_more : (es : List Entry) (index : Places) (asked : Requests) (size n : ℕ) (e : source.Entry) (s : Seat) → IsBook es index asked size → IsNext es (entry_of e)
    → IsAddition es e n → IsSeatIn index e.row.model (length es) s
    → IsBook (es ++ entry_of e ∷ []) (with_place e.row.model (length es) index) (asked ++ (request_key e.row.model e.row.id, length es) ∷ []) n
book_more es index asked size n e s is next adds seat =
    let kind = next_kind es (entry_of e) next in
    let long : length (es ++ entry_of e ∷ []) ≡ length es + 1 = length-append es (entry_of e ∷ []) in
    let old = is.within in
    let count = is.counted in
    let more = adds.more in
    record {
      accepted = accepted_more [] es (entry_of e) is.accepted next;
      index = index_more index es (entry_of e) is.index s seat kind;
      requests = requests_more asked es (entry_of e) is.requests (next_request es (entry_of e) next).id;
      names = names_more es (entry_of e) is.names adds.fit.model;
      few = few_more es (entry_of e) is.few kind;
      counted = adds.counted ∙ sym (size_in-more es (entry_of e));
      within = omega (arith, long, old, count, more);
      most = adds.most;
    }
