-- Rows that are accepted next, and rows that aren't.
use Rattle.std.proofs.Common.{◌≡◌, ◌≢◌, ◌↔◌, ℕ, Bool, true, false, IsTrue, List, Option, None, Some, Result, Ok, Err, refl, sym, ap, subst, ◌∙◌, inl, inr, arith}
use Rattle.std.specs.List.{AllByRecursion}
use Rattle.theory_meaning.specs.Edit.{edited}
use Rattle.theory_meaning.specs.Point.{Name}
use Rattle.theory_meaning.specs.Text.{Numbered, Op}
use Rattle.theory_grammar.specs.RoundTrip.{NothingDividesInEdit}
use Rattle.theory_grammar.specs.Spelled.{IsLine, IsOp}
use Rattle.theory_grammar.specs.TextFault.{Fault}
use Rattle.theory_grammar.specs.Texts.{SpellsLines, IsFirstFault, SpellsOps, IsFirstOpsFault, IsOnce, IsNeverBoth, with_number, without_number}
use Rattle.theory_grammar.proofs.Outcomes.{lines_have_one_outcome, ops_have_one_outcome}
use Rattle.theory_grammar.proofs.TextLaws.{one_text, text_not_fail}
use Rattle.theory_session.specs.Accepted.{creation_of, edit_of, IsNext, by_creation, by_edit, IsNotNext}
use Rattle.theory_session.specs.Creation.{CreateRefusal, first_entry, judge_create}
use Rattle.theory_session.specs.Editing.{EditRefusal, judge_early, judge_late, last_lines}
use Rattle.theory_session.specs.Judged.{Judged, refusal, repetition, addition}
use Rattle.theory_session.specs.Reading.{spelled, IsFormat, SpellsLinesBy, SpellsOpsBy}
use Rattle.theory_session.specs.Row.{Row, Entry, IsRequestId}
use Rattle.theory_session.proofs.JudgedLaws.{create_adds, EditAdds, change_adds, undecided}
use Rattle.theory_versions.specs.declared.created.CreateFault as code
use Rattle.theory_versions.specs.declared.created.CreateFault.TheVariants as fault
use Rattle.theory_versions.specs.declared.edited.EditRefusal as change
use Rattle.theory_versions.specs.declared.edited.EditRefusal.TheVariants as edit
use Rattle.theory_versions.specs.declared.judged.Made.{Made}
use Rattle.theory_versions.specs.declared.entry.Entry as version
use Rattle.theory_versions.specs.declared.judged.Judged as source
use Rattle.theory_versions.specs.declared.judged.Judged.TheVariants.{Repetition, Addition}
use Rattle.theory_versions.specs.Book.{IsAddition}
use Rattle.theory_versions.specs.Entries.{entry_of}
use Rattle.theory_versions.proofs.DividingLemmas.{not_told, true_is_told}
use Rattle.theory_versions.specs.Beginning.{IsTaken, IsSameVersion, NothingDividesIn, unaccepted_creation, unaccepted_edit}
use Rattle.theory_versions.specs.Judging.{FirstComesTo, IsFirstJudged, LateComesTo, IsEditJudged}

lines_once : IsOnce SpellsLines
lines_once = one_text IsLine with_number lines_have_one_outcome

ops_once : IsOnce SpellsOps
ops_once = one_text IsOp without_number ops_have_one_outcome

lines_or_fault : IsNeverBoth SpellsLines IsFirstFault
lines_or_fault = text_not_fail IsLine with_number lines_have_one_outcome

ops_or_fault : IsNeverBoth SpellsOps IsFirstOpsFault
ops_or_fault = text_not_fail IsOp without_number ops_have_one_outcome

-- what is refused, or repeated, isn't added
refused_adds : {R : Type 0} (x : R) (e : Entry) → ◌≡◌ {A = Judged R} (refusal x) (addition e) → ⊥
refused_adds x e h = cc

repeated_adds : {R : Type 0} (old e : Entry) → ◌≡◌ {A = Judged R} (repetition old) (addition e) → ⊥
repeated_adds old e h = cc

same_added : {R : Type 0} (f e : Entry) → ◌≡◌ {A = Judged R} (addition f) (addition e) → f ≡ e
same_added f e h = cc

-- rows of one version, with the same format, id and body, are the same
row_is : (a b : Row) → a.format ≡ b.format → IsSameVersion a b → a.id ≡ b.id → a.body ≡ b.body → a ≡ b
row_is a b format same id body =
    ap (λ (x : ℕ). record a { format = x }) format
    ∙ ap (λ (x : Name). record a { format = b.format; model = x }) same.model
    ∙ ap (λ (x : ℕ). record a { format = b.format; model = b.model; version = x }) same.version
    ∙ ap (λ (x : ℕ). record a { format = b.format; model = b.model; version = b.version; base = x }) same.base
    ∙ ap (λ (x : Name). record a { format = b.format; model = b.model; version = b.version; base = b.base; id = x }) id
    ∙ ap (λ (x : List ℕ). record b { body = x }) body

-- a row is of its own version
same_version : (a b : Row) → a ≡ b → IsSameVersion a b
same_version a b same =
    record { model = ap (λ (r : Row). r.model) same; version = ap (λ (r : Row). r.version) same; base = ap (λ (r : Row). r.base) same }

-- what no version comes before is no edit
no_edit : (es : List Entry) (row : Row) → row.base ≡ 0 → judge_early es (edit_of row) ≡ None → ⊥
no_edit es row first early = let is = undecided es (edit_of row) early in is.there (sym is.latest ∙ first)

-- what a version comes before is no creation
no_creation : (es : List Entry) (e : Entry) (lines : List Numbered) → e.row.base ≢ 0
    → judge_create es e.row.format (creation_of e.row) (spelled lines) ≡ addition e → ⊥
no_creation es e lines later judged =
    later (ap (λ (x : Entry). x.row.base) (sym (create_adds es e.row.format (creation_of e.row) lines e judged).first))

-- a row without a request's id isn't accepted
pub bad_id : (es : List Entry) (row : Row) → ¬ IsRequestId row.id → IsNotNext es row
bad_id es row none e same (by_creation lines id spells judged) = none (subst (λ (r : Row). IsRequestId r.id) same id)
bad_id es row none e same (by_edit ops id spells early judged) = none (subst (λ (r : Row). IsRequestId r.id) same id)

-- where no version comes before one that is accepted next, the checks of its creation come to it, and its text is of its format
first_comes : (es : List Entry) (e : Entry) (j : Judged CreateRefusal) → e.row.base ≡ 0 → FirstComesTo es e.row.format (creation_of e.row) j → IsNext es e
    → (j ≡ addition e) × IsFormat e.row.format (NothingDividesIn e.lines)
first_comes es e j first comes (by_edit ops id spells early judged) = absurd (no_edit es e.row first early)
first_comes es e j first comes (by_creation lines id spells judged) =
    let same : lines ≡ comes.lines = lines_once e.row.body lines comes.lines spells.spelled comes.read in
    let adds = create_adds es e.row.format (creation_of e.row) lines e judged in (
      sym comes.judged ∙ ap (λ (ns : List Numbered). judge_create es e.row.format (creation_of e.row) (spelled ns)) (sym same) ∙ judged,
      subst (λ (ns : List Numbered). IsFormat e.row.format (NothingDividesIn ns)) (ap (λ (x : Entry). x.lines) adds.first) spells.written,
    )

-- the same by its row
first_is : (es : List Entry) (row : Row) (j : Judged CreateRefusal) → row.base ≡ 0 → FirstComesTo es row.format (creation_of row) j
    → (e : Entry) → e.row ≡ row → IsNext es e → (j ≡ addition e) × IsFormat row.format (NothingDividesIn e.lines)
first_is es row j first comes e same next =
    let is = first_comes es e j (ap (λ (r : Row). r.base) same ∙ first)
    (subst (λ (r : Row). FirstComesTo es r.format (creation_of r) j) (sym same) comes) next in
    (is.0, subst (λ (r : Row). IsFormat r.format (NothingDividesIn e.lines)) same is.1)

first_refused : (es : List Entry) (row : Row) (x : CreateRefusal) → row.base ≡ 0 → FirstComesTo es row.format (creation_of row) (refusal x) → IsNotNext es row
first_refused es row x first comes e same next = refused_adds x e (first_is es row (refusal x) first comes e same next).0

first_faulty : (es : List Entry) (row : Row) (f : Fault) → row.base ≡ 0 → IsFirstFault row.body f → IsNotNext es row
first_faulty es row f first fails e same (by_edit ops id spells early judged) =
    no_edit es e.row (ap (λ (r : Row). r.base) same ∙ first) early
first_faulty es row f first fails e same (by_creation lines id spells judged) =
    lines_or_fault row.body lines f (subst (λ (r : Row). SpellsLines r.body lines) same spells.spelled) fails

-- what the creation of a row with these bytes is judged as
pub first_judged : (es : List Entry) (row : Row) (bytes : List ℕ) (result : Result source.Judged code.CreateFault) → bytes ≡ row.body
    → IsFirstJudged es row.format (record { id = row.id; body = bytes }) result → IsFirstJudged es row.format (creation_of row) result
first_judged es row bytes result same =
    subst (λ (b : List ℕ). IsFirstJudged es row.format (record { id = row.id; body = b }) result) same

-- the same where it makes a version
pub first_added : (es : List Entry) (row : Row) (bytes : List ℕ) (j : source.Judged) (e : version.Entry) (size : ℕ) → bytes ≡ row.body → j ≡ Addition e size
    → IsFirstJudged es row.format (record { id = row.id; body = bytes }) (Ok j)
    → FirstComesTo es row.format (creation_of row) (addition (entry_of e)) × IsAddition es e size
first_added es row bytes j e size same is h =
    subst (λ (k : source.Judged). IsFirstJudged es row.format (creation_of row) (Ok k)) is (first_judged es row bytes (Ok j) same h)

-- a row whose creation is refused isn't taken
pub first_unaccepted : (es : List Entry) (row : Row) (f : code.CreateFault) → row.base ≡ 0 → IsFirstJudged es row.format (creation_of row) (Err f)
    → IsTaken es row (Err (unaccepted_creation f))
first_unaccepted es row (fault.Text e) first h = first_faulty es row _ first h
first_unaccepted es row (fault.Model f) first h = first_refused es row _ first h
first_unaccepted es row (fault.IdReused v) first h = first_refused es row _ first h
first_unaccepted es row fault.NameTaken first h = first_refused es row _ first h
first_unaccepted es row fault.ModelsFull first h = first_refused es row _ first h
first_unaccepted es row fault.TextFull first h = first_refused es row _ first h
first_unaccepted es row fault.KeeperFault first h = absurd h
first_unaccepted es row fault.Memory first h = tt

-- nor one that repeats an earlier creation
pub first_repeated : (es : List Entry) (row : Row) (m : Made) → row.base ≡ 0 → IsFirstJudged es row.format (creation_of row) (Ok (Repetition m)) → IsNotNext es row
first_repeated es row m first h e same next = repeated_adds h.0 e (first_is es row (repetition h.0) first h.1 e same next).0

-- nor one that would make another version
pub first_other : (es : List Entry) (row : Row) (f : Entry) → row.base ≡ 0 → FirstComesTo es row.format (creation_of row) (addition f)
    → (IsTrue false ↔ IsSameVersion f.row row) → IsNotNext es row
first_other es row f first comes other e same next =
    let is : f ≡ e = same_added f e (first_is es row (addition f) first comes e same next).0 in
    not_told false refl (other.1 (same_version f.row row (ap (λ (x : Entry). x.row) is ∙ same)))

-- nor one whose text isn't of its format
pub first_misspelled : (es : List Entry) (row : Row) (f : Entry) → row.base ≡ 0 → FirstComesTo es row.format (creation_of row) (addition f)
    → (IsTrue false ↔ IsFormat row.format (NothingDividesIn f.lines)) → IsNotNext es row
first_misspelled es row f first comes wrong e same next =
    let is = first_is es row (addition f) first comes e same next in
    not_told false refl (wrong.1 (subst (λ (x : Entry). IsFormat row.format (NothingDividesIn x.lines)) (sym (same_added f e is.0)) is.1))

-- else it makes its version
pub first_next : (es : List Entry) (row : Row) (f : Entry) → IsRequestId row.id → FirstComesTo es row.format (creation_of row) (addition f)
    → (IsTrue true ↔ IsSameVersion f.row row) → (IsTrue true ↔ IsFormat row.format (NothingDividesIn f.lines)) → (f.row ≡ row) × IsNext es f
first_next es row f id comes same written = (row_same, by_creation comes.lines of_row.0 of_row.1 of_row.2)
  where
    adds : first_entry row.format (creation_of row) comes.lines ≡ f
    adds = (create_adds es row.format (creation_of row) comes.lines f comes.judged).first

    row_same : f.row ≡ row
    row_same =
        row_is f.row row (ap (λ (x : Entry). x.row.format) (sym adds)) (same.0 true_is_told) (ap (λ (x : Entry). x.row.id) (sym adds)) (ap (λ (x : Entry). x.row.body) (sym adds))

    of_row : IsRequestId f.row.id × SpellsLinesBy f.row.format f.row.body comes.lines
        × (judge_create es f.row.format (creation_of f.row) (spelled comes.lines) ≡ addition f)
    of_row =
        subst (λ (r : Row). IsRequestId r.id × SpellsLinesBy r.format r.body comes.lines
        × (judge_create es r.format (creation_of r) (spelled comes.lines) ≡ addition f)) (sym row_same) (
          id,
          record {
            spelled = comes.read;
            written = subst (λ (ns : List Numbered). IsFormat row.format (NothingDividesIn ns)) (ap (λ (x : Entry). x.lines) (sym adds)) (written.0 true_is_told);
          },
          comes.judged,
        )

-- where a version comes before one that is accepted next, nothing decides its edit early, and its operations make it
late_comes : (es : List Entry) (e : Entry) → e.row.base ≢ 0 → IsNext es e
    → (judge_early es (edit_of e.row) ≡ None)
    × ((ops : List Op) × SpellsOpsBy e.row.format e.row.body ops × (judge_late es e.row.format (edit_of e.row) (spelled ops) ≡ addition e))
late_comes es e later (by_creation lines id spells judged) = absurd (no_creation es e lines later judged)
late_comes es e later (by_edit ops id spells early judged) = (early, (ops, spells, judged))

-- the same by its row
late_is : (es : List Entry) (row : Row) → row.base ≢ 0 → (e : Entry) → e.row ≡ row → IsNext es e
    → (judge_early es (edit_of row) ≡ None)
    × ((ops : List Op) × SpellsOpsBy row.format row.body ops × (judge_late es row.format (edit_of row) (spelled ops) ≡ addition e))
late_is es row later e same next =
    subst (λ (r : Row). (judge_early es (edit_of r) ≡ None)
    × ((ops : List Op) × SpellsOpsBy r.format r.body ops × (judge_late es r.format (edit_of r) (spelled ops) ≡ addition e))) same
    (late_comes es e (λ none. later (ap (λ (r : Row). r.base) (sym same) ∙ none)) next)

-- what its late checks come to
late_judged : (es : List Entry) (row : Row) (j : Judged EditRefusal) → row.base ≢ 0 → LateComesTo es row.format (edit_of row) j
    → (e : Entry) → e.row ≡ row → IsNext es e → j ≡ addition e
late_judged es row j later comes e same next =
    let is = late_is es row later e same next in
    sym comes.judged
    ∙ ap (λ (os : List Op). judge_late es row.format (edit_of row) (spelled os)) (ops_once row.body comes.ops is.1.0 comes.read is.1.1.spelled)
    ∙ is.1.2

some_or_none : {T : Type 0} (o : Option T) (x : T) → o ≡ Some x → o ≡ None → ⊥
some_or_none o x some none = some_is_none (sym some ∙ none)
  where
    some_is_none : Some x ≡ None → ⊥
    some_is_none h = cc

-- what is decided early isn't accepted next
early_bad : (es : List Entry) (row : Row) (j : Judged EditRefusal) → row.base ≢ 0 → judge_early es (edit_of row) ≡ Some j → IsNotNext es row
early_bad es row j later early e same next = some_or_none (judge_early es (edit_of row)) j early (late_is es row later e same next).0

late_refused : (es : List Entry) (row : Row) (x : EditRefusal) → row.base ≢ 0 → LateComesTo es row.format (edit_of row) (refusal x) → IsNotNext es row
late_refused es row x later comes e same next = refused_adds x e (late_judged es row (refusal x) later comes e same next)

late_faulty : (es : List Entry) (row : Row) (f : Fault) → row.base ≢ 0 → IsFirstOpsFault row.body f → IsNotNext es row
late_faulty es row f later fails e same next =
    let is = late_is es row later e same next in ops_or_fault row.body is.1.0 f is.1.1.spelled fails

-- what the edit of a row with these bytes is judged as
pub edit_judged : (es : List Entry) (row : Row) (bytes : List ℕ) (result : Result source.Judged change.EditRefusal) → bytes ≡ row.body
    → IsEditJudged es row.format (record { model = row.model; base = row.base; id = row.id; body = bytes }) result
    → IsEditJudged es row.format (edit_of row) result
edit_judged es row bytes result same =
    subst (λ (b : List ℕ). IsEditJudged es row.format (record { model = row.model; base = row.base; id = row.id; body = b }) result) same

-- the same where it makes a version
pub edit_added : (es : List Entry) (row : Row) (bytes : List ℕ) (j : source.Judged) (e : version.Entry) (size : ℕ) → bytes ≡ row.body → j ≡ Addition e size
    → IsEditJudged es row.format (record { model = row.model; base = row.base; id = row.id; body = bytes }) (Ok j)
    → (judge_early es (edit_of row) ≡ None) × (LateComesTo es row.format (edit_of row) (addition (entry_of e)) × IsAddition es e size)
edit_added es row bytes j e size same is h =
    subst (λ (k : source.Judged). IsEditJudged es row.format (edit_of row) (Ok k)) is (edit_judged es row bytes (Ok j) same h)

-- a row whose edit is refused isn't taken
pub edit_unaccepted : (es : List Entry) (row : Row) (f : change.EditRefusal) → row.base ≢ 0 → IsEditJudged es row.format (edit_of row) (Err f)
    → IsTaken es row (Err (unaccepted_edit f))
edit_unaccepted es row edit.UnknownModel later h = early_bad es row _ later h
edit_unaccepted es row (edit.IdReused v) later h = early_bad es row _ later h
edit_unaccepted es row (edit.Stale v) later h = early_bad es row _ later h
edit_unaccepted es row (edit.Text e) later h = late_faulty es row _ later h.1
edit_unaccepted es row (edit.Edit f) later h = late_refused es row _ later h.1.2
edit_unaccepted es row edit.VersionsFull later h = late_refused es row _ later h.1
edit_unaccepted es row edit.TextFull later h = late_refused es row _ later h.1
edit_unaccepted es row edit.KeeperFault later h = absurd h.1
edit_unaccepted es row edit.Memory later h = tt

-- nor one that repeats an earlier edit
pub edit_repeated : (es : List Entry) (row : Row) (m : Made) → row.base ≢ 0 → IsEditJudged es row.format (edit_of row) (Ok (Repetition m)) → IsNotNext es row
edit_repeated es row m later h = early_bad es row (repetition h.0) later h.1

-- nor one that would make another version
pub edit_other : (es : List Entry) (row : Row) (f : Entry) → row.base ≢ 0 → LateComesTo es row.format (edit_of row) (addition f)
    → (IsTrue false ↔ IsSameVersion f.row row) → IsNotNext es row
edit_other es row f later comes other e same next =
    let is : f ≡ e = same_added f e (late_judged es row (addition f) later comes e same next) in
    not_told false refl (other.1 (same_version f.row row (ap (λ (x : Entry). x.row) is ∙ same)))

-- whether operations are of the format, where the body spells some
abbrev pub IsOpsFormat : ℕ → List ℕ → Bool → Type 0
IsOpsFormat format body t = (ops : List Op) → SpellsOps body ops → IsTrue t ↔ IsFormat format (AllByRecursion NothingDividesInEdit ops)

-- nor one whose operations aren't of its format
pub edit_misspelled : (es : List Entry) (row : Row) (bytes : List ℕ) → bytes ≡ row.body → row.base ≢ 0 → IsOpsFormat row.format bytes false → IsNotNext es row
edit_misspelled es row bytes body later wrong e same next =
    let is = late_is es row later e same next in
    not_told false refl ((wrong is.1.0 (subst (λ (b : List ℕ). SpellsOps b is.1.0) (sym body) is.1.1.spelled)).1 is.1.1.written)

-- else it makes its version
pub edit_next : (es : List Entry) (row : Row) (bytes : List ℕ) (f : Entry) → bytes ≡ row.body → IsRequestId row.id → judge_early es (edit_of row) ≡ None
    → LateComesTo es row.format (edit_of row) (addition f) → (IsTrue true ↔ IsSameVersion f.row row)
    → IsOpsFormat row.format bytes true → (f.row ≡ row) × IsNext es f
edit_next es row bytes f body id early comes same written = (row_same, by_edit comes.ops of_row.0 of_row.1 of_row.2 of_row.3)
  where
    adds : EditAdds es row.format (edit_of row) f
    adds = change_adds es row.format (edit_of row) (edited comes.ops (last_lines row.model es)) f comes.judged

    row_same : f.row ≡ row
    row_same =
        row_is f.row row (ap (λ (x : Entry). x.row.format) (sym adds.next)) (same.0 true_is_told) (ap (λ (x : Entry). x.row.id) (sym adds.next))
        (ap (λ (x : Entry). x.row.body) (sym adds.next))

    of_row : IsRequestId f.row.id × SpellsOpsBy f.row.format f.row.body comes.ops × (judge_early es (edit_of f.row) ≡ None)
        × (judge_late es f.row.format (edit_of f.row) (spelled comes.ops) ≡ addition f)
    of_row =
        subst (λ (r : Row). IsRequestId r.id × SpellsOpsBy r.format r.body comes.ops × (judge_early es (edit_of r) ≡ None)
        × (judge_late es r.format (edit_of r) (spelled comes.ops) ≡ addition f)) (sym row_same)
        (id, record { spelled = comes.read; written = (written comes.ops (subst (λ (b : List ℕ). SpellsOps b comes.ops) (sym body) comes.read)).0 true_is_told }, early, comes.judged)

one_or_two : ◌≡◌ {A = ℕ} 1 2 → ⊥
one_or_two h = absurd (omega (arith, h))

-- in format 1 nothing divides in the operations that the body spells
pub ops_undivided : (format : ℕ) (body : List ℕ) (these : List Op) (t : Bool) → format ≡ 1 → SpellsOps body these
    → (IsTrue t ↔ AllByRecursion NothingDividesInEdit these) → IsOpsFormat format body t
ops_undivided format body these t one spells told ops spelled_too = (λ is. inl (one, of_these (told.0 is)), λ is. told.1 (back is))
  where
    same : these ≡ ops
    same = ops_once body these ops spells spelled_too

    of_these : AllByRecursion NothingDividesInEdit these → AllByRecursion NothingDividesInEdit ops
    of_these = subst (AllByRecursion NothingDividesInEdit) same

    back : IsFormat format (AllByRecursion NothingDividesInEdit ops) → AllByRecursion NothingDividesInEdit these
    back (inl h) = subst (AllByRecursion NothingDividesInEdit) (sym same) h.1
    back (inr two) = absurd (one_or_two (sym one ∙ two))

-- a body that spells no operations is of each format
pub ops_faulty : (format : ℕ) (body : List ℕ) (f : Fault) (t : Bool) → IsFirstOpsFault body f → IsOpsFormat format body t
ops_faulty format body f t fails ops spells = absurd (ops_or_fault body ops f spells fails)
