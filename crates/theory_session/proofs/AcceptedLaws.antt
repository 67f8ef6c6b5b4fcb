-- Rows are those of at most one list of versions.
use Rattle.std.proofs.Common.{◌≡◌, ◌≢◌, ℕ, suc, ◌+◌, List, [], ◌∷◌, ◌++◌, length, None, refl, sym, ap, subst, ◌∙◌, arith, append_assoc, append-nil}
use Rattle.theory_meaning.specs.Edit.{edited}
use Rattle.theory_meaning.specs.Text.{Numbered, Op}
use Rattle.theory_grammar.specs.Texts.{SpellsLines, SpellsOps, IsOnce}
use Rattle.theory_session.specs.Accepted.{creation_of, edit_of, IsNext, by_creation, by_edit, AreAcceptedAfter, IsDeskOf, IsNotNext, IsFirstBadRow}
use Rattle.theory_session.specs.Creation.{judge_create}
use Rattle.theory_session.specs.Editing.{judge_early, judge_late, last_lines}
use Rattle.theory_session.specs.Judged.{Judged, addition}
use Rattle.theory_session.specs.Lookup.{last_version}
use Rattle.theory_session.specs.Reading.{spelled}
use Rattle.theory_session.specs.Row.{Row, Entry, rows_of}
use Rattle.theory_session.proofs.JudgedLaws.{create_adds, change_adds, undecided}

same_added : {R : Type 0} (e f : Entry) → ◌≡◌ {A = Judged R} (addition e) (addition f) → e ≡ f
same_added e f h = cc

no_first : (n : ℕ) → n ≢ 0 → 1 ≡ suc n → ⊥
no_first n some is = some (omega arith)

-- the same row is accepted next in one way
module _ (lines_once : IsOnce SpellsLines) (ops_once : IsOnce SpellsOps) where
  creations : (es : List Entry) (e f : Entry) (ls ms : List Numbered) → SpellsLines e.row.body ls → SpellsLines f.row.body ms → e.row ≡ f.row
      → judge_create es e.row.format (creation_of e.row) (spelled ls) ≡ addition e
      → judge_create es f.row.format (creation_of f.row) (spelled ms) ≡ addition f → e ≡ f
  creations es e f ls ms l m same j k =
      let lines_are : ls ≡ ms = lines_once e.row.body ls ms l (subst (λ (r : Row). SpellsLines r.body ms) (sym same) m) in
      same_added e f (sym j ∙ ap (λ (ns : List Numbered). judge_create es e.row.format (creation_of e.row) (spelled ns)) lines_are
      ∙ ap (λ (r : Row). judge_create es r.format (creation_of r) (spelled ms)) same ∙ k)

  edits : (es : List Entry) (e f : Entry) (os ps : List Op) → SpellsOps e.row.body os → SpellsOps f.row.body ps → e.row ≡ f.row
      → judge_late es e.row.format (edit_of e.row) (spelled os) ≡ addition e
      → judge_late es f.row.format (edit_of f.row) (spelled ps) ≡ addition f → e ≡ f
  edits es e f os ps o p same j k =
      let ops_are : os ≡ ps = ops_once e.row.body os ps o (subst (λ (r : Row). SpellsOps r.body ps) (sym same) p) in
      same_added e f (sym j ∙ ap (λ (ns : List Op). judge_late es e.row.format (edit_of e.row) (spelled ns)) ops_are
      ∙ ap (λ (r : Row). judge_late es r.format (edit_of r) (spelled ps)) same ∙ k)

  mixed : (es : List Entry) (e f : Entry) (ls : List Numbered) (os : List Op) → e.row ≡ f.row
      → judge_create es e.row.format (creation_of e.row) (spelled ls) ≡ addition e → judge_early es (edit_of f.row) ≡ None
      → judge_late es f.row.format (edit_of f.row) (spelled os) ≡ addition f → ⊥
  mixed es e f ls os same j early k =
      let created = create_adds es e.row.format (creation_of e.row) ls e j in
      let changed = change_adds es f.row.format (edit_of f.row) (edited os (last_lines f.row.model es)) f k in
      no_first (last_version f.row.model es) (undecided es (edit_of f.row) early).there
      (ap (λ (x : Entry). x.row.version) created.first ∙ ap (λ (r : Row). r.version) same ∙ ap (λ (x : Entry). x.row.version) (sym changed.next))

  pub next_once : (es : List Entry) (e f : Entry) → IsNext es e → IsNext es f → e.row ≡ f.row → e ≡ f
  next_once es e f (by_creation ls i l j) (by_creation ms i' m k) same = creations es e f ls ms l.spelled m.spelled same j k
  next_once es e f (by_edit os i o early j) (by_edit ps i' p early' k) same = edits es e f os ps o.spelled p.spelled same j k
  next_once es e f (by_creation ls i l j) (by_edit os i' o early k) same = absurd (mixed es e f ls os same j early k)
  next_once es e f (by_edit os i o early j) (by_creation ls i' l k) same = absurd (mixed es f e ls os (sym same) k early j)

  determined : (before es fs : List Entry) → AreAcceptedAfter before es → AreAcceptedAfter before fs → rows_of es ≡ rows_of fs → es ≡ fs
  determined before [] [] a b same = refl
  determined before [] (f ∷ fs) a b same = absurd cc
  determined before (e ∷ es) [] a b same = absurd cc
  determined before (e ∷ es) (f ∷ fs) a b same =
      let first : e.row ≡ f.row = cc in
      let rest : rows_of es ≡ rows_of fs = cc in
      let same_entry : e ≡ f = next_once before e f a.0 b.0 first in
      let rests : es ≡ fs = determined (before ++ e ∷ []) es fs a.1
      (subst (λ (x : Entry). AreAcceptedAfter (before ++ x ∷ []) fs) (sym same_entry) b.1) rest in
      cc

  pub desk_once : (rows : List Row) (es fs : List Entry) → IsDeskOf rows es → IsDeskOf rows fs → es ≡ fs
  desk_once rows es fs a b = determined [] es fs a.accepted b.accepted (a.rows_are ∙ sym b.rows_are)

  -- the same first entry stands before both
  same_start : (start es : List Entry) (e f : Entry) → e ≡ f → AreAcceptedAfter (start ++ e ∷ []) es → AreAcceptedAfter (start ++ f ∷ []) es
  same_start start es e f same h = subst (λ (x : Entry). AreAcceptedAfter (start ++ x ∷ []) es) same h

  behind_start : (start es : List Entry) (e : Entry) (row : Row) → IsNotNext (start ++ e ∷ es) row → IsNotNext ((start ++ e ∷ []) ++ es) row
  behind_start start es e row bad = subst (λ (fs : List Entry). IsNotNext fs row) (sym (append_assoc start (e ∷ []) es)) bad

  no_bad : (start before es : List Entry) (row : Row) (behind : List Row) → AreAcceptedAfter start before → AreAcceptedAfter start es
      → IsNotNext (start ++ before) row → rows_of es ≡ rows_of before ++ row ∷ behind → ⊥
  no_bad start [] [] row behind a b bad same = cc
  no_bad start (f ∷ before) [] row behind a b bad same = cc
  no_bad start [] (e ∷ es) row behind a b bad same =
      let first : e.row ≡ row = cc in
      bad e first (subst (λ (fs : List Entry). IsNext fs e) (sym (append-nil start)) b.0)
  no_bad start (f ∷ before) (e ∷ es) row behind a b bad same =
      let first : e.row ≡ f.row = cc in
      let rest : rows_of es ≡ rows_of before ++ row ∷ behind = cc in
      no_bad (start ++ f ∷ []) before es row behind a.1 (same_start start es e f (next_once start e f b.0 a.0 first) b.1)
      (behind_start start before f row bad) rest

  pub never_bad : (rows : List Row) (es : List Entry) (n : ℕ) → IsDeskOf rows es → IsFirstBadRow rows n → ⊥
  never_bad rows es n is bad = no_bad [] bad.before es bad.row bad.behind bad.accepted is.accepted bad.bad (is.rows_are ∙ bad.parts)

  same_place : (start before front : List Entry) (row other : Row) (behind back : List Row) → AreAcceptedAfter start before → AreAcceptedAfter start front
      → IsNotNext (start ++ before) row → IsNotNext (start ++ front) other → rows_of before ++ row ∷ behind ≡ rows_of front ++ other ∷ back
      → length before ≡ length front
  same_place start [] [] row other behind back a b bad worse same = refl
  same_place start [] (f ∷ front) row other behind back a b bad worse same =
      let first : f.row ≡ row = cc in
      absurd (bad f first (subst (λ (fs : List Entry). IsNext fs f) (sym (append-nil start)) b.0))
  same_place start (e ∷ before) [] row other behind back a b bad worse same =
      let first : e.row ≡ other = cc in
      absurd (worse e first (subst (λ (fs : List Entry). IsNext fs e) (sym (append-nil start)) a.0))
  same_place start (e ∷ before) (f ∷ front) row other behind back a b bad worse same =
      let first : f.row ≡ e.row = cc in
      let rest : rows_of before ++ row ∷ behind ≡ rows_of front ++ other ∷ back = cc in
      let entry : f ≡ e = next_once start f e b.0 a.0 first in
      let long : length before ≡ length front = same_place (start ++ e ∷ []) before front row other behind back a.1 (same_start start front f e entry b.1)
      (behind_start start before e row bad)
      (subst (λ (x : Entry). IsNotNext ((start ++ x ∷ []) ++ front) other) entry (behind_start start front f other worse)) rest in
      ap suc long

  pub one_bad : (rows : List Row) (n k : ℕ) → IsFirstBadRow rows n → IsFirstBadRow rows k → n ≡ k
  one_bad rows n k a b =
      a.counted ∙ ap (λ (i : ℕ). i + 1) (same_place [] a.before b.before a.row b.row a.behind b.behind a.accepted b.accepted a.bad b.bad
      (sym a.parts ∙ b.parts)) ∙ sym b.counted
