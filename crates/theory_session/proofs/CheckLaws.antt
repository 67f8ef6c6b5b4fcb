-- A check is a run of the desk.
use Rattle.std.proofs.Common.{◌≡◌, ℕ, ◌+◌, ◌≤◌, Bool, false, cond, nat_lt, ◌==◌, length, List, [], ◌∷◌, map, Option, None, Some, refl, sym, ap, subst, ◌∙◌, inl, arith}
use Rattle.std.specs.List.{AllByRecursion}
use Rattle.std.proofs.lemmas.Bool.Decides.{nat_tests}
use Rattle.std.proofs.lemmas.Slice.Eq.{bytes_eq-Decides}
use Rattle.theory_meaning.specs.declared.words.Kind.{Kind}
use Rattle.theory_meaning.specs.Declarations.{or_else}
use Rattle.theory_meaning.specs.Deciding.{Meanings}
use Rattle.theory_meaning.specs.Point.{Name}
use Rattle.theory_meaning.specs.Text.{Numbered}
use Rattle.theory_meaning.specs.Tree as tree
use Rattle.theory_meaning.specs.Tree.{Claim, Line}
use Rattle.theory_derivative.specs.Sentence.{claim_at, claim_in}
use Rattle.theory_session.specs.Answered.{fault_in}
use Rattle.theory_session.specs.Ask.{Question, AskFault}
use Rattle.theory_session.specs.Asking.{AskRequest, judge_ask, judge_claim, unless_refused, question_about_version}
use Rattle.theory_session.specs.Check.{onto_labels, claim_labels, RepliesBy, AreRepliesTo}
use Rattle.theory_session.specs.CheckRun.{check_creation, checked_entry, question_sent, ChecksAreRuns}
use Rattle.theory_session.specs.Create.{name_in}
use Rattle.theory_session.specs.Creation.{CreateRefusal, text_full, judge_lines, judge_create}
use Rattle.theory_session.specs.Judged.{Judged, refusal, addition}
use Rattle.theory_session.specs.Lookup.{Found, unknown_model, found, found_or, find_version, at_number}
use Rattle.theory_session.specs.Reading.{spelled}
use Rattle.theory_session.specs.Row.{Entry, present_format}
use Rattle.theory_session.specs.Run.{Reply, created, answered, refused, of_creation, of_question, no_memory}
use Rattle.theory_session.specs.Sizes.{size_of, most_bytes}
use Rattle.theory_session.specs.Step.{Changes, Creates, Answers}
use Rattle.theory_session.specs.Steps.{Run}
use Rattle.theory_session.proofs.LookupLaws.{versions_of-one}
use Rattle.theory_session.proofs.StepLaws.{unless_memory}

-- in a desk of one version that one is found
find_only : (e : Entry) → find_version e.row.model None (e ∷ []) ≡ found e
find_only e =
    ap (λ (vs : List Entry). cond (length vs == 0) unknown_model (found_or (length vs) (at_number (length vs) vs)))
    (versions_of-one e.row.model e ((bytes_eq-Decides e.row.model e.row.model).1 refl))

-- a claim stands under the label
abbrev pub HasClaim : List Numbered → Name → Type 0
HasClaim lines label = (own : Option Name × Claim) × (claim_in lines label ≡ Some own)

claim_behind : (n : Numbered) (ns : List Numbered) (label : Name) → HasClaim ns label → HasClaim (n ∷ ns) label
claim_behind n ns label h = by_line (claim_at label n.line)
  where
    by_line : (o : Option (Option Name × Claim)) → (own : Option Name × Claim) × (or_else o (claim_in ns label) ≡ Some own)
    by_line None = h
    by_line (Some own) = (own, refl)

claims_behind : (n : Numbered) (ns : List Numbered) (labels : List Name) → AllByRecursion (HasClaim ns) labels → AllByRecursion (HasClaim (n ∷ ns)) labels
claims_behind n ns [] h = tt
claims_behind n ns (label ∷ labels) h = (claim_behind n ns label h.0, claims_behind n ns labels h.1)

claim_first : (at : ℕ) (ns : List Numbered) (label : Name) (shift : Option Name) (c : Claim)
    → HasClaim (record { at = at; line = tree.claim label shift c } ∷ ns) label
claim_first at ns label shift c = (
  (shift, c),
  ap (λ (b : Bool). or_else (cond b (Some (shift, c)) None) (claim_in ns label)) ((bytes_eq-Decides label label).1 refl),
)

-- so it does under each label of a claim
labels_have_claims : (lines : List Numbered) → AllByRecursion (HasClaim lines) (claim_labels lines)
labels_have_claims [] = tt
labels_have_claims (n ∷ ns) = by_line n.line refl (claims_behind n ns (claim_labels ns) (labels_have_claims ns))
  where
    by_line : (line : Line) → n.line ≡ line → AllByRecursion (HasClaim (n ∷ ns)) (claim_labels ns)
        → AllByRecursion (HasClaim (n ∷ ns)) (onto_labels line (claim_labels ns))
    by_line (tree.claim label shift c) is rest =
        (subst (λ (line : Line). HasClaim (record { at = n.at; line = line } ∷ ns) label) (sym is) (claim_first n.at ns label shift c), rest)
    by_line (tree.model x) is rest = rest
    by_line (tree.var x) is rest = rest
    by_line (tree.param x) is rest = rest
    by_line (tree.function f us) is rest = rest
    by_line (tree.equation label u v) is rest = rest
    by_line (tree.assume label c) is rest = rest

-- the question about a claim of the version
abbrev pub question_about_last : Entry → List Name → Kind → Name → Question
question_about_last e on kind label = record { model = e.row.model; version = e.row.version; claim = label; on = on; kind = kind }

-- a reply to the question about the version answers it
answers_by : (m : Meanings) (r : AskRequest) (e : Entry) (o : Option AskFault) (reply : Reply)
    → RepliesBy m e.lines (question_about_version r e) o reply → Answers m r (unless_refused e o) reply
answers_by m r e None reply h = h
answers_by m r e (Some fault) reply h = h

within : (n : ℕ) → n ≤ most_bytes → nat_lt most_bytes (0 + n) ≡ false
within n h = grind (arith, nat_tests, h)

-- no reply to a question is want of memory
not_memory : (m : Meanings) (lines : List Numbered) (q : Question) (o : Option AskFault) (reply : Reply) → RepliesBy m lines q o reply
    → ¬ (reply ≡ refused no_memory)
not_memory m lines q None reply h = λ is. let k : answered h.0 ≡ refused no_memory = sym h.2 ∙ is in cc
not_memory m lines q (Some fault) reply h = λ is. let k : refused (of_question fault) ≡ refused no_memory = sym h ∙ is in cc

-- the questions about these labels, one after another
questions_run : (m : Meanings) (e : Entry) (on : List Name) (kind : Kind) (labels : List Name) (replies : List Reply)
    → AllByRecursion (HasClaim e.lines) labels → AreRepliesTo m e.lines (map (question_about_last e on kind) labels) replies
    → Run m (e ∷ []) (map (question_sent e.row.model on kind) labels) replies (e ∷ [])
questions_run m e on kind [] [] there h = refl
questions_run m e on kind [] (r ∷ rs) there h = absurd cc
questions_run m e on kind (label ∷ labels) [] there h = absurd h
questions_run m e on kind (label ∷ labels) (reply ∷ replies) there h = (
  e ∷ [],
  unless_memory (e ∷ []) (e ∷ []) reply (not_memory m e.lines (question_about_version r e) (fault_in e.lines (question_about_version r e)) reply h.0)
      (answers, refl),
  questions_run m e on kind labels replies there.1 h.1,
)
  where
    r : AskRequest
    r = record { model = e.row.model; version = None; claim = label; on = on; kind = kind }

    answers : Answers m r (judge_ask r (find_version e.row.model None (e ∷ []))) reply
    answers =
        subst (λ (f : Found). Answers m r (judge_ask r f) reply) (sym (find_only e))
        (subst (λ (o : Option (Option Name × Claim)). Answers m r (judge_claim r e o) reply) (sym there.0.1)
        (answers_by m r e (fault_in e.lines (question_about_version r e)) reply h.0))

pub check_run : (m : Meanings) → ChecksAreRuns m
check_run m body lines on kind [] spells is small h = absurd h
check_run m body lines on kind (first ∷ replies) spells is small h = (
  e ∷ [],
  subst (λ (r : Reply). Creates [] (check_creation body) r (e ∷ [])) (sym h.0) creates,
  questions_run m e on kind (claim_labels lines) replies (labels_have_claims lines) h.1,
)
  where
    e : Entry
    e = checked_entry body lines

    judged : judge_create [] present_format (check_creation body) (spelled lines) ≡ addition e
    judged = ap (judge_lines [] (check_creation body) e) is.faultless
        ∙ ap (λ (b : Bool). cond b (refusal text_full) (addition e)) (within (size_of e) small)

    creates : Creates [] (check_creation body) (created (name_in lines) 1) (e ∷ [])
    creates = (
      spelled lines,
      spells,
      subst (λ (j : Judged CreateRefusal). Changes of_creation created [] j (created (name_in lines) 1) (e ∷ [])) (sym judged) (inl (refl, refl)),
    )
