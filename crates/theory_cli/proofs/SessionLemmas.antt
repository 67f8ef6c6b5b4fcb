-- The replies of a command that are told one after another.
use Rattle.std.proofs.Common.{◌≡◌, ℕ, zero, suc, ◌+◌, ◌<◌, ◌≤◌, Bool, true, List, [], ◌∷◌, ◌++◌, length, get_or, drop, map, Option, Some, None, is_some, Result, Ok, Err, inl, inr, refl, sym, ap, ◌∙◌, subst, arith, append_assoc, add-one, drop-cons}
use Rattle.std.specs.Prelude.{if◌then◌else◌}
use Rattle.std.proofs.lemmas.List.{append-nil, drop_all, map-append}
use Rattle.std.proofs.lemmas.Slice.Eq.{bytes_eq-Decides}
use Rattle.theory_meaning.specs.Declarations.{or_else}
use Rattle.theory_meaning.specs.declared.words.Kind.{Kind}
use Rattle.theory_meaning.specs.Point.{Name}
use Rattle.theory_meaning.specs.Deciding.{Meanings}
use Rattle.theory_derivative.specs.Sentence.{claim_at, claim_in}
use Rattle.theory_meaning.specs.Text.{Numbered}
use Rattle.theory_meaning.specs.Tree.{Claim, claim}
use Rattle.theory_meaning.specs.Faults.{Took}
use Rattle.theory_edge.specs.Sinks.{SinkTold}
use Rattle.theory_session.specs.Ask.{Question}
use Rattle.theory_session.specs.Run.{Reply}
use Rattle.theory_session.specs.Printed.{reply_text, replies_text}
use Rattle.theory_session.specs.Create.{name_in}
use Rattle.theory_session.specs.Check.{onto_labels, claim_labels, question_about, questions_of, Replies, AreRepliesTo, creation, AreReplies, AreFirstReplies}
use Rattle.theory_session.specs.Derive.{derivation, AreDerived, AreFirstDerived}
use Rattle.theory_syntax.specs.declared.claim.Claim as source_claim
use Rattle.theory_syntax.specs.declared.line.Line as source_line
use Rattle.theory_syntax.specs.declared.line.Line.TheVariants as source_lines
use Rattle.theory_syntax.specs.declared.text.Numbered as source
use Rattle.theory_syntax.specs.Plain.{claim_of, line_of, lines_of}
use Rattle.theory_cli.specs.declared.session.Halt.{Halt}
use Rattle.theory_cli.specs.declared.session.Halt.TheVariants.{Unwritten, NoMemory}
use Rattle.theory_cli.specs.declared.reply.Reply as source_reply
use Rattle.theory_cli.specs.Plain.{reply_of, replies_of}
use Rattle.theory_cli.specs.Taking.{IsTold, IsCutOff, TookReplies, CutInLast}
use Rattle.theory_cli.specs.Telling.{TellsOne, TellsAll}

-- one text and then another
took_both : (h i j : Option (List ℕ)) (a b : List ℕ) → Took h i a → Took i j b → Took h j (a ++ b)
took_both h i j a b first second held is =
    second (held ++ a) (first held is) ∙ ap Some (append_assoc held a b)

told_both : (a b : List ℕ) (h i j : SinkTold) → IsTold a h i → IsTold b i j → IsTold (a ++ b) h j
told_both a b h i j first second = record {
  took = took_both h.held i.held j.held a b first.took second.took;
  later = (let m = first.later in let n = second.later in omega arith);
}

replies_text-push : (rs : List Reply) (r : Reply) → replies_text (rs ++ r ∷ []) ≡ replies_text rs ++ reply_text r
replies_text-push [] r = append-nil (reply_text r)
replies_text-push (q ∷ rs) r = ap (λ (l : List ℕ). reply_text q ++ l) (replies_text-push rs r)
    ∙ sym (append_assoc (reply_text q) (replies_text rs) (reply_text r))

-- the first print
pub took_first : (r : Reply) (h i : SinkTold) → IsTold (reply_text r) h i → TookReplies (r ∷ []) h i
took_first r h i told = subst (λ (t : List ℕ). IsTold t h i) (sym (append-nil (reply_text r))) told

-- one more print
took_more : (rs : List Reply) (r : Reply) (h i j : SinkTold) → TookReplies rs h i → IsTold (reply_text r) i j → TookReplies (rs ++ r ∷ []) h j
took_more [] r h i j same told = subst (λ (s : SinkTold). TookReplies (r ∷ []) s j) same (took_first r i j told)
took_more (q ∷ rs) r h i j taken told =
    subst (λ (t : List ℕ). IsTold t h j) (sym (replies_text-push (q ∷ rs) r)) (told_both (replies_text (q ∷ rs)) (reply_text r) h i j taken told)

-- one more print that was cut off
cut_last : (rs new : List Reply) (r : Reply) (h i j : SinkTold) → new ≡ rs ++ r ∷ [] → TookReplies rs h i → IsCutOff (reply_text r) i j → CutInLast new h j
cut_last rs new r h i j more taken cut = record { whole = rs; last = r; between = i; all = more; taken = taken; cut = cut }

-- one more answer
replies-push : (m : Meanings) (lines : List Numbered) (asked : List Question) (answers : List Reply) (one : Question) (r : Reply) →
    AreRepliesTo m lines asked answers → Replies m lines one r → AreRepliesTo m lines (asked ++ one ∷ []) (answers ++ r ∷ [])
replies-push m lines [] [] one r h k = (k, refl)
replies-push m lines [] (q ∷ answers) one r h k = absurd (let bad : ◌≡◌ {A = List Reply} (q ∷ answers) [] = h in cc)
replies-push m lines (a ∷ asked) [] one r h k = absurd h
replies-push m lines (a ∷ asked) (q ∷ answers) one r h k = (h.0, replies-push m lines asked answers one r h.1 k)

-- the questions about the claims of the lines that are left
abbrev questions_left : List Numbered → List Name → Kind → List Numbered → List Question
questions_left lines on kind left = map (question_about (name_in lines) on kind) (claim_labels left)

-- the creation and the answers to the claims before these lines
pub record AnsweredTo (m : Meanings) (lines : List Numbered) (on : List Name) (kind : Kind) (left : List Numbered) (replies : List Reply) : Type 0 where
  pub answers : List Reply
  pub asked : List Question
  pub are : replies ≡ creation lines ∷ answers
  pub split : asked ++ questions_left lines on kind left ≡ questions_of lines on kind
  pub answered : AreRepliesTo m lines asked answers

first_replies : (m : Meanings) (lines : List Numbered) (on : List Name) (kind : Kind) (left : List Numbered) (replies : List Reply) → AnsweredTo m lines on kind left replies
    → AreFirstReplies m lines on kind replies
first_replies m lines on kind left replies a =
    subst (AreFirstReplies m lines on kind) (sym a.are) (refl, (a.asked, questions_left lines on kind left, a.split, a.answered))

all_replies : (m : Meanings) (lines : List Numbered) (on : List Name) (kind : Kind) (replies : List Reply) → AnsweredTo m lines on kind [] replies
    → AreReplies m lines on kind replies
all_replies m lines on kind replies a =
    let all : a.asked ≡ questions_of lines on kind = sym (append-nil a.asked) ∙ a.split in
    subst (AreReplies m lines on kind) (sym a.are) (refl, subst (λ (qs : List Question). AreRepliesTo m lines qs a.answers) all a.answered)

-- one more answer was told
answered_more : (m : Meanings) (lines : List Numbered) (on : List Name) (kind : Kind) (left : List Numbered) (label : Name) (old new : List Reply) (r : Reply)
    → Replies m lines (question_about (name_in lines) on kind label) r → new ≡ old ++ r ∷ []
    → (later : List Numbered) → claim_labels left ≡ label ∷ claim_labels later → AnsweredTo m lines on kind left old → AnsweredTo m lines on kind later new
answered_more m lines on kind left label old new r is more later next a =
    let one : Question = question_about (name_in lines) on kind label in
    record {
      answers = a.answers ++ r ∷ [];
      asked = a.asked ++ one ∷ [];
      are = more ∙ ap (λ (l : List Reply). l ++ r ∷ []) a.are;
      split = append_assoc a.asked (one ∷ []) (questions_left lines on kind later)
          ∙ ap (λ (l : List Name). a.asked ++ map (question_about (name_in lines) on kind) l) (sym next) ∙ a.split;
      answered = replies-push m lines a.asked a.answers one r a.answered is;
    }

-- the lines from one place on
abbrev rest_of : List source.Numbered → ℕ → List Numbered
rest_of ls k = lines_of (drop k ls)

-- the replies before the k-th line, with their prints
pub record GoneOn (m : Meanings) (ls : List source.Numbered) (on : List Name) (kind : Kind) (k : ℕ) (replies : List Reply) (before now : SinkTold) : Type 0 where
  pub answered : AnsweredTo m (lines_of ls) on kind (rest_of ls k) replies
  pub told : TookReplies replies before now

pub begun : (m : Meanings) (ls : List source.Numbered) (on : List Name) (kind : Kind) (old new : List Reply) (before now : SinkTold) → old ≡ [] →
    TellsOne (λ r. r ≡ creation (lines_of ls)) old new before now (Ok tt) → GoneOn m ls on kind 0 new before now
begun m ls on kind old new before now empty (r, is, more, told) =
    let one : new ≡ r ∷ [] = more ∙ ap (λ (l : List Reply). l ++ r ∷ []) empty in
    record {
      answered = record { answers = []; asked = []; are = one ∙ ap (λ (q : Reply). q ∷ []) is; split = refl; answered = refl };
      told = subst (λ (l : List Reply). TookReplies l before now) (sym one) (took_first r before now told);
    }

-- one line and the lines behind it
line_ahead : (ls : List source.Numbered) (k : ℕ) (n : source.Numbered) → k < length ls → n ≡ get_or ls k n →
    claim_labels (rest_of ls k) ≡ onto_labels (line_of n.line) (claim_labels (rest_of ls (k + 1)))
line_ahead ls k n within is =
    rw (add-one, drop-cons ls k n)
    (ap (λ (r : source.Numbered). onto_labels (line_of r.line) (claim_labels (lines_of (drop (suc k) ls)))) (sym is))

-- a claim of one of the lines is found under its label
found_later : (o rest : Option (Option Name × Claim)) → is_some rest ≡ true → is_some (or_else o rest) ≡ true
found_later None rest h = h
found_later (Some p) rest h = refl

found_own : (label : Name) (shift : Option Name) (c : Claim) (rest : Option (Option Name × Claim))
    → is_some (or_else (claim_at label (claim label shift c)) rest) ≡ true
found_own label shift c rest =
    subst (λ (b : Bool). is_some (or_else (if b then Some (shift, c) else None) rest) ≡ true) (sym ((bytes_eq-Decides label label).1 refl)) refl

line_own : (ls : List source.Numbered) (k : ℕ) (n : source.Numbered) (label : Name) (shift : Option Name) (c : source_claim.Claim) → k < length ls
    → n ≡ get_or ls k n → n.line ≡ source_lines.Claim label shift c → is_some (claim_in (lines_of ls) label) ≡ true
line_own [] k n label shift c within is line = absurd (omega (arith, within))
line_own (l ∷ ls) zero n label shift c within is line =
    subst (λ (x : source_line.Line). is_some (or_else (claim_at label (line_of x)) (claim_in (lines_of ls) label)) ≡ true)
    (sym (ap (λ (r : source.Numbered). r.line) (sym is) ∙ line)) (found_own label shift (claim_of c) (claim_in (lines_of ls) label))
line_own (l ∷ ls) (suc k) n label shift c within is line =
    found_later (claim_at label (line_of l.line)) (claim_in (lines_of ls) label) (line_own ls k n label shift c (omega (arith, within)) is line)

-- another line isn't asked about
pub asks_none : (line : source_line.Line) → ((label : Name) (shift : Option Name) (c : source_claim.Claim) → line ≡ source_lines.Claim label shift c → ⊥)
    → (labels : List Name) → onto_labels (line_of line) labels ≡ labels
asks_none (source_lines.Model n) none labels = refl
asks_none (source_lines.Var x) none labels = refl
asks_none (source_lines.Param t) none labels = refl
asks_none (source_lines.Fun f us) none labels = refl
asks_none (source_lines.Eq label u v) none labels = refl
asks_none (source_lines.Assume label c) none labels = refl
asks_none (source_lines.Claim label shift c) none labels = absurd (none label shift c refl)

module _ (m : Meanings) (ls : List source.Numbered) (on : List Name) (kind : Kind) (k : ℕ) (n : source.Numbered) (within : k < length ls) (is : n ≡ get_or ls k n) where
  pub passed_over : (replies : List Reply) (before now : SinkTold) → ((labels : List Name) → onto_labels (line_of n.line) labels ≡ labels) →
      GoneOn m ls on kind k replies before now → GoneOn m ls on kind (k + 1) replies before now
  passed_over replies before now none g =
      let a = g.answered in
      let same : claim_labels (rest_of ls k) ≡ claim_labels (rest_of ls (k + 1)) = line_ahead ls k n within is ∙ none (claim_labels (rest_of ls (k + 1))) in
      record {
        answered = record {
          answers = a.answers;
          asked = a.asked;
          are = a.are;
          split = ap (λ (l : List Name). a.asked ++ map (question_about (name_in (lines_of ls)) on kind) l) (sym same) ∙ a.split;
          answered = a.answered;
        };
        told = g.told;
      }

  module _ (label : Name) (shift : Option Name) (c : source_claim.Claim) (line : n.line ≡ source_lines.Claim label shift c) where
    ahead : claim_labels (rest_of ls k) ≡ label ∷ claim_labels (rest_of ls (k + 1))
    ahead = line_ahead ls k n within is ∙ ap (λ (l : source_line.Line). onto_labels (line_of l) (claim_labels (rest_of ls (k + 1)))) line

    pub is_own : is_some (claim_in (lines_of ls) label) ≡ true
    is_own = line_own ls k n label shift c within is line

    pub answered_claim : (old new : List Reply) (before now later : SinkTold) →
        TellsOne (Replies m (lines_of ls) (question_about (name_in (lines_of ls)) on kind label)) old new now later (Ok tt) →
        GoneOn m ls on kind k old before now → GoneOn m ls on kind (k + 1) new before later
    answered_claim old new before now later (r, answers, more, told) g = record {
      answered = answered_more m (lines_of ls) on kind (rest_of ls k) label old new r answers more (rest_of ls (k + 1)) ahead g.answered;
      told = subst (λ (l : List Reply). TookReplies l before later) (sym more) (took_more old r before now later g.told told);
    }

    pub halted : (h : Halt) (old new : List Reply) (before now later : SinkTold) →
        TellsOne (Replies m (lines_of ls) (question_about (name_in (lines_of ls)) on kind label)) old new now later (Err h) →
        GoneOn m ls on kind k old before now →
        TellsAll (AreReplies m (lines_of ls) on kind) (AreFirstReplies m (lines_of ls) on kind) new before later (Err h)
    halted Unwritten old new before now later (r, answers, more, cut) g = (
      first_replies m (lines_of ls) on kind (rest_of ls (k + 1)) new
          (answered_more m (lines_of ls) on kind (rest_of ls k) label old new r answers more (rest_of ls (k + 1)) ahead g.answered),
      cut_last old new r before now later more g.told cut,
    )
    halted NoMemory old new before now later (same, stands) g = (
      subst (AreFirstReplies m (lines_of ls) on kind) (sym same) (first_replies m (lines_of ls) on kind (rest_of ls k) old g.answered),
      subst (λ (s : SinkTold). TookReplies new before s) (sym stands) (subst (λ (l : List Reply). TookReplies l before now) (sym same) g.told),
    )

pub halted_at_once : (m : Meanings) (lines : List Numbered) (on : List Name) (kind : Kind) (h : Halt) (old new : List Reply) (before now : SinkTold) → old ≡ [] →
    TellsOne (λ r. r ≡ creation lines) old new before now (Err h) →
    TellsAll (AreReplies m lines on kind) (AreFirstReplies m lines on kind) new before now (Err h)
halted_at_once m lines on kind Unwritten old new before now empty (r, is, more, cut) =
    let one : new ≡ r ∷ [] = more ∙ ap (λ (l : List Reply). l ++ r ∷ []) empty in (
      subst (AreFirstReplies m lines on kind) (sym (one ∙ ap (λ (q : Reply). q ∷ []) is)) (refl, ([], questions_of lines on kind, refl, refl)),
      cut_last [] new r before before now one refl cut,
    )
halted_at_once m lines on kind NoMemory old new before now empty (same, stands) =
    let are : new ≡ [] = same ∙ empty in (
      subst (AreFirstReplies m lines on kind) (sym are) tt,
      subst (λ (l : List Reply). TookReplies l before now) (sym are) stands,
    )

pub answered_all : (m : Meanings) (ls : List source.Numbered) (on : List Name) (kind : Kind) (k : ℕ) (replies : List Reply) (before now : SinkTold) → length ls ≤ k →
    GoneOn m ls on kind k replies before now →
    TellsAll (AreReplies m (lines_of ls) on kind) (AreFirstReplies m (lines_of ls) on kind) replies before now (Ok tt)
answered_all m ls on kind k replies before now end g = (
  all_replies m (lines_of ls) on kind replies (subst (λ (l : List source.Numbered). AnsweredTo m (lines_of ls) on kind (lines_of l) replies) (drop_all k ls end) g.answered),
  g.told,
)

-- the one reply of a derivation
pub derived_once : (lines : List Numbered) (told : Result (Unit {0}) Halt) (old new : List Reply) (before now : SinkTold) → old ≡ [] →
    TellsOne (λ r. r ≡ derivation lines) old new before now told →
    TellsAll (AreDerived lines) (AreFirstDerived lines) new before now told
derived_once lines (Ok tt) old new before now empty (r, is, more, told) =
    let one : new ≡ r ∷ [] = more ∙ ap (λ (l : List Reply). l ++ r ∷ []) empty in (
      one ∙ ap (λ (q : Reply). q ∷ []) is,
      subst (λ (l : List Reply). TookReplies l before now) (sym one) (took_first r before now told),
    )
derived_once lines (Err Unwritten) old new before now empty (r, is, more, cut) =
    let one : new ≡ r ∷ [] = more ∙ ap (λ (l : List Reply). l ++ r ∷ []) empty in (
      inr (one ∙ ap (λ (q : Reply). q ∷ []) is),
      cut_last [] new r before before now one refl cut,
    )
derived_once lines (Err NoMemory) old new before now empty (same, stands) =
    let are : new ≡ [] = same ∙ empty in (inl are, subst (λ (l : List Reply). TookReplies l before now) (sym are) stands)

-- one more reply was kept
pub kept_more : (old new : List source_reply.Reply) (r : source_reply.Reply) → new ≡ old ++ r ∷ [] → replies_of new ≡ replies_of old ++ reply_of r ∷ []
kept_more old new r more = ap replies_of more ∙ map-append reply_of old (r ∷ [])
