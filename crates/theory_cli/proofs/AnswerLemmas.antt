-- The reply to a question about a claim: a refusal, or an answer that is put together of the halves and the condition by
-- the two written sentences.
use Rattle.std.proofs.Common.{◌≡◌, ℕ, Bool, true, false, List, [], ◌∷◌, Option, Some, None, is_some, option_map, refl, sym, ap, ◌∙◌, subst}
use Rattle.std.specs.Prelude.{IfSome, if◌then◌else◌}
use Rattle.std.proofs.lemmas.Bool.{false≢true}
use Rattle.std.specs.Str.{bytes_eq}
use Rattle.theory_meaning.specs.declared.words.Kind.{Kind}
use Rattle.theory_meaning.specs.declared.words.Verdict.{Verdict}
use Rattle.theory_meaning.specs.Deciding.{Meanings, IsHalf, IsRegion}
use Rattle.theory_meaning.specs.Declarations.{or_answer, or_else, shifted_by, is_shifted, listed_in, listed_symbols}
use Rattle.theory_meaning.specs.Half.{Half}
use Rattle.theory_meaning.specs.Model.{IsRightAnswer}
use Rattle.theory_meaning.specs.Point.{Name}
use Rattle.theory_meaning.specs.Region.{Region, AreAmong}
use Rattle.theory_meaning.specs.Text.{Numbered}
use Rattle.theory_meaning.specs.Tree.{Claim, Line, model, var, param, function, equation, assume, claim}
use Rattle.theory_meaning.specs.Verdict.{verdict_of_halves}
use Rattle.theory_derivative.specs.Sentence.{claim_at, claim_in, example_of, counter_of}
use Rattle.theory_derivative.proofs.SentenceLaws.{sentences_give_the_right_answer}
use Rattle.theory_session.specs.Ask.{Answer, AskFault, unknown_name}
use Rattle.theory_session.specs.Answered.{tells_region, IsRightOfModel, IsAnswer, symbols_for, fault_in}
use Rattle.theory_session.specs.Check.{question_about, RepliesBy, Replies}
use Rattle.theory_session.specs.Create.{first_version}
use Rattle.theory_session.specs.Names.{each_once, first_unlisted}
use Rattle.theory_session.specs.Run.{Reply, answered, refused, of_question}
use Rattle.theory_session.proofs.ConditionLaws.{right_region}
use Rattle.theory_session.proofs.NameLaws.{once_among, none_unlisted}

-- a claim of a model by its label, with what it lists
pub record HasClaim (lines : List Numbered) (label : Name) : Type 0 where
  pub shift : Option Name
  pub claimed : Claim
  pub found : claim_in lines label ≡ Some (shift, claimed)
  pub listed : listed_symbols lines label ≡ listed_in (is_some shift) lines

module _ (label : Name) where
  -- the shift that was found is named
  abbrev IsShiftOf : Option (Option Name × Claim) → Bool → Type 0
  IsShiftOf None named = Unit {0}
  IsShiftOf (Some p) named = named ≡ is_some p.0

  shift_by : (line : Line) (o : Option (Option Name × Claim)) (named : Bool) → IsShiftOf o named
      → IsShiftOf (or_else (claim_at label line) o) (or_answer (shifted_by label line) named)
  shift_by (claim own s c) o named h = by_label (bytes_eq own label)
    where
      by_label : (t : Bool) → IsShiftOf (or_else (if t then Some (s, c) else None) o) (or_answer (if t then Some (is_some s) else None) named)
      by_label true = refl
      by_label false = h
  shift_by (model n) o named h = h
  shift_by (var x) o named h = h
  shift_by (param t) o named h = h
  shift_by (function f us) o named h = h
  shift_by (equation l u v) o named h = h
  shift_by (assume l c) o named h = h

  shift_found : (lines : List Numbered) → IsShiftOf (claim_in lines label) (is_shifted label lines)
  shift_found [] = tt
  shift_found (n ∷ ns) = shift_by n.line (claim_in ns label) (is_shifted label ns) (shift_found ns)

  pub has_claim : (lines : List Numbered) → is_some (claim_in lines label) ≡ true → HasClaim lines label
  has_claim lines h = by_found (claim_in lines label) refl h
    where
      by_found : (o : Option (Option Name × Claim)) → claim_in lines label ≡ o → is_some o ≡ true → HasClaim lines label
      by_found None is h = absurd (false≢true h)
      by_found (Some p) is h =
          let named : is_shifted label lines ≡ is_some p.0 =
          subst (λ (o : Option (Option Name × Claim)). IsShiftOf o (is_shifted label lines)) is (shift_found lines) in
          record { shift = p.0; claimed = p.1; found = is; listed = ap (λ (b : Bool). listed_in b lines) named }

-- a fact of the claim under a label
pub of_claim : (lines : List Numbered) (label : Name) (h : HasClaim lines label) (Fact : Option Name → Claim → Type 0)
    → IfSome (claim_in lines label) (λ asked. Fact asked.0 asked.1) → Fact h.shift h.claimed
of_claim lines label h Fact k = subst (λ (o : Option (Option Name × Claim)). IfSome o (λ asked. Fact asked.0 asked.1)) h.found k

-- the reply to a question by the first of the names that isn't listed
module _ (m : Meanings) (lines : List Numbered) (name label : Name) (on_names : List Name) (kind : Kind) (own : is_some (claim_in lines label) ≡ true)
    (listed : List Name) (are : listed ≡ listed_symbols lines label) (found : Option ℕ) (first : found ≡ first_unlisted listed on_names) where
  fault_is : fault_in lines (question_about name on_names kind label) ≡ option_map unknown_name found
  fault_is =
      let h : HasClaim lines label = has_claim label lines own in
      let same : symbols_for lines (claim_in lines label) ≡ listed = ap (symbols_for lines) h.found ∙ sym h.listed ∙ sym are in
      ap (λ (ns : List Name). option_map unknown_name (first_unlisted ns on_names)) same ∙ ap (option_map unknown_name) (sym first)

  replies_by : (o : Option ℕ) (reply : Reply) → found ≡ o → RepliesBy m lines (question_about name on_names kind label) (option_map unknown_name o) reply
      → Replies m lines (question_about name on_names kind label) reply
  replies_by o reply is h =
      subst (λ (f : Option AskFault). RepliesBy m lines (question_about name on_names kind label) f reply) (sym (fault_is ∙ ap (option_map unknown_name) is)) h

  pub refused_is_reply : (place : ℕ) → found ≡ Some place → Replies m lines (question_about name on_names kind label) (refused (of_question (unknown_name place)))
  refused_is_reply place is = replies_by (Some place) (refused (of_question (unknown_name place))) is refl

  pub answered_is_reply : (a : Answer) → found ≡ None → IsAnswer m lines (question_about name on_names kind label) a
      → Replies m lines (question_about name on_names kind label) (answered a)
  answered_is_reply a is h = replies_by None (answered a) is (a, h, refl)

-- a half of a sentence said by its parts
pub half_of_parts : {m : Meanings} {ns ms : List Name} {cs ds : List Claim} {kind : Kind} {h : Half} → ns ≡ ms → cs ≡ ds
    → IsHalf m ns cs kind h → IsHalf m ms ds kind h
half_of_parts {m} {ns} {ms} {cs} {ds} {kind} {h} e f w =
    subst (λ (xs : List Name). IsHalf m xs ds kind h) e (subst (λ (xs : List Claim). IsHalf m ns xs kind h) f w)

-- and a condition by a sentence
pub region_of_parts : (m : Meanings) {ns ms : List Name} {cs ds : List Claim} (on_names : List Name) (kind : Kind) (o : Option Region) → ns ≡ ms → cs ≡ ds
    → IfSome o (λ r. IsRegion m ns cs on_names kind r) → IfSome o (λ r. IsRegion m ms ds on_names kind r)
region_of_parts m {ns} {ms} {cs} {ds} on_names kind o e f w =
    subst (λ (xs : List Name). IfSome o (λ r. IsRegion m xs ds on_names kind r)) e
    (subst (λ (xs : List Claim). IfSome o (λ r. IsRegion m ns xs on_names kind r)) f w)

-- what stands for an option is there where it is, and has the facts of what it stands for
pub there_too : {S T : Type 0} (f : S → T) (o : Option S) → is_some (option_map f o) ≡ is_some o
there_too f None = refl
there_too f (Some x) = refl

pub if_there_too : {S T : Type 0} (f : S → T) (Fact : T → Type 0) (o : Option S) → IfSome o (λ x. Fact (f x)) → IfSome (option_map f o) Fact
if_there_too f Fact None h = tt
if_there_too f Fact (Some x) h = h

-- what is known of an answer when it is put together
pub record IsMade (m : Meanings) (lines : List Numbered) (name label : Name) (on_names : List Name) (shift : Option Name) (c : Claim) (kind : Kind)
    (made : Answer) : Type 0 where
  pub own : claim_in lines label ≡ Some (shift, c)
  pub model_is : made.model ≡ name
  pub version_is : made.version ≡ first_version
  pub claim_is : made.claim ≡ label
  pub symbols_are : made.symbols ≡ listed_in (is_some shift) lines
  pub example : IsHalf m (listed_in (is_some shift) lines) (example_of lines shift c) kind made.example
  pub counter : IsHalf m (listed_in (is_some shift) lines) (counter_of lines shift c) kind made.counter
  pub verdict_is : made.verdict ≡ verdict_of_halves made.example made.counter
  pub region_there : is_some made.region ≡ tells_region on_names made.verdict
  pub region : IfSome made.region (λ r. IsRegion m (listed_in (is_some shift) lines) (counter_of lines shift c) (each_once on_names) kind r)

-- a condition that the decider may give is right of the model
module _ (m : Meanings) (lines : List Numbered) (shift : Option Name) (c : Claim) (ns on_names : List Name) (kind : Kind) where
  told_is_right : (o : Option Region) → IfSome o (λ r. IsRegion m ns (counter_of lines shift c) (each_once on_names) kind r)
      → IfSome o (λ r. IsRightOfModel lines shift c on_names r)
  told_is_right None h = tt
  told_is_right (Some r) h = right_region lines shift c on_names r h.right

-- so it is the answer of the model
pub made_is_answer : (m : Meanings) (lines : List Numbered) (name label : Name) (on_names : List Name) (shift : Option Name) (c : Claim) (kind : Kind)
    (made : Answer) → IsMade m lines name label on_names shift c kind made → IsAnswer m lines (question_about name on_names kind label) made
made_is_answer m lines name label on_names shift c kind made is =
    let right : IsRightAnswer lines shift c made.example made.counter (verdict_of_halves made.example made.counter) =
    sentences_give_the_right_answer lines shift c made.example made.counter is.example.right is.counter.right in
    record {
      shift = shift;
      claimed = c;
      own = is.own;
      model_is = is.model_is;
      version_is = is.version_is;
      claim_is = is.claim_is;
      symbols_are = is.symbols_are;
      example_is = is.example;
      counter_is = is.counter;
      verdict_is = is.verdict_is;
      right = subst (λ (v : Verdict). IsRightAnswer lines shift c made.example made.counter v) (sym is.verdict_is) right;
      region_there = is.region_there;
      region_is = is.region;
      region_right = told_is_right m lines shift c (listed_in (is_some shift) lines) on_names kind made.region is.region;
    }

-- where each of the names is listed, so is each of them once
pub listed_once : (listed on_names : List Name) → first_unlisted listed on_names ≡ None → AreAmong (each_once on_names) listed
listed_once listed on_names none x k = (none_unlisted listed on_names).0 none x (once_among on_names x k)
