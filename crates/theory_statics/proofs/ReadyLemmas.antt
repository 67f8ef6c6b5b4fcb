-- The sentences of the claim under a label may be given to a decider.
use Rattle.std.proofs.Common.{◌≡◌, ◌≤◌, Bool, true, false, if◌then◌else◌, List, [], ◌∷◌, length, Option, Some, None, is_some, Result, Ok, Err, IfOk, Contains, refl, sym, ap, ◌∙◌, subst, arith}
use Rattle.std.proofs.lemmas.Bool.{cond_both}
use Rattle.std.proofs.lemmas.List.Elements.{Contains-append_right}
use Rattle.std.proofs.lemmas.Slice.Eq.{bytes_eq-Decides}
use Rattle.std.specs.Str.{bytes_eq}
use Rattle.theory_meaning.specs.Declarations.{or_else, or_answer, shifted_by, is_shifted, listed_in, listed_symbols}
use Rattle.theory_meaning.specs.Edit.{IsModel, lines_alone}
use Rattle.theory_meaning.specs.ModelFault.{most_symbols}
use Rattle.theory_meaning.specs.Point.{Name, AreDistinct}
use Rattle.theory_meaning.specs.Text.{Numbered}
use Rattle.theory_meaning.specs.Tree.{Claim, Line, claim}
use Rattle.theory_derivative.specs.Meaning.{HoldOnly}
use Rattle.theory_derivative.specs.Sentence.{claim_at, claim_in}
use Rattle.theory_derivative.proofs.SentenceNames.{sentences_are_ready}
use Rattle.theory_points.specs.declared.limit.NoMemory.{NoMemory}
use Rattle.theory_syntax.specs.declared.claim.Sentence.{Sentence}
use Rattle.theory_statics.specs.Asked.{conjuncts_of, AreWritten, BothList, IsReady}

-- what is found under a label stands in the lines
abbrev Stands : List Line → Name → Option (Option Name × Claim) → Type 0
Stands lines label None = Unit {0}
Stands lines label (Some a) = Contains lines (claim label a.0 a.1)

stands_later : (label : Name) (line : Line) (lines : List Line) (o : Option (Option Name × Claim)) → Stands lines label o → Stands (line ∷ lines) label o
stands_later label line lines None h = tt
stands_later label line lines (Some a) h = Contains-append_right (line ∷ []) lines (claim label a.0 a.1) h

stands_first : (label : Name) (line : Line) (lines : List Line) (o : Option (Option Name × Claim)) → Stands lines label o
    → Stands (line ∷ lines) label (or_else (claim_at label line) o)
stands_first label (claim own shift c) lines o h =
    cond_both (bytes_eq own label) (Some (shift, c)) None (λ r. Stands (claim own shift c ∷ lines) label (or_else r o))
    (λ e. subst (λ (x : Name). Contains (claim own shift c ∷ lines) (claim x shift c)) ((bytes_eq-Decides own label).0 e) (0, grind arith, refl))
    (λ e. stands_later label (claim own shift c) lines o h)
stands_first label _ lines o h = stands_later label _ lines o h

stands : (ns : List Numbered) (label : Name) → Stands (lines_alone ns) label (claim_in ns label)
stands [] label = tt
stands (n ∷ ns) label = stands_first label n.line (lines_alone ns) (claim_in ns label) (stands ns label)

-- and its shift is the one by which its symbols are listed
abbrev IsShiftOf : Bool → Option (Option Name × Claim) → Type 0
IsShiftOf b None = Unit {0}
IsShiftOf b (Some a) = b ≡ is_some a.0

shift_first : (label : Name) (line : Line) (b : Bool) (o : Option (Option Name × Claim)) → IsShiftOf b o
    → IsShiftOf (or_answer (shifted_by label line) b) (or_else (claim_at label line) o)
shift_first label (claim own shift c) b o h = by_test (bytes_eq own label)
  where
    by_test : (t : Bool) → IsShiftOf (or_answer (if t then Some (is_some shift) else None) b) (or_else (if t then Some (shift, c) else None) o)
    by_test true = refl
    by_test false = h
shift_first label _ b o h = h

shifts : (ns : List Numbered) (label : Name) → IsShiftOf (is_shifted label ns) (claim_in ns label)
shifts [] label = tt
shifts (n ∷ ns) label = shift_first label n.line (is_shifted label ns) (claim_in ns label) (shifts ns label)

-- so both sentences are ready
sentence_ready : (names : List Name) (cs : List Claim) (s : Sentence) → s.symbols ≡ names → conjuncts_of s ≡ cs
    → length names ≤ most_symbols → AreDistinct names → HoldOnly names cs → IsReady s
sentence_ready names cs s symbols conjuncts few distinct listed =
    record {
      few = subst (λ (ns : List Name). length ns ≤ most_symbols) (sym symbols) few;
      distinct = subst AreDistinct (sym symbols) distinct;
      listed = subst (λ (ns : List Name). HoldOnly ns (conjuncts_of s)) (sym symbols) (subst (HoldOnly names) (sym conjuncts) listed);
    }

pub both_ready : (lines all : List Numbered) (label : Name) (names : List Name) (asked : Option Name × Claim) (result : Result (Sentence × Sentence) NoMemory)
    → lines ≡ all → IsModel all → Some asked ≡ claim_in lines label → names ≡ listed_symbols all label
    → IfOk result (AreWritten lines asked.0 asked.1) → IfOk result (BothList names) → IfOk result (λ both. IsReady both.0 × IsReady both.1)
both_ready lines all label names asked (Err e) same is found listed written symbols = tt
both_ready lines all label names asked (Ok both) same is found listed written symbols =
    let model : IsModel lines = subst IsModel (sym same) is in
    let own : Contains (lines_alone lines) (claim label asked.0 asked.1) = subst (Stands (lines_alone lines) label) (sym found) (stands lines label) in
    let shift : is_shifted label lines ≡ is_some asked.0 = subst (IsShiftOf (is_shifted label lines)) (sym found) (shifts lines label) in
    let all_names : names ≡ listed_in (is_some asked.0) lines =
    listed ∙ ap (λ (ls : List Numbered). listed_symbols ls label) (sym same) ∙ ap (λ (b : Bool). listed_in b lines) shift in
    let ready = sentences_are_ready lines label asked.0 asked.1 model own in (
      sentence_ready (listed_in (is_some asked.0) lines) _ both.0 (symbols.example ∙ all_names) written.example ready.few ready.distinct ready.example,
      sentence_ready (listed_in (is_some asked.0) lines) _ both.1 (symbols.counter ∙ all_names) written.counter ready.few ready.distinct ready.counter,
    )
