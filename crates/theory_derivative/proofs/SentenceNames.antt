-- In a model the sentences of a claim hold its listed symbols alone, and the claim is the one under its label.
use Rattle.std.proofs.Common.{◌≡◌, ℕ, ◌≤◌, Bool, true, false, cond, List, [], ◌∷◌, ◌++◌, map, length, Option, Some, None, is_some, Contains, refl, sym, ap, ◌∙◌, subst, append_assoc, arith, ⊎_elim}
use Rattle.std.proofs.lemmas.Bool.{cond_both, or_parts, both_ways, ltb-false}
use Rattle.std.proofs.lemmas.List.Elements.{All-contains, All-from_recursion, Contains-append_right}
use Rattle.std.proofs.lemmas.Slice.Eq.{bytes_eq-Decides}
use Rattle.std.specs.List.{AllByRecursion, list_any}
use Rattle.std.specs.Str.{bytes_eq}
use Rattle.theory_meaning.specs.declared.words.ModelKind.TheVariants.{KeyTwice, UnknownName, BadArgument, NoShift, TooManySymbols}
use Rattle.theory_meaning.specs.Declarations.{key_of, or_else, named_by, symbols_of_expr, symbols_of_claim, symbols_of_claims, listed_in}
use Rattle.theory_meaning.specs.Edit.{IsModel, lines_alone}
use Rattle.theory_meaning.specs.ModelFault.{is_key, has_key, is_undeclared, is_unknown, is_unfit, is_slope, has_fault, most_symbols}
use Rattle.theory_meaning.specs.Point.{Name}
use Rattle.theory_meaning.specs.Question.{assumptions_of}
use Rattle.theory_meaning.specs.Text.{Numbered}
use Rattle.theory_meaning.specs.Tree.{Claim, negation, claims_from, Line, equation, assume, claim}
use Rattle.theory_derivative.specs.Derivative.{derivative}
use Rattle.theory_derivative.specs.Differentiated.{differentiated_by}
use Rattle.theory_derivative.specs.Sentence.{equations_of, equal_derivatives, shifted_equations, asked_before, example_of, counter_of, claim_at, claim_in}
use Rattle.theory_derivative.specs.Meaning.{HoldOnly, IsReadyForDeciding}
use Rattle.theory_derivative.proofs.FaultlessLines.{IsWithout, without_each, faultless}
use Rattle.theory_derivative.proofs.DistinctNames.{listed_are_distinct}
use Rattle.theory_derivative.proofs.ListedNames.{IsAmong, IsListed, EachListed, symbols_listed, each_both, each_parts, derivative_listed}

-- the symbols of an expression or a claim with none of these faults are listed
module _ (b : Bool) (lines : List Numbered) where
  -- what a line has: its symbols are listed, of a claim where it names a shift or not as is asked
  abbrev HasListed : Line → Type 0
  HasListed (equation label u v) = EachListed b lines (symbols_of_expr u ++ symbols_of_expr v)
  HasListed (assume label c) = EachListed b lines (symbols_of_claim c)
  HasListed (claim label shift c) = is_some shift ≡ b → EachListed b lines (symbols_of_claim c) × (length (listed_in b lines) ≤ most_symbols)
  HasListed _ = Unit {0}

  few_listed : (s : Bool) → s ≡ b → length (listed_in s lines) ≤ most_symbols → length (listed_in b lines) ≤ most_symbols
  few_listed s is h = subst (λ t. length (listed_in t lines) ≤ most_symbols) is h

  -- a line with none of the faults has them
  line_has : (above : List Numbered) (line : Line) → has_fault UnknownName lines above line ≡ false → has_fault BadArgument lines above line ≡ false
      → has_fault NoShift lines above line ≡ false → has_fault TooManySymbols lines above line ≡ false → HasListed line
  line_has above (equation label u v) known fit plain few =
      let symbols : List Name = symbols_of_expr u ++ symbols_of_expr v in
      symbols_listed b lines symbols known (or_parts (list_any (is_unfit lines) symbols) (list_any is_slope symbols) fit).0 (λ e. plain)
  line_has above (assume label c) known fit plain few = symbols_listed b lines (symbols_of_claim c) known fit (λ e. plain)
  line_has above (claim label None c) known fit plain few = λ is. (
    symbols_listed b lines (symbols_of_claim c) known fit (λ e. plain),
    few_listed false is (ltb-false most_symbols (length (listed_in false lines)) few),
  )
  line_has above (claim label (Some t) c) known fit plain few = λ is. (
    symbols_listed b lines (symbols_of_claim c)
        (or_parts (list_any (is_undeclared lines) (named_by (claim label (Some t) c))) (list_any (is_unknown lines) (symbols_of_claim c)) known).1 fit
        (λ e. absurd (both_ways b e (sym is))),
    few_listed true is (ltb-false most_symbols (length (listed_in true lines)) few),
  )
  line_has above _ known fit plain few = tt

  lines_have : (above ns : List Numbered) → IsWithout lines UnknownName above ns → IsWithout lines BadArgument above ns
      → IsWithout lines NoShift above ns → IsWithout lines TooManySymbols above ns → AllByRecursion HasListed (lines_alone ns)
  lines_have above [] known fit plain few = tt
  lines_have above (n ∷ ns) known fit plain few =
      let k = without_each lines UnknownName above n ns known in
      let f = without_each lines BadArgument above n ns fit in
      let p = without_each lines NoShift above n ns plain in
      let w = without_each lines TooManySymbols above n ns few in
      (line_has above n.line k.0 f.0 p.0 w.0, lines_have (above ++ n ∷ []) ns k.1 f.1 p.1 w.1)

  -- claims of listed symbols
  abbrev AreHeld : List Claim → Type 0
  AreHeld = AllByRecursion (λ c. EachListed b lines (symbols_of_claim c))

  held_both : (cs ds : List Claim) → AreHeld cs → AreHeld ds → AreHeld (cs ++ ds)
  held_both [] ds h k = k
  held_both (c ∷ cs) ds h k = (h.0, held_both cs ds h.1 k)

  equations_held : (ls : List Line) → AllByRecursion HasListed ls → AreHeld (equations_of ls)
  equations_held [] h = tt
  equations_held (equation label u v ∷ ls) h = (h.0, equations_held ls h.1)
  equations_held (_ ∷ ls) h = equations_held ls h.1

  assumptions_held : (ls : List Line) → AllByRecursion HasListed ls → AreHeld (assumptions_of ls)
  assumptions_held [] h = tt
  assumptions_held (assume label c ∷ ls) h = (h.0, assumptions_held ls h.1)
  assumptions_held (_ ∷ ls) h = assumptions_held ls h.1

  -- all symbols of such claims
  all_held : (cs : List Claim) → AreHeld cs → EachListed b lines (symbols_of_claims (claims_from cs))
  all_held [] h = tt
  all_held (c ∷ cs) h = each_both b lines (symbols_of_claim c) (symbols_of_claims (claims_from cs)) h.0 (all_held cs h.1)

  among_contained : (xs : List Name) (x : Name) → IsAmong xs x → Contains xs x
  among_contained [] x h = absurd h
  among_contained (y ∷ ys) x h = ⊎_elim (λ e. first y ys x e) (λ k. later y ys x (among_contained ys x k)) h
    where
      first : (y : Name) (ys : List Name) (x : Name) → y ≡ x → Contains (y ∷ ys) x
      first y ys x e = subst (Contains (y ∷ ys)) e (0, grind arith, refl)

      later : (y : Name) (ys : List Name) (x : Name) → Contains ys x → Contains (y ∷ ys) x
      later y ys x h = Contains-append_right (y ∷ []) ys x h

  only_listed : (cs : List Claim) → AreHeld cs → HoldOnly (listed_in b lines) cs
  only_listed cs h x k =
      among_contained (listed_in b lines) x
      (All-contains (IsListed b lines) (symbols_of_claims (claims_from cs)) x
      (All-from_recursion (IsListed b lines) (symbols_of_claims (claims_from cs)) (all_held cs h)) k)

-- the differentiated equations of listed symbols hold listed symbols
slopes_held : (lines : List Numbered) (t : Name) (ls : List Line) → AllByRecursion (HasListed true lines) ls
    → AreHeld true lines (map equal_derivatives (differentiated_by lines t ls))
slopes_held lines t [] h = tt
slopes_held lines t (equation label u v ∷ ls) h =
    let p = each_parts true lines (symbols_of_expr u) (symbols_of_expr v) h.0 in (
      each_both true lines (symbols_of_expr (derivative lines t u)) (symbols_of_expr (derivative lines t v)) (derivative_listed lines t u p.0)
          (derivative_listed lines t v p.1),
      slopes_held lines t ls h.1,
    )
slopes_held lines t (_ ∷ ls) h = slopes_held lines t ls h.1

shifted_held : (lines : List Numbered) (shift : Option Name) → AllByRecursion (HasListed (is_some shift) lines) (lines_alone lines)
    → AreHeld (is_some shift) lines (shifted_equations lines shift)
shifted_held lines None h = tt
shifted_held lines (Some t) h = slopes_held lines t (lines_alone lines) h

before_held : (lines : List Numbered) (shift : Option Name) → AllByRecursion (HasListed (is_some shift) lines) (lines_alone lines)
    → AreHeld (is_some shift) lines (asked_before lines shift)
before_held lines shift h =
    let b : Bool = is_some shift in
    let ls : List Line = lines_alone lines in
    held_both b lines (equations_of ls) (shifted_equations lines shift ++ assumptions_of ls) (equations_held b lines ls h)
    (held_both b lines (shifted_equations lines shift) (assumptions_of ls) (shifted_held lines shift h) (assumptions_held b lines ls h))

-- the sentences of a claim of a model
pub sentences_are_ready : (lines : List Numbered) (label : Name) (shift : Option Name) (c : Claim) → IsModel lines
    → Contains (lines_alone lines) (claim label shift c) → IsReadyForDeciding lines shift c
sentences_are_ready lines label shift c is own =
    let b : Bool = is_some shift in
    let without = faultless lines is in
    let has = lines_have b lines [] lines without.known without.fit without.plain without.few in
    let this = All-contains (HasListed b lines) (lines_alone lines) (claim label shift c)
    (All-from_recursion (HasListed b lines) (lines_alone lines) has) own refl in
    record {
      few = this.1;
      distinct = listed_are_distinct b lines is.identifiers without.keys without.fit;
      example = only_listed b lines (example_of lines shift c) (held_both b lines (asked_before lines shift) (c ∷ []) (before_held lines shift has) (this.0, tt));
      counter = only_listed b lines (counter_of lines shift c)
          (held_both b lines (asked_before lines shift) (negation c ∷ []) (before_held lines shift has) (this.0, tt));
    }

-- a line whose key isn't the label is no claim under it
none_at : (label : Name) (line : Line) → is_key label (key_of line) ≡ false → claim_at label line ≡ None
none_at label (claim own shift c) h =
    cond_both (bytes_eq own label) (Some (shift, c)) None (λ o. o ≡ None) (λ e. absurd (both_ways (bytes_eq own label) h e)) (λ e. refl)
none_at label _ h = refl

-- lines without the label as a key are passed over
claim_behind : (label : Name) (above rest : List Numbered) → has_key label above ≡ false → claim_in (above ++ rest) label ≡ claim_in rest label
claim_behind label [] rest h = refl
claim_behind label (m ∷ above) rest h =
    let parts = or_parts (is_key label (key_of m.line)) (has_key label above) h in
    ap (λ (o : Option (Option Name × Claim)). or_else o (claim_in (above ++ rest) label)) (none_at label m.line parts.0) ∙ claim_behind label above rest parts.1

module _ (lines : List Numbered) where
  -- a claim is the one under its label
  abbrev IsOwn : Line → Type 0
  IsOwn (claim label shift c) = claim_in lines label ≡ Some (shift, c)
  IsOwn _ = Unit {0}

  line_own : (above : List Numbered) (at : ℕ) (line : Line) (rest : List Numbered) → lines ≡ above ++ record { at = at; line = line } ∷ rest
      → has_fault KeyTwice lines above line ≡ false → IsOwn line
  line_own above at (claim label shift c) rest is fresh =
      ap (λ (ls : List Numbered). claim_in ls label) is
      ∙ claim_behind label above (record { at = at; line = claim label shift c } ∷ rest) fresh
      ∙ ap (λ (b : Bool). or_else (cond b (Some (shift, c)) None) (claim_in rest label)) ((bytes_eq-Decides label label).1 refl)
  line_own above at _ rest is fresh = tt

  lines_own : (above ns : List Numbered) → lines ≡ above ++ ns → IsWithout lines KeyTwice above ns → AllByRecursion IsOwn (lines_alone ns)
  lines_own above [] is fresh = tt
  lines_own above (n ∷ ns) is fresh =
      let here = without_each lines KeyTwice above n ns fresh in
      (line_own above n.at n.line ns is here.0, lines_own (above ++ n ∷ []) ns (is ∙ sym (append_assoc above (n ∷ []) ns)) here.1)

-- in a model a claim is the one that stands under its label
pub labels_are_single : (lines : List Numbered) (label : Name) (shift : Option Name) (c : Claim) → IsModel lines
    → Contains (lines_alone lines) (claim label shift c) → claim_in lines label ≡ Some (shift, c)
labels_are_single lines label shift c is own =
    All-contains (IsOwn lines) (lines_alone lines) (claim label shift c)
    (All-from_recursion (IsOwn lines) (lines_alone lines) (lines_own lines [] lines refl (faultless lines is).keys)) own
