-- Each line of bytes is read in some way.
use Rattle.std.proofs.Common.{◌≡◌, ◌≢◌, ◌⊎◌, inl, inr, ⊎_elim, ℕ, suc, zero, ◌+◌, ◌<◌, ◌≤◌, true, false, ◌&&◌, ◌||◌, ◌==◌, List, [], ◌∷◌, ◌++◌, length, Option, Some, None, refl, sym, ap, ◌∙◌, subst, arith, length-append, append_assoc}
use Rattle.std.proofs.lemmas.Bool.{false≢true, and_parts, or_cases, eqb-true, eqb-false, cases_Bool}
use Rattle.theory_meaning.specs.declared.words.Rel.TheVariants.{Eq, Ne, Lt, Le, Gt, Ge}
use Rattle.theory_meaning.specs.Identifier.{is_letter, is_digit, is_word_byte, is_word}
use Rattle.theory_grammar.specs.declared.words.Mark.{Mark}
use Rattle.theory_grammar.specs.declared.unreadable.Unreadable.TheVariants.{BadToken}
use Rattle.theory_grammar.specs.Lexeme.{Lexeme, word, pair, digits, sign, comparison, spelling, IsLexeme, IsLongest, HasNoLexeme, Meaning, token, fault, meaning}
use Rattle.theory_grammar.specs.Scan.{is_blank, Placed, End, complete, broken, IsOver, Reads, over, blank, read, unread, bad}
use Rattle.theory_grammar.specs.Runs.{first_passes, begins_a_dotted_part}
use Rattle.theory_grammar.proofs.RunLaws.{Run, run_of}
use Rattle.theory_grammar.proofs.LexemeLaws.{other, class_of, is_comparison_byte, mark_of, mark_of-some}
use Rattle.theory_grammar.proofs.LongestLaws.{run_is_word, word_longest, pair_longest, digits_longest, mark_longest}
use Rattle.theory_grammar.proofs.ComparisonLaws.{begins_with_equals, comparison_longest, other_begins_none, bang_begins_none}

-- what stands first where no blank and no comment does
pub data Front (b : ℕ) (bs : List ℕ) : Type 0 where
  some : (x : Lexeme) (rest : List ℕ) → IsLongest x rest (b ∷ bs) → Front b bs
  none : HasNoLexeme (b ∷ bs) → Front b bs

-- an equals sign stands first, or none
equals_first : (bs : List ℕ) → ((rest : List ℕ) × (bs ≡ 61 ∷ rest)) ⊎ (begins_with_equals bs ≡ false)
equals_first [] = inr refl
equals_first (b ∷ bs) = ⊎_elim (λ e. inl (bs, ap (λ (n : ℕ). n ∷ bs) (eqb-true b 61 e))) (λ e. inr e) (cases_Bool (b == 61))

-- a dot and a letter stand first, or they don't
pub record Dotted (rest : List ℕ) : Type 0 where
  pub behind : List ℕ
  pub split : rest ≡ 46 ∷ behind
  pub letter : first_passes is_letter behind ≡ true

dotted_part : (rest : List ℕ) → Dotted rest ⊎ (begins_a_dotted_part rest ≡ false)
dotted_part [] = inr refl
dotted_part (b ∷ bs) = ⊎_elim (λ h. inl (is_part h)) (λ h. inr h) (cases_Bool ((b == 46) && first_passes is_letter bs)) where
  is_part : ((b == 46) && first_passes is_letter bs) ≡ true → Dotted (b ∷ bs)
  is_part h =
      let parts = and_parts (b == 46) (first_passes is_letter bs) h in
      record { behind = bs; split = ap (λ (n : ℕ). n ∷ bs) (eqb-true b 46 parts.0); letter = parts.1 }

word_of_run : (bytes : List ℕ) (r : Run is_word_byte bytes) → first_passes is_letter bytes ≡ true → is_word r.run ≡ true
word_of_run bytes r h = run_is_word r.run r.rest (ap (first_passes is_letter) (sym r.is.whole) ∙ h) r.is.pass r.is.ends

-- a word that a dot and a letter follow begins a dotted name
pair_front : (b : ℕ) (bs w rest : List ℕ) → is_word w ≡ true → b ∷ bs ≡ w ++ rest → Dotted rest → Front b bs
pair_front b bs w rest is_w whole part =
    let r = run_of is_word_byte part.behind in
    let is_v = word_of_run part.behind r part.letter in
    let inner : rest ≡ 46 ∷ (r.run ++ r.rest) = part.split ∙ ap (λ (cs : List ℕ). 46 ∷ cs) r.is.whole in
    let all : b ∷ bs ≡ (w ++ 46 ∷ r.run) ++ r.rest = whole ∙ ap (λ (cs : List ℕ). w ++ cs) inner ∙ sym (append_assoc w (46 ∷ r.run) r.rest) in
    some (pair w r.run) r.rest (pair_longest w r.run r.rest (b ∷ bs) is_w is_v r.is.ends all)

front_letter : (b : ℕ) (bs : List ℕ) → is_letter b ≡ true → Front b bs
front_letter b bs h =
    let r = run_of is_word_byte (b ∷ bs) in
    let is_w = word_of_run (b ∷ bs) r h in
    let one = λ (k : begins_a_dotted_part r.rest ≡ false). some (word r.run) r.rest (word_longest r.run r.rest (b ∷ bs) is_w r.is.ends k r.is.whole) in
    ⊎_elim (λ (k : Dotted r.rest). pair_front b bs r.run r.rest is_w r.is.whole k) one (dotted_part r.rest)

-- a run that a digit begins isn't empty
pub some_digits : (ds rest : List ℕ) → first_passes is_digit (ds ++ rest) ≡ true → first_passes is_digit rest ≡ false → ds ≢ []
some_digits [] rest first ends h = false≢true (sym ends ∙ first)
some_digits (d ∷ ds) rest first ends h = cc

front_digit : (b : ℕ) (bs : List ℕ) → is_digit b ≡ true → Front b bs
front_digit b bs h =
    let r = run_of is_digit (b ∷ bs) in
    let filled = some_digits r.run r.rest (ap (first_passes is_digit) (sym r.is.whole) ∙ h) r.is.ends in
    some (digits r.run) r.rest (digits_longest r.run r.rest (b ∷ bs) filled r.is.pass r.is.ends r.is.whole)

pub one_byte : (b n : ℕ) (bs : List ℕ) → b ≡ n → b ∷ bs ≡ n ∷ bs
one_byte b n bs at = ap (λ (m : ℕ). m ∷ bs) at

pub two_bytes : (b n : ℕ) (bs rest : List ℕ) → b ≡ n → bs ≡ 61 ∷ rest → b ∷ bs ≡ n ∷ 61 ∷ rest
two_bytes b n bs rest at behind = cc

-- the signs of comparisons, by what follows their first byte
front_bang : (b : ℕ) (bs : List ℕ) → b ≡ 33 → Front b bs
front_bang b bs at =
    ⊎_elim (λ k. some (comparison Ne) k.0 (comparison_longest Ne k.0 (b ∷ bs) tt (two_bytes b 33 bs k.0 at k.1)))
    (λ k. none (subst (λ (n : ℕ). HasNoLexeme (n ∷ bs)) (sym at) (bang_begins_none bs k))) (equals_first bs)

front_less : (b : ℕ) (bs : List ℕ) → b ≡ 60 → Front b bs
front_less b bs at =
    ⊎_elim (λ k. some (comparison Le) k.0 (comparison_longest Le k.0 (b ∷ bs) tt (two_bytes b 60 bs k.0 at k.1)))
    (λ k. some (comparison Lt) bs (comparison_longest Lt bs (b ∷ bs) k (one_byte b 60 bs at))) (equals_first bs)

front_greater : (b : ℕ) (bs : List ℕ) → b ≡ 62 → Front b bs
front_greater b bs at =
    ⊎_elim (λ k. some (comparison Ge) k.0 (comparison_longest Ge k.0 (b ∷ bs) tt (two_bytes b 62 bs k.0 at k.1)))
    (λ k. some (comparison Gt) bs (comparison_longest Gt bs (b ∷ bs) k (one_byte b 62 bs at))) (equals_first bs)

front_equals : (b : ℕ) (bs : List ℕ) → b ≡ 61 → Front b bs
front_equals b bs at = some (comparison Eq) bs (comparison_longest Eq bs (b ∷ bs) tt (one_byte b 61 bs at))

front_comparison : (b : ℕ) (bs : List ℕ) → is_comparison_byte b ≡ true → Front b bs
front_comparison b bs h =
    let or_last = λ (k : ((b == 61) || (b == 62)) ≡ true).
    ⊎_elim (λ e. front_equals b bs (eqb-true b 61 e)) (λ e. front_greater b bs (eqb-true b 62 e)) (or_cases (b == 61) (b == 62) k) in
    let or_more = λ (k : ((b == 60) || ((b == 61) || (b == 62))) ≡ true).
    ⊎_elim (λ e. front_less b bs (eqb-true b 60 e)) or_last (or_cases (b == 60) ((b == 61) || (b == 62)) k) in
    ⊎_elim (λ e. front_bang b bs (eqb-true b 33 e)) or_more (or_cases (b == 33) ((b == 60) || ((b == 61) || (b == 62))) h)

front_mark : (b : ℕ) (bs : List ℕ) (m : Mark) → mark_of b ≡ Some m → Front b bs
front_mark b bs m h = some (sign m) bs (mark_longest m b bs (mark_of-some b m h))

-- no test holds of the byte
pub byte_is_other : (b : ℕ) → is_letter b ≡ false → is_digit b ≡ false → mark_of b ≡ None → is_comparison_byte b ≡ false → class_of b ≡ other
byte_is_other b no_letter no_digit no_mark no_comparison = rw (no_letter, no_digit, no_mark, no_comparison)

front_other : (b : ℕ) (bs : List ℕ) → class_of b ≡ other → Front b bs
front_other b bs h = none (other_begins_none (b ∷ bs) h)

front_sign : (b : ℕ) (bs : List ℕ) → is_letter b ≡ false → is_digit b ≡ false → (o : Option Mark) → mark_of b ≡ o → Front b bs
front_sign b bs no_letter no_digit (Some m) h = front_mark b bs m h
front_sign b bs no_letter no_digit None h =
    ⊎_elim (front_comparison b bs) (λ k. front_other b bs (byte_is_other b no_letter no_digit h k)) (cases_Bool (is_comparison_byte b))

-- bytes begin with a longest lexeme or with none
pub front_of : (b : ℕ) (bs : List ℕ) → Front b bs
front_of b bs =
    let no_letter = λ (h : is_letter b ≡ false).
    ⊎_elim (front_digit b bs) (λ k. front_sign b bs h k (mark_of b) refl) (cases_Bool (is_digit b)) in
    ⊎_elim (front_letter b bs) no_letter (cases_Bool (is_letter b))

-- some reading of the bytes from a column on
pub record Reading (c : ℕ) (bytes : List ℕ) : Type 0 where
  pub tokens : List Placed
  pub end : End
  pub reads : Reads c bytes tokens end

-- a lexeme takes up bytes
some_bytes : (x : Lexeme) → IsLexeme x → 0 < length (spelling x)
some_bytes (word []) h = absurd (false≢true h)
some_bytes (word (b ∷ w)) h = omega arith
some_bytes (pair u v) h = omega (arith, length-append u (46 ∷ v))
some_bytes (digits []) h = absurd (h.0 refl)
some_bytes (digits (d ∷ ds)) h = omega arith
some_bytes (sign m) h = omega arith
some_bytes (comparison Eq) h = omega arith
some_bytes (comparison Ne) h = omega arith
some_bytes (comparison Lt) h = omega arith
some_bytes (comparison Le) h = omega arith
some_bytes (comparison Gt) h = omega arith
some_bytes (comparison Ge) h = omega arith

pub shorter_rest : (x : Lexeme) (rest bytes : List ℕ) → IsLongest x rest bytes → length rest < length bytes
shorter_rest x rest bytes h =
    let long : length bytes ≡ length (spelling x) + length rest = ap length h.whole ∙ length-append (spelling x) rest in
    let some = some_bytes x h.lexeme in
    omega arith

with_meaning : (c : ℕ) (bytes rest : List ℕ) (x : Lexeme) → IsLongest x rest bytes → (m : Meaning) → meaning x ≡ m →
    Reading (c + length (spelling x)) rest → Reading c bytes
with_meaning c bytes rest x h (token t) is r = record {
  tokens = record { column = c; token = t } ∷ r.tokens;
  end = r.end;
  reads = read c bytes rest x t r.tokens r.end h is r.reads;
}
with_meaning c bytes rest x h (fault u) is r = record { tokens = []; end = broken u c; reads = unread c bytes rest x u h is }

over_reading : (c : ℕ) (bytes : List ℕ) → IsOver bytes → Reading c bytes
over_reading c bytes h = record { tokens = []; end = complete c; reads = over c bytes h }

comment_over : (b : ℕ) (bs : List ℕ) → b ≡ 35 → IsOver (b ∷ bs)
comment_over b bs at = inr (bs, ap (λ (n : ℕ). n ∷ bs) at)

from_front : (c b : ℕ) (bs : List ℕ) → is_blank b ≡ false → (b ≡ 35 → ⊥) → ((m : ℕ) (rest : List ℕ) → length rest < length (b ∷ bs) → Reading m rest) →
    Front b bs → Reading c (b ∷ bs)
from_front c b bs blanks no_comment below (some x rest h) =
    with_meaning c (b ∷ bs) rest x h (meaning x) refl (below (c + length (spelling x)) rest (shorter_rest x rest (b ∷ bs) h))
from_front c b bs blanks no_comment below (none h) =
    record { tokens = []; end = broken BadToken c; reads = bad c b bs (record { no_blank = blanks; no_comment = no_comment; no_lexeme = h }) }

pub reading_below : (n c : ℕ) (bytes : List ℕ) → length bytes ≤ n → Reading c bytes
reading_below n c [] within = over_reading c [] (inl refl)
reading_below zero c (b ∷ bs) within = absurd (omega arith)
reading_below (suc n) c (b ∷ bs) within =
    let no_comment = λ (blanks : is_blank b ≡ false) (k : (b == 35) ≡ false).
    from_front c b bs blanks (eqb-false b 35 k) (λ m rest short. reading_below n m rest (omega (arith, short))) (front_of b bs) in
    let no_blank = λ (blanks : is_blank b ≡ false).
    ⊎_elim (λ e. over_reading c (b ∷ bs) (comment_over b bs (eqb-true b 35 e))) (no_comment blanks) (cases_Bool (b == 35)) in
    let blank_first = λ (blanks : is_blank b ≡ true).
    let r = reading_below n (c + 1) bs (omega arith) in
    let all : Reading c (b ∷ bs) = record { tokens = r.tokens; end = r.end; reads = blank c b bs r.tokens r.end blanks r.reads } in all in
    ⊎_elim blank_first no_blank (cases_Bool (is_blank b))

-- each line of bytes is read in some way
pub reading_of : (bytes : List ℕ) → Reading 1 bytes
reading_of bytes = reading_below (length bytes) 1 bytes (omega arith)
