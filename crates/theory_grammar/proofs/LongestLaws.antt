-- The longest lexeme at the front of bytes, by what stands there.
use Rattle.std.proofs.Common.{◌≡◌, ◌≢◌, ℕ, suc, ◌+◌, ◌≤◌, Bool, true, false, ◌||◌, ◌==◌, List, [], ◌∷◌, ◌++◌, length, refl, sym, ap, ◌∙◌, arith, append_assoc, length-append}
use Rattle.std.specs.List.{list_all}
use Rattle.std.proofs.lemmas.Bool.{false≢true, and_parts, and_from}
use Rattle.theory_meaning.specs.Identifier.{is_digit, is_letter, is_word_byte, is_word}
use Rattle.theory_grammar.specs.declared.words.Mark.{Mark}
use Rattle.theory_grammar.specs.Signs.{mark_byte}
use Rattle.theory_grammar.specs.Lexeme.{Lexeme, word, pair, digits, sign, comparison, spelling, IsLexeme, IsLongest}
use Rattle.theory_grammar.specs.Runs.{first_passes, begins_a_dotted_part}
use Rattle.theory_grammar.proofs.RunLaws.{within_run, same_run}
use Rattle.theory_grammar.proofs.LexemeLaws.{first_class, lexeme_class, lexeme_begins}

-- the bytes of a word go on in words
pub word_bytes : (w : List ℕ) → is_word w ≡ true → list_all is_word_byte w ≡ true
word_bytes [] h = refl
word_bytes (b ∷ bs) h =
    let parts = and_parts (is_letter b) (list_all is_word_byte bs) h in
    and_from (is_word_byte b) (list_all is_word_byte bs) (ap (λ (t : Bool). (t || is_digit b) || (b == 95)) parts.0) parts.1

word_letter : (w behind : List ℕ) → is_word w ≡ true → first_passes is_letter (w ++ behind) ≡ true
word_letter [] behind h = absurd (false≢true h)
word_letter (b ∷ bs) behind h = (and_parts (is_letter b) (list_all is_word_byte bs) h).0

-- a run of word bytes that begins with a letter is a word
pub run_is_word : (w rest : List ℕ) → first_passes is_letter (w ++ rest) ≡ true → list_all is_word_byte w ≡ true →
    first_passes is_word_byte rest ≡ false → is_word w ≡ true
run_is_word [] rest first pass ends = absurd (false≢true (sym ends ∙ letter_goes_on rest first)) where
  letter_goes_on : (bs : List ℕ) → first_passes is_letter bs ≡ true → first_passes is_word_byte bs ≡ true
  letter_goes_on [] h = absurd (false≢true h)
  letter_goes_on (b ∷ bs) h = ap (λ (t : Bool). (t || is_digit b) || (b == 95)) h
run_is_word (b ∷ bs) rest first pass ends =
    and_from (is_letter b) (list_all is_word_byte bs) first (and_parts (is_word_byte b) (list_all is_word_byte bs) pass).1

-- lexemes of different kinds don't begin the same bytes
pub apart : (x y : Lexeme) (rest behind : List ℕ) → IsLexeme x → IsLexeme y → spelling x ++ rest ≡ spelling y ++ behind →
    (lexeme_class x ≡ lexeme_class y → ⊥) → ⊥
apart x y rest behind is_x is_y whole differ =
    differ (sym (lexeme_begins x rest is_x) ∙ ap first_class whole ∙ lexeme_begins y behind is_y)

-- a dotted name at the front, as a word and what stands behind it
opened : (u v behind : List ℕ) → (u ++ 46 ∷ v) ++ behind ≡ u ++ 46 ∷ (v ++ behind)
opened u v behind = append_assoc u (46 ∷ v) behind

word_bound : (w rest : List ℕ) (y : Lexeme) (behind : List ℕ) → is_word w ≡ true → first_passes is_word_byte rest ≡ false →
    begins_a_dotted_part rest ≡ false → IsLexeme y → w ++ rest ≡ spelling y ++ behind → length (spelling y) ≤ length w
word_bound w rest (word p) behind is_w ends undotted is whole = within_run is_word_byte p behind w rest (word_bytes p is) ends whole
word_bound w rest (pair u v) behind is_w ends undotted is whole =
    let cut = same_run is_word_byte u (46 ∷ (v ++ behind)) w rest (word_bytes u is.0) refl (word_bytes w is_w) ends (whole ∙ opened u v behind) in
    absurd (false≢true (sym undotted ∙ ap begins_a_dotted_part cut.1 ∙ word_letter v behind is.1))
word_bound w rest (digits ds) behind is_w ends undotted is whole = absurd (apart (word w) (digits ds) rest behind is_w is whole (λ h. cc))
word_bound w rest (sign m) behind is_w ends undotted is whole = absurd (apart (word w) (sign m) rest behind is_w is whole (λ h. cc))
word_bound w rest (comparison r) behind is_w ends undotted is whole = absurd (apart (word w) (comparison r) rest behind is_w is whole (λ h. cc))

pub word_longest : (w rest bytes : List ℕ) → is_word w ≡ true → first_passes is_word_byte rest ≡ false → begins_a_dotted_part rest ≡ false →
    bytes ≡ w ++ rest → IsLongest (word w) rest bytes
word_longest w rest bytes is_w ends undotted whole = record {
  lexeme = is_w;
  whole = whole;
  longest = λ y behind is same. word_bound w rest y behind is_w ends undotted is (sym whole ∙ same);
}

long_pair : (u v : List ℕ) → length (u ++ 46 ∷ v) ≡ length u + suc (length v)
long_pair u v = length-append u (46 ∷ v)

pair_bound : (u v rest : List ℕ) (y : Lexeme) (behind : List ℕ) → is_word u ≡ true → is_word v ≡ true → first_passes is_word_byte rest ≡ false →
    IsLexeme y → (u ++ 46 ∷ v) ++ rest ≡ spelling y ++ behind → length (spelling y) ≤ length (u ++ 46 ∷ v)
pair_bound u v rest (word p) behind is_u is_v ends is whole =
    let short = within_run is_word_byte p behind u (46 ∷ (v ++ rest)) (word_bytes p is) refl (sym (opened u v rest) ∙ whole) in
    omega (arith, long_pair u v)
pair_bound u v rest (pair p q) behind is_u is_v ends is whole =
    let same = sym (opened u v rest) ∙ whole ∙ opened p q behind in
    let cut = same_run is_word_byte p (46 ∷ (q ++ behind)) u (46 ∷ (v ++ rest)) (word_bytes p is.0) refl (word_bytes u is_u) refl same in
    let tails : v ++ rest ≡ q ++ behind = let e = cut.1 in cc in
    let short = within_run is_word_byte q behind v rest (word_bytes q is.1) ends tails in
    let long : length u ≡ length p = ap length cut.0 in
    omega (arith, long_pair u v, long_pair p q)
pair_bound u v rest (digits ds) behind is_u is_v ends is whole = absurd (apart (pair u v) (digits ds) rest behind (is_u, is_v) is whole (λ h. cc))
pair_bound u v rest (sign m) behind is_u is_v ends is whole = absurd (apart (pair u v) (sign m) rest behind (is_u, is_v) is whole (λ h. cc))
pair_bound u v rest (comparison r) behind is_u is_v ends is whole = absurd (apart (pair u v) (comparison r) rest behind (is_u, is_v) is whole (λ h. cc))

pub pair_longest : (u v rest bytes : List ℕ) → is_word u ≡ true → is_word v ≡ true → first_passes is_word_byte rest ≡ false →
    bytes ≡ (u ++ 46 ∷ v) ++ rest → IsLongest (pair u v) rest bytes
pair_longest u v rest bytes is_u is_v ends whole = record {
  lexeme = (is_u, is_v);
  whole = whole;
  longest = λ y behind is same. pair_bound u v rest y behind is_u is_v ends is (sym whole ∙ same);
}

digits_bound : (ds rest : List ℕ) (y : Lexeme) (behind : List ℕ) → IsLexeme (digits ds) → first_passes is_digit rest ≡ false →
    IsLexeme y → ds ++ rest ≡ spelling y ++ behind → length (spelling y) ≤ length ds
digits_bound ds rest (word w) behind is_ds ends is whole = absurd (apart (digits ds) (word w) rest behind is_ds is whole (λ h. cc))
digits_bound ds rest (pair u v) behind is_ds ends is whole = absurd (apart (digits ds) (pair u v) rest behind is_ds is whole (λ h. cc))
digits_bound ds rest (digits es) behind is_ds ends is whole = within_run is_digit es behind ds rest is.1 ends whole
digits_bound ds rest (sign m) behind is_ds ends is whole = absurd (apart (digits ds) (sign m) rest behind is_ds is whole (λ h. cc))
digits_bound ds rest (comparison r) behind is_ds ends is whole = absurd (apart (digits ds) (comparison r) rest behind is_ds is whole (λ h. cc))

pub digits_longest : (ds rest bytes : List ℕ) → ds ≢ [] → list_all is_digit ds ≡ true → first_passes is_digit rest ≡ false →
    bytes ≡ ds ++ rest → IsLongest (digits ds) rest bytes
digits_longest ds rest bytes some pass ends whole = record {
  lexeme = (some, pass);
  whole = whole;
  longest = λ y behind is same. digits_bound ds rest y behind (some, pass) ends is (sym whole ∙ same);
}

mark_bound : (m : Mark) (rest : List ℕ) (y : Lexeme) (behind : List ℕ) → IsLexeme y → mark_byte m ∷ rest ≡ spelling y ++ behind → length (spelling y) ≤ 1
mark_bound m rest (word w) behind is whole = absurd (apart (sign m) (word w) rest behind tt is whole (λ h. cc))
mark_bound m rest (pair u v) behind is whole = absurd (apart (sign m) (pair u v) rest behind tt is whole (λ h. cc))
mark_bound m rest (digits ds) behind is whole = absurd (apart (sign m) (digits ds) rest behind tt is whole (λ h. cc))
mark_bound m rest (sign n) behind is whole = omega arith
mark_bound m rest (comparison r) behind is whole = absurd (apart (sign m) (comparison r) rest behind tt is whole (λ h. cc))

pub mark_longest : (m : Mark) (b : ℕ) (rest : List ℕ) → b ≡ mark_byte m → IsLongest (sign m) rest (b ∷ rest)
mark_longest m b rest at = record {
  lexeme = tt;
  whole = ap (λ (n : ℕ). n ∷ rest) at;
  longest = λ y behind is same. mark_bound m rest y behind is (ap (λ (n : ℕ). n ∷ rest) (sym at) ∙ same);
}
