-- What stands next, from the longest lexeme there.
use Rattle.std.proofs.Common.{◌≡◌, ℕ, ◌+◌, ◌-◌, ◌≤◌, true, false, List, [], ◌∷◌, ◌++◌, length, take, Option, Some, None, refl, sym, ap, ◌∙◌, subst, arith, append_assoc, length-append}
use Rattle.std.proofs.lemmas.List.{take_at}
use Rattle.std.proofs.lemmas.Bool.{ne_eqb}
use Rattle.theory_meaning.specs.declared.words.Rel.{Rel}
use Rattle.theory_meaning.specs.Identifier.{is_letter, is_digit, is_word_byte, is_word}
use Rattle.theory_grammar.specs.declared.words.Mark.{Mark}
use Rattle.theory_grammar.specs.declared.unreadable.Unreadable.TheVariants.{BadToken}
use Rattle.theory_grammar.specs.Token as plain
use Rattle.theory_grammar.specs.Signs.{mark_byte, relation_bytes}
use Rattle.theory_grammar.specs.Lexeme.{Lexeme, word, pair, digits, sign, comparison, spelling, IsLongest, HasNoLexeme, Meaning, token, meaning, word_meaning, pair_meaning, digits_meaning}
use Rattle.theory_grammar.specs.Scan.{broken, Reads, read, unread, bad}
use Rattle.theory_grammar.specs.Runs.{first_passes, begins_a_dotted_part, IsRun}
use Rattle.theory_grammar.proofs.LexemeLaws.{mark_of, mark_of-some, is_comparison_byte}
use Rattle.theory_grammar.proofs.LongestLaws.{run_is_word, word_longest, pair_longest, digits_longest, mark_longest}
use Rattle.theory_grammar.proofs.ComparisonLaws.{begins_with_equals, EndsBefore, comparison_longest, other_begins_none, bang_begins_none}
use Rattle.theory_grammar.proofs.FrontLaws.{shorter_rest, some_digits, byte_is_other}
use Rattle.theory_tokens.specs.declared.next.Next.{Next}
use Rattle.theory_tokens.specs.declared.next.Next.TheVariants.{Found, Over, Bad}
use Rattle.theory_tokens.specs.Plain.{plain_token}
use Rattle.theory_tokens.specs.Next.{Takes, IsNext, IsFoundAs, IsPart, BeginsNoWord, IsNoMark}

-- a lexeme that is read as a token
pub takes_lexeme : (x : Lexeme) (rest bytes : List ℕ) (t : plain.Token) → IsLongest x rest bytes → meaning x ≡ token t → Takes t rest bytes
takes_lexeme x rest bytes t h m =
    let parts : length bytes ≡ length (spelling x) + length rest = ap length h.whole ∙ length-append (spelling x) rest in
    let long : length bytes - length rest ≡ length (spelling x) = omega arith in
    record {
      shorter = shorter_rest x rest bytes h;
      reads = λ c ts e r. read c bytes rest x t ts e h m (subst (λ (n : ℕ). Reads (c + n) rest ts e) long r);
    }

-- what was found of the longest lexeme stands next
pub lexeme_next : (x : Lexeme) (rest bytes : List ℕ) (m : Meaning) (next : Next) → IsLongest x rest bytes → meaning x ≡ m → IsFoundAs m rest next →
    IsNext bytes next
lexeme_next x rest bytes m (Found t behind) h is found =
    subst (λ (bs : List ℕ). Takes (plain_token t) bs bytes) (sym found.1) (takes_lexeme x rest bytes (plain_token t) h (is ∙ found.0))
lexeme_next x rest bytes m Over h is found = absurd found
lexeme_next x rest bytes m (Bad u) h is found = λ c. unread c bytes rest x u h (is ∙ found)

word_of_run : (w rest bytes : List ℕ) → IsRun is_word_byte w rest bytes → first_passes is_letter bytes ≡ true → is_word w ≡ true
word_of_run w rest bytes run first = run_is_word w rest (ap (first_passes is_letter) (sym run.whole) ∙ first) run.pass run.ends

pub word_next : (w rest bytes : List ℕ) (m : Meaning) (next : Next) → first_passes is_letter bytes ≡ true → IsRun is_word_byte w rest bytes →
    begins_a_dotted_part rest ≡ false → m ≡ word_meaning w → IsFoundAs m rest next → IsNext bytes next
word_next w rest bytes m next first run undotted is found =
    lexeme_next (word w) rest bytes m next (word_longest w rest bytes (word_of_run w rest bytes run first) run.ends undotted run.whole) (sym is) found

-- both words of a dotted name and what stands behind it
pub pair_whole : (w rest bytes part v behind : List ℕ) → IsRun is_word_byte w rest bytes → IsPart part rest → IsRun is_word_byte v behind part →
    bytes ≡ (w ++ 46 ∷ v) ++ behind
pair_whole w rest bytes part v behind first is_part second =
    let inner : rest ≡ 46 ∷ (v ++ behind) = is_part.split ∙ ap (λ (cs : List ℕ). 46 ∷ cs) second.whole in
    first.whole ∙ ap (λ (cs : List ℕ). w ++ cs) inner ∙ sym (append_assoc w (46 ∷ v) behind)

pub pair_within : (w rest bytes part v behind : List ℕ) → IsRun is_word_byte w rest bytes → IsPart part rest → IsRun is_word_byte v behind part →
    length behind ≤ length bytes
pair_within w rest bytes part v behind first is_part second =
    omega (arith, ap length (pair_whole w rest bytes part v behind first is_part second), length-append (w ++ 46 ∷ v) behind)

pub pair_bytes : (w rest bytes part v behind whole : List ℕ) → IsRun is_word_byte w rest bytes → IsPart part rest → IsRun is_word_byte v behind part →
    whole ≡ take (length bytes - length behind) bytes → whole ≡ w ++ 46 ∷ v
pair_bytes w rest bytes part v behind whole first is_part second cut =
    let all = pair_whole w rest bytes part v behind first is_part second in
    let parts : length bytes ≡ length (w ++ 46 ∷ v) + length behind = ap length all ∙ length-append (w ++ 46 ∷ v) behind in
    let long : length (w ++ 46 ∷ v) ≡ length bytes - length behind = omega arith in
    cut ∙ ap (take (length bytes - length behind)) all ∙ take_at (w ++ 46 ∷ v) behind (length bytes - length behind) long

pub pair_next : (w rest bytes part v behind : List ℕ) (m : Meaning) (next : Next) → first_passes is_letter bytes ≡ true → IsRun is_word_byte w rest bytes →
    IsPart part rest → IsRun is_word_byte v behind part → m ≡ pair_meaning w v → IsFoundAs m behind next → IsNext bytes next
pair_next w rest bytes part v behind m next letter first is_part second is found =
    let is_w = word_of_run w rest bytes first letter in
    let is_v = word_of_run v behind part second is_part.letter in
    let whole = pair_whole w rest bytes part v behind first is_part second in
    lexeme_next (pair w v) behind bytes m next (pair_longest w v behind bytes is_w is_v second.ends whole) (sym is) found

pub digits_next : (ds rest bytes : List ℕ) (m : Meaning) (next : Next) → first_passes is_digit bytes ≡ true → IsRun is_digit ds rest bytes →
    m ≡ digits_meaning ds → IsFoundAs m rest next → IsNext bytes next
digits_next ds rest bytes m next first run is found =
    let some = some_digits ds rest (ap (first_passes is_digit) (sym run.whole) ∙ first) run.ends in
    lexeme_next (digits ds) rest bytes m next (digits_longest ds rest bytes some run.pass run.ends run.whole) (sym is) found

pub mark_takes : (m : Mark) (b : ℕ) (rest : List ℕ) → b ≡ mark_byte m → Takes (plain.mark m) rest (b ∷ rest)
mark_takes m b rest at = takes_lexeme (sign m) rest (b ∷ rest) (plain.mark m) (mark_longest m b rest at) refl

pub one_byte_takes : (r : Rel) (n b : ℕ) (rest : List ℕ) → relation_bytes r ≡ n ∷ [] → b ≡ n → EndsBefore r rest → Takes (plain.relation r) rest (b ∷ rest)
one_byte_takes r n b rest spelled at ends =
    let whole : b ∷ rest ≡ relation_bytes r ++ rest = ap (λ (k : ℕ). k ∷ rest) at ∙ sym (ap (λ (bs : List ℕ). bs ++ rest) spelled) in
    takes_lexeme (comparison r) rest (b ∷ rest) (plain.relation r) (comparison_longest r rest (b ∷ rest) ends whole) refl

pub two_bytes_take : (r : Rel) (n b : ℕ) (behind rest : List ℕ) → relation_bytes r ≡ n ∷ 61 ∷ [] → b ≡ n → behind ≡ 61 ∷ rest → EndsBefore r rest →
    Takes (plain.relation r) rest (b ∷ behind)
two_bytes_take r n b behind rest spelled at equals ends =
    let both : b ∷ behind ≡ n ∷ 61 ∷ rest = cc in
    let whole : b ∷ behind ≡ relation_bytes r ++ rest = both ∙ sym (ap (λ (bs : List ℕ). bs ++ rest) spelled) in
    takes_lexeme (comparison r) rest (b ∷ behind) (plain.relation r) (comparison_longest r rest (b ∷ behind) ends whole) refl

bad_next : (b c : ℕ) (rest : List ℕ) → BeginsNoWord b → HasNoLexeme (b ∷ rest) → Reads c (b ∷ rest) [] (broken BadToken c)
bad_next b c rest h none = bad c b rest (record { no_blank = h.blank; no_comment = h.comment; no_lexeme = none })

pub bang_next : (b c : ℕ) (rest : List ℕ) → BeginsNoWord b → b ≡ 33 → begins_with_equals rest ≡ false → Reads c (b ∷ rest) [] (broken BadToken c)
bang_next b c rest h at none = bad_next b c rest h (subst (λ (n : ℕ). HasNoLexeme (n ∷ rest)) (sym at) (bang_begins_none rest none))

pub no_comparison : (b : ℕ) → (b ≡ 61 → ⊥) → (b ≡ 33 → ⊥) → (b ≡ 60 → ⊥) → (b ≡ 62 → ⊥) → is_comparison_byte b ≡ false
no_comparison b equals bang less greater =
    rw (ne_eqb b 61 equals, ne_eqb b 33 bang, ne_eqb b 60 less, ne_eqb b 62 greater)

no_mark_of : (b : ℕ) (o : Option Mark) → mark_of b ≡ o → IsNoMark b → mark_of b ≡ None
no_mark_of b (Some m) found h = absurd (h.differs m (mark_of-some b m found))
no_mark_of b None found h = found

pub other_next : (b c : ℕ) (rest : List ℕ) → BeginsNoWord b → IsNoMark b → is_comparison_byte b ≡ false → Reads c (b ∷ rest) [] (broken BadToken c)
other_next b c rest h marks none =
    bad_next b c rest h (other_begins_none (b ∷ rest) (byte_is_other b h.letter h.digit (no_mark_of b (mark_of b) refl marks) none))
