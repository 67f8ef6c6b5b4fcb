-- A guess of the lexeme at the front of bytes, and the test that it is the longest one there.
use Rattle.std.proofs.Common.{◌≡◌, ◌≢◌, ℕ, ◌==◌, ◌&&◌, Bool, true, false, cond, not, List, [], ◌∷◌, ◌++◌, length, Option, None, Some, refl, sym, ap, subst, ◌∙◌}
use Rattle.std.specs.List.{list_all}
use Rattle.std.specs.Str.{bytes_eq}
use Rattle.std.proofs.lemmas.Bool.{and_parts, false≢true}
use Rattle.std.proofs.lemmas.Slice.Eq.{bytes_eq-Decides}
use Rattle.theory_meaning.specs.declared.words.Rel.{Rel}
use Rattle.theory_meaning.specs.declared.words.Rel.TheVariants.{Eq, Ne, Lt, Le, Gt, Ge}
use Rattle.theory_meaning.specs.Identifier.{is_letter, is_digit, is_word_byte, is_word}
use Rattle.theory_grammar.specs.declared.words.Mark.{Mark}
use Rattle.theory_grammar.specs.Signs.{mark_byte, relation_bytes}
use Rattle.theory_grammar.specs.Lexeme.{Lexeme, word, pair, digits, sign, comparison, IsLongest}
use Rattle.theory_grammar.specs.Runs.{first_passes, begins_a_dotted_part}
use Rattle.theory_grammar.proofs.ComparisonLaws.{begins_with_equals, EndsBefore, comparison_longest}
use Rattle.theory_grammar.proofs.LexemeLaws.{mark_of}
use Rattle.theory_grammar.proofs.LongestLaws.{word_longest, pair_longest, digits_longest, mark_longest}

-- the bytes of a kind that stand first, and those behind them
abbrev pub Cut : Type 0
Cut = List ℕ × List ℕ

abbrev pub onto_cut : ℕ → Cut → Cut
onto_cut b c = (b ∷ c.0, c.1)

abbrev pub cut_at : Bool → ℕ → List ℕ → Cut → Cut
cut_at true b bs more = onto_cut b more
cut_at false b bs more = ([], b ∷ bs)

abbrev pub cut_run : (ℕ → Bool) → List ℕ → Cut
cut_run test [] = ([], [])
cut_run test (b ∷ bs) = cut_at (test b) b bs (cut_run test bs)

abbrev pub without_first : List ℕ → List ℕ
without_first [] = []
without_first (b ∷ bs) = bs

-- a lexeme, and the bytes behind it
abbrev pub Guess : Type 0
Guess = Lexeme × List ℕ

abbrev pub pair_guess : List ℕ → Cut → Guess
pair_guess u c = (pair u c.0, c.1)

abbrev pub word_guess : Bool → Cut → Guess
word_guess false c = (word c.0, c.1)
word_guess true c = pair_guess c.0 (cut_run is_word_byte (without_first c.1))

abbrev pub named_guess : Cut → Guess
named_guess c = word_guess (begins_a_dotted_part c.1) c

abbrev pub digits_guess : Cut → Guess
digits_guess c = (digits c.0, c.1)

-- a comparison by its first byte, and whether an equals sign follows
abbrev pub long_relation : ℕ → Rel
long_relation b = cond (b == 60) Le (cond (b == 62) Ge Ne)

abbrev pub short_relation : ℕ → Rel
short_relation b = cond (b == 60) Lt (cond (b == 62) Gt Eq)

abbrev pub comparison_guess : Bool → ℕ → List ℕ → Guess
comparison_guess true b bs = (comparison (long_relation b), without_first bs)
comparison_guess false b bs = (comparison (short_relation b), bs)

abbrev pub sign_guess : Option Mark → ℕ → List ℕ → Guess
sign_guess (Some m) b bs = (sign m, bs)
sign_guess None b bs = comparison_guess (begins_with_equals bs && not (b == 61)) b bs

abbrev pub other_guess : Bool → ℕ → List ℕ → Guess
other_guess true b bs = digits_guess (cut_run is_digit (b ∷ bs))
other_guess false b bs = sign_guess (mark_of b) b bs

abbrev pub guess_at : Bool → ℕ → List ℕ → Guess
guess_at true b bs = named_guess (cut_run is_word_byte (b ∷ bs))
guess_at false b bs = other_guess (is_digit b) b bs

-- the guess at these bytes, the first of which is apart
abbrev pub guess : ℕ → List ℕ → Guess
guess b bs = guess_at (is_letter b) b bs

abbrev pub is_ended : Rel → List ℕ → Bool
is_ended Lt rest = not (begins_with_equals rest)
is_ended Gt rest = not (begins_with_equals rest)
is_ended _ rest = true

-- the test that a lexeme is the longest at the front of bytes, with this rest
abbrev pub fits : Lexeme → List ℕ → List ℕ → Bool
fits (word w) rest bytes = is_word w && (not (first_passes is_word_byte rest) && (not (begins_a_dotted_part rest) && bytes_eq bytes (w ++ rest)))
fits (pair u v) rest bytes = is_word u && (is_word v && (not (first_passes is_word_byte rest) && bytes_eq bytes ((u ++ 46 ∷ v) ++ rest)))
fits (digits ds) rest bytes = not (length ds == 0) && (list_all is_digit ds && (not (first_passes is_digit rest) && bytes_eq bytes (ds ++ rest)))
fits (sign m) rest bytes = bytes_eq bytes (mark_byte m ∷ rest)
fits (comparison r) rest bytes = is_ended r rest && bytes_eq bytes (relation_bytes r ++ rest)

turned : (b : Bool) → not b ≡ true → b ≡ false
turned true h = absurd (false≢true h)
turned false h = refl

same_bytes : (bs cs : List ℕ) → bytes_eq bs cs ≡ true → bs ≡ cs
same_bytes bs cs h = (bytes_eq-Decides bs cs).0 h

ends : (r : Rel) (rest : List ℕ) → is_ended r rest ≡ true → EndsBefore r rest
ends Lt rest h = turned (begins_with_equals rest) h
ends Gt rest h = turned (begins_with_equals rest) h
ends Eq rest h = tt
ends Ne rest h = tt
ends Le rest h = tt
ends Ge rest h = tt

some_digits : (ds : List ℕ) → not (length ds == 0) ≡ true → ds ≢ []
some_digits ds h is = false≢true (ap (λ (es : List ℕ). not (length es == 0)) (sym is) ∙ h)

one_mark : (m : Mark) (rest bytes : List ℕ) → bytes ≡ mark_byte m ∷ rest → IsLongest (sign m) rest bytes
one_mark m rest bytes same = subst (IsLongest (sign m) rest) (sym same) (mark_longest m (mark_byte m) rest refl)

four : (a b c d : Bool) → (a && (b && (c && d))) ≡ true → (a ≡ true) × (b ≡ true) × (c ≡ true) × (d ≡ true)
four a b c d h =
    let k = and_parts a (b && (c && d)) h in
    let l = and_parts b (c && d) k.1 in
    let m = and_parts c d l.1 in
    (k.0, l.0, m.0, m.1)

-- where the test holds it is
pub fits_longest : (x : Lexeme) (rest bytes : List ℕ) → fits x rest bytes ≡ true → IsLongest x rest bytes
fits_longest (word w) rest bytes h =
    let k = four (is_word w) (not (first_passes is_word_byte rest)) (not (begins_a_dotted_part rest)) (bytes_eq bytes (w ++ rest)) h in
    word_longest w rest bytes k.0 (turned _ k.1) (turned _ k.2) (same_bytes bytes (w ++ rest) k.3)
fits_longest (pair u v) rest bytes h =
    let k = four (is_word u) (is_word v) (not (first_passes is_word_byte rest)) (bytes_eq bytes ((u ++ 46 ∷ v) ++ rest)) h in
    pair_longest u v rest bytes k.0 k.1 (turned _ k.2) (same_bytes bytes ((u ++ 46 ∷ v) ++ rest) k.3)
fits_longest (digits ds) rest bytes h =
    let k = four (not (length ds == 0)) (list_all is_digit ds) (not (first_passes is_digit rest)) (bytes_eq bytes (ds ++ rest)) h in
    digits_longest ds rest bytes (some_digits ds k.0) k.1 (turned _ k.2) (same_bytes bytes (ds ++ rest) k.3)
fits_longest (sign m) rest bytes h = one_mark m rest bytes (same_bytes bytes (mark_byte m ∷ rest) h)
fits_longest (comparison r) rest bytes h =
    let a = and_parts (is_ended r rest) (bytes_eq bytes (relation_bytes r ++ rest)) h in
    comparison_longest r rest bytes (ends r rest a.0) (same_bytes bytes (relation_bytes r ++ rest) a.1)
