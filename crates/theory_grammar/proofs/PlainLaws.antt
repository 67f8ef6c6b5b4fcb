-- Printed bytes are plain: blanks and signs that are seen, so no line feed, and UTF-8.
use Rattle.std.proofs.Common.{◌≡◌, ℕ, ◌≤◌, Bool, true, not, ◌&&◌, ◌==◌, List, [], ◌∷◌, ◌++◌, refl, ◌∙◌, arith}
use Rattle.std.specs.Prelude.{nat_le, IsUtf8, IsAscii}
use Rattle.std.specs.List.{list_all}
use Rattle.std.proofs.lemmas.Bool.{and_parts, and_from, leb-true}
use Rattle.std.proofs.lemmas.Bool.Decides.{nat_tests}
use Rattle.std.proofs.lemmas.List.Folds.{list_all-append}
use Rattle.std.proofs.lemmas.Str.{IsUtf8-from_ascii}
use Rattle.std.proofs.lemmas.Str.Ascii.{IsAscii-nil, IsAscii-cons}
use Rattle.theory_meaning.specs.declared.words.Rel.TheVariants.{Eq, Ne, Lt, Le, Gt, Ge}
use Rattle.theory_meaning.specs.Identifier.{is_digit, is_word_byte, is_word}
use Rattle.theory_grammar.specs.declared.words.Mark.TheVariants.{Open, Close, OpenSquare, CloseSquare, Plus, Minus, Times, Over, Power, Colon}
use Rattle.theory_grammar.specs.Lexeme.{Lexeme, word, pair, digits, sign, comparison, spelling, IsLexeme}
use Rattle.theory_grammar.specs.OneLine.{has_no_feed}
use Rattle.theory_grammar.proofs.LongestLaws.{word_bytes}

-- a blank, or a sign, letter or digit of ASCII
abbrev pub is_plain : ℕ → Bool
is_plain b = nat_le 32 b && nat_le b 126

-- what passes one test passes a weaker one
weaker : (p q : ℕ → Bool) → ((b : ℕ) → p b ≡ true → q b ≡ true) → (bs : List ℕ) → list_all p bs ≡ true → list_all q bs ≡ true
weaker p q h [] all = refl
weaker p q h (b ∷ bs) all =
    let parts = and_parts (p b) (list_all p bs) all in
    and_from (q b) (list_all q bs) (h b parts.0) (weaker p q h bs parts.1)

digit_is_plain : (b : ℕ) → is_digit b ≡ true → is_plain b ≡ true
digit_is_plain b h = grind (arith, nat_tests)

word_is_plain : (b : ℕ) → is_word_byte b ≡ true → is_plain b ≡ true
word_is_plain b h = grind (arith, nat_tests)

plain_is_no_feed : (b : ℕ) → is_plain b ≡ true → not (b == 10) ≡ true
plain_is_no_feed b h = grind (arith, nat_tests)

word_plain : (w : List ℕ) → is_word w ≡ true → list_all is_plain w ≡ true
word_plain w h = weaker is_word_byte is_plain word_is_plain w (word_bytes w h)

pub plain_append : (x y : List ℕ) → list_all is_plain x ≡ true → list_all is_plain y ≡ true → list_all is_plain (x ++ y) ≡ true
plain_append x y h k = list_all-append is_plain x y ∙ and_from (list_all is_plain x) (list_all is_plain y) h k

-- lexemes are plain
pub plain_lexeme : (x : Lexeme) → IsLexeme x → list_all is_plain (spelling x) ≡ true
plain_lexeme (word w) h = word_plain w h
plain_lexeme (pair u v) h = plain_append u (46 ∷ v) (word_plain u h.0) (word_plain v h.1)
plain_lexeme (digits ds) h = weaker is_digit is_plain digit_is_plain ds h.1
plain_lexeme (sign Open) h = refl
plain_lexeme (sign Close) h = refl
plain_lexeme (sign OpenSquare) h = refl
plain_lexeme (sign CloseSquare) h = refl
plain_lexeme (sign Plus) h = refl
plain_lexeme (sign Minus) h = refl
plain_lexeme (sign Times) h = refl
plain_lexeme (sign Over) h = refl
plain_lexeme (sign Power) h = refl
plain_lexeme (sign Colon) h = refl
plain_lexeme (comparison Eq) h = refl
plain_lexeme (comparison Ne) h = refl
plain_lexeme (comparison Lt) h = refl
plain_lexeme (comparison Le) h = refl
plain_lexeme (comparison Gt) h = refl
plain_lexeme (comparison Ge) h = refl

-- plain bytes have no line feed, and are UTF-8
pub plain_no_feed : (bs : List ℕ) → list_all is_plain bs ≡ true → has_no_feed bs ≡ true
plain_no_feed bs h = weaker is_plain (λ b. not (b == 10)) plain_is_no_feed bs h

plain_ascii : (bs : List ℕ) → list_all is_plain bs ≡ true → IsAscii bs
plain_ascii [] h = IsAscii-nil
plain_ascii (b ∷ bs) h =
    let parts = and_parts (is_plain b) (list_all is_plain bs) h in
    let top : b ≤ 126 = leb-true b 126 (and_parts (nat_le 32 b) (nat_le b 126) parts.0).1 in
    IsAscii-cons b bs (omega arith) (plain_ascii bs parts.1)

pub plain_utf8 : (bs : List ℕ) → list_all is_plain bs ≡ true → IsUtf8 bs
plain_utf8 bs h = IsUtf8-from_ascii bs (plain_ascii bs h)
