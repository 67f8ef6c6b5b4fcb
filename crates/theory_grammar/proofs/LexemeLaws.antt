-- Lexemes by their first bytes: letters, digits, marks and comparisons begin different kinds.
use Rattle.std.proofs.Common.{◌≡◌, ◌≢◌, ℕ, ◌≤◌, Bool, true, false, cond, ◌||◌, ◌==◌, List, [], ◌∷◌, ◌++◌, Option, Some, None, refl, sym, ap, ◌∙◌, arith, append_assoc}
use Rattle.std.specs.Prelude.{if◌then◌else◌, nat_le}
use Rattle.std.specs.List.{list_all}
use Rattle.std.specs.Str.{bytes_eq}
use Rattle.std.proofs.lemmas.Bool.{false≢true, and_parts, eqb-true, leb-true, lt-leb, cond-true, cond-false}
use Rattle.theory_meaning.specs.declared.words.Rel.{Rel}
use Rattle.theory_meaning.specs.declared.words.Rel.TheVariants.{Eq, Ne, Lt, Le, Gt, Ge}
use Rattle.theory_meaning.specs.Identifier.{is_digit, is_letter, is_word_byte, is_word}
use Rattle.theory_grammar.specs.declared.words.Mark.{Mark}
use Rattle.theory_grammar.specs.declared.words.Mark.TheVariants.{Open, Close, OpenSquare, CloseSquare, Plus, Minus, Times, Over, Power, Colon}
use Rattle.theory_grammar.specs.Signs.{mark_byte, relation_bytes}
use Rattle.theory_grammar.specs.Lexeme.{Lexeme, word, pair, digits, sign, comparison, spelling, IsLexeme}

-- the mark of a byte
abbrev pub mark_among : ℕ → List Mark → Option Mark
mark_among b [] = None
mark_among b (m ∷ ms) = if b == mark_byte m then Some m else mark_among b ms

abbrev pub all_marks : List Mark
all_marks = Open ∷ Close ∷ OpenSquare ∷ CloseSquare ∷ Plus ∷ Minus ∷ Times ∷ Over ∷ Power ∷ Colon ∷ []

abbrev pub mark_of : ℕ → Option Mark
mark_of b = mark_among b all_marks

pub mark_of-mark_byte : (m : Mark) → mark_of (mark_byte m) ≡ Some m
mark_of-mark_byte Open = refl
mark_of-mark_byte Close = refl
mark_of-mark_byte OpenSquare = refl
mark_of-mark_byte CloseSquare = refl
mark_of-mark_byte Plus = refl
mark_of-mark_byte Minus = refl
mark_of-mark_byte Times = refl
mark_of-mark_byte Over = refl
mark_of-mark_byte Power = refl
mark_of-mark_byte Colon = refl

among_cases : (b : ℕ) (m n : Mark) (ms : List Mark) (t : Bool) → t ≡ (b == mark_byte m) → (cond t (Some m) (mark_among b ms)) ≡ Some n →
    (mark_among b ms ≡ Some n → b ≡ mark_byte n) → b ≡ mark_byte n
among_cases b m n ms true same found below =
    let named : m ≡ n = cc in
    eqb-true b (mark_byte m) (sym same) ∙ ap mark_byte named
among_cases b m n ms false same found below = below found

mark_among-some : (b : ℕ) (n : Mark) (ms : List Mark) → mark_among b ms ≡ Some n → b ≡ mark_byte n
mark_among-some b n [] found = cc
mark_among-some b n (m ∷ ms) found = among_cases b m n ms (b == mark_byte m) refl found (mark_among-some b n ms)

pub mark_of-some : (b : ℕ) (m : Mark) → mark_of b ≡ Some m → b ≡ mark_byte m
mark_of-some b m found = mark_among-some b m all_marks found

-- the relation of bytes
abbrev pub relation_of : List ℕ → Rel
relation_of bs =
    if bytes_eq bs (relation_bytes Ne) then Ne
    else (if bytes_eq bs (relation_bytes Lt) then Lt
    else (if bytes_eq bs (relation_bytes Le) then Le
    else (if bytes_eq bs (relation_bytes Gt) then Gt
    else (if bytes_eq bs (relation_bytes Ge) then Ge else Eq))))

pub relation_of-relation_bytes : (r : Rel) → relation_of (relation_bytes r) ≡ r
relation_of-relation_bytes Eq = refl
relation_of-relation_bytes Ne = refl
relation_of-relation_bytes Lt = refl
relation_of-relation_bytes Le = refl
relation_of-relation_bytes Gt = refl
relation_of-relation_bytes Ge = refl

-- what a byte can begin
pub data Class : Type 0 where
  letter : Class
  figure : Class
  mark_sign : Class
  comparison_sign : Class
  other : Class

abbrev pub is_comparison_byte : ℕ → Bool
is_comparison_byte b = (b == 33) || ((b == 60) || ((b == 61) || (b == 62)))

abbrev pub class_of_mark : Option Mark → ℕ → Class
class_of_mark (Some m) b = mark_sign
class_of_mark None b = if is_comparison_byte b then comparison_sign else other

abbrev pub class_of : ℕ → Class
class_of b = if is_letter b then letter else (if is_digit b then figure else class_of_mark (mark_of b) b)

abbrev pub first_class : List ℕ → Class
first_class [] = other
first_class (b ∷ bs) = class_of b

abbrev pub lexeme_class : Lexeme → Class
lexeme_class (word w) = letter
lexeme_class (pair u v) = letter
lexeme_class (digits ds) = figure
lexeme_class (sign m) = mark_sign
lexeme_class (comparison rel) = comparison_sign

pub class_of-letter : (b : ℕ) → is_letter b ≡ true → class_of b ≡ letter
class_of-letter b h = cond-true (is_letter b) letter (cond (is_digit b) figure (class_of_mark (mark_of b) b)) h

-- a digit is no letter
pub digit_no_letter : (b : ℕ) → is_digit b ≡ true → is_letter b ≡ false
digit_no_letter b h =
    let parts = and_parts (nat_le 48 b) (nat_le b 57) h in
    let top : b ≤ 57 = leb-true b 57 parts.1 in
    let low : nat_le 65 b ≡ false = lt-leb 65 b (omega arith) in
    let high : nat_le 97 b ≡ false = lt-leb 97 b (omega arith) in
    rw (low, high)

pub class_of-digit : (b : ℕ) → is_digit b ≡ true → class_of b ≡ figure
class_of-digit b h =
    cond-false (is_letter b) letter (cond (is_digit b) figure (class_of_mark (mark_of b) b)) (digit_no_letter b h) ∙
    cond-true (is_digit b) figure (class_of_mark (mark_of b) b) h

word_begins : (w behind : List ℕ) → is_word w ≡ true → first_class (w ++ behind) ≡ letter
word_begins [] behind h = absurd (false≢true h)
word_begins (b ∷ bs) behind h = class_of-letter b (and_parts (is_letter b) (list_all is_word_byte bs) h).0

digits_begin : (ds behind : List ℕ) → ds ≢ [] → list_all is_digit ds ≡ true → first_class (ds ++ behind) ≡ figure
digits_begin [] behind some h = absurd (some refl)
digits_begin (b ∷ bs) behind some h = class_of-digit b (and_parts (is_digit b) (list_all is_digit bs) h).0

mark_begins : (m : Mark) → class_of (mark_byte m) ≡ mark_sign
mark_begins Open = refl
mark_begins Close = refl
mark_begins OpenSquare = refl
mark_begins CloseSquare = refl
mark_begins Plus = refl
mark_begins Minus = refl
mark_begins Times = refl
mark_begins Over = refl
mark_begins Power = refl
mark_begins Colon = refl

comparison_begins : (r : Rel) (behind : List ℕ) → first_class (relation_bytes r ++ behind) ≡ comparison_sign
comparison_begins Eq behind = refl
comparison_begins Ne behind = refl
comparison_begins Lt behind = refl
comparison_begins Le behind = refl
comparison_begins Gt behind = refl
comparison_begins Ge behind = refl

-- the first byte shows the kind of lexeme
pub lexeme_begins : (y : Lexeme) (behind : List ℕ) → IsLexeme y → first_class (spelling y ++ behind) ≡ lexeme_class y
lexeme_begins (word w) behind h = word_begins w behind h
lexeme_begins (pair u v) behind h = ap first_class (append_assoc u (46 ∷ v) behind) ∙ word_begins u (46 ∷ (v ++ behind)) h.0
lexeme_begins (digits ds) behind h = digits_begin ds behind h.0 h.1
lexeme_begins (sign m) behind h = mark_begins m
lexeme_begins (comparison rel) behind h = comparison_begins rel behind

pub begins_so : (y : Lexeme) (behind bytes : List ℕ) → IsLexeme y → bytes ≡ spelling y ++ behind → first_class bytes ≡ lexeme_class y
begins_so y behind bytes is whole = ap first_class whole ∙ lexeme_begins y behind is

pub no_lexeme_is_other : (y : Lexeme) → lexeme_class y ≡ other → ⊥
no_lexeme_is_other (word w) h = cc
no_lexeme_is_other (pair u v) h = cc
no_lexeme_is_other (digits ds) h = cc
no_lexeme_is_other (sign m) h = cc
no_lexeme_is_other (comparison rel) h = cc
