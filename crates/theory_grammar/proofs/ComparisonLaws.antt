-- The longest comparison sign at the front of bytes, and bytes that begin with no lexeme.
use Rattle.std.proofs.Common.{◌≡◌, ℕ, ◌≤◌, Bool, false, ◌==◌, List, ◌∷◌, ◌++◌, length, sym, ap, ◌∙◌, arith}
use Rattle.std.proofs.lemmas.Bool.{false≢true}
use Rattle.theory_meaning.specs.declared.words.Rel.{Rel}
use Rattle.theory_meaning.specs.declared.words.Rel.TheVariants.{Eq, Ne, Lt, Le, Gt, Ge}
use Rattle.theory_grammar.specs.Signs.{relation_bytes}
use Rattle.theory_grammar.specs.Lexeme.{Lexeme, word, pair, digits, sign, comparison, spelling, IsLexeme, IsLongest, HasNoLexeme}
use Rattle.theory_grammar.specs.Runs.{first_passes}
use Rattle.theory_grammar.proofs.LexemeLaws.{other, comparison_sign, first_class, lexeme_class, begins_so, no_lexeme_is_other}
use Rattle.theory_grammar.proofs.LongestLaws.{apart}

-- an equals sign stands first
abbrev pub begins_with_equals : List ℕ → Bool
begins_with_equals = first_passes (λ b. b == 61)

no_equals : (rest behind : List ℕ) → begins_with_equals rest ≡ false → rest ≡ 61 ∷ behind → ⊥
no_equals rest behind none is = false≢true (sym none ∙ ap begins_with_equals is)

other_head : (a b : ℕ) (rest behind : List ℕ) → (a ≡ b → ⊥) → a ∷ rest ≡ b ∷ behind → ⊥
other_head a b rest behind differ whole = differ cc

tails : (a : ℕ) (rest behind : List ℕ) → a ∷ rest ≡ a ∷ behind → rest ≡ behind
tails a rest behind whole = cc

short_sign : (r : Rel) → length (relation_bytes r) ≤ 2
short_sign Eq = omega arith
short_sign Ne = omega arith
short_sign Lt = omega arith
short_sign Le = omega arith
short_sign Gt = omega arith
short_sign Ge = omega arith

-- at one byte that no equals sign follows, no longer comparison stands
equals_bound : (rest : List ℕ) (r : Rel) (behind : List ℕ) → 61 ∷ rest ≡ relation_bytes r ++ behind → length (relation_bytes r) ≤ 1
equals_bound rest Eq behind whole = omega arith
equals_bound rest Ne behind whole = absurd (other_head 61 33 rest (61 ∷ behind) (λ h. absurd (omega arith)) whole)
equals_bound rest Lt behind whole = omega arith
equals_bound rest Le behind whole = absurd (other_head 61 60 rest (61 ∷ behind) (λ h. absurd (omega arith)) whole)
equals_bound rest Gt behind whole = omega arith
equals_bound rest Ge behind whole = absurd (other_head 61 62 rest (61 ∷ behind) (λ h. absurd (omega arith)) whole)

less_bound : (rest : List ℕ) (r : Rel) (behind : List ℕ) → begins_with_equals rest ≡ false → 60 ∷ rest ≡ relation_bytes r ++ behind →
    length (relation_bytes r) ≤ 1
less_bound rest Eq behind none whole = omega arith
less_bound rest Ne behind none whole = absurd (other_head 60 33 rest (61 ∷ behind) (λ h. absurd (omega arith)) whole)
less_bound rest Lt behind none whole = omega arith
less_bound rest Le behind none whole = absurd (no_equals rest behind none (tails 60 rest (61 ∷ behind) whole))
less_bound rest Gt behind none whole = omega arith
less_bound rest Ge behind none whole = absurd (other_head 60 62 rest (61 ∷ behind) (λ h. absurd (omega arith)) whole)

greater_bound : (rest : List ℕ) (r : Rel) (behind : List ℕ) → begins_with_equals rest ≡ false → 62 ∷ rest ≡ relation_bytes r ++ behind →
    length (relation_bytes r) ≤ 1
greater_bound rest Eq behind none whole = omega arith
greater_bound rest Ne behind none whole = absurd (other_head 62 33 rest (61 ∷ behind) (λ h. absurd (omega arith)) whole)
greater_bound rest Lt behind none whole = omega arith
greater_bound rest Le behind none whole = absurd (other_head 62 60 rest (61 ∷ behind) (λ h. absurd (omega arith)) whole)
greater_bound rest Gt behind none whole = omega arith
greater_bound rest Ge behind none whole = absurd (no_equals rest behind none (tails 62 rest (61 ∷ behind) whole))

no_bang : (rest : List ℕ) (r : Rel) (behind : List ℕ) → begins_with_equals rest ≡ false → 33 ∷ rest ≡ relation_bytes r ++ behind → ⊥
no_bang rest Eq behind none whole = other_head 33 61 rest behind (λ h. absurd (omega arith)) whole
no_bang rest Ne behind none whole = no_equals rest behind none (tails 33 rest (61 ∷ behind) whole)
no_bang rest Lt behind none whole = other_head 33 60 rest behind (λ h. absurd (omega arith)) whole
no_bang rest Le behind none whole = other_head 33 60 rest (61 ∷ behind) (λ h. absurd (omega arith)) whole
no_bang rest Gt behind none whole = other_head 33 62 rest behind (λ h. absurd (omega arith)) whole
no_bang rest Ge behind none whole = other_head 33 62 rest (61 ∷ behind) (λ h. absurd (omega arith)) whole

-- what doesn't make a one-byte comparison longer
abbrev pub EndsBefore : Rel → List ℕ → Type 0
EndsBefore Lt rest = begins_with_equals rest ≡ false
EndsBefore Gt rest = begins_with_equals rest ≡ false
EndsBefore _ rest = Unit {0}

sign_bound : (r : Rel) (rest : List ℕ) (s : Rel) (behind : List ℕ) → EndsBefore r rest → relation_bytes r ++ rest ≡ relation_bytes s ++ behind →
    length (relation_bytes s) ≤ length (relation_bytes r)
sign_bound Eq rest s behind ends whole = equals_bound rest s behind whole
sign_bound Ne rest s behind ends whole = short_sign s
sign_bound Lt rest s behind ends whole = less_bound rest s behind ends whole
sign_bound Le rest s behind ends whole = short_sign s
sign_bound Gt rest s behind ends whole = greater_bound rest s behind ends whole
sign_bound Ge rest s behind ends whole = short_sign s

comparison_bound : (r : Rel) (rest : List ℕ) (y : Lexeme) (behind : List ℕ) → EndsBefore r rest → IsLexeme y →
    relation_bytes r ++ rest ≡ spelling y ++ behind → length (spelling y) ≤ length (relation_bytes r)
comparison_bound r rest (word w) behind ends is whole = absurd (apart (comparison r) (word w) rest behind tt is whole (λ h. cc))
comparison_bound r rest (pair u v) behind ends is whole = absurd (apart (comparison r) (pair u v) rest behind tt is whole (λ h. cc))
comparison_bound r rest (digits ds) behind ends is whole = absurd (apart (comparison r) (digits ds) rest behind tt is whole (λ h. cc))
comparison_bound r rest (sign m) behind ends is whole = absurd (apart (comparison r) (sign m) rest behind tt is whole (λ h. cc))
comparison_bound r rest (comparison s) behind ends is whole = sign_bound r rest s behind ends whole

pub comparison_longest : (r : Rel) (rest bytes : List ℕ) → EndsBefore r rest → bytes ≡ relation_bytes r ++ rest → IsLongest (comparison r) rest bytes
comparison_longest r rest bytes ends whole = record {
  lexeme = tt;
  whole = whole;
  longest = λ y behind is same. comparison_bound r rest y behind ends is (sym whole ∙ same);
}

-- a byte that begins no kind of lexeme
pub other_begins_none : (bytes : List ℕ) → first_class bytes ≡ other → HasNoLexeme bytes
other_begins_none bytes is_other y behind is whole = no_lexeme_is_other y (sym (begins_so y behind bytes is whole) ∙ is_other)

bang_against : (rest : List ℕ) (y : Lexeme) (behind : List ℕ) → begins_with_equals rest ≡ false → lexeme_class y ≡ comparison_sign →
    33 ∷ rest ≡ spelling y ++ behind → ⊥
bang_against rest (word w) behind none kind whole = cc
bang_against rest (pair u v) behind none kind whole = cc
bang_against rest (digits ds) behind none kind whole = cc
bang_against rest (sign m) behind none kind whole = cc
bang_against rest (comparison r) behind none kind whole = no_bang rest r behind none whole

-- an exclamation mark without an equals sign
pub bang_begins_none : (rest : List ℕ) → begins_with_equals rest ≡ false → HasNoLexeme (33 ∷ rest)
bang_begins_none rest none y behind is whole = bang_against rest y behind none (sym (begins_so y behind (33 ∷ rest) is whole)) whole
