-- Words of a plain form.
use Rattle.std.specs.Prelude.{◌≢◌, ℕ, List, [], ◌∷◌, ◌++◌, codes}
use Rattle.clap.specs.Words.{Text}
use Rattle.theory_meaning.specs.declared.words.Kind.{Kind}
use Rattle.theory_meaning.specs.declared.words.Kind.TheVariants.{Listed, Rare, Unit as unit, Signed}

-- the byte of `-`
abbrev pub hyphen : ℕ
hyphen = 45

-- the word doesn't begin with `-`
abbrev pub IsNoOption : Text → Type 0
IsNoOption [] = Unit {0}
IsNoOption (byte ∷ rest) = byte ≢ hyphen

-- the name of an order
abbrev pub name_of : Kind → Text
name_of Listed = codes "listed"
name_of Rare = codes "rare"
name_of unit = codes "unit"
name_of Signed = codes "signed"

-- the words of a check that names no order
abbrev pub check_words : Text → List Text
check_words file = codes "check" ∷ file ∷ []

-- the words of a check with an order behind the file
abbrev pub check_words_by : Text → Kind → List Text
check_words_by file order = codes "check" ∷ file ∷ codes "--order" ∷ name_of order ∷ []

-- the words of a check with an order before the file
abbrev pub ordered_check_words : Kind → Text → List Text
ordered_check_words order file = codes "check" ∷ codes "--order" ∷ name_of order ∷ file ∷ []

-- the words of a check with names behind the file
abbrev pub check_words_on : Text → Text → List Text
check_words_on file names = codes "check" ∷ file ∷ codes "--on" ∷ names ∷ []

-- the words of a check with names before the file
abbrev pub named_check_words : Text → Text → List Text
named_check_words names file = codes "check" ∷ codes "--on" ∷ names ∷ file ∷ []

-- three groups of words, one behind another, in each order
abbrev pub arrangements : List Text → List Text → List Text → List (List Text)
arrangements a b c =
    (a ++ b ++ c) ∷ (a ++ c ++ b) ∷ (b ++ a ++ c) ∷ (b ++ c ++ a) ∷ (c ++ a ++ b) ∷ (c ++ b ++ a) ∷ []

-- the words behind `check` of a check with an order and names: the file and the two options in each order
abbrev pub full_check_words : Text → Kind → Text → List (List Text)
full_check_words file order names =
    arrangements (file ∷ []) (codes "--order" ∷ name_of order ∷ []) (codes "--on" ∷ names ∷ [])

-- the words of a derivation
abbrev pub derive_words : Text → List Text
derive_words file = codes "derive" ∷ file ∷ []
