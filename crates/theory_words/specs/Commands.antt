-- The commands of the program, and the words that are read as each: `clap` reads those behind the first.
use Rattle.std.specs.Prelude.{◌≡◌, ◌==◌, ℕ, List, [], ◌∷◌, Option, Some, None, option_map, option_and_then, find, codes, if◌then◌else◌}
use Rattle.std.specs.List.{slice_split}
use Rattle.std.specs.Str.{bytes_eq}
use Rattle.clap.specs.Words.{App, Kinds, Row, Text, first_of, fault_of, matches_of}
use Rattle.theory_meaning.specs.declared.words.Kind.{Kind}
use Rattle.theory_words.specs.Arguments.{orders, check_arguments, derive_arguments}

-- the check of a file with an order of elimination and the names on which the condition is wanted, or the derivation of a file
pub data Command : Type 0 where
  check : Text → Kind → List Text → Command
  derive : Text → Command

-- the order of a name
abbrev pub order_named : Text → Option Kind
order_named name = option_map (λ entry. entry.1) (find (λ entry. bytes_eq entry.0 name) orders)

-- the order that was found
abbrev pub order_of : List Row → Option Kind
order_of found = option_and_then order_named (first_of (codes "order") found)

-- the byte of `,`
abbrev pub comma : ℕ
comma = 44

-- the parts between commas; an empty one stands between two commas, before the first, behind the last, and in the empty text
abbrev pub parts_at_commas : Text → List Text
parts_at_commas text = slice_split (λ byte. byte == comma) text

-- the names that the value of `--on` gives; none where it isn't given
abbrev pub names_given : Option Text → List Text
names_given None = []
names_given (Some text) = parts_at_commas text

-- the names that were found
abbrev pub names_of : List Row → List Text
names_of found = names_given (first_of (codes "on") found)

-- the check of a file with the order and on the names that were found
abbrev pub check_of_file : List Row → Text → Option Command
check_of_file found file = option_map (λ order. check file order (names_of found)) (order_of found)

-- the check of the file that was found
abbrev pub check_of : List Row → Option Command
check_of found = option_and_then (check_of_file found) (first_of (codes "file") found)

-- the derivation of the file that was found
abbrev pub derive_of : List Row → Option Command
derive_of found = option_map derive (first_of (codes "file") found)

-- what is found, where no fault is promised
abbrev pub without_fault : Kinds → List Row → Option (List Row)
without_fault [] found = Some found
without_fault (fault ∷ more) found = None

-- what `clap` finds in words that it takes
abbrev pub found_in : App → List Text → Option (List Row)
found_in arguments words = without_fault (fault_of arguments words) (matches_of arguments words)

-- the command that the words are, if they are one; the first word names it
abbrev pub command_in : List Text → Option Command
command_in [] = None
command_in (word ∷ behind) =
    if bytes_eq word (codes "check") then option_and_then check_of (found_in check_arguments behind)
    else (if bytes_eq word (codes "derive") then option_and_then derive_of (found_in derive_arguments behind)
    else None)

-- the words are the command
abbrev pub IsCommand : List Text → Command → Type 0
IsCommand words command = command_in words ≡ Some command

-- the words are no command
abbrev pub IsNoCommand : List Text → Type 0
IsNoCommand words = (command : Command) → ¬ IsCommand words command
