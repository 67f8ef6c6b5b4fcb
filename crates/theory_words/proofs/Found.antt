-- What is found in words, from the promised faults, and the command of it.
use Rattle.std.proofs.Common.{ap, refl, sym, true, false, codes, List, [], ◌∷◌, Option, Some, None, Err, ◌≡◌, ◌∙◌, Bool, Bor, ◌&&◌, option_map}
use Rattle.std.specs.Option.{option_and_then, ok_or}
use Rattle.clap.specs.Words.{App, Kinds, IsAmong, Row, Text, fault_of, matches_of, rows_of, first_of, first_value, is_simple_and_free, is_simple}
use Rattle.clap.specs.declared.parser.matches.Found.{Found}
use Rattle.clap.proofs.WalkLemmas.{first_value-rows}
use Rattle.clap.specs.declared.error.kind.ErrorKind.{ErrorKind}
use Rattle.theory_words.specs.Commands as plain
use Rattle.theory_words.specs.Commands.{found_in, without_fault, check_of, check_of_file, derive_of, order_of, order_named, names_of}
use Rattle.theory_words.specs.Reading.{IsFoundAs, IsReadAs, command_of}
use Rattle.theory_words.specs.declared.command.Command.{Command}
use Rattle.theory_words.specs.declared.command.WordsFault.{WordsFault}
use Rattle.theory_words.specs.declared.command.WordsFault.TheVariants.{NoCommand, NoMemory}

-- no fault is promised
pub found : (app : App) (words : List Text) (rows : List Row) → fault_of app words ≡ [] → rows ≡ matches_of app words → found_in app words ≡ Some rows
found app words rows none are = ap (λ (k : Kinds). without_fault k (matches_of app words)) none ∙ ap Some (sym are)

-- a fault is promised
pub found_none : (app : App) (words : List Text) (k : ErrorKind) → IsAmong k (fault_of app words) → found_in app words ≡ None
found_none app words k h = go (fault_of app words) h
  where
    go : (kinds : Kinds) → IsAmong k kinds → without_fault kinds (matches_of app words) ≡ None
    go [] h = absurd h
    go (x ∷ xs) h = refl

-- what is not found gives no command
pub passed_on : (f : List Row → Option plain.Command) (app : App) (words : List Text) (e : WordsFault) → IsFoundAs (found_in app words) (Err e) → IsReadAs (option_and_then f (found_in app words)) (Err e)
passed_on f app words NoCommand h = ap (option_and_then f) h
passed_on f app words NoMemory h = tt

-- what is found gives the command that was read of it, if there is one
pub read_of : (f : List Row → Option plain.Command) (app : App) (words : List Text) (rows : List Row) (o : Option Command) → found_in app words ≡ Some rows → option_map command_of o ≡ f rows
    → IsReadAs (option_and_then f (found_in app words)) (ok_or o NoCommand)
read_of f app words rows (Some command) e h = ap (option_and_then f) e ∙ sym h
read_of f app words rows None e h = ap (option_and_then f) e ∙ sym h

-- the text that is read of an argument
pub text_found : (matches : Found) (id : Text) (o : Option (Bor Text)) → option_map (λ text. text.now) o ≡ first_value matches id → first_of id (rows_of matches) ≡ option_map (λ text. text.now) o
text_found matches id o h = sym (first_value-rows matches id) ∙ sym h

-- the file and the order, as they are read
pub check_found : (rows : List Row) (file name : Text) → first_of (codes "file") rows ≡ Some file → first_of (codes "order") rows ≡ Some name
    → check_of rows ≡ option_map (λ order. plain.check file order (names_of rows)) (order_named name)
check_found rows file name e h =
    ap (option_and_then (check_of_file rows)) e
    ∙ ap (λ (o : Option Text). option_map (λ order. plain.check file order (names_of rows)) (option_and_then order_named o)) h

pub no_file : (rows : List Row) → first_of (codes "file") rows ≡ None → check_of rows ≡ None
no_file rows e = ap (option_and_then (check_of_file rows)) e

pub no_order : (rows : List Row) → first_of (codes "order") rows ≡ None → check_of rows ≡ None
no_order rows e = go (first_of (codes "file") rows)
  where
    go : (o : Option Text) → option_and_then (check_of_file rows) o ≡ None
    go None = refl
    go (Some f) = ap (λ (o : Option Text). option_map (λ order. plain.check f order (names_of rows)) (option_and_then order_named o)) e

-- a simple and free command is simple
pub simple : (app : App) → is_simple_and_free app ≡ true → is_simple app ≡ true
simple app h = go (is_simple app) _ h
  where
    go : (a b : Bool) → (a && b) ≡ true → a ≡ true
    go true b e = refl
    go false b e = e
