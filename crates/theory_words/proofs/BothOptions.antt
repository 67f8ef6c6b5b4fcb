-- The words of a check with an order and names, in each arrangement.
use Rattle.std.proofs.Common.{ap, codes, List, [], ◌∷◌, ◌++◌, ◌∙◌}
use Rattle.std.specs.List.{All}
use Rattle.std.specs.Option.{option_and_then}
use Rattle.std.proofs.lemmas.List.Elements.{All-from_recursion}
use Rattle.clap.specs.Words.{Text}
use Rattle.clap.specs.Simple.{Shape, built}
use Rattle.clap.specs.Walk.{Walk, nothing_held, walk_from}
use Rattle.clap.proofs.OnLiterals.{clap_on_literals}
use Rattle.theory_meaning.specs.declared.words.Kind.{Kind}
use Rattle.theory_meaning.specs.declared.words.Kind.TheVariants.{Listed, Rare, Unit as unit, Signed}
use Rattle.theory_words.specs.Arguments.{check_arguments}
use Rattle.theory_words.specs.Commands.{check, check_of, parts_at_commas, IsCommand}
use Rattle.theory_words.specs.Plain.{IsNoOption, name_of, full_check_words}
use Rattle.theory_words.proofs.PlainWords.{behind, check_from, past, placed, taken, valued}

abbrev s : Shape
s = (built check_arguments).top

abbrev start : Walk
start = walk_from nothing_held

-- the id of the names, the word before them, and the words of an order
abbrev on : Text
on = codes "on"

abbrev before_names : List Text
before_names = codes "--on" ∷ []

abbrev by : Text → List Text
by name = codes "--order" ∷ name ∷ []

module _ (file names : Text) (bare : IsNoOption file) (plain : IsNoOption names) where
  abbrev Reads : Kind → List Text → Type 0
  Reads order words = IsCommand (codes "check" ∷ words) (check file order (parts_at_commas names))

  abbrev on_names : List Text
  on_names = codes "--on" ∷ names ∷ []

  file_order_names : (order : Kind) → Reads order (file ∷ by (name_of order) ++ on_names)
  unfolding clap_on_literals
  file_order_names Listed =
      let x = past (behind s 1 nothing_held file) (by (codes "listed") ++ before_names) in
      ap (option_and_then check_of) (check_from (file ∷ by (codes "listed") ++ on_names) ∙ placed s 1 file nothing_held (by (codes "listed") ++ on_names) bare ∙ taken s on 2 names x.held [] plain)
  file_order_names Rare =
      let x = past (behind s 1 nothing_held file) (by (codes "rare") ++ before_names) in
      ap (option_and_then check_of) (check_from (file ∷ by (codes "rare") ++ on_names) ∙ placed s 1 file nothing_held (by (codes "rare") ++ on_names) bare ∙ taken s on 2 names x.held [] plain)
  file_order_names unit =
      let x = past (behind s 1 nothing_held file) (by (codes "unit") ++ before_names) in
      ap (option_and_then check_of) (check_from (file ∷ by (codes "unit") ++ on_names) ∙ placed s 1 file nothing_held (by (codes "unit") ++ on_names) bare ∙ taken s on 2 names x.held [] plain)
  file_order_names Signed =
      let x = past (behind s 1 nothing_held file) (by (codes "signed") ++ before_names) in
      ap (option_and_then check_of) (check_from (file ∷ by (codes "signed") ++ on_names) ∙ placed s 1 file nothing_held (by (codes "signed") ++ on_names) bare ∙ taken s on 2 names x.held [] plain)

  file_names_order : (order : Kind) → Reads order (file ∷ on_names ++ by (name_of order))
  unfolding clap_on_literals
  file_names_order Listed =
      let x = past (behind s 1 nothing_held file) before_names in
      ap (option_and_then check_of) (check_from (file ∷ on_names ++ by (codes "listed")) ∙ placed s 1 file nothing_held (on_names ++ by (codes "listed")) bare ∙ taken s on 2 names x.held (by (codes "listed")) plain)
  file_names_order Rare =
      let x = past (behind s 1 nothing_held file) before_names in
      ap (option_and_then check_of) (check_from (file ∷ on_names ++ by (codes "rare")) ∙ placed s 1 file nothing_held (on_names ++ by (codes "rare")) bare ∙ taken s on 2 names x.held (by (codes "rare")) plain)
  file_names_order unit =
      let x = past (behind s 1 nothing_held file) before_names in
      ap (option_and_then check_of) (check_from (file ∷ on_names ++ by (codes "unit")) ∙ placed s 1 file nothing_held (on_names ++ by (codes "unit")) bare ∙ taken s on 2 names x.held (by (codes "unit")) plain)
  file_names_order Signed =
      let x = past (behind s 1 nothing_held file) before_names in
      ap (option_and_then check_of) (check_from (file ∷ on_names ++ by (codes "signed")) ∙ placed s 1 file nothing_held (on_names ++ by (codes "signed")) bare ∙ taken s on 2 names x.held (by (codes "signed")) plain)

  order_file_names : (order : Kind) → Reads order (by (name_of order) ++ file ∷ on_names)
  unfolding clap_on_literals
  order_file_names Listed =
      let x = past start (by (codes "listed")) in
      let y = past (behind s 1 x.held file) before_names in
      ap (option_and_then check_of) (check_from (by (codes "listed") ++ file ∷ on_names) ∙ placed s 1 file x.held on_names bare ∙ taken s on 2 names y.held [] plain)
  order_file_names Rare =
      let x = past start (by (codes "rare")) in
      let y = past (behind s 1 x.held file) before_names in
      ap (option_and_then check_of) (check_from (by (codes "rare") ++ file ∷ on_names) ∙ placed s 1 file x.held on_names bare ∙ taken s on 2 names y.held [] plain)
  order_file_names unit =
      let x = past start (by (codes "unit")) in
      let y = past (behind s 1 x.held file) before_names in
      ap (option_and_then check_of) (check_from (by (codes "unit") ++ file ∷ on_names) ∙ placed s 1 file x.held on_names bare ∙ taken s on 2 names y.held [] plain)
  order_file_names Signed =
      let x = past start (by (codes "signed")) in
      let y = past (behind s 1 x.held file) before_names in
      ap (option_and_then check_of) (check_from (by (codes "signed") ++ file ∷ on_names) ∙ placed s 1 file x.held on_names bare ∙ taken s on 2 names y.held [] plain)

  order_names_file : (order : Kind) → Reads order (by (name_of order) ++ on_names ++ file ∷ [])
  unfolding clap_on_literals
  order_names_file Listed =
      let x = past start (by (codes "listed") ++ before_names) in
      ap (option_and_then check_of) (check_from (by (codes "listed") ++ on_names ++ file ∷ []) ∙ taken s on 1 names x.held (file ∷ []) plain ∙ placed s 1 file (valued s on 1 x.held names).held [] bare)
  order_names_file Rare =
      let x = past start (by (codes "rare") ++ before_names) in
      ap (option_and_then check_of) (check_from (by (codes "rare") ++ on_names ++ file ∷ []) ∙ taken s on 1 names x.held (file ∷ []) plain ∙ placed s 1 file (valued s on 1 x.held names).held [] bare)
  order_names_file unit =
      let x = past start (by (codes "unit") ++ before_names) in
      ap (option_and_then check_of) (check_from (by (codes "unit") ++ on_names ++ file ∷ []) ∙ taken s on 1 names x.held (file ∷ []) plain ∙ placed s 1 file (valued s on 1 x.held names).held [] bare)
  order_names_file Signed =
      let x = past start (by (codes "signed") ++ before_names) in
      ap (option_and_then check_of) (check_from (by (codes "signed") ++ on_names ++ file ∷ []) ∙ taken s on 1 names x.held (file ∷ []) plain ∙ placed s 1 file (valued s on 1 x.held names).held [] bare)

  names_file_order : (order : Kind) → Reads order (on_names ++ file ∷ by (name_of order))
  unfolding clap_on_literals
  names_file_order Listed =
      let x = past start before_names in
      let y = valued s on 1 x.held names in
      ap (option_and_then check_of) (check_from (on_names ++ file ∷ by (codes "listed")) ∙ taken s on 1 names x.held (file ∷ by (codes "listed")) plain ∙ placed s 1 file y.held (by (codes "listed")) bare)
  names_file_order Rare =
      let x = past start before_names in
      let y = valued s on 1 x.held names in
      ap (option_and_then check_of) (check_from (on_names ++ file ∷ by (codes "rare")) ∙ taken s on 1 names x.held (file ∷ by (codes "rare")) plain ∙ placed s 1 file y.held (by (codes "rare")) bare)
  names_file_order unit =
      let x = past start before_names in
      let y = valued s on 1 x.held names in
      ap (option_and_then check_of) (check_from (on_names ++ file ∷ by (codes "unit")) ∙ taken s on 1 names x.held (file ∷ by (codes "unit")) plain ∙ placed s 1 file y.held (by (codes "unit")) bare)
  names_file_order Signed =
      let x = past start before_names in
      let y = valued s on 1 x.held names in
      ap (option_and_then check_of) (check_from (on_names ++ file ∷ by (codes "signed")) ∙ taken s on 1 names x.held (file ∷ by (codes "signed")) plain ∙ placed s 1 file y.held (by (codes "signed")) bare)

  names_order_file : (order : Kind) → Reads order (on_names ++ by (name_of order) ++ file ∷ [])
  unfolding clap_on_literals
  names_order_file Listed =
      let x = past start before_names in
      let y = past (valued s on 1 x.held names) (by (codes "listed")) in
      ap (option_and_then check_of) (check_from (on_names ++ by (codes "listed") ++ file ∷ []) ∙ taken s on 1 names x.held (by (codes "listed") ++ file ∷ []) plain ∙ placed s 1 file y.held [] bare)
  names_order_file Rare =
      let x = past start before_names in
      let y = past (valued s on 1 x.held names) (by (codes "rare")) in
      ap (option_and_then check_of) (check_from (on_names ++ by (codes "rare") ++ file ∷ []) ∙ taken s on 1 names x.held (by (codes "rare") ++ file ∷ []) plain ∙ placed s 1 file y.held [] bare)
  names_order_file unit =
      let x = past start before_names in
      let y = past (valued s on 1 x.held names) (by (codes "unit")) in
      ap (option_and_then check_of) (check_from (on_names ++ by (codes "unit") ++ file ∷ []) ∙ taken s on 1 names x.held (by (codes "unit") ++ file ∷ []) plain ∙ placed s 1 file y.held [] bare)
  names_order_file Signed =
      let x = past start before_names in
      let y = past (valued s on 1 x.held names) (by (codes "signed")) in
      ap (option_and_then check_of) (check_from (on_names ++ by (codes "signed") ++ file ∷ []) ∙ taken s on 1 names x.held (by (codes "signed") ++ file ∷ []) plain ∙ placed s 1 file y.held [] bare)

  -- in each order
  pub arranged : (order : Kind) → All (Reads order) (full_check_words file order names)
  arranged order = All-from_recursion (Reads order) (full_check_words file order names) (
    file_order_names order,
    (file_names_order order, (order_file_names order, (order_names_file order, (names_file_order order, (names_order_file order, tt))))),
  )
