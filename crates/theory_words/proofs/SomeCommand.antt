-- Words of which no fault is promised are a command.
use Rattle.std.proofs.Common.{rules, ap, refl, sym, codes, true, false, List, [], ◌∷◌, ◌++◌, Bool, Some, option_map, not, ◌≡◌, ◌∙◌, ◌||◌, if◌then◌else◌}
use Rattle.std.specs.Prelude.{find, fold, slice_get}
use Rattle.std.specs.Option.{option_and_then, option_map_or}
use Rattle.std.specs.Str.{bytes_eq}
use Rattle.std.proofs.lemmas.Bool.{false≢true}
use Rattle.clap.specs.Words.{Kinds, Row, Text, fault_of, first_of}
use Rattle.clap.specs.Facts.{explicit_source}
use Rattle.clap.specs.Takes.{is_given}
use Rattle.clap.specs.Simple.{built}
use Rattle.clap.specs.Walk.{Held, at_row, finished, has_row, nothing_held, settled, walk_from, walked, with_default}
use Rattle.clap.specs.Faults.{settle_fault}
use Rattle.clap.specs.declared.error.kind.ErrorKind.TheVariants as kind
use Rattle.clap.specs.declared.parser.matches.ValueSource.TheVariants.{DefaultValue}
use Rattle.clap.proofs.FaultLemmas.{leaf_fault}
use Rattle.theory_meaning.specs.declared.words.Kind.{Kind}
use Rattle.theory_meaning.specs.declared.words.Kind.TheVariants.{Unit as unit}
use Rattle.theory_words.specs.Arguments.{check_arguments, derive_arguments, order_names}
use Rattle.theory_words.specs.Commands.{Command, check, derive, check_of, derive_of, names_of, without_fault, IsCommand}
use Rattle.theory_words.proofs.Found.{check_found}
use Rattle.theory_words.proofs.FoundRows.{Each, IsGood, KeepsGood, both_none, first_keeps, second_keeps, third_keeps, settled_good, walk_good, with_value_good}
use Rattle.theory_words.proofs.SameNames.{first, second, third}

-- the row of an argument
abbrev HasGoodRow : Text → List Row → Type 0
HasGoodRow id rows = (row : Row) × IsGood row × (bytes_eq row.id id ≡ true) × (find (λ r. bytes_eq r.id id) rows ≡ Some row)

good_row : (id : Text) (rows : List Row) → Each IsGood rows → has_row id rows ≡ true → HasGoodRow id rows
good_row id [] g h = absurd (false≢true h)
good_row id (r ∷ rs) g h = go (bytes_eq r.id id) refl h (good_row id rs g.1)
  where
    go : (b : Bool) → bytes_eq r.id id ≡ b → (b || has_row id rs) ≡ true → (has_row id rs ≡ true → HasGoodRow id rs)
        → (row : Row) × IsGood row × (bytes_eq row.id id ≡ true) × ((if b then Some r else find (λ r. bytes_eq r.id id) rs) ≡ Some row)
    go true e h below = (r, g.0, e, refl)
    go false e h below = below h

first_text : (id : Text) (rows : List Row) (has : HasGoodRow id rows) → first_of id rows ≡ Some has.1.0
first_text id rows has = ap (option_and_then (λ (r : Row). slice_get r.values 0)) has.3 ∙ ap (λ (values : List Text). slice_get values 0) has.1.2

given : (id : Text) (rows : List Row) → is_given id rows ≡ true → has_row id rows ≡ true
given id [] h = absurd (false≢true h)
given id (r ∷ rs) h = go (bytes_eq r.id id) h (given id rs)
  where
    go : (b : Bool) → option_map_or (λ r. explicit_source r.source) (if b then Some r else find (λ r. bytes_eq r.id id) rs) false ≡ true → (is_given id rs ≡ true → has_row id rs ≡ true) → (b || has_row id rs) ≡ true
    go true h below = refl
    go false h below = below h

has_order : (rows : List Row) → has_row (codes "order") (with_default (with_default rows (second order_names)) third) ≡ true
has_order rows = still (has_row (codes "on") (with_default rows (second order_names))) (go (has_row (codes "order") rows) refl)
  where
    added : (change : Row → Row) (new : Row) → ((r : Row) → (change r).id ≡ r.id) → new.id ≡ codes "order" → (rs : List Row) → has_row (codes "order") (at_row (codes "order") (λ r. change r ∷ []) (new ∷ []) rs) ≡ true
    added change new same e [] = ap (λ (id : Text). bytes_eq id (codes "order") || false) e
    added change new same e (r ∷ rs) = at (bytes_eq r.id (codes "order")) refl (added change new same e rs)
      where
        at : (b : Bool) → bytes_eq r.id (codes "order") ≡ b → has_row (codes "order") (at_row (codes "order") (λ r. change r ∷ []) (new ∷ []) rs) ≡ true
            → has_row (codes "order") (if b then (change r ∷ []) ++ rs else r ∷ at_row (codes "order") (λ r. change r ∷ []) (new ∷ []) rs) ≡ true
        at true h below = ap (λ (id : Text). bytes_eq id (codes "order") || has_row (codes "order") rs) (same r) ∙ ap (λ (b : Bool). b || has_row (codes "order") rs) h
        at false h below = ap (λ (b : Bool). b || has_row (codes "order") (at_row (codes "order") (λ r. change r ∷ []) (new ∷ []) rs)) h ∙ below

    still : (b : Bool) → has_row (codes "order") (with_default rows (second order_names)) ≡ true
        → has_row (codes "order") (if b then with_default rows (second order_names) else with_default rows (second order_names)) ≡ true
    still true h = h
    still false h = h

    go : (b : Bool) → has_row (codes "order") rows ≡ b → has_row (codes "order") (if b then rows else Rattle.clap.specs.Walk.default_rows (codes "order") Rattle.clap.specs.declared.builder.value_parser.Reading.TheVariants.AsWritten (codes "unit" ∷ []) rows) ≡ true
    go true h = h
    go false h = added _ _ (λ r. refl) refl rows

first_good : (rows : List Row) → Each IsGood rows → Each IsGood (with_default rows first)
first_good rows g = go (has_row (codes "file") rows)
  where
    go : (b : Bool) → Each IsGood (if b then rows else rows)
    go true = g
    go false = g

third_good : (rows : List Row) → Each IsGood rows → Each IsGood (with_default rows third)
third_good rows g = go (has_row (codes "on") rows)
  where
    go : (b : Bool) → Each IsGood (if b then rows else rows)
    go true = g
    go false = g

second_good : (rows : List Row) → Each IsGood rows → Each IsGood (with_default rows (second order_names))
second_good rows g = go (has_row (codes "order") rows)
  where
    go : (b : Bool) → Each IsGood (if b then rows else Rattle.clap.specs.Walk.default_rows (codes "order") Rattle.clap.specs.declared.builder.value_parser.Reading.TheVariants.AsWritten (codes "unit" ∷ []) rows)
    go true = g
    go false = with_value_good (codes "order") _ DefaultValue (codes "unit") rows (λ e. (unit, refl)) g

wanted : (b : Bool) → (if not b || false then kind.MissingRequiredArgument ∷ [] else []) ≡ [] → b ≡ true
wanted true h = refl
wanted false h = search (rules, h)

-- what is found of a file and an order is a check
a_check : (rows : List Row) → Each IsGood rows → has_row (codes "file") rows ≡ true → has_row (codes "order") rows ≡ true → (command : Command) × (check_of rows ≡ Some command)
a_check rows g h k =
    let named = good_row (codes "file") rows g h in
    let ordered = good_row (codes "order") rows g k in
    let order = ordered.1.3 ordered.2 in (
      check named.1.0 order.0 (names_of rows),
      check_found rows named.1.0 ordered.1.0 (first_text (codes "file") rows named) (first_text (codes "order") rows ordered)
          ∙ ap (option_map (λ (o : Kind). check named.1.0 o (names_of rows))) order.1,
    )

a_derivation : (rows : List Row) → Each IsGood rows → has_row (codes "file") rows ≡ true → (command : Command) × (derive_of rows ≡ Some command)
a_derivation rows g h = let named = good_row (codes "file") rows g h in (derive named.1.0, ap (option_map derive) (first_text (codes "file") rows named))

pub some_check : (words : List Text) → fault_of check_arguments words ≡ [] → (command : Command) × IsCommand (codes "check" ∷ words) command
some_check words h =
    let s = (built check_arguments).top in
    let keep : Each KeepsGood s.rules = (first_keeps, (second_keeps, (third_keeps, tt))) in
    let end = (fold (walked s.rules []) (walk_from nothing_held) words).held in
    let walked_on = both_none _ _ (sym (leaf_fault (built check_arguments) nothing_held words refl) ∙ h) in
    let used_up = both_none (settle_fault s.rules false end) _ walked_on.1 in
    let checked = both_none _ _ used_up.1 in
    let end_good = walk_good s keep (λ x. refl) words (walk_from nothing_held) tt walked_on.0 in
    let good = third_good _ (second_good _ (first_good _ (settled_good s keep (λ x. refl) false end end_good used_up.0))) in
    let found = a_check (finished s.rules end) good (given (codes "file") (finished s.rules end) (wanted _ checked.1)) (has_order (with_default (settled s.rules end).rows first)) in
    (found.0, ap (λ (k : Kinds). option_and_then check_of (without_fault k (finished s.rules end))) h ∙ found.1)

pub some_derivation : (words : List Text) → fault_of derive_arguments words ≡ [] → (command : Command) × IsCommand (codes "derive" ∷ words) command
some_derivation words h =
    let s = (built derive_arguments).top in
    let keep : Each KeepsGood s.rules = (first_keeps, tt) in
    let end = (fold (walked s.rules []) (walk_from nothing_held) words).held in
    let walked_on = both_none _ _ (sym (leaf_fault (built derive_arguments) nothing_held words refl) ∙ h) in
    let used_up = both_none (settle_fault s.rules false end) _ walked_on.1 in
    let checked = both_none _ _ used_up.1 in
    let end_good = walk_good s keep (λ x. refl) words (walk_from nothing_held) tt walked_on.0 in
    let good = first_good _ (settled_good s keep (λ x. refl) false end end_good used_up.0) in
    let found = a_derivation (finished s.rules end) good (given (codes "file") (finished s.rules end) (wanted _ checked.1)) in
    (found.0, ap (λ (k : Kinds). option_and_then derive_of (without_fault k (finished s.rules end))) h ∙ found.1)
