-- What `clap` makes of a word that doesn't begin with a hyphen, and of words of a plain form.
use Rattle.std.proofs.Common.{ap, ap₂, refl, codes, true, false, List, [], ◌∷◌, ℕ, Bool, Option, Some, None, ◌≡◌, ◌≢◌, ◌∙◌, ◌&&◌, ◌⊎◌, inl, inr, if◌then◌else◌}
use Rattle.std.specs.Prelude.{fold, nat_eq}
use Rattle.std.specs.Cmp.Lexicographic.{pointwise}
use Rattle.std.specs.Option.{option_and_then, option_map_or}
use Rattle.std.specs.Str.{bytes_eq}
use Rattle.std.proofs.lemmas.Bool.Decides.{eqb_tells}
use Rattle.clap.specs.Words.{Kinds, Row, Text, matches_of}
use Rattle.clap.specs.Lexer.{long_of, long_of_rest, short_of, short_of_rest, strip_byte}
use Rattle.clap.specs.Kinds.{or_else}
use Rattle.clap.specs.Simple.{Shape, built}
use Rattle.clap.specs.Walk.{Held, Step, Waiting, Walk, idle, option, trailing, value, after_step, arg_by_index, finished, long_or_other, nothing_held, plain_word, settled, short_or_plain, subcommand_or_other, to_positional, walk_from, walked}
use Rattle.clap.specs.Faults.{bundle_fault, check_fault, defaults_fault, flag_word_fault, other_fault, settle_fault, step_fault, turn_fault, walk_fault}
use Rattle.clap.proofs.FaultLemmas.{leaf_fault}
use Rattle.clap.proofs.OnLiterals.{clap_on_literals}
use Rattle.theory_meaning.specs.declared.words.Kind.{Kind}
use Rattle.theory_meaning.specs.declared.words.Kind.TheVariants.{Listed, Rare, Unit as unit, Signed}
use Rattle.theory_words.specs.Arguments.{check_arguments, derive_arguments}
use Rattle.theory_words.specs.Commands.{check, derive, check_of, derive_of, found_in, parts_at_commas, without_fault, IsCommand}
use Rattle.theory_words.specs.Plain.{IsNoOption, check_words, check_words_by, ordered_check_words, check_words_on, named_check_words, derive_words}

-- how a word that doesn't begin with a hyphen looks
record IsPlainWord (word : Text) : Type 0 where
  long : long_of word ≡ None
  short : short_of word ≡ None
  dashes : bytes_eq word (45 ∷ 45 ∷ []) ≡ false

is_plain : (word : Text) → IsNoOption word → IsPlainWord word
is_plain [] h = record { long = refl; short = refl; dashes = refl }
is_plain (x ∷ xs) h = go (eqb_tells x 45)
  where
    go : ((nat_eq x 45 ≡ true) × (x ≡ 45)) ⊎ ((nat_eq x 45 ≡ false) × (x ≢ 45)) → IsPlainWord (x ∷ xs)
    go (inl e) = absurd (h e.1)
    go (inr e) = record {
      long = ap (λ (b : Bool). option_and_then long_of_rest (option_and_then (strip_byte 45) (if b then Some xs else None))) e.0;
      short = ap (λ (b : Bool). option_and_then short_of_rest (if b then Some xs else None)) e.0;
      dashes = ap (λ (b : Bool). b && pointwise nat_eq xs (45 ∷ [])) e.0;
    }

-- the walk where bare option waits for a value
abbrev at_place : ℕ → Held → Walk
at_place position h = record { held = h; waiting = idle; position = position; is_trailing = false; stopped = None }

-- the walk where an option waits for its value
abbrev waiting_for : Text → ℕ → Held → Walk
waiting_for id position h = record { held = h; waiting = option id; position = position; is_trailing = false; stopped = None }

module _ (s : Shape) where
  -- what fails behind the last word
  abbrev end_fault : Held → Kinds
  end_fault h = or_else (settle_fault s.rules s.args_override_self h) (or_else (defaults_fault (settled s.rules h).rows s.rules) (check_fault s (finished s.rules h) false))

  -- what is found from here on, behind what fails before
  abbrev from : Kinds → Walk → List Text → Option (List Row)
  from before x words =
      let end = (fold (walked s.rules []) x words).held in
      without_fault (or_else (or_else before (walk_fault s [] x words)) (end_fault end)) (finished s.rules end)

  -- behind a word of a positional
  abbrev pub behind : ℕ → Held → Text → Walk
  behind position h word = to_positional s.rules (arg_by_index s.rules position) word (at_place position h) h

  -- what such a word is
  other_met : (waiting : Waiting) (position : ℕ) (word : Text) (h : Held) → IsPlainWord word
      → subcommand_or_other s.rules None waiting position word h ≡ plain_word s.rules waiting word h
  other_met waiting position word h plain =
      ap (λ (b : Bool). if b then (h, trailing position) else long_or_other s.rules waiting word (long_of word) h) plain.dashes
      ∙ ap (λ (o : Option (Text × Option Text)). long_or_other s.rules waiting word o h) plain.long ∙ ap (λ (o : Option Text). short_or_plain s.rules waiting word o h) plain.short

  word_passes : (word : Text) (h : Held) → IsPlainWord word → other_fault s None word h ≡ []
  word_passes word h plain = ap (λ (b : Bool). if b then [] else flag_word_fault s.rules s.args_override_self (long_of word) word h) plain.dashes
      ∙ ap (λ (o : Option (Text × Option Text)). flag_word_fault s.rules s.args_override_self o word h) plain.long
      ∙ ap (λ (o : Option Text). option_map_or (λ flags. bundle_fault s.rules s.args_override_self flags h) o []) plain.short

  turn : (position : ℕ) (word : Text) (h : Held) → IsPlainWord word → turn_fault s [] (at_place position h) word ≡ step_fault s position h value
  turn position word h plain = ap₂ or_else (word_passes word h plain) (ap (λ (r : Held × Step). step_fault s position r.0 r.1) (other_met idle position word h plain))

  moved : (position : ℕ) (word : Text) (h : Held) → IsPlainWord word → walked s.rules [] (at_place position h) word ≡ behind position h word
  unfolding walked
  moved position word h plain = ap (λ (r : Held × Step). after_step s.rules word (at_place position h) r.0 r.1) (other_met idle position word h plain)

  -- a word that doesn't begin with a hyphen goes to the positional
  pub placed : (position : ℕ) (word : Text) (h : Held) (rest : List Text) → IsNoOption word
      → from [] (at_place position h) (word ∷ rest) ≡ from (step_fault s position h value) (behind position h word) rest
  unfolding walk_fault
  placed position word h rest bare = let plain = is_plain word bare in
      ap₂ (λ (k : Kinds) (x : Walk). from k x rest) (turn position word h plain) (moved position word h plain)

  -- behind the value of an option
  abbrev pub valued : Text → ℕ → Held → Text → Walk
  valued id position h word = let r = plain_word s.rules (option id) word h in after_step s.rules word (waiting_for id position h) r.0 r.1

  value_turn : (id : Text) (position : ℕ) (word : Text) (h : Held) → IsPlainWord word → turn_fault s [] (waiting_for id position h) word ≡ []
  value_turn id position word h plain =
      ap₂ or_else (word_passes word h plain) (ap (λ (r : Held × Step). step_fault s position r.0 r.1) (other_met (option id) position word h plain))

  value_moved : (id : Text) (position : ℕ) (word : Text) (h : Held) → IsPlainWord word
      → walked s.rules [] (waiting_for id position h) word ≡ valued id position h word
  unfolding walked
  value_moved id position word h plain =
      ap (λ (r : Held × Step). after_step s.rules word (waiting_for id position h) r.0 r.1) (other_met (option id) position word h plain)

  -- a word that doesn't begin with a hyphen is the value of the option that waits for one
  pub taken : (id : Text) (position : ℕ) (word : Text) (h : Held) (rest : List Text) → IsNoOption word
      → from [] (waiting_for id position h) (word ∷ rest) ≡ from [] (valued id position h word) rest
  unfolding walk_fault
  taken id position word h rest bare = let plain = is_plain word bare in
      ap₂ (λ (k : Kinds) (x : Walk). from k x rest) (value_turn id position word h plain) (value_moved id position word h plain)

pub check_from : (words : List Text) → found_in check_arguments words ≡ from (built check_arguments).top [] (walk_from nothing_held) words
check_from words = ap (λ (k : Kinds). without_fault k (matches_of check_arguments words)) (leaf_fault (built check_arguments) nothing_held words refl)

pub derive_from : (words : List Text) → found_in derive_arguments words ≡ from (built derive_arguments).top [] (walk_from nothing_held) words
derive_from words = ap (λ (k : Kinds). without_fault k (matches_of derive_arguments words)) (leaf_fault (built derive_arguments) nothing_held words refl)

pub plain_check : (file : Text) → IsNoOption file → IsCommand (check_words file) (check file unit [])
unfolding clap_on_literals
plain_check file bare = ap (option_and_then check_of) (check_from (file ∷ []) ∙ placed (built check_arguments).top 1 file nothing_held [] bare)

pub order_behind : (file : Text) (order : Kind) → IsNoOption file → IsCommand (check_words_by file order) (check file order [])
unfolding clap_on_literals
order_behind file Listed bare = ap (option_and_then check_of) (check_from (file ∷ codes "--order" ∷ codes "listed" ∷ []) ∙ placed (built check_arguments).top 1 file nothing_held (codes "--order" ∷ codes "listed" ∷ []) bare)
order_behind file Rare bare = ap (option_and_then check_of) (check_from (file ∷ codes "--order" ∷ codes "rare" ∷ []) ∙ placed (built check_arguments).top 1 file nothing_held (codes "--order" ∷ codes "rare" ∷ []) bare)
order_behind file unit bare = ap (option_and_then check_of) (check_from (file ∷ codes "--order" ∷ codes "unit" ∷ []) ∙ placed (built check_arguments).top 1 file nothing_held (codes "--order" ∷ codes "unit" ∷ []) bare)
order_behind file Signed bare = ap (option_and_then check_of) (check_from (file ∷ codes "--order" ∷ codes "signed" ∷ []) ∙ placed (built check_arguments).top 1 file nothing_held (codes "--order" ∷ codes "signed" ∷ []) bare)

-- one value of the order is read, and bare file yet
abbrev with_order : Text → Held
with_order name = record { rows = []; pending = Some (codes "order", name ∷ []); skip = 0 }

pub order_before : (file : Text) (order : Kind) → IsNoOption file → IsCommand (ordered_check_words order file) (check file order [])
unfolding clap_on_literals
order_before file Listed bare = ap (option_and_then check_of) (check_from (codes "--order" ∷ codes "listed" ∷ file ∷ []) ∙ placed (built check_arguments).top 1 file (with_order (codes "listed")) [] bare)
order_before file Rare bare = ap (option_and_then check_of) (check_from (codes "--order" ∷ codes "rare" ∷ file ∷ []) ∙ placed (built check_arguments).top 1 file (with_order (codes "rare")) [] bare)
order_before file unit bare = ap (option_and_then check_of) (check_from (codes "--order" ∷ codes "unit" ∷ file ∷ []) ∙ placed (built check_arguments).top 1 file (with_order (codes "unit")) [] bare)
order_before file Signed bare = ap (option_and_then check_of) (check_from (codes "--order" ∷ codes "signed" ∷ file ∷ []) ∙ placed (built check_arguments).top 1 file (with_order (codes "signed")) [] bare)

pub plain_derivation : (file : Text) → IsNoOption file → IsCommand (derive_words file) (derive file)
unfolding clap_on_literals
plain_derivation file bare = ap (option_and_then derive_of) (derive_from (file ∷ []) ∙ placed (built derive_arguments).top 1 file nothing_held [] bare)

-- the walk behind these words
abbrev pub past : Walk → List Text → Walk
past x words = fold (walked (built check_arguments).top.rules []) x words

pub names_behind : (file names : Text) → IsNoOption file → IsNoOption names → IsCommand (check_words_on file names) (check file unit (parts_at_commas names))
unfolding clap_on_literals
names_behind file names bare plain =
    let s = (built check_arguments).top in
    ap (option_and_then check_of) (check_from (file ∷ codes "--on" ∷ names ∷ []) ∙ placed s 1 file nothing_held (codes "--on" ∷ names ∷ []) bare
    ∙ taken s (codes "on") 2 names (past (behind s 1 nothing_held file) (codes "--on" ∷ [])).held [] plain)

pub names_before : (file names : Text) → IsNoOption file → IsNoOption names → IsCommand (named_check_words names file) (check file unit (parts_at_commas names))
unfolding clap_on_literals
names_before file names bare plain =
    let s = (built check_arguments).top in
    let x = past (walk_from nothing_held) (codes "--on" ∷ []) in
    ap (option_and_then check_of) (check_from (codes "--on" ∷ names ∷ file ∷ []) ∙ taken s (codes "on") 1 names x.held (file ∷ []) plain
    ∙ placed s 1 file (valued s (codes "on") 1 x.held names).held [] bare)
