-- What `clap` makes of words doesn't depend on where the names of a parser stand in memory.
use Rattle.std.proofs.Common.{ap, ap₂, refl, sym, true, false, codes, map, List, [], ◌∷◌, ℕ, zero, suc, Option, Some, None, ◌≡◌, ◌∙◌, Bool, drop, length, not, ◌&&◌, ◌||◌, ◌==◌, is_some, if◌then◌else◌}
use Rattle.std.specs.Prelude.{encode_utf8, find, fold, slice_get}
use Rattle.std.specs.List.{list_any}
use Rattle.std.specs.Option.{option_map_or}
use Rattle.std.specs.Str.{chars, bytes_eq}
use Rattle.clap.specs.Words.{Kinds, Row, Rule, Text, fault_of, matches_of}
use Rattle.clap.specs.Lexer.{long_of, short_of}
use Rattle.clap.specs.Kinds.{or_else, values_kinds, range_kinds}
use Rattle.clap.specs.ValueTests.{accepts}
use Rattle.clap.specs.Values.{refused_kind, same_text}
use Rattle.clap.specs.Simple.{built, with_index, filled, Shape}
use Rattle.clap.specs.Walk.{Held, Waiting, Walk, Step, Outcome, idle, option, positional, next, trailing, subcommand, value, done, waits, plain, refused, used_by_id, settled_rows, settled, option_met, long_met, used, arg_by_id, arg_by_long, arg_by_index, bundle_met, bundle_step, option_word, plain_word, is_multiple, next_position, with_default, after_flag, short_or_plain, long_or_other, subcommand_or_other, word_met, is_pending, takes_several, pushed, to_positional, positional_held, after_step, walked, walked_from, walk, walk_from, finished, has_long, has_row, values_or_missing, nothing_held}
use Rattle.clap.specs.Faults.{use_fault, settle_fault, react_fault, option_fault, long_fault, flags_fault, bundle_step_fault, bundle_fault, flag_word_fault, other_fault, word_fault, positional_fault, step_fault, turn_fault, walk_fault, defaults_fault, check_fault, level_fault, repeat_fault, default_fault, stray_fault}
use Rattle.clap.specs.declared.builder.value_parser.ValueParser.TheVariants.{Names}
use Rattle.clap.proofs.WalkLemmas.{list_any-map}
use Rattle.clap.proofs.FaultLemmas.{leaf_fault}
use Rattle.theory_words.specs.Arguments.{Texts, AreOrderNames, file, order, on, order_names, check_with, check_arguments}
use Rattle.theory_words.specs.Commands.{found_in, without_fault}

-- the arguments as they are built
abbrev pub first : Rule
first = with_index 1 (filled file)

abbrev pub second : Texts → Rule
second w = with_index 2 (filled (order w))

abbrev pub third : Rule
third = with_index 2 (filled on)

abbrev pub all : Texts → List Rule
all w = first ∷ second w ∷ third ∷ []

abbrev pub shape : Texts → Shape
shape w = (built (check_with w)).top

-- what a search gives where only the second differs
find_same : {X : Type 0} (t : Rule → Bool) (f g : Option Rule → X) (a x y b : Rule) → t x ≡ t y → f (Some a) ≡ g (Some a) → f (Some x) ≡ g (Some y) → f (Some b) ≡ g (Some b) → f None ≡ g None
    → f (find t (a ∷ x ∷ b ∷ [])) ≡ g (find t (a ∷ y ∷ b ∷ []))
find_same t f g a x y b same one two three none = go (t a) (t x) (t b) ∙ ap (λ (q : Bool). g (if t a then Some a else (if q then Some y else (if t b then Some b else None)))) same
  where
    go : (p q r : Bool) → f (if p then Some a else (if q then Some x else (if r then Some b else None))) ≡ g (if p then Some a else (if q then Some y else (if r then Some b else None)))
    go true q r = one
    go false true r = two
    go false false true = three
    go false false false = none

-- the walk behind a word of a positional
abbrev placed : (x : Walk) (a : Rule) (s : Held) → Walk
placed x a s = record {
  held = s;
  waiting = if is_multiple a then positional else idle;
  position = next_position a x.position;
  is_trailing = x.is_trailing || a.trailing_var_arg;
  stopped = None;
}

module _ (w v : Texts) (same : map (λ name. name.now) w.now ≡ map (λ name. name.now) v.now) where
  accepts_same : (text : Text) → accepts false (Names w) text ≡ accepts false (Names v) text
  accepts_same text = list_any-map (λ name. same_text false name text) (λ name. name.now) w.now ∙ ap (list_any (λ name. same_text false name text)) same
      ∙ sym (list_any-map (λ name. same_text false name text) (λ name. name.now) v.now)

  values_same : (values : List Text) → values_kinds false (Names w) values ≡ values_kinds false (Names v) values
  values_same [] = refl
  values_same (x ∷ xs) = ap₂ or_else (ap (λ (b : Bool). if b then [] else refused_kind (Names w) ∷ []) (accepts_same x)) (values_same xs)

  settled_rows_same : (p : Option (Text × List Text)) (rows : List Row) → settled_rows (all w) p rows ≡ settled_rows (all v) p rows
  settled_rows_same None rows = refl
  settled_rows_same (Some p) rows = find_same (λ a. bytes_eq a.id p.0) (λ a. used_by_id a p.1 rows) (λ a. used_by_id a p.1 rows) first (second w) (second v) third refl refl refl refl refl

  settled_same : (h : Held) → settled (all w) h ≡ settled (all v) h
  settled_same h = ap (λ (r : List Row). record h { rows = r; pending = None }) (settled_rows_same h.pending h.rows)

  option_same : (a : Rule) (o : Option Text) (h : Held) → option_met (all w) a o h ≡ option_met (all v) a o h
  option_same a (Some t) h = ap (λ (s : Held). (record h { rows = used a (t ∷ []) s.rows; pending = None }, done)) (settled_same h)
  option_same a None h = ap (λ (s : Held). (record s { pending = Some (a.id, []) }, waits a.id)) (settled_same h)

  option_second : (o : Option Text) (h : Held) → option_met (all w) (second w) o h ≡ option_met (all v) (second v) o h
  option_second (Some t) h = ap (λ (s : Held). (record h { rows = used (second v) (t ∷ []) s.rows; pending = None }, done)) (settled_same h)
  option_second None h = ap (λ (s : Held). (record s { pending = Some ((second v).id, []) }, waits (second v).id)) (settled_same h)

  long_same : (name : Text) (o : Option Text) (h : Held) → long_met (all w) (arg_by_long (all w) name) o h ≡ long_met (all v) (arg_by_long (all v) name) o h
  long_same name o h = find_same (λ a. not (is_some a.index) && has_long a name) (λ a. long_met (all w) a o h) (λ a. long_met (all v) a o h) first (second w) (second v) third
      refl (option_same first o h) (option_second o h) (option_same third o h) refl

  bundle_same : (k : ℕ) (flags : Text) (skip : ℕ) (so_far : Outcome) (h : Held) → bundle_met (all w) k flags skip so_far h ≡ bundle_met (all v) k flags skip so_far h
  unfolding bundle_met
  bundle_same zero flags skip so_far h = refl
  bundle_same (suc k) flags skip so_far h = go (λ rest n. bundle_same k rest n so_far h) (slice_get (chars flags) 0) skip
    where
      go : ((rest : Text) (n : ℕ) → bundle_met (all w) k rest n so_far h ≡ bundle_met (all v) k rest n so_far h) → (o : Option ℕ) (n : ℕ) → bundle_step (all w) o flags n so_far h (bundle_met (all w) k) ≡ bundle_step (all v) o flags n so_far h (bundle_met (all v) k)
      go below None n = refl
      go below (Some x) zero = refl
      go below (Some x) (suc n) = below (drop (length (encode_utf8 x)) flags) n

  plain_same : (waiting : Waiting) (word : Text) (h : Held) → plain_word (all w) waiting word h ≡ plain_word (all v) waiting word h
  plain_same idle word h = refl
  plain_same positional word h = refl
  plain_same (option id) word h = ap (λ (r : Held × Waiting). (r.0, next r.1))
      (find_same (λ a. bytes_eq a.id id) (λ a. option_word a id word h) (λ a. option_word a id word h) first (second w) (second v) third refl refl refl refl refl)

  after_same : (waiting : Waiting) (word : Text) (h : Held) (o : Outcome) → after_flag (all w) waiting word h o ≡ after_flag (all v) waiting word h o
  after_same waiting word h done = refl
  after_same waiting word h (waits id) = refl
  after_same waiting word h plain = plain_same waiting word h
  after_same waiting word h refused = plain_same waiting word h

  flag_same : (waiting : Waiting) (word : Text) (p q : Held × Outcome) → p ≡ q → after_flag (all w) waiting word p.0 p.1 ≡ after_flag (all v) waiting word q.0 q.1
  flag_same waiting word p q e = after_same waiting word p.0 p.1 ∙ ap (λ (r : Held × Outcome). after_flag (all v) waiting word r.0 r.1) e

  long_or_other_same : (waiting : Waiting) (word : Text) (o : Option (Text × Option Text)) (h : Held) → long_or_other (all w) waiting word o h ≡ long_or_other (all v) waiting word o h
  long_or_other_same waiting word (Some p) h = flag_same waiting word _ _ (long_same p.0 p.1 h)
  long_or_other_same waiting word None h = go (short_of word)
    where
      go : (o : Option Text) → short_or_plain (all w) waiting word o h ≡ short_or_plain (all v) waiting word o h
      go (Some flags) = flag_same waiting word _ _ (bundle_same (length flags) flags h.skip plain (record h { skip = 0 }))
      go None = plain_same waiting word h

  other_same : (waiting : Waiting) (position : ℕ) (word : Text) (h : Held) → subcommand_or_other (all w) None waiting position word h ≡ subcommand_or_other (all v) None waiting position word h
  other_same waiting position word h = ap (λ (r : Held × Step). if bytes_eq word (45 ∷ 45 ∷ []) then (h, trailing position) else r) (long_or_other_same waiting word (long_of word) h)

  met_same : (is_trailing : Bool) (waiting : Waiting) (position : ℕ) (word : Text) (h : Held) → word_met (all w) [] is_trailing waiting position word h ≡ word_met (all v) [] is_trailing waiting position word h
  met_same true waiting position word h = refl
  met_same false idle position word h = other_same idle position word h
  met_same false (option id) position word h = other_same (option id) position word h
  met_same false positional position word h = other_same positional position word h

  held_same : (a : Rule) (word : Text) (h : Held) → positional_held (all w) a word h ≡ positional_held (all v) a word h
  held_same a word h = ap (λ (s : Held). pushed a.id word (if is_pending a h.pending && takes_several a then h else s)) (settled_same h)

  position_same : (word : Text) (x : Walk) (h : Held) → to_positional (all w) (arg_by_index (all w) x.position) word x h ≡ to_positional (all v) (arg_by_index (all v) x.position) word x h
  position_same word x h = find_same (λ a. option_map_or (λ k. k == x.position) a.index false) (λ a. to_positional (all w) a word x h) (λ a. to_positional (all v) a word x h) first (second w) (second v) third
      refl (ap (placed x first) (held_same first word h)) (ap (placed x (second v)) (held_same (second v) word h)) (ap (placed x third) (held_same third word h)) refl

  step_same : (word : Text) (x : Walk) (h : Held) (s : Step) → after_step (all w) word x h s ≡ after_step (all v) word x h s
  step_same word x h (next waiting) = refl
  step_same word x h (trailing position) = refl
  step_same word x h (subcommand name) = refl
  step_same word x h value = position_same word x h

  turned_same : (word : Text) (x : Walk) (p q : Held × Step) → p ≡ q → after_step (all w) word x p.0 p.1 ≡ after_step (all v) word x q.0 q.1
  turned_same word x p q e = step_same word x p.0 p.1 ∙ ap (λ (r : Held × Step). after_step (all v) word x r.0 r.1) e

  walked_same : (x : Walk) (word : Text) → walked (all w) [] x word ≡ walked (all v) [] x word
  unfolding walked
  walked_same x word = go x.stopped
    where
      go : (o : Option (Text × List Text)) → walked_from (all w) [] o x word ≡ walked_from (all v) [] o x word
      go (Some p) = refl
      go None = turned_same word x (word_met (all w) [] x.is_trailing x.waiting x.position word x.held) (word_met (all v) [] x.is_trailing x.waiting x.position word x.held) (met_same x.is_trailing x.waiting x.position word x.held)

  walk_same : (words : List Text) (x : Walk) → fold (walked (all w) []) x words ≡ fold (walked (all v) []) x words
  walk_same [] x = refl
  walk_same (word ∷ rest) x = walk_same rest (walked (all w) [] x word) ∙ ap (λ (y : Walk). fold (walked (all v) []) y rest) (walked_same x word)

  finished_same : (h : Held) → finished (all w) h ≡ finished (all v) h
  finished_same h = ap (λ (s : Held). with_default (with_default (with_default s.rows first) (second v)) third) (settled_same h)

  matches_same : (words : List Text) → matches_of (check_with w) words ≡ matches_of (check_with v) words
  matches_same words = finished_same (walk (all w) [] nothing_held words).held ∙ ap (λ (x : Walk). finished (all v) x.held) (walk_same words (walk_from nothing_held))

  use_same : (again : Bool) (values : List Text) (rows : List Row) → use_fault again (second w) values rows ≡ use_fault again (second v) values rows
  use_same again values rows = ap (λ (k : Kinds). or_else (range_kinds 1 1 (length values)) (or_else (repeat_fault again (codes "order") rows) k)) (values_same (values_or_missing (second v) values))

  settle_same : (again : Bool) (h : Held) → settle_fault (all w) again h ≡ settle_fault (all v) again h
  settle_same again h = go h.pending
    where
      go : (o : Option (Text × List Text)) → option_map_or (λ p. option_map_or (λ a. use_fault again a p.1 h.rows) (arg_by_id (all w) p.0) []) o [] ≡ option_map_or (λ p. option_map_or (λ a. use_fault again a p.1 h.rows) (arg_by_id (all v) p.0) []) o []
      go None = refl
      go (Some p) = find_same (λ a. bytes_eq a.id p.0) (λ o. option_map_or (λ a. use_fault again a p.1 h.rows) o []) (λ o. option_map_or (λ a. use_fault again a p.1 h.rows) o []) first (second w) (second v) third
          refl refl (use_same again p.1 h.rows) refl refl

  react_same : (again : Bool) (a : Rule) (values : List Text) (h : Held) → react_fault (all w) again a values h ≡ react_fault (all v) again a values h
  react_same again a values h = ap₂ (λ (k : Kinds) (s : Held). or_else k (use_fault again a values s.rows)) (settle_same again h) (settled_same h)

  react_second : (again : Bool) (values : List Text) (h : Held) → react_fault (all w) again (second w) values h ≡ react_fault (all v) again (second v) values h
  react_second again values h = ap₂ or_else (settle_same again h) (use_same again values (settled (all w) h).rows ∙ ap (λ (s : Held). use_fault again (second v) values s.rows) (settled_same h))

  fault_at : (again : Bool) (a : Rule) (o : Option Text) (h : Held) → option_fault (all w) again a o h ≡ option_fault (all v) again a o h
  fault_at again a (Some t) h = react_same again a (t ∷ []) h
  fault_at again a None h = settle_same again h

  fault_second : (again : Bool) (o : Option Text) (h : Held) → option_fault (all w) again (second w) o h ≡ option_fault (all v) again (second v) o h
  fault_second again (Some t) h = react_second again (t ∷ []) h
  fault_second again None h = settle_same again h

  long_fault_same : (again : Bool) (name : Text) (o : Option Text) (h : Held) → long_fault (all w) again (arg_by_long (all w) name) o h ≡ long_fault (all v) again (arg_by_long (all v) name) o h
  long_fault_same again name o h = find_same (λ a. not (is_some a.index) && has_long a name) (λ a. long_fault (all w) again a o h) (λ a. long_fault (all v) again a o h) first (second w) (second v) third
      refl (fault_at again first o h) (fault_second again o h) (fault_at again third o h) refl

  flags_same : (again : Bool) (k : ℕ) (flags : Text) (skip : ℕ) (h : Held) → flags_fault (all w) again k flags skip h ≡ flags_fault (all v) again k flags skip h
  unfolding flags_fault
  flags_same again zero flags skip h = refl
  flags_same again (suc k) flags skip h = go (λ rest n. flags_same again k rest n h) (slice_get (chars flags) 0) skip
    where
      go : ((rest : Text) (n : ℕ) → flags_fault (all w) again k rest n h ≡ flags_fault (all v) again k rest n h) → (o : Option ℕ) (n : ℕ) → bundle_step_fault (all w) again o flags n h (flags_fault (all w) again k) ≡ bundle_step_fault (all v) again o flags n h (flags_fault (all v) again k)
      go below None n = refl
      go below (Some x) zero = refl
      go below (Some x) (suc n) = below (drop (length (encode_utf8 x)) flags) n

  flag_word_same : (again : Bool) (o : Option (Text × Option Text)) (word : Text) (h : Held) → flag_word_fault (all w) again o word h ≡ flag_word_fault (all v) again o word h
  flag_word_same again (Some p) word h = long_fault_same again p.0 p.1 h
  flag_word_same again None word h = go (short_of word)
    where
      go : (o : Option Text) → option_map_or (λ flags. bundle_fault (all w) again flags h) o [] ≡ option_map_or (λ flags. bundle_fault (all v) again flags h) o []
      go (Some flags) = flags_same again (length flags) flags h.skip (record h { skip = 0 })
      go None = refl

  other_fault_same : (word : Text) (h : Held) → other_fault (shape w) None word h ≡ other_fault (shape v) None word h
  other_fault_same word h = ap (λ (k : Kinds). if bytes_eq word (45 ∷ 45 ∷ []) then [] else k) (flag_word_same false (long_of word) word h)

  word_fault_same : (is_trailing : Bool) (waiting : Waiting) (word : Text) (h : Held) → word_fault (shape w) [] is_trailing waiting word h ≡ word_fault (shape v) [] is_trailing waiting word h
  word_fault_same true waiting word h = refl
  word_fault_same false idle word h = other_fault_same word h
  word_fault_same false (option id) word h = other_fault_same word h
  word_fault_same false positional word h = other_fault_same word h

  at_place : (a : Rule) (h : Held) → positional_fault (all w) false a h ≡ positional_fault (all v) false a h
  at_place a h = ap (λ (k : Kinds). if is_pending a h.pending && takes_several a then [] else k) (settle_same false h)

  step_fault_same : (position : ℕ) (h : Held) (s : Step) → step_fault (shape w) position h s ≡ step_fault (shape v) position h s
  step_fault_same position h (next waiting) = refl
  step_fault_same position h (trailing p) = refl
  step_fault_same position h (subcommand name) = refl
  step_fault_same position h value = find_same (λ a. option_map_or (λ k. k == position) a.index false) (λ o. option_map_or (λ a. positional_fault (all w) false a h) o (stray_fault (shape w)))
      (λ o. option_map_or (λ a. positional_fault (all v) false a h) o (stray_fault (shape v))) first (second w) (second v) third refl (at_place first h) (at_place (second v) h) (at_place third h) refl

  turn_same : (x : Walk) (word : Text) → turn_fault (shape w) [] x word ≡ turn_fault (shape v) [] x word
  turn_same x word = ap₂ (λ (a b : Kinds). if is_some x.stopped then [] else or_else a b) (word_fault_same x.is_trailing x.waiting word x.held)
      (step_fault_same x.position (word_met (all w) [] x.is_trailing x.waiting x.position word x.held).0 (word_met (all w) [] x.is_trailing x.waiting x.position word x.held).1
      ∙ ap (λ (r : Held × Step). step_fault (shape v) x.position r.0 r.1) (met_same x.is_trailing x.waiting x.position word x.held))

  walk_fault_same : (words : List Text) (x : Walk) → walk_fault (shape w) [] x words ≡ walk_fault (shape v) [] x words
  unfolding walk_fault
  walk_fault_same [] x = refl
  walk_fault_same (word ∷ rest) x = ap₂ or_else (turn_same x word) (walk_fault_same rest (walked (all w) [] x word) ∙ ap (λ (y : Walk). walk_fault (shape v) [] y rest) (walked_same x word))

  defaults_same : (rows : List Row) → defaults_fault rows (all w) ≡ defaults_fault rows (all v)
  unfolding defaults_fault
  defaults_same rows = ap (λ (k : Kinds). or_else (default_fault rows first) (or_else (if has_row (codes "order") (with_default rows first) || false then [] else k)
      (or_else (default_fault (with_default (with_default rows first) (second v)) third) []))) (values_same (codes "unit" ∷ []))

  level_same : (words : List Text) → level_fault (shape w) [] nothing_held words false [] ≡ level_fault (shape v) [] nothing_held words false []
  level_same words = ap₂ or_else (walk_fault_same words (walk_from nothing_held))
      (end_same (walk (all w) [] nothing_held words).held ∙ ap (λ (x : Walk). end_of v x.held) (walk_same words (walk_from nothing_held)))
    where
      end_of : Texts → Held → Kinds
      end_of u h = or_else (settle_fault (all u) false h) (or_else (defaults_fault (settled (all u) h).rows (all u)) (check_fault (shape u) (finished (all u) h) false))

      end_same : (h : Held) → end_of w h ≡ end_of v h
      end_same h = ap₂ or_else (settle_same false h) (ap₂ or_else (defaults_same (settled (all w) h).rows ∙ ap (λ (s : Held). defaults_fault s.rows (all v)) (settled_same h))
          (ap (λ (rows : List Row). check_fault (shape v) rows false) (finished_same h)))

  fault_same : (words : List Text) → fault_of (check_with w) words ≡ fault_of (check_with v) words
  fault_same words = leaf_fault (built (check_with w)) nothing_held words refl ∙ level_same words ∙ sym (leaf_fault (built (check_with v)) nothing_held words refl)

  same_found : (words : List Text) → found_in (check_with w) words ≡ found_in (check_with v) words
  same_found words = ap₂ without_fault (fault_same words) (matches_same words)

-- the names may stand anywhere
pub found_by_names : (names : Texts) → AreOrderNames names → (words : List Text) → found_in (check_with names) words ≡ found_in check_arguments words
found_by_names names are words = same_found names order_names are words
