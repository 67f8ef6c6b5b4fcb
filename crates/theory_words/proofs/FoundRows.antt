-- What a walk over words finds, where no fault is promised: each argument found has a value, and that of the order names one.
use Rattle.std.proofs.Common.{rules, ap, refl, sym, subst, codes, true, false, List, [], ◌∷◌, ◌++◌, ℕ, zero, suc, arith, Bool, Option, Some, None, option_map, is_some, drop, length, ◌≡◌, ◌≢◌, ◌∙◌, ◌&&◌, ◌||◌, ◌⊎◌, inl, inr, if◌then◌else◌}
use Rattle.std.specs.Prelude.{encode_utf8, find, fold, nat_eq, slice_get, ⊤}
use Rattle.std.specs.Option.{option_map_or}
use Rattle.std.specs.Str.{bytes_eq, chars}
use Rattle.std.proofs.lemmas.Bool.Decides.{eqb_tells}
use Rattle.std.proofs.lemmas.Bool.{false≢true, true≢false}
use Rattle.clap.specs.Words.{Kinds, Row, Rule, Text}
use Rattle.clap.specs.Lexer.{long_of, short_of}
use Rattle.clap.specs.Kinds.{or_else, range_kinds, values_kinds}
use Rattle.clap.specs.Simple.{Shape}
use Rattle.clap.specs.Walk.{Held, Outcome, Step, Waiting, Walk, idle, option, positional, next, trailing, subcommand, value, done, waits, plain, refused, after_flag, after_step, arg_by_id, arg_by_index, arg_by_long, arg_by_short, at_row, bundle_met, bundle_step, has_row, is_pending, flag_met, long_met, long_or_other, more_values, option_met, option_word, plain_word, pushed, settled, short_met, short_or_plain, takes_several, takes_values, to_positional, used, used_by_id, walked, walked_from, with_values, without, word_met}
use Rattle.clap.specs.Faults.{flag_word_fault, long_fault, option_fault, other_fault, positional_fault, react_fault, repeat_fault, settle_fault, step_fault, stray_fault, turn_fault, use_fault, walk_fault, word_fault}
use Rattle.clap.specs.declared.error.kind.ErrorKind.TheVariants as kind
use Rattle.clap.specs.declared.parser.matches.ValueSource.{ValueSource}
use Rattle.clap.specs.declared.parser.matches.ValueSource.TheVariants.{CommandLine}
use Rattle.clap.specs.declared.builder.value_parser.Reading.{Reading}
use Rattle.clap.specs.declared.builder.value_parser.Reading.TheVariants.{AsWritten}
use Rattle.clap.specs.declared.builder.value_parser.ValueParser.TheVariants.{Names}
use Rattle.theory_meaning.specs.declared.words.Kind.{Kind}
use Rattle.theory_words.specs.Arguments.{order_names}
use Rattle.theory_words.specs.Commands.{order_named}
use Rattle.theory_words.proofs.SameNames.{first, second, third}

abbrev pub Each : {X : Type 0} → (X → Type 0) → List X → Type 0
Each P [] = ⊤
Each P (x ∷ xs) = P x × Each P xs

-- the text names an order
abbrev pub NamesOrder : Text → Type 0
NamesOrder text = (order : Kind) × (order_named text ≡ Some order)

-- the argument has a first value, and that of the order names one
abbrev pub IsGood : Row → Type 0
IsGood row = (text : Text) × (rest : List Text) × (row.values ≡ text ∷ rest) × (bytes_eq row.id (codes "order") ≡ true → NamesOrder text)

-- what a search gives, by cases
pub found_by : {X : Type 0} (P : X → Type 0) (Q : Option X → Type 0) (t : X → Bool) (xs : List X) → Each P xs → Q None → ((x : X) → P x → t x ≡ true → Q (Some x)) → Q (find t xs)
found_by P Q t [] each none some = none
found_by P Q t (x ∷ xs) each none some = go (t x) refl (found_by P Q t xs each.1 none some)
  where
    go : (b : Bool) → t x ≡ b → Q (find t xs) → Q (if b then Some x else find t xs)
    go true e rest = some x each.0 e
    go false e rest = rest

pub both_none : (a b : Kinds) → or_else a b ≡ [] → (a ≡ []) × (b ≡ [])
both_none [] b h = (refl, h)
both_none (k ∷ ks) b h = search (rules, h)

each_append : (xs ys : List Row) → Each IsGood xs → Each IsGood ys → Each IsGood (xs ++ ys)
each_append [] ys g h = h
each_append (x ∷ xs) ys g h = (g.0, each_append xs ys g.1 h)

at_row_good : (id : Text) (change : Row → List Row) (missing rows : List Row) → ((row : Row) → IsGood row → Each IsGood (change row)) → Each IsGood missing → Each IsGood rows → Each IsGood (at_row id change missing rows)
at_row_good id change missing [] changed there g = there
at_row_good id change missing (r ∷ rs) changed there g = go (bytes_eq r.id id) (at_row_good id change missing rs changed there g.1)
  where
    go : (b : Bool) → Each IsGood (at_row id change missing rs) → Each IsGood (if b then change r ++ rs else r ∷ at_row id change missing rs)
    go true rest = each_append (change r) rs (changed r g.0) g.1
    go false rest = (g.0, rest)

-- one more value of an argument
pub with_value_good : (id : Text) (how : Reading) (source : ValueSource) (text : Text) (rows : List Row) → (bytes_eq id (codes "order") ≡ true → NamesOrder text) → Each IsGood rows → Each IsGood (with_values id how source (text ∷ []) rows)
with_value_good id how source text rows named g = at_row_good id (more_values source (text ∷ [])) (record { id = id; values = text ∷ []; count = None; source = Some source; reading = how } ∷ []) rows
    (λ row good. ((good.0, good.1 ++ text ∷ [], ap (λ (all : List Text). all ++ text ∷ []) good.2, good.3), tt)) ((text, [], refl, named), tt) g

set_good : (id : Text) (how : Reading) (text : Text) (rows : List Row) → (bytes_eq id (codes "order") ≡ true → NamesOrder text) → Each IsGood rows → Each IsGood (with_values id how CommandLine (text ∷ []) (without id rows))
set_good id how text rows named g = with_value_good id how CommandLine text (without id rows) named (at_row_good id (λ _. []) [] rows (λ row good. tt) tt g)

-- an argument that takes one value
one_wanted : (n : ℕ) → range_kinds 1 1 n ≡ [] → n ≡ 1
one_wanted n h = go (eqb_tells 1 n)
  where
    never : (b d : Bool) → d ≡ false → (if b then kind.InvalidValue ∷ [] else (if d then [] else kind.WrongNumberOfValues ∷ [])) ≡ [] → ⊥
    never true d e h = search (rules, h)
    never false true e h = absurd (true≢false e)
    never false false e h = search (rules, h)

    go : ((nat_eq 1 n ≡ true) × (1 ≡ n)) ⊎ ((nat_eq 1 n ≡ false) × (1 ≢ n)) → n ≡ 1
    go (inl e) = sym e.1
    go (inr e) = absurd (never (nat_eq n 0) (nat_eq 1 n) e.0 h)

one_value : (values : List Text) → length values ≡ 1 → (text : Text) × (values ≡ text ∷ [])
one_value [] h = absurd (omega arith)
one_value (text ∷ []) h = (text, refl)
one_value (text ∷ more ∷ rest) h = absurd (omega arith)

order_accepted : (text : Text) → values_kinds false (Names order_names) (text ∷ []) ≡ [] → NamesOrder text
order_accepted text h = go (bytes_eq (codes "listed") text) (bytes_eq (codes "rare") text) (bytes_eq (codes "unit") text) (bytes_eq (codes "signed") text) h
  where
    go : (a b d e : Bool) → or_else (if a || (b || (d || (e || false))) then [] else kind.InvalidValue ∷ []) [] ≡ []
        → (order : Kind) × (option_map (λ (entry : Text × Kind). entry.1) (if a then Some (codes "listed", Rattle.theory_meaning.specs.declared.words.Kind.TheVariants.Listed)
        else (if b then Some (codes "rare", Rattle.theory_meaning.specs.declared.words.Kind.TheVariants.Rare)
        else (if d then Some (codes "unit", Rattle.theory_meaning.specs.declared.words.Kind.TheVariants.Unit)
        else (if e then Some (codes "signed", Rattle.theory_meaning.specs.declared.words.Kind.TheVariants.Signed) else None)))) ≡ Some order)
    go true b d e h = (_, refl)
    go false true d e h = (_, refl)
    go false false true e h = (_, refl)
    go false false false true h = (_, refl)
    go false false false false h = search (rules, h)

-- a use of the argument without a fault leaves what was found good
abbrev pub KeepsGood : Rule → Type 0
KeepsGood a = (again : Bool) (values : List Text) (rows : List Row) → use_fault again a values rows ≡ [] → Each IsGood rows → Each IsGood (used a values rows)

pub first_keeps : KeepsGood first
first_keeps again values rows h g = go values (one_value values (one_wanted (length values) (both_none (range_kinds 1 1 (length values)) _ h).0))
  where
    go : (values : List Text) → (text : Text) × (values ≡ text ∷ []) → Each IsGood (used first values rows)
    go values one = subst (λ (vs : List Text). Each IsGood (used first vs rows)) (sym one.1) (set_good (codes "file") AsWritten one.0 rows (λ e. absurd (false≢true e)) g)

pub third_keeps : KeepsGood third
third_keeps again values rows h g = go values (one_value values (one_wanted (length values) (both_none (range_kinds 1 1 (length values)) _ h).0))
  where
    go : (values : List Text) → (text : Text) × (values ≡ text ∷ []) → Each IsGood (used third values rows)
    go values one = subst (λ (vs : List Text). Each IsGood (used third vs rows)) (sym one.1) (set_good (codes "on") AsWritten one.0 rows (λ e. absurd (false≢true e)) g)

pub second_keeps : KeepsGood (second order_names)
second_keeps again values rows h g = go (one_value values (one_wanted (length values) (both_none (range_kinds 1 1 (length values)) _ h).0))
  where
    go : (text : Text) × (values ≡ text ∷ []) → Each IsGood (used (second order_names) values rows)
    go one = subst (λ (vs : List Text). Each IsGood (used (second order_names) vs rows)) (sym one.1)
        (set_good (codes "order") AsWritten one.0 rows (λ e. order_accepted one.0 (both_none (repeat_fault again (codes "order") rows) (values_kinds false (Names order_names) (one.0 ∷ [])) (subst (λ (vs : List Text). use_fault again (second order_names) vs rows ≡ []) one.1 h)).1) g)

module _ (s : Shape) (keep : Each KeepsGood s.rules) (no_short : (x : ℕ) → arg_by_short s.rules x ≡ None) where
  pub settled_good : (again : Bool) (h : Held) → Each IsGood h.rows → settle_fault s.rules again h ≡ [] → Each IsGood (settled s.rules h).rows
  settled_good again h g = go h.pending
    where
      go : (p : Option (Text × List Text)) → option_map_or (λ p. option_map_or (λ a. use_fault again a p.1 h.rows) (arg_by_id s.rules p.0) []) p [] ≡ [] → Each IsGood (Rattle.clap.specs.Walk.settled_rows s.rules p h.rows)
      go None = λ e. g
      go (Some p) = found_by KeepsGood (λ o. option_map_or (λ a. use_fault again a p.1 h.rows) o [] ≡ [] → Each IsGood (used_by_id o p.1 h.rows)) _ s.rules keep (λ e. g) (λ a keeps t e. keeps again p.1 h.rows e g)

  reacted_good : (again : Bool) (a : Rule) (values : List Text) (h : Held) → KeepsGood a → Each IsGood h.rows → react_fault s.rules again a values h ≡ [] → Each IsGood (used a values (settled s.rules h).rows)
  reacted_good again a values h keeps g e = let two = both_none _ _ e in keeps again values (settled s.rules h).rows two.1 (settled_good again h g two.0)

  option_good : (again : Bool) (a : Rule) (o : Option Text) (h : Held) → KeepsGood a → Each IsGood h.rows → option_fault s.rules again a o h ≡ [] → Each IsGood (option_met s.rules a o h).0.rows
  option_good again a (Some text) h keeps g e = reacted_good again a (text ∷ []) h keeps g e
  option_good again a None h keeps g e = settled_good again h g e

  flag_good : (again : Bool) (a : Rule) (o : Option Text) (h : Held) → KeepsGood a → Each IsGood h.rows → (if is_some o then kind.TooManyValues ∷ [] else react_fault s.rules again a [] h) ≡ [] → Each IsGood (flag_met s.rules a o h).0.rows
  flag_good again a (Some text) h keeps g e = g
  flag_good again a None h keeps g e = reacted_good again a [] h keeps g e

  long_good : (again : Bool) (name : Text) (o : Option Text) (h : Held) → Each IsGood h.rows → long_fault s.rules again (arg_by_long s.rules name) o h ≡ [] → Each IsGood (long_met s.rules (arg_by_long s.rules name) o h).0.rows
  long_good again name o h g = found_by KeepsGood (λ a. long_fault s.rules again a o h ≡ [] → Each IsGood (long_met s.rules a o h).0.rows) _ s.rules keep (λ e. g) (λ a keeps t. go a keeps (takes_values a))
    where
      go : (a : Rule) → KeepsGood a → (b : Bool) → (if b then option_fault s.rules again a o h else (if is_some o then kind.TooManyValues ∷ [] else react_fault s.rules again a [] h)) ≡ []
          → Each IsGood (if b then option_met s.rules a o h else flag_met s.rules a o h).0.rows
      go a keeps true e = option_good again a o h keeps g e
      go a keeps false e = flag_good again a o h keeps g e

  bundle_rows : (k : ℕ) (flags : Text) (skip : ℕ) (so_far : Outcome) (h : Held) → (bundle_met s.rules k flags skip so_far h).0.rows ≡ h.rows
  unfolding bundle_met
  bundle_rows zero flags skip so_far h = refl
  bundle_rows (suc k) flags skip so_far h = go (λ rest n. bundle_rows k rest n so_far h) (slice_get (chars flags) 0) skip
    where
      go : ((rest : Text) (n : ℕ) → (bundle_met s.rules k rest n so_far h).0.rows ≡ h.rows) → (o : Option ℕ) (n : ℕ) → (bundle_step s.rules o flags n so_far h (bundle_met s.rules k)).0.rows ≡ h.rows
      go below None n = refl
      go below (Some x) zero = ap (λ (o : Option Rule). (short_met s.rules o (drop (length (encode_utf8 x)) flags) h (bundle_met s.rules k (drop (length (encode_utf8 x)) flags) 0 done)).0.rows) (no_short x)
      go below (Some x) (suc n) = below (drop (length (encode_utf8 x)) flags) n

  plain_rows : (waiting : Waiting) (word : Text) (h : Held) → (plain_word s.rules waiting word h).0.rows ≡ h.rows
  plain_rows idle word h = refl
  plain_rows positional word h = refl
  plain_rows (option id) word h = go (arg_by_id s.rules id)
    where
      go : (o : Option Rule) → (option_word o id word h).0.rows ≡ h.rows
      go None = refl
      go (Some a) = refl

  after_rows : (waiting : Waiting) (word : Text) (h : Held) (o : Outcome) → (after_flag s.rules waiting word h o).0.rows ≡ h.rows
  after_rows waiting word h done = refl
  after_rows waiting word h (waits id) = refl
  after_rows waiting word h plain = plain_rows waiting word h
  after_rows waiting word h refused = plain_rows waiting word h

  same_good : (rows more : List Row) → more ≡ rows → Each IsGood rows → Each IsGood more
  same_good rows more e g = subst (Each IsGood) (sym e) g

  other_good : (waiting : Waiting) (position : ℕ) (word : Text) (h : Held) → Each IsGood h.rows → other_fault s None word h ≡ [] → Each IsGood (Rattle.clap.specs.Walk.subcommand_or_other s.rules None waiting position word h).0.rows
  other_good waiting position word h g = go (bytes_eq word (45 ∷ 45 ∷ []))
    where
      short : (o : Option Text) → Each IsGood (short_or_plain s.rules waiting word o h).0.rows
      short (Some flags) = same_good _ _ (after_rows waiting word _ _ ∙ bundle_rows (length flags) flags h.skip plain (record h { skip = 0 })) g
      short None = same_good _ _ (plain_rows waiting word h) g

      long : (o : Option (Text × Option Text)) → flag_word_fault s.rules s.args_override_self o word h ≡ [] → Each IsGood (long_or_other s.rules waiting word o h).0.rows
      long (Some p) e = same_good _ _ (after_rows waiting word _ _) (long_good s.args_override_self p.0 p.1 h g e)
      long None e = short (short_of word)

      go : (b : Bool) → (if b then [] else flag_word_fault s.rules s.args_override_self (long_of word) word h) ≡ [] → Each IsGood (if b then (h, trailing position) else long_or_other s.rules waiting word (long_of word) h).0.rows
      go true e = g
      go false e = long (long_of word) e

  met_good : (is_trailing : Bool) (waiting : Waiting) (position : ℕ) (word : Text) (h : Held) → Each IsGood h.rows → word_fault s [] is_trailing waiting word h ≡ [] → Each IsGood (word_met s.rules [] is_trailing waiting position word h).0.rows
  met_good true waiting position word h g e = g
  met_good false idle position word h g e = other_good idle position word h g e
  met_good false (option id) position word h g e = other_good (option id) position word h g e
  met_good false positional position word h g e = other_good positional position word h g e

  placed_good : (word : Text) (x : Walk) (h : Held) → Each IsGood h.rows → step_fault s x.position h value ≡ [] → Each IsGood (to_positional s.rules (arg_by_index s.rules x.position) word x h).held.rows
  placed_good word x h g = found_by KeepsGood (λ o. option_map_or (λ a. positional_fault s.rules s.args_override_self a h) o (stray_fault s) ≡ [] → Each IsGood (to_positional s.rules o word x h).held.rows) _ s.rules keep
      (λ e. g) (λ a keeps t. go a (is_pending a h.pending && takes_several a))
    where
      go : (a : Rule) (b : Bool) → (if b then [] else settle_fault s.rules s.args_override_self h) ≡ [] → Each IsGood (if b then h else settled s.rules h).rows
      go a true e = g
      go a false e = settled_good s.args_override_self h g e

  step_good : (word : Text) (x : Walk) (h : Held) (step : Step) → Each IsGood h.rows → step_fault s x.position h step ≡ [] → Each IsGood (after_step s.rules word x h step).held.rows
  step_good word x h (next waiting) g e = g
  step_good word x h (trailing position) g e = g
  step_good word x h (subcommand name) g e = g
  step_good word x h value g e = placed_good word x h g e

  walked_good : (x : Walk) (word : Text) → Each IsGood x.held.rows → turn_fault s [] x word ≡ [] → Each IsGood (walked s.rules [] x word).held.rows
  unfolding walked
  walked_good x word g = go x.stopped
    where
      go : (o : Option (Text × List Text)) → (if is_some o then [] else or_else (word_fault s [] x.is_trailing x.waiting word x.held)
          (step_fault s x.position (word_met s.rules [] x.is_trailing x.waiting x.position word x.held).0 (word_met s.rules [] x.is_trailing x.waiting x.position word x.held).1)) ≡ []
          → Each IsGood (walked_from s.rules [] o x word).held.rows
      go (Some p) e = g
      go None e = let two = both_none _ _ e in step_good word x _ _ (met_good x.is_trailing x.waiting x.position word x.held g two.0) two.1

  pub walk_good : (words : List Text) (x : Walk) → Each IsGood x.held.rows → walk_fault s [] x words ≡ [] → Each IsGood (fold (walked s.rules []) x words).held.rows
  unfolding walk_fault
  walk_good [] x g e = g
  walk_good (word ∷ rest) x g e = let two = both_none _ _ e in walk_good rest (walked s.rules [] x word) (walked_good x word g two.0) two.1
