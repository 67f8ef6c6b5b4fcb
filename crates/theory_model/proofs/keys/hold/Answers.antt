use Rattle.std.proofs.Common.{Some, refl, sym, ap, ◌∙◌}
use Rattle.std.proofs.lemmas.Map.Text.{btree_map_updates_str}
use Rattle.theory_meaning.specs.Declarations as plain
use Rattle.theory_syntax.specs.Plain.{line_of}
use Rattle.theory_model.specs.Keyed.{place_in}
use Rattle.theory_model.proofs.KeyedLemmas.{held_by, holds_new}
use Rattle.theory_model.proofs.keys.hold.Goals as goal

pub returns-then-contains_key : goal.returns-then-contains_key
returns-then-contains_key c = (
  refl,
  held_by (place_in c.args.places.now) c.as_slice-bytes.result.now (plain.key_of (line_of c.args.numbered.now.line))
      (ap Some c.as_slice-bytes.ensures ∙ c.in-Some.ensures) (sym c.if-contains_key.ensures),
)

pub returns-in-Ok : goal.returns-in-Ok
returns-in-Ok c =
    holds_new (place_in c.args.places.now) (place_in c.insert.new.self) c.args.k c.as_slice-bytes.result.now (plain.key_of (line_of c.args.numbered.now.line))
    (ap Some c.as_slice-bytes.ensures ∙ c.in-Some.ensures) (sym c.if-contains_key.ensures)
    (btree_map_updates_str c.as_slice-bytes.result.now c.args.places.now c.insert.new.self (Some c.args.k) c.in-Ok.ensures.updates)
