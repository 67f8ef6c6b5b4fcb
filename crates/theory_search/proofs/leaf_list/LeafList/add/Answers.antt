use Rattle.std.proofs.Common.{◌≡◌, refl, sym, map, arith}
use Rattle.theory_decision.specs.Finding.{size_of}
use Rattle.theory_signs.specs.Plain.{formula_of}
use Rattle.theory_search.proofs.LeafLemmas.{as_many, atom_count, small_enough, has_no_room, counted_more}
use Rattle.theory_search.proofs.leaf_list.LeafList.add.Goals as goal

pub returns-then-not-has_room : goal.returns-then-not-has_room
returns-then-not-has_room c =
    let self = c.args.self.now in
    let count = atom_count (formula_of c.args.leaf) c.in_ok-atoms.field-0.items c.in_ok-atoms.ensures.written in
    let own : c.len-atoms.result ≡ size_of (formula_of c.args.leaf) = omega (arith, count, c.len-atoms.ensures, c.in_ok-atoms.field-0.ok.0) in (
      has_no_room (map formula_of self.formulas.items) (formula_of c.args.leaf) _ self.atoms c.len-atoms.result c.has_room.result
          (sym (as_many self.formulas.items)) self.counted own c.has_room.ensures c.if-not-has_room.true,
      refl,
    )

pub invariant_of-self-2 : goal.invariant_of-self-2
invariant_of-self-2 c =
    let self = c.args.self.now in
    let count = atom_count (formula_of c.args.leaf) c.in_ok-atoms.field-0.items c.in_ok-atoms.ensures.written in
    let own : c.len-atoms.result ≡ size_of (formula_of c.args.leaf) = omega (arith, count, c.len-atoms.ensures, c.in_ok-atoms.field-0.ok.0) in
    record {
      counted = counted_more self.formulas.items c.push.new.self.items c.args.leaf self.atoms c.len-atoms.result self.counted own c.in_ok-push.ensures.items;
      few = small_enough (map formula_of self.formulas.items) (formula_of c.args.leaf) _ self.atoms c.len-atoms.result c.has_room.result
          (sym (as_many self.formulas.items)) self.counted own c.has_room.ensures c.if-not-has_room.false;
    }
