use Rattle.theory_formula.proofs.ConditionLaws.{canonical_has_symbol}
use Rattle.theory_signs.proofs.making.canonical_atom.Goals as goal

pub new-requires : goal.new-requires
new-requires c =
    let found = c.in_ok-canonical.ensures.value in
    record {
      canonical = found.canonical;
      symbol = canonical_has_symbol c.args.poly.now c.in_ok-canonical.canonical c.in_ok-canonical.turned c.requires.ordered c.requires.symbol found;
    }
